-- Nothing was taken.
use Rattle.std.proofs.Common.{refl, []}
use Rattle.sockets.proofs.Stepping.{does_nothing, refused_nothing}
use Rattle.sockets.proofs.serving_replica.offer_taken.Goals as goal

pub returns-then-is_err-clause-offers : goal.returns-then-is_err-clause-offers
returns-then-is_err-clause-offers g c = record {
  offered = [];
  does = does_nothing _ _ _ _ _ _ refl;
  takes = refused_nothing _ _ _ _ _ _ c.take_batch.ensures.refused c.is_err.ensures.value c.if-is_err.true;
  no_failure = refl;
}
