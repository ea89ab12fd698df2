-- The definitions compute.
use Rattle.std.proofs.Common.{refl}
use Rattle.queries.proofs.worked.worked_answers.Goals as goal

pub returns : goal.returns
returns c = record {
  site = refl;
  elsewhere = refl;
  far = refl;
  number = refl;
  letters = refl;
  great = refl;
  empty = refl;
}
