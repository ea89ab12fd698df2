-- What is recovered is one of the journal's laws.
use Rattle.world.proofs.Stops.{stop-recovered, stop-durable, stop-transactions}
use Rattle.world.proofs.theorem.stops_keep_what_stands.Goals as goal

pub returns : goal.returns
returns c = record {
  recovered =
      stop-recovered c.stops_are_recovered.ensures.stops c.stops_are_recovered.ensures.form c.texts_grow.ensures.grows
      c.texts_grow.ensures.goes_on;
  durable = stop-durable;
  transactions = stop-transactions;
}
