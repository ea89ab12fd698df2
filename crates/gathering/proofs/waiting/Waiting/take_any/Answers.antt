-- Nothing is under way, so the place is that of the first that waits.
use Rattle.std.proofs.Common.{refl, arith, inr}
use Rattle.std.proofs.lemmas.List.{nil_from_length}
use Rattle.gathering.proofs.waiting.Waiting.take_any.Goals as goal

pub returns-in-Some-pop_front : goal.returns-in-Some-pop_front
returns-in-Some-pop_front c =
    let none = c.in_default.ensures.cases in
    let old = c.args.self.now.under_way in
    let new = c.pop.new.self in
    inr (
      nil_from_length old.items (omega (arith, none.0, old.ok)),
      nil_from_length new.items (omega (arith, none.1, new.ok)),
      (c.in-Some-pop_front.request, c.in-Some-pop_front.ensures.items, refl),
    )
