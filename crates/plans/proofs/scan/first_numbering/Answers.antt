-- The one group of a plan that does not group is the only key.
use Rattle.std.proofs.Common.{[], Some, length, ap, ◌∙◌, arith}
use Rattle.plans.proofs.Scanned.{one-key}
use Rattle.plans.proofs.scan.first_numbering.Goals as goal

pub returns-clause-one : goal.returns-clause-one
returns-clause-one c = λ none.
    let none_before = ap length c.new-numbering.ensures.none in
    one-key c.number.new.self.keys.items c.in_ok-place.place [] (omega (arith, c.in_ok-place.ensures.few, none_before))
    (c.in_ok-place.ensures.number ∙ ap Some (c.from_vec.ensures ∙ c.new.ensures.items))
