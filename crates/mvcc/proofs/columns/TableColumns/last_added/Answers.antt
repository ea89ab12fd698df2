-- The last number stands at the end.
use Rattle.std.proofs.Common.{◌-◌, length, sym, ap, ◌∙◌}
use Rattle.std.specs.List.{slice_get}
use Rattle.mvcc.proofs.Places.{last-is}
use Rattle.mvcc.proofs.columns.TableColumns.last_added.Goals as goal

pub returns-in-Some : goal.returns-in-Some
returns-in-Some c =
    let numbers = c.self.inside.numbers.items in
    let last =
    last-is numbers c.in-Some.number.now 0
    (ap (λ xs. slice_get xs (length xs - 1)) (sym c.deref.ensures.value) ∙ sym c.in-Some.ensures.value) in
    rw (← c.self.view_is) (sym last)
