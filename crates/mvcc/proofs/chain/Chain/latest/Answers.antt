-- The last link stands at the end.
use Rattle.std.proofs.Common.{◌-◌, None, length, sym, ap, ◌∙◌}
use Rattle.std.specs.List.{slice_get}
use Rattle.mvcc.proofs.Links.{latest-last}
use Rattle.mvcc.proofs.chain.Chain.latest.Goals as goal

pub returns-in-Some : goal.returns-in-Some
returns-in-Some c =
    let links = c.self.inside.links.items in
    let last =
    latest-last links c.in-Some.link.now None
    (ap (λ xs. slice_get xs (length xs - 1)) (sym c.deref.ensures.value) ∙ sym c.in-Some.ensures.value) in
    rw (← c.self.view_is) (c.lend.ensures ∙ sym last)
