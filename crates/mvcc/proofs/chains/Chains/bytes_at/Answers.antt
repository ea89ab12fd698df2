-- The chain that was found is the row's.
use Rattle.std.proofs.Common.{sym, ap, subst, ◌∙◌}
use Rattle.std.specs.List.Sorted.{IsNonDecreasingBy}
use Rattle.mvcc.proofs.Keys.{lookup-key}
use Rattle.mvcc.specs.declared.link.Link.{Link}
use Rattle.mvcc.specs.Inner.Chains.{links_found, links_at}
use Rattle.mvcc.proofs.chains.Chains.bytes_at.Goals as goal

pub bytes_at-requires : goal.bytes_at-requires
bytes_at-requires c =
    let table = c.args.table in
    let row = c.args.row.0 in
    subst (IsNonDecreasingBy (λ (link : Link). link.version))
    (ap (λ chains. links_at chains table row) (sym c.self.view_is)
    ∙ ap links_found (sym (lookup-key c.self.inside.chains.entries table row) ∙ sym c.in-Some.ensures.value)) c.requires
