-- The link before where the later versions begin.
use Rattle.std.proofs.Common.{◌≤◌, None, length, take, sym, ap, subst, ◌∙◌}
use Rattle.mvcc.specs.Inner.Chains.{bytes_at, latest_in}
use Rattle.mvcc.proofs.Links.{latest-before}
use Rattle.mvcc.proofs.chain.Chain.bytes_at.Goals as goal

pub returns-then-end-eq0 : goal.returns-then-end-eq0
returns-then-end-eq0 c =
    let links = c.self.inside.links.items in
    let same = c.as_slice.ensures.value in
    let before =
    ap (bytes_at c.args.version) (sym same) ∙ c.end_of-end.ensures.before ∙ ap (λ xs. latest_in (take c.end_of-end.result xs)) same in
    let none = ap (λ n. latest_in (take n links)) c.if-end-eq0.true in
    rw (← c.self.view_is) (sym (before ∙ none))

pub returns : goal.returns
returns c =
    let links = c.self.inside.links.items in
    let same = c.as_slice.ensures.value in
    let before =
    ap (bytes_at c.args.version) (sym same) ∙ c.end_of-end.ensures.before ∙ ap (λ xs. latest_in (take c.end_of-end.result xs)) same in
    let within : c.end_of-end.result ≤ length links = subst (λ xs. c.end_of-end.result ≤ length xs) same c.end_of-end.ensures.within in
    rw (← c.self.view_is) (c.lend.ensures
    ∙ sym (before ∙ latest-before links c.end_of-end.result c.index.result.now None c.if-end-eq0.false within c.index.ensures))
