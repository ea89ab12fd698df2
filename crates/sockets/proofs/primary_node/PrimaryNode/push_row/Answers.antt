-- A row is pushed, as far as the stream goes.
use Rattle.std.proofs.Common.{◌≡◌, ◌<◌, ◌+◌, ℕ, length, slice_set, refl, ap, ◌∙◌, arith}
use Rattle.std.proofs.lemmas.List.{get_or_default}
use Rattle.std.proofs.lemmas.Bool.Decides.{nat_tests}
use Rattle.sockets.specs.State.{PrimaryState}
use Rattle.sockets.specs.Inner.Deeds.{looked_by}
use Rattle.sockets.proofs.Deeding.{does_nothing, does_less, does_row_as}
use Rattle.sockets.proofs.primary_node.PrimaryNode.push_row.Goals as goal

pub returns-then-most-eq0-clause-does : goal.returns-then-most-eq0-clause-does
returns-then-most-eq0-clause-does g c =
    does_less _ _ _ _ _ _ _ _ _ (λ _. 0) (looked_by c.args.worker c.args.most)
    (λ worker within. grind (arith, nat_tests, c.if-most-eq0.true)) (does_nothing _ _ _ _ _ _ _ _ refl)

pub returns-clause-does : goal.returns-clause-does
returns-clause-does g c =
    let there : c.args.worker < length c.self.inside.counters.items =
    omega (arith, c.requires, ap (λ (n : PrimaryState _). length n.counters) c.self.view_is) in
    let pushed : c.len-pushed.result ≡ length c.push_row.new.row.items = omega (arith, c.len-pushed.ensures, c.push_row.new.row.ok) in
    rw (← c.self.view_is)
    (does_row_as _ _ _ _ _ _ _ _ c.args.worker c.index-from.result.now c.unwrap_or-start.result c.args.most c.push_row.new.row.items
    c.push_row.result there (c.index-from.ensures ∙ get_or_default _ _ _ _ there) (omega arith) c.push_row.ensures.later
    c.unwrap_or-start.ensures c.push_row.ensures.ok c.push_row.ensures.each c.push_row.ensures.err c.push_row.ensures.few
    c.send_row.ensures refl
    (ap (λ (n : ℕ). slice_set c.self.inside.counters.items c.args.worker (c.unwrap_or-start.result + n)) pushed)
    c.push_row.ensures.seat)
