-- Each row is pushes behind those of the rows before.
use Rattle.std.proofs.Common.{◌+◌, ◌<◌, length, refl, ap, arith}
use Rattle.std.proofs.lemmas.List.{get_or-replicate}
use Rattle.sockets.specs.State.{PrimaryState}
use Rattle.std.proofs.lemmas.Bool.Decides.{nat_tests}
use Rattle.sockets.specs.Inner.Deeds.{looked_so_far, looked_if}
use Rattle.sockets.proofs.Deeding.{does_nothing, does_then, does_less, some_of_each, rounds_more}
use Rattle.sockets.proofs.primary_node.PrimaryNode.push_all.Goals as goal

pub loop-init : goal.loop-init
loop-init g c = record {
  does = does_nothing _ _ _ _ _ _ _ _ refl;
  first = λ none worker within.
      let each = some_of_each c.pushes_of_each-left.result c.len.result (omega (arith, c.len.ensures, c.self.invariant))
      c.pushes_of_each-left.ensures.most in
      let few : worker < 16 =
      omega (arith, within, c.self.invariant, ap (λ (n : PrimaryState _). length n.counters) c.self.view_is) in
      omega (arith, each, get_or-replicate 16 worker c.pushes_of_each-left.result 0 few);
}

pub returns-then-not-push_rows : goal.returns-then-not-push_rows
returns-then-not-push_rows g c =
    does_then _ _ _ _ _ _ _ _ _ _ (looked_so_far c.loop.counter) (looked_if c.loop.left) (λ _. 1)
    (λ worker within. rounds_more c.loop.counter _ (λ none. c.loop.invariant.first none worker within))
    c.loop.invariant.does c.push_rows.ensures

pub loop-preserved : goal.loop-preserved
loop-preserved g c = record {
  does =
      does_less _ _ _ _ _ _ _ _ _ (λ _. 1) (looked_so_far (c.loop.counter + 1)) (λ worker within. grind (arith, nat_tests))
      (does_then _ _ _ _ _ _ _ _ _ _ (looked_so_far c.loop.counter) (looked_if c.loop.left) (λ _. 1)
      (λ worker within. rounds_more c.loop.counter _ (λ none. c.loop.invariant.first none worker within))
      c.loop.invariant.does c.push_rows.ensures);
  first = λ none. absurd (omega (arith, none));
}
