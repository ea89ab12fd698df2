-- Each datagram is one more.
use Rattle.std.proofs.Common.{sym, ap, ◌∙◌, ◌++◌, List, arith}
use Rattle.std.proofs.lemmas.List.{append-nil}
use Rattle.wire.specs.declared.out.Out.{Out}
use Rattle.sockets.proofs.Stepping.{none_left, left_behind}
use Rattle.sockets.proofs.Deeding.{sends_nothing, sends_then, sends_as}
use Rattle.sockets.proofs.sending.send_all.Goals as goal

pub loop-out-init : goal.loop-out-init
loop-out-init g c = record { sends = sends_nothing _ _ _ _ _ _; whole = c.into_iter-out-iterator.ensures.into_iter_gives.0 }

pub loop-out-preserved : goal.loop-out-preserved
loop-out-preserved g c = record {
  sends = sends_then _ _ _ _ _ _ _ _ _ _ _ _ c.loop-out.invariant.sends c.send.ensures;
  whole = left_behind _ _ _ _ _ c.in-Some.ensures.steps.0 c.loop-out.invariant.whole;
}

pub returns : goal.returns
returns g c =
    let none = none_left _ (omega (arith, c.loop-out.out-iterator.rest.ok, c.in-None.ensures.steps.0)) in
    sends_as _ _ _ _ _ _ _ _ _ _
    (sym (append-nil c.loop-out.yielded) ∙ ap (λ (l : List Out). c.loop-out.yielded ++ l) (sym none) ∙ c.loop-out.invariant.whole)
    c.loop-out.invariant.sends
