-- What came is answered, or was lost.
use Rattle.std.proofs.Common.{List, refl, ap, ◌∙◌, take, arith}
use Rattle.wire.specs.declared.out.Out.{Out}
use Rattle.sockets.specs.Traffic.{with_heard}
use Rattle.sockets.specs.Asking.{noted}
use Rattle.sockets.specs.Primaries.{counted_as}
use Rattle.sockets.proofs.Deeding.{does_nothing, does_wait, does_fail, does_answer, does_lose}
use Rattle.sockets.proofs.primary_node.PrimaryNode.hear.Goals as goal

pub returns-then-faults-clause-does : goal.returns-then-faults-clause-does
returns-then-faults-clause-does g c = does_nothing _ _ _ _ _ _ _ _ refl

pub returns-in-Ok-None-clause-does : goal.returns-in-Ok-None-clause-does
returns-in-Ok-None-clause-does g c =
    rw (← c.self.view_is)
    (does_wait _ _ _ _ _ _ _ _ (λ h. rw c.in-Ok-None.field-0-is at (c.in-Ok-None.ensures.came h)) c.recv.ensures.sent
    (rw c.in-Ok-None.is at c.recv.ensures.faults) refl)

pub returns-in-Err-clause-does : goal.returns-in-Err-clause-does
returns-in-Err-clause-does g c =
    rw (← c.self.view_is)
    (does_fail _ _ _ _ _ _ _ _ (omega (arith, c.faults.ensures)) c.in-Err.ensures.none_came c.recv.ensures.sent
    (rw c.in-Err.is at c.recv.ensures.faults) refl)

pub returns-in-Ok-clause-does : goal.returns-in-Ok-clause-does
returns-in-Ok-clause-does g c =
    let heard = c.note_heard.ensures ∙ ap (with_heard c.self.inside.traffic) (c.counted_of.ensures ∙ ap counted_as c.deref.ensures.value) in
    rw (← c.self.view_is)
    (does_answer _ _ _ _ _ _ _ _ c.recv.new.self (take c.in-Ok-Some.len c.recv.new.buffer) c.in-Ok.outs.items c.on_bytes.ensures.later
    c.in-Ok.ensures.ok (λ h. rw c.in-Ok-Some.field-0-is at (c.in-Ok-Some.ensures.came h)) c.recv.ensures.sent
    (rw c.in-Ok-Some.is at c.recv.ensures.faults) (rw heard at c.send_all.ensures)
    (c.note.ensures ∙ ap (λ (outs : List Out). noted c.self.inside.asked (take c.in-Ok-Some.len c.recv.new.buffer) outs)
    c.deref-in-Ok.ensures.value) refl c.on_bytes.ensures.seat)

pub returns-in-Err-on_bytes-clause-does : goal.returns-in-Err-on_bytes-clause-does
returns-in-Err-on_bytes-clause-does g c =
    rw (← c.self.view_is)
    (does_lose _ _ _ _ _ _ _ _ (take c.in-Ok-Some.len c.recv.new.buffer) c.on_bytes.ensures.later
    (λ h. rw c.in-Ok-Some.field-0-is at (c.in-Ok-Some.ensures.came h)) c.recv.ensures.sent (rw c.in-Ok-Some.is at c.recv.ensures.faults)
    c.note_heard-in-Err-on_bytes.ensures refl refl c.on_bytes.ensures.seat)
