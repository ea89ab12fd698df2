-- The port took it, or it is lost.
use Rattle.std.proofs.Common.{sym, ◌∙◌, arith}
use Rattle.sockets.proofs.Deeding.{sends_one, sends_lost}
use Rattle.sockets.proofs.sending.send.Goals as goal

pub returns-then-faults-eq18446744073709551615 : goal.returns-then-faults-eq18446744073709551615
returns-then-faults-eq18446744073709551615 g c =
    sends_lost _ _ _ _ _ _ _ _ (sym c.faults.ensures ∙ c.if-faults-eq18446744073709551615.true) c.note_sent.ensures

pub returns : goal.returns
returns g c =
    sends_one _ _ _ _ _ _ _ _ _ c.send.result _ (omega (arith, c.faults.ensures)) c.send.ensures.sent c.send.ensures.lost
    c.send.ensures.came c.send.ensures.faults c.is_err-is_lost.ensures.value c.note_sent-2.ensures
