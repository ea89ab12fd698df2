-- The core is out of memory only where something is to be sent, and its primary is this one.
use Rattle.std.proofs.Common.{◌≡◌, IfOk, OnErr, ◌<◌, length, subst}
use Rattle.primary.specs.Sending.{answers}
use Rattle.world.specs.Inner.Running.{Running}
use Rattle.world.proofs.running_primary.RunningPrimary.on_bytes.Goals as goal

pub returns-clause-err : goal.returns-clause-err
returns-clause-err c =
    subst (λ (running : Running). OnErr c.on_bytes.result (0 < length (answers running.primary c.args.bytes.now))) c.self.view_is
    c.on_bytes.ensures.err

pub returns-clause-ok : goal.returns-clause-ok
returns-clause-ok c =
    subst (λ (running : Running). IfOk c.on_bytes.result (λ outs. outs.items ≡ answers running.primary c.args.bytes.now)) c.self.view_is
    c.on_bytes.ensures.ok
