-- The change was made.
use Rattle.std.proofs.Common.{sym, ◌∙◌}
use Rattle.apply.proofs.Going.{goes-made}
use Rattle.apply.proofs.partition.Partition.go_on.Goals as goal

pub returns-in-Ok : goal.returns-in-Ok
returns-in-Ok c =
    goes-made c.args.entry.now c.args.self.now c.change.new.self (sym c.is_some.ensures ∙ c.if-is_some.false) c.in-Ok.ensures.ended
    c.in-Ok.ensures.ok
