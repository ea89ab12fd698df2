-- With those of the rows that are left, the values are all.
use Rattle.std.proofs.Common.{◌≡◌, ◌-◌, ◌++◌}
use Rattle.store.specs.Lent.{octets_in}
use Rattle.plans.proofs.block.octet_values.Given as goal

abbrev pub invariant-loop-row : goal.invariant-loop-row
invariant-loop-row l = l.values.items ++ octets_in (l.count - l.row) l.width l.rest ≡ octets_in l.count l.width l.bytes
