-- Those from the seq on are still there, and what is left is known.
use Rattle.std.proofs.Common.{◌≡◌, length}
use Rattle.intake.specs.Inner.Collecting.{AreKnown}
use Rattle.intake.proofs.Keeping.{from_on}
use Rattle.intake.proofs.collector.Collector.drop_below.Given as goal

abbrev pub invariant-loop-self : goal.invariant-loop-self
invariant-loop-self l = record {
  known : l.self-inside.known ≡ l.initial.self-inside.known;
  same : from_on l.count l.self-inside.kept.entries ≡ from_on l.count l.initial.self-inside.kept.entries;
  are_known : AreKnown l.self-inside.known l.self-inside.kept.entries;
}

abbrev pub decreases-loop-self : goal.decreases-loop-self
decreases-loop-self l = length l.self-inside.kept.entries
