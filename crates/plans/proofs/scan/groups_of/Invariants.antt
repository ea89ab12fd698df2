-- The plans before the index have their groups.
use Rattle.std.proofs.Common.{◌≡◌, ℕ, ◌<◌, ◌≤◌, length, get_or}
use Rattle.rows.specs.Tables.{Rows, Tables}
use Rattle.queries.specs.declared.plan.Plan.{Plan}
use Rattle.plans.specs.declared.tallies.Tallies.{Tallies as AnyTallies}
use Rattle.plans.specs.Inner.Kept.{GroupList, AreKept}
use Rattle.plans.specs.Inner.Scans.{AreScanned}
use Rattle.plans.proofs.scan.groups_of.Given as goal

abbrev pub invariant-loop-plan : goal.invariant-loop-plan
invariant-loop-plan l = record {
  sizes : length l.list.items ≡ l.plan;
  tallies : length l.tallies ≡ length l.initial.tallies;
  left : (p : ℕ) (t : AnyTallies) → l.plan ≤ p → get_or l.tallies p t ≡ get_or l.initial.tallies p t;
  kept : (tables : Tables) (rows : Rows) (count : ℕ)
      → AreScanned tables l.plans l.classes l.table rows count l.numberings l.initial.tallies
      → (p : ℕ) (e : Plan) (d : GroupList) → p < l.plan → (get_or l.plans p e).table ≡ l.table
      → AreKept tables (get_or l.plans p e) rows count (get_or l.list.items p d);
}
