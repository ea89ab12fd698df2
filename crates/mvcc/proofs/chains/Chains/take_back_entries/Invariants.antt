-- What is still to be taken back of each chain so far is what was to be taken back of the first.
use Rattle.std.proofs.Common.{◌≡◌, ℕ, drop}
use Rattle.mvcc.specs.Inner.Chains.{links_at, all_taken_back}
use Rattle.mvcc.proofs.chains.Chains.take_back_entries.Given as goal

abbrev pub invariant-loop-entry : goal.invariant-loop-entry
invariant-loop-entry l = (table row : ℕ)
    → all_taken_back l.number table row (drop l.entry-index l.entries)
    (links_at l.self table row) ≡ all_taken_back l.number table row l.entries
    (links_at l.initial.self table row)
