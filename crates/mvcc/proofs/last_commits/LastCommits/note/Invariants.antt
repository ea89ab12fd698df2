-- What the entries that are left make of the numbers so far is what all make of the first.
use Rattle.std.proofs.Common.{◌≡◌, drop}
use Rattle.mvcc.specs.Inner.Columns.{last_after}
use Rattle.mvcc.proofs.last_commits.LastCommits.note.Given as goal

abbrev pub invariant-loop-entry : goal.invariant-loop-entry
invariant-loop-entry l = last_after l.number (drop l.entry-index l.entries) l.self ≡ last_after l.number l.entries l.initial.self
