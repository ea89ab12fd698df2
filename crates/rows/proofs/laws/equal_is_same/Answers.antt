use Rattle.std.specs.Cmp.Lexicographic.{bytes_decides}
use Rattle.rows.specs.Inner.Equivalence.{entry_decides, entries_decide, commit_decides}
use Rattle.rows.proofs.laws.equal_is_same.Goals as goal

pub returns : goal.returns
returns c = record { bytes = bytes_decides; entry = entry_decides; entries = entries_decide; commit = commit_decides }
