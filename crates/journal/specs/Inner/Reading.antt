-- Reading a record from the front of bytes.
use Rattle.std.specs.Prelude.{ℕ, List, take, drop, Option, None, Some, slice_index, nat_lt, ◌==◌, ◌||◌, if◌then◌else◌}
use Rattle.std.specs.Option.{option_map}
use Rattle.byteorder.specs.Endian.{big_number}
use Rattle.rows.specs.Limits.{commit_entries_max}
use Rattle.rows.specs.Reading.{entries_filling}
use Rattle.journal.specs.declared.form.Form.{Form}
use Rattle.journal.specs.declared.numbered_commit.NumberedCommit.{NumberedCommit}
use Rattle.journal.specs.Recovery.{is_record_len, may_follow}

-- the commit that a record holds behind its length, and its number
abbrev pub commit_in : List ℕ → Option NumberedCommit
commit_in body =
    if (big_number 2 (drop 9 body) == 0) || nat_lt commit_entries_max (big_number 2 (drop 9 body)) then None else
    option_map (λ entries. record {
      number = big_number 8 (drop 1 body);
      commit = record { worker = slice_index body 0; entries = entries };
    })
    (entries_filling (big_number 2 (drop 9 body)) (drop 11 body))

-- a commit that was read, if it may stand at the end of a text of that form
abbrev pub following : Form → Option NumberedCommit → Option NumberedCommit
following form None = None
following form (Some found) = if may_follow form found.commit then Some found else None

-- the commit whose record stands at the front of bytes, at the end of a text of that form, and its number; none where they are damaged
abbrev pub record_at : Form → List ℕ → Option NumberedCommit
record_at form bytes =
    if is_record_len form (big_number 4 bytes) then following form (commit_in (take (big_number 4 bytes) (drop 4 bytes))) else None
