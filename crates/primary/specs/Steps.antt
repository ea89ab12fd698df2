-- One step of a primary: what a commit answers, and what it, a flush, a failed flush and a base leave.
use Rattle.std.specs.Prelude.{ℕ, ◌+◌, ◌^◌, List, [], ◌∷◌, ◌++◌, length, max, take, drop, Bool, true, false, Result, Ok, Err, nat_lt, ◌==◌}
use Rattle.std.specs.Prelude.{◌||◌, ◌&&◌, not}
use Rattle.std.specs.Prelude.{if◌then◌else◌}
use Rattle.rows.specs.declared.commit.Commit.{Commit}
use Rattle.rows.specs.declared.entry.Entry.{Entry}
use Rattle.rows.specs.declared.kind.Kind.{Kind}
use Rattle.rows.specs.Commits.{last_touching}
use Rattle.primary.specs.declared.faults.CommitFault.{CommitFault}
use Rattle.primary.specs.declared.faults.CommitFault.TheVariants.{Conflict, ReadOnly, Failed, NumbersUsedUp, Foreign}
use Rattle.mvcc.specs.Transaction.{Transaction}
use Rattle.mvcc.specs.VersionList.{VersionList, defined_at}
use Rattle.update_log.specs.Parts.{parts_of}
use Rattle.update_log.specs.Streams.{stream_of}
use Rattle.primary.specs.State.{Primary}

-- a primary as it starts: these commits are durable, no other is there, and all frames are kept
abbrev pub started_primary : List (List ℕ × List Kind) → ℕ → List Commit → Primary
started_primary schema workers commits = record {
  schema = schema;
  workers = workers;
  durable = commits;
  pending = [];
  failed = false;
  base = 0;
}

-- the versions that a transaction may begin on: those of the durable list
abbrev pub durable_versions : Primary → VersionList
durable_versions p = record { schema = p.schema; commits = p.durable }

-- whether a transaction is not of this primary: its snapshot is above what is durable, or an entry is not defined where
-- it stands on the rows at the snapshot
abbrev pub is_foreign : Primary → Transaction → Bool
is_foreign p draft =
    nat_lt (length p.durable) draft.snapshot || not (defined_at (durable_versions p) draft.snapshot draft.entries)

-- the number of the next commit
abbrev pub next_number : Primary → ℕ
next_number p = length p.durable + length p.pending + 1

-- whether the next commit, of a worker and of these entries, has a number of 64 bits, and its frames seqs and a count of
-- 64 bits
abbrev pub has_numbers : Primary → ℕ → List Entry → Bool
has_numbers p worker entries =
    nat_lt (next_number p) (2 ^ 64)
    && nat_lt (length (stream_of (p.durable ++ p.pending) worker) + length (parts_of entries)) (2 ^ 64)

-- what a commit of a worker answers: its number, or the first refusal. The first committer wins: a commit is refused if one after its
-- snapshot touches its entries. Being out of memory aside.
abbrev pub commit_answer : Primary → ℕ → Transaction → Result ℕ CommitFault
commit_answer p worker draft =
    if p.failed then Err Failed else
    if length draft.entries == 0 then Err ReadOnly else
    if is_foreign p draft then Err Foreign else
    if nat_lt draft.snapshot (last_touching draft.entries 0 (p.durable ++ p.pending))
    then Err (Conflict (last_touching draft.entries 0 (p.durable ++ p.pending))) else
    if has_numbers p worker draft.entries then Ok (next_number p) else Err NumbersUsedUp

-- the primary with this commit after the pending ones
abbrev pub committed : Primary → ℕ → List Entry → Primary
committed p worker entries = record p { pending = p.pending ++ record { worker = worker; entries = entries } ∷ [] }

-- the primary with the first `count` pending commits durable (all of them, if there are fewer)
abbrev pub flushed : Primary → ℕ → Primary
flushed p count = record p { durable = p.durable ++ take count p.pending; pending = drop count p.pending }

-- the primary whose journal has failed
abbrev pub failed_primary : Primary → Primary
failed_primary p = record p { failed = true }

-- the primary whose base is what is durable
abbrev pub based : Primary → Primary
based p = record p { base = length p.durable }

-- the primary on a base that was put in place; one that is not behind its own changes nothing
abbrev pub based_at : Primary → ℕ → Primary
based_at p base = record p { base = max p.base base }
