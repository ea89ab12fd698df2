-- Where the entries of frames stand: a span tells of a frame which entries it has, and of which commit.
use Rattle.std.specs.Prelude.{ℕ, ◌+◌, ◌-◌, ◌<◌, ◌≤◌, List, [], ◌∷◌, ◌++◌, length, take, drop, Option, None, Some, slice_get, ◌==◌}
use Rattle.std.specs.Prelude.{if◌then◌else◌}
use Rattle.rows.specs.declared.commit.Commit.{Commit}
use Rattle.rows.specs.declared.entry.Entry.{Entry}
use Rattle.update_log.specs.declared.frame.Frame.{Frame}
use Rattle.update_log.specs.declared.span.Span.{Span}
use Rattle.update_log.specs.Parts.{parts_of}

-- the spans of these parts of a commit of that number, the first behind `start` of its entries
abbrev pub spans_from : ℕ → ℕ → List (List Entry) → List Span
spans_from number start [] = []
spans_from number start (part ∷ parts) =
    record { commit = number; start = start; end = start + length part } ∷ spans_from number (start + length part) parts

-- the spans of the frames of a commit of these entries, by its number
abbrev pub spans_of : List Entry → ℕ → List Span
spans_of entries number = spans_from number 0 (parts_of entries)

-- the spans of the worker's frames of commits that stand behind `before` others
abbrev pub stream_spans_from : ℕ → ℕ → List Commit → List Span
stream_spans_from worker before [] = []
stream_spans_from worker before (commit ∷ commits) =
    (if commit.worker == worker then spans_of commit.entries (before + 1) else []) ++ stream_spans_from worker (before + 1) commits

-- the spans of a worker's stream
abbrev pub stream_spans : List Commit → ℕ → List Span
stream_spans commits worker = stream_spans_from worker 0 commits

-- the entries of the commit of that number
abbrev pub entries_at : List Commit → ℕ → List Entry
entries_at commits number = or_none (slice_get commits (number - 1))
  where
    or_none : Option Commit → List Entry
    or_none None = []
    or_none (Some commit) = commit.entries

-- the span is of entries of one of the commits
pub record IsSpanIn (commits : List Commit) (span : Span) : Type 0 where
  pub numbered : 0 < span.commit
  pub there : span.commit ≤ length commits
  pub upto : span.start ≤ span.end
  pub within : span.end ≤ length (entries_at commits span.commit)

-- the frame of that worker and seq whose entries stand there
abbrev pub frame_at : List Commit → ℕ → ℕ → Span → Frame
frame_at commits worker seq span = record {
  worker = worker;
  seq = seq;
  commit = span.commit;
  last = span.end == length (entries_at commits span.commit);
  entries = take (span.end - span.start) (drop span.start (entries_at commits span.commit));
}
