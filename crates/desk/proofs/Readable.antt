-- What is durable can be read back from what is sent of it.
use Rattle.std.proofs.Common.{◌≡◌, ◌+◌, ◌^◌, ◌<◌, ◌≤◌, ◌==◌, if◌then◌else◌, ℕ, List, [], ◌∷◌, ◌++◌, length, length-append, arith}
use Rattle.std.specs.List.{AllByRecursion}
use Rattle.rows.specs.declared.commit.Commit.{Commit}
use Rattle.rows.specs.declared.kind.Kind.{Kind}
use Rattle.rows.specs.Limits.{workers_max}
use Rattle.rows.specs.Shape.{shape_of}
use Rattle.journal.specs.Recovery.{IsJournaled}
use Rattle.update_log.specs.declared.frame.Frame as frames
use Rattle.update_log.specs.Frames.{IsSendable, frames_of}
use Rattle.update_log.specs.Streams.{stream_from, stream_of}
use Rattle.wire.specs.Spelling.{HasDatagramSpelling}
use Rattle.primary.specs.Journaling.{AreNumbered}
use Rattle.primary.specs.Sending.{pieces_of_base}
use Rattle.primary.specs.State.{Primary}
use Rattle.desk.specs.Answers.{IsReadable, IsBaseOf}

-- a stream is not shorter once commits have come after
stream_grows : (worker before first : ℕ) (list more : List Commit)
    → length (stream_from worker before first list) ≤ length (stream_from worker before first (list ++ more))
stream_grows worker before first [] more = omega arith
stream_grows worker before first (commit ∷ list) more =
    let front : List frames.Frame = (if commit.worker == worker then frames_of commit (before + 1) first else []) in
    let rest = stream_grows worker (before + 1) (first + length front) list more in
    omega (
      arith,
      rest,
      length-append front (stream_from worker (before + 1) (first + length front) list),
      length-append front (stream_from worker (before + 1) (first + length front) (list ++ more)),
    )

-- the first of numbered commits are numbered
pub numbered_front : (list more : List Commit) → AreNumbered (list ++ more) → AreNumbered list
numbered_front list more numbered = record {
  commits_below = omega (arith, numbered.commits_below, length-append list more);
  frames_below = λ worker. omega (arith, numbered.frames_below worker, stream_grows worker 0 0 list more);
}

pub readable_of : (p : Primary) (schema : List (List ℕ × List Kind)) (workers : ℕ) (list : List Commit)
    → p.schema ≡ schema → p.workers ≡ workers → list ≡ p.durable
    → IsJournaled p.workers (shape_of p.schema) p.durable → AreNumbered (p.durable ++ p.pending)
    → ((worker : ℕ) → AllByRecursion IsSendable (stream_of p.durable worker)) → 0 < p.workers → p.workers ≤ workers_max
    → IsReadable workers (shape_of schema) list
readable_of p schema workers list of_schema of_workers is legal numbered sendable some few =
    rw (is, ← of_schema, ← of_workers) (record {
      legal = legal;
      numbered = numbered_front p.durable p.pending numbered;
      sendable = sendable;
      some = some;
      few = few;
    })

-- the base is one of the list
pub base_of : (p : Primary) (schema : List (List ℕ × List Kind)) (list : List Commit) (base : ℕ) → p.schema ≡ schema → list ≡ p.durable
    → base ≡ p.base → p.base ≤ length p.durable → length (pieces_of_base (shape_of p.schema) p.durable p.base) < 2 ^ 64
    → AllByRecursion HasDatagramSpelling (pieces_of_base (shape_of p.schema) p.durable p.base) → IsBaseOf (shape_of schema) list base
base_of p schema list base of_schema is on within counted spelled =
    rw (is, on, ← of_schema) (record { within = within; counted = counted; spelled = spelled })
