-- Laws of what a line hands out: it is of the list of commits that the seat has seen, and of every longer one.
use Rattle.std.specs.Prelude.{◌≡◌, ◌⊎◌, ℕ, ◌≤◌, List, length, Some, slice_get}
use Rattle.std.specs.List.{AllByRecursion}
use mathlib.Core.List.{IsPrefix}
use Rattle.rows.specs.declared.commit.Commit.{Commit}
use Rattle.rows.specs.declared.kind.Kind.{Kind}
use Rattle.rows.specs.Shape.{Shape, shape_of}
use Rattle.update_log.specs.declared.frame.Frame as frames
use Rattle.update_log.specs.Streams.{stream_of}
use Rattle.wire.specs.declared.datagram.Datagram.{Datagram}
use Rattle.wire.specs.declared.datagram.Datagram.TheVariants.{Head}
use Rattle.wire.specs.declared.out.Out.{Out}
use Rattle.wire.specs.Spelling.{spelling, frame_spelling}
use Rattle.primary.specs.Sending.{pushed, answers, head_of, pieces_of_base}
use Rattle.desk.specs.Answers.{primary_of, IsBaseOf}

-- a packet that spells a frame of the list's streams
abbrev pub IsFrameOf : List Commit → List ℕ → Type 0
IsFrameOf list packet =
    (worker : ℕ) × (seq : ℕ) × (frame : frames.Frame) × (slice_get (stream_of list worker) seq ≡ Some frame)
    × (packet ≡ frame_spelling frame)

-- a packet that spells the Head of a version of the list, with a base up to that version
abbrev pub IsHeadOf : Shape → ℕ → List Commit → List ℕ → Type 0
IsHeadOf shape workers list packet =
    (replica : ℕ) × (boot : ℕ) × (request : ℕ) × (base : ℕ) × (version : ℕ) × IsBaseOf shape list base
    × (base ≤ version) × (version ≤ length list)
    × (packet ≡ spelling (Head (head_of shape list base version workers replica boot request)))

-- a packet that spells a Piece of a base of the list
abbrev pub IsPieceOf : Shape → List Commit → List ℕ → Type 0
IsPieceOf shape list packet =
    (base : ℕ) × (number : ℕ) × (piece : Datagram) × IsBaseOf shape list base
    × (slice_get (pieces_of_base shape list base) number ≡ Some piece) × (packet ≡ spelling piece)

-- a packet that is of the list
abbrev pub IsOfList : Shape → ℕ → List Commit → List ℕ → Type 0
IsOfList shape workers list packet = IsFrameOf list packet ⊎ (IsHeadOf shape workers list packet ⊎ IsPieceOf shape list packet)

-- a packet that is pushed is of the list, on whatever base
abbrev pub PushedIsOfList : Type 0
PushedIsOfList =
    (schema : List (List ℕ × List Kind)) (workers worker seq : ℕ) (list : List Commit) (base : ℕ) (packet : List ℕ)
    → pushed (primary_of schema workers list base) worker seq ≡ Some packet → IsOfList (shape_of schema) workers list packet

-- so is each that answers bytes, on a base of the list
abbrev pub AnsweredIsOfList : Type 0
AnsweredIsOfList =
    (schema : List (List ℕ × List Kind)) (workers : ℕ) (list : List Commit) (base : ℕ) (bytes : List ℕ)
    → IsBaseOf (shape_of schema) list base
    → AllByRecursion (λ (out : Out). IsOfList (shape_of schema) workers list out.packet)
    (answers (primary_of schema workers list base) bytes)

-- and it stays so as the list grows
abbrev pub OfListStays : Type 0
OfListStays =
    (shape : Shape) (workers : ℕ) (list later : List Commit) (packet : List ℕ) → IsPrefix list later → IsOfList shape workers list packet
    → IsOfList shape workers later packet
