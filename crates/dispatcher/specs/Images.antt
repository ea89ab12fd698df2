-- The pieces of an image, as a replica collects them: as the frames of one worker.
use Rattle.std.specs.Prelude.{ℕ, ◌+◌, List, [], ◌∷◌, map, length, Bool, ◌==◌}
use Rattle.rows.specs.declared.commit.Commit.{Commit}
use Rattle.rows.specs.declared.entry.Entry.{Entry}
use Rattle.rows.specs.Shape.{Shape}
use Rattle.update_log.specs.declared.frame.Frame.{Frame}
use Rattle.update_log.specs.Images.{pieces_at}

-- a Piece as a frame of worker 0: its number is the seq, and its base stands for the commit
abbrev pub piece_frame : (base number : ℕ) → Bool → List Entry → Frame
piece_frame base number last entries = record { worker = 0; seq = number; commit = base; last = last; entries = entries }

-- the Pieces of a base whose entries are these, the first with that number: the last is marked as last
abbrev pub image_frames : (base number : ℕ) → List (List Entry) → List Frame
image_frames base number [] = []
image_frames base number (piece ∷ pieces) = piece_frame base number (length pieces == 0) piece ∷ image_frames base (number + 1) pieces

-- those of the image of the tables after these commits, at that base
abbrev pub frames_of_base : Shape → List Commit → ℕ → List Frame
frames_of_base shape commits base = image_frames base 0 (pieces_at shape commits base)

-- pieces as commits, one of each: to apply an image is to apply these
abbrev pub image_commits : List Frame → List Commit
image_commits pieces = map (λ piece. record { worker = 0; entries = piece.entries }) pieces
