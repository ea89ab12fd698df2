-- The packets so far, before those of the entries that are left, are those of the image.
use Rattle.std.proofs.Common.{◌≡◌, ◌+◌, ◌≤◌, ◌++◌, length, map}
use Rattle.std.specs.List.{AllByRecursion}
use Rattle.rows.specs.Spelling.{HasSpelling}
use Rattle.update_log.specs.Parts.{piece_front_len, cut_of, pieces_of}
use Rattle.wire.specs.Spelling.{spelling}
use Rattle.primary.specs.Sending.{pieces_from}
use Rattle.primary.proofs.pieces.piece_packets.Given as goal

abbrev pub invariant-loop-rest : goal.invariant-loop-rest
invariant-loop-rest l = record {
  so_far :
      l.packets.items ++ map spelling (pieces_from l.base l.number (cut_of piece_front_len l.rest))
      ≡ map spelling (pieces_from l.base 0 (pieces_of l.image));
  spelled : AllByRecursion HasSpelling l.rest;
  counted : l.number + length l.rest ≤ length l.image;
}

abbrev pub decreases-loop-rest : goal.decreases-loop-rest
decreases-loop-rest l = length l.rest
