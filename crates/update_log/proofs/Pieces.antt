-- The pieces of an image.
use Rattle.std.proofs.Common.{◌≡◌, ℕ, ◌+◌, ◌<◌, ◌≤◌, List, [], ◌∷◌, length, take, drop, arith}
use Rattle.rows.specs.declared.entry.Entry.{Entry}
use Rattle.rows.specs.Limits.{datagram_max}
use Rattle.update_log.specs.Laws.{PiecesAreCut, PiecesAreUnique, PiecesAreSome}
use Rattle.update_log.specs.Parts.{frame_front_len, piece_front_len, part_len, cut_of}
use Rattle.update_log.proofs.Cuts.{cut-is_unique, entries-are_cut, first-part, some-pieces}

few : piece_front_len ≤ frame_front_len
few = omega arith

pub first-piece : (entries : List Entry) (n : ℕ) → 0 < n → n ≤ length entries → part_len piece_front_len (take n entries) ≤ datagram_max
    → (n < length entries → datagram_max < part_len piece_front_len (take (n + 1) entries))
    → cut_of piece_front_len entries ≡ take n entries ∷ cut_of piece_front_len (drop n entries)
first-piece = first-part piece_front_len few

pub pieces-cut : PiecesAreCut
pieces-cut [] some spelled = absurd (omega (arith, some))
pieces-cut (entry ∷ entries) some spelled = entries-are_cut piece_front_len few (entry ∷ entries) spelled

pub pieces-unique : PiecesAreUnique
pieces-unique [] parts some are = absurd (omega (arith, some))
pieces-unique (entry ∷ entries) parts some are = cut-is_unique piece_front_len few (entry ∷ entries) parts are

pub pieces-some : PiecesAreSome
pieces-some [] = omega arith
pieces-some (entry ∷ entries) = some-pieces piece_front_len few entry entries
