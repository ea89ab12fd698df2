-- There is one list of parts: whatever has their property is what `parts_of` gives, and that has it.
use Rattle.std.proofs.Common.{◌≡◌, ℕ, ◌+◌, ◌<◌, ◌≤◌, List, ◌∷◌, ◌++◌, length, take, drop, arith}
use Rattle.std.specs.List.{AllByRecursion}
use Rattle.rows.specs.declared.entry.Entry.{Entry}
use Rattle.rows.specs.Limits.{datagram_max}
use Rattle.rows.specs.Spelling.{HasSpelling}
use Rattle.update_log.specs.Parts.{frame_front_len, frame_len, joined, AreParts, parts_from, parts_of}
use Rattle.update_log.proofs.Cuts as cuts

few : frame_front_len ≤ frame_front_len
few = omega arith

pub cut-is_unique : (entries : List Entry) (parts : List (List Entry)) → AreParts entries parts → parts ≡ parts_of entries
cut-is_unique = cuts.cut-is_unique frame_front_len few

pub joined-from : (rest part : List Entry) → joined (parts_from part rest) ≡ part ++ rest
joined-from = cuts.joined-from frame_front_len few

pub joined-parts : (entries : List Entry) → joined (parts_of entries) ≡ entries
joined-parts = cuts.joined-parts frame_front_len few

pub some-parts : (entries : List Entry) → AllByRecursion (λ part. 0 < length part) (parts_of entries)
some-parts = cuts.some-parts frame_front_len few

pub entries-are_cut : (entries : List Entry) → AllByRecursion HasSpelling entries → AreParts entries (parts_of entries)
entries-are_cut = cuts.entries-are_cut frame_front_len few

pub cut-is_short : (entries : List Entry) → length (parts_of entries) ≤ length entries
cut-is_short = cuts.cut-is_short frame_front_len few

pub first-part : (entries : List Entry) (n : ℕ) → 0 < n → n ≤ length entries → frame_len (take n entries) ≤ datagram_max
    → (n < length entries → datagram_max < frame_len (take (n + 1) entries))
    → parts_of entries ≡ take n entries ∷ parts_of (drop n entries)
first-part = cuts.first-part frame_front_len few
