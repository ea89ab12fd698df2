-- The frames of parts: one more part, which parts they hold, and that a datagram spells each.
use Rattle.std.proofs.Common.{◌≡◌, ℕ, ◌+◌, ◌^◌, ◌<◌, ◌≤◌, ◌==◌, Bool, true, List, [], ◌∷◌, ◌++◌, length, map, take, drop}
use Rattle.std.proofs.Common.{refl, sym, ap, subst, ◌∙◌, append_assoc, append-nil, arith}
use Rattle.std.specs.List.{AllByRecursion}
use Rattle.std.proofs.lemmas.Bool.{eqb-true, ne_eqb}
use Rattle.rows.specs.declared.commit.Commit.{Commit}
use Rattle.rows.specs.declared.entry.Entry.{Entry}
use Rattle.rows.specs.Limits.{datagram_max, workers_max}
use Rattle.rows.specs.Spelling.{HasSpelling}
use Rattle.update_log.specs.declared.frame.Frame.{Frame}
use Rattle.update_log.specs.Parts.{AreParts, frame_len, joined, parts_from, parts_of}
use Rattle.update_log.specs.Frames.{IsCuttable, IsSendable, frames_from, frames_of}
use Rattle.update_log.proofs.Elements.{all-joined}
use Rattle.update_log.proofs.Uniqueness.{entries-are_cut, joined-from}

-- where there is an entry, there is a part
some-parts : (parts : List (List Entry)) (entry : Entry) (entries : List Entry) → joined parts ≡ entry ∷ entries → 0 < length parts
some-parts [] entry entries e = absurd cc
some-parts (part ∷ parts) entry entries e = omega arith

last-is : (entries : List Entry) → (length entries == 0) ≡ (length (parts_of entries) == 0)
last-is [] = refl
last-is (entry ∷ entries) =
    let some = some-parts (parts_from (entry ∷ []) entries) entry entries (joined-from entries (entry ∷ [])) in
    ne_eqb (length (entry ∷ entries)) 0 (λ e. absurd (omega arith))
    ∙ sym (ne_eqb (length (parts_of (entry ∷ entries))) 0 (λ e. absurd (omega arith)))

-- a frame, and those of the entries behind it
abbrev before : ℕ → ℕ → ℕ → Bool → List Entry → List Entry → List Frame
before worker number seq last part behind =
    record { worker = worker; seq = seq; commit = number; last = last; entries = part }
    ∷ frames_from worker number (seq + 1) (parts_of behind)

-- the frame of one more part goes behind those so far
pub frames-more : (frames all : List Frame) (worker number seq n : ℕ) (rest part behind : List Entry) (last : Bool) → part ≡ take n rest
    → behind ≡ drop n rest → last ≡ (length behind == 0) → parts_of rest ≡ take n rest ∷ parts_of (drop n rest)
    → frames ++ frames_from worker number seq (parts_of rest) ≡ all
    → (frames ++ record { worker = worker; seq = seq; commit = number; last = last; entries = part } ∷ [])
    ++ frames_from worker number (seq + 1) (parts_of behind) ≡ all
frames-more frames all worker number seq n rest part behind last part_is behind_is last_is cut so_far =
    let frame : Frame = record { worker = worker; seq = seq; commit = number; last = last; entries = part } in
    let is_last : last ≡ (length (parts_of (drop n rest)) == 0) =
    last_is ∙ ap (λ (b : List Entry). length b == 0) behind_is ∙ last-is (drop n rest) in
    let these : before worker number seq last part behind ≡ frames_from worker number seq (parts_of rest) =
    ap (λ (p : List Entry). before worker number seq last p behind) part_is
    ∙ ap (λ (b : List Entry). before worker number seq last (take n rest) b) behind_is
    ∙ ap (λ (l : Bool). before worker number seq l (take n rest) (drop n rest)) is_last
    ∙ sym (ap (frames_from worker number seq) cut) in
    append_assoc frames (frame ∷ []) (frames_from worker number (seq + 1) (parts_of behind))
    ∙ ap (λ (more : List Frame). frames ++ more) these ∙ so_far

-- where no entry is left, those so far are all
pub frames-end : (frames all : List Frame) (worker number seq : ℕ) (rest : List Entry) → (length rest == 0) ≡ true
    → frames ++ frames_from worker number seq (parts_of rest) ≡ all → frames ≡ all
frames-end frames all worker number seq [] none so_far = sym (append-nil frames) ∙ so_far
frames-end frames all worker number seq (entry ∷ rest) none so_far = absurd (omega (arith, eqb-true (length (entry ∷ rest)) 0 none))

-- as many seqs are left as parts
pub seqs-more : (seq n : ℕ) (rest behind : List Entry) → behind ≡ drop n rest
    → parts_of rest ≡ take n rest ∷ parts_of (drop n rest)
    → seq + length (parts_of rest) < 2 ^ 64 → seq + 1 + length (parts_of behind) < 2 ^ 64
seqs-more seq n rest behind behind_is cut below =
    omega (arith, ap length cut, ap (λ (b : List Entry). length (parts_of b)) behind_is)

-- the frames hold the parts
parts-held : (worker number seq : ℕ) (parts : List (List Entry))
    → map (λ frame. frame.entries) (frames_from worker number seq parts) ≡ parts
parts-held worker number seq [] = refl
parts-held worker number seq (part ∷ parts) = ap (λ (more : List (List Entry)). part ∷ more) (parts-held worker number (seq + 1) parts)

pub held-are_parts : (commit : Commit) (number first_seq : ℕ) (frames : List Frame) → AllByRecursion HasSpelling commit.entries
    → frames ≡ frames_of commit number first_seq → AreParts commit.entries (map (λ frame. frame.entries) frames)
held-are_parts commit number first_seq frames spelled is =
    subst (AreParts commit.entries)
    (sym (ap (map (λ (frame : Frame). frame.entries)) is ∙ parts-held commit.worker number first_seq (parts_of commit.entries)))
    (entries-are_cut commit.entries spelled)

-- a datagram spells each
sendable-from : (worker number seq : ℕ) (parts : List (List Entry)) → worker < workers_max → 0 < number → number < 2 ^ 64
    → seq + length parts < 2 ^ 64 → AllByRecursion (λ part. 0 < length part) parts
    → AllByRecursion (λ part. frame_len part ≤ datagram_max) parts → AllByRecursion (AllByRecursion HasSpelling) parts
    → AllByRecursion IsSendable (frames_from worker number seq parts)
sendable-from worker number seq [] below numbered fits seqs some within spelled = tt
sendable-from worker number seq (part ∷ parts) below numbered fits seqs some within spelled = (
  record {
    worker_below = below;
    seq_below = omega arith;
    commit_numbered = numbered;
    commit_below = fits;
    some = some.0;
    spelled = spelled.0;
    few = within.0;
  },
  sendable-from worker number (seq + 1) parts below numbered fits (omega arith) some.1 within.1 spelled.1,
)

pub frames-sendable : (commit : Commit) (number first_seq : ℕ) (frames : List Frame) → IsCuttable commit number first_seq → number < 2 ^ 64
    → frames ≡ frames_of commit number first_seq → AllByRecursion IsSendable frames
frames-sendable commit number first_seq frames cuttable fits is =
    let are = entries-are_cut commit.entries cuttable.spelled in
    let spelled : AllByRecursion HasSpelling (joined (parts_of commit.entries)) =
    subst (AllByRecursion HasSpelling) (sym are.all) cuttable.spelled in
    subst (AllByRecursion IsSendable) (sym is)
    (sendable-from commit.worker number first_seq (parts_of commit.entries) cuttable.worker_below cuttable.numbered fits
    cuttable.seqs_below are.some are.within (all-joined HasSpelling (parts_of commit.entries) spelled))
