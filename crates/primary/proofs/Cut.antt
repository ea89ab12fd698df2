-- The pieces of a base: those of more commits, and as they are cut one by one.
use Rattle.std.proofs.Common.{◌≡◌, ◌+◌, ◌<◌, ◌≤◌, ◌==◌, ℕ, suc, cond, List, [], ◌∷◌, ◌++◌, length, map, take, drop}
use Rattle.std.proofs.Common.{◌^◌, zero, Bool, refl, sym, ap, subst, ◌∙◌, append_assoc, arith}
use Rattle.std.proofs.lemmas.Bool.{ne_eqb, eq-eqb}
use Rattle.std.proofs.lemmas.List.{take-append-le, length-map, drop-map, take-map}
use Rattle.std.proofs.Math.Seq.{take-take}
use Rattle.std.specs.List.{flat_map, AllByRecursion}
use Rattle.rows.specs.declared.commit.Commit.{Commit}
use Rattle.rows.specs.declared.entry.Entry.{Entry}
use Rattle.rows.specs.Commits.{tables_after}
use Rattle.rows.specs.Image.{image_of}
use Rattle.rows.specs.ImageLaws.{AreSpelled, ImagesAreSpelled}
use Rattle.rows.specs.Limits.{datagram_max}
use Rattle.rows.specs.Shape.{Shape, AreTables, shape_of}
use Rattle.rows.specs.Spelling.{HasSpelling}
use Rattle.mvcc.specs.VersionList.{VersionList}
use Rattle.update_log.specs.Images.{pieces_at}
use Rattle.update_log.specs.Laws.{PiecesAreCut, PiecesAreSome}
use Rattle.update_log.specs.Parts.{piece_front_len, part_len, cut_of, pieces_of}
use Rattle.journal.specs.Recovery.{HasRecord}
use Rattle.update_log.specs.Limits.{want_frames_max}
use Rattle.wire.specs.declared.datagram.Datagram.{Datagram}
use Rattle.wire.specs.declared.datagram.Datagram.TheVariants.{Piece}
use Rattle.wire.specs.Spelling.{HasDatagramSpelling, spelling}
use Rattle.primary.specs.Inner.Parts.{primary_of}
use Rattle.primary.specs.Inner.Tail.{packet_to}
use Rattle.primary.specs.Sending.{pieces_from, pieces_of_base, pulled, piece_to}
use Rattle.primary.proofs.Elements.{all-front, all-behind}

-- the tables at a version, by the commits up to it
pub tables-same : (shape : Shape) (commits other : List Commit) (version : ℕ) → take version commits ≡ take version other
    → tables_after shape commits version ≡ tables_after shape other version
tables-same shape commits other version e = rw e

-- the pieces at a base, by the commits up to it
pub pieces-same : (shape : Shape) (commits other : List Commit) (base : ℕ) → take base commits ≡ take base other
    → pieces_at shape commits base ≡ pieces_at shape other base
pieces-same shape commits other base e =
    ap (λ tables. cond (base == 0) [] (pieces_of (image_of shape tables))) (tables-same shape commits other base e)

-- where there is a base, they are those of its image
pub some-base : (shape : Shape) (commits : List Commit) (base : ℕ) → 0 < base
    → pieces_at shape commits base ≡ pieces_of (image_of shape (tables_after shape commits base))
some-base shape commits base h =
    ap (λ b. cond b [] (pieces_of (image_of shape (tables_after shape commits base)))) (ne_eqb base 0 (λ none. omega (arith, none, h)))

-- commits behind the base change none
pub pieces-stay : (shape : Shape) (commits more : List Commit) (base : ℕ) → base ≤ length commits
    → pieces_of_base shape (commits ++ more) base ≡ pieces_of_base shape commits base
pieces-stay shape commits more base within =
    ap (pieces_from base 0) (pieces-same shape (commits ++ more) commits base (take-append-le base commits more within))

-- and the base is within what is durable
pub pieces-durable : (shape : Shape) (commits : List Commit) (durable base : ℕ) → base ≤ durable
    → pieces_at shape (take durable commits) base ≡ pieces_at shape commits base
pieces-durable shape commits durable base h =
    pieces-same shape (take durable commits) commits base (take-take base durable commits h)

-- as many Pieces as pieces
pub pieces-length : (base number : ℕ) (pieces : List (List Entry)) → length (pieces_from base number pieces) ≡ length pieces
pieces-length base number [] = refl
pieces-length base number (piece ∷ pieces) = ap suc (pieces-length base (number + 1) pieces)

-- ---- each Piece has a spelling

-- what holds of the elements of lists that are joined
all-parts : {X : Type 0} (P : X → Type 0) (parts : List (List X)) → AllByRecursion P (flat_map (λ part. part) parts)
    → AllByRecursion (λ part. AllByRecursion P part) parts
all-parts P [] h = tt
all-parts P (part ∷ parts) h = (
  all-front P part (flat_map (λ part. part) parts) h,
  all-parts P parts (all-behind P part (flat_map (λ part. part) parts) h),
)

spelled-from : (base number : ℕ) (pieces : List (List Entry)) → 0 < base → base < 2 ^ 64 → number + length pieces < 2 ^ 64
    → AllByRecursion (λ piece. part_len piece_front_len piece ≤ datagram_max) pieces
    → AllByRecursion (λ piece. 0 < length piece) pieces
    → AllByRecursion (λ piece. AllByRecursion HasSpelling piece) pieces
    → AllByRecursion HasDatagramSpelling (pieces_from base number pieces)
spelled-from base number [] based below many within some spelled = tt
spelled-from base number (piece ∷ pieces) based below many within some spelled = (
  record {
    based = based;
    base_below = below;
    number_below = omega arith;
    spelled = spelled.0;
    few = within.0;
    empty = λ none. absurd (omega (arith, none, some.0));
  },
  spelled-from base (number + 1) pieces based below (omega arith) within.1 some.1 spelled.1,
)

-- of an image
image-spelled : (cut : PiecesAreCut) (base : ℕ) (image : List Entry) → 0 < base → base < 2 ^ 64
    → length (pieces_from base 0 (pieces_of image)) < 2 ^ 64
    → AllByRecursion HasSpelling image → AllByRecursion HasDatagramSpelling (pieces_from base 0 (pieces_of image))
image-spelled cut base [] based below many spelled = (
  record {
    based = based;
    base_below = below;
    number_below = omega arith;
    spelled = tt;
    few = omega arith;
    empty = λ none. (refl, refl);
  },
  tt,
)
image-spelled cut base (entry ∷ image) based below many spelled =
    let pieces = pieces_of (entry ∷ image) in
    let are = cut (entry ∷ image) (omega arith) spelled in
    spelled-from base 0 pieces based below (omega (arith, pieces-length base 0 pieces)) are.within are.some
    (all-parts HasSpelling pieces (subst (AllByRecursion HasSpelling) (sym are.all) spelled))

-- commits that records hold
pub records-spelled : (commits : List Commit) → AllByRecursion HasRecord commits → AreSpelled commits
records-spelled [] records = tt
records-spelled (commit ∷ commits) records = (records.0.spelled, records-spelled commits records.1)

-- of a base
pub pieces-spelled : (cut : PiecesAreCut) (images : ImagesAreSpelled) (shape : Shape) (commits : List Commit) (base : ℕ)
    → AreTables shape → AllByRecursion HasRecord commits → base < 2 ^ 64
    → length (pieces_of_base shape commits base) < 2 ^ 64
    → AllByRecursion HasDatagramSpelling (pieces_of_base shape commits base)
pieces-spelled cut images shape commits zero tables records below many = tt
pieces-spelled cut images shape commits (suc base) tables records below many =
    let image = image_of shape (tables_after shape commits (suc base)) in
    let are : pieces_at shape commits (suc base) ≡ pieces_of image = some-base shape commits (suc base) (omega arith) in
    subst (λ pieces. AllByRecursion HasDatagramSpelling (pieces_from (suc base) 0 pieces)) (sym are)
    (image-spelled cut (suc base) image (omega arith) below
    (omega (arith, many, ap (λ pieces. length (pieces_from (suc base) 0 pieces)) are))
    (images shape commits (suc base) tables (records-spelled commits records)))

-- as many packets as pieces
pub pieces-counted : (shape : Shape) (commits : List Commit) (base : ℕ) (packets : List (List ℕ))
    → packets ≡ map spelling (pieces_of_base shape commits base) → length packets ≡ length (pieces_at shape commits base)
pieces-counted shape commits base packets e =
    ap length e ∙ length-map (pieces_of_base shape commits base) spelling ∙ pieces-length base 0 (pieces_at shape commits base)

-- ---- cut one by one

-- of an image that is not empty the pieces are its cut
pub some-pieces : (image : List Entry) → 0 < length image → pieces_of image ≡ cut_of piece_front_len image
some-pieces [] h = absurd (omega arith)
some-pieces (entry ∷ image) h = refl

-- a cut is empty where nothing is cut
pub cut-is_empty : (some : PiecesAreSome) (entries : List Entry) → (length (cut_of piece_front_len entries) == 0) ≡ (length entries == 0)
cut-is_empty some [] = refl
cut-is_empty some (entry ∷ entries) =
    let cut = cut_of piece_front_len (entry ∷ entries) in
    ne_eqb (length cut) 0 (λ none. omega (arith, none, some (entry ∷ entries)))
    ∙ sym (ne_eqb (suc (length entries)) 0 (λ none. omega (arith, none)))

-- one packet more
pub packets-more : (some : PiecesAreSome) (base number n : ℕ) (rest piece behind : List Entry) (last : Bool)
    (packets new all : List (List ℕ)) (packet : List ℕ)
    → cut_of piece_front_len rest ≡ take n rest ∷ cut_of piece_front_len (drop n rest)
    → piece ≡ take n rest → behind ≡ drop n rest → last ≡ (length behind == 0)
    → packet ≡ spelling (Piece base number last piece)
    → new ≡ packets ++ packet ∷ []
    → packets ++ map spelling (pieces_from base number (cut_of piece_front_len rest)) ≡ all
    → new ++ map spelling (pieces_from base (number + 1) (cut_of piece_front_len behind)) ≡ all
packets-more some base number n rest piece behind last packets new all packet cut front back ended spelled pushed so_far =
    let more = cut_of piece_front_len behind in
    let left = map spelling (pieces_from base (number + 1) more) in
    let parts : cut_of piece_front_len rest ≡ piece ∷ more =
    cut ∙ ap (λ p. p ∷ cut_of piece_front_len (drop n rest)) (sym front) ∙ ap (λ b. piece ∷ cut_of piece_front_len b) (sym back) in
    let is_last : last ≡ (length more == 0) = ended ∙ sym (cut-is_empty some behind) in
    ap (λ ps. ps ++ left) pushed
    ∙ append_assoc packets (packet ∷ []) left
    ∙ ap (λ p. packets ++ p ∷ left) (spelled ∙ ap (λ l. spelling (Piece base number l piece)) is_last)
    ∙ ap (λ ps. packets ++ map spelling (pieces_from base number ps)) (sym parts)
    ∙ so_far

-- the packets that answer a Pull of the base
pub pulled-packets : (shape : Shape) (commits : List Commit) (durable base replica from : ℕ) (packets : List (List ℕ)) → base ≤ durable
    → packets ≡ map spelling (pieces_of_base shape commits base)
    → map (packet_to replica) (take want_frames_max (drop from packets))
    ≡ map (piece_to replica) (take want_frames_max (drop from (pieces_of_base shape (take durable commits) base)))
pulled-packets shape commits durable base replica from packets within spelled =
    let pieces = pieces_of_base shape commits base in
    ap (λ ps. map (packet_to replica) (take want_frames_max (drop from ps))) spelled
    ∙ ap (λ ps. map (packet_to replica) (take want_frames_max ps)) (drop-map spelling from pieces)
    ∙ ap (map (packet_to replica)) (take-map spelling want_frames_max (drop from pieces))
    ∙ map-map (take want_frames_max (drop from pieces))
    ∙ ap (λ ps. map (piece_to replica) (take want_frames_max (drop from (pieces_from base 0 ps))))
    (sym (pieces-durable shape commits durable base within))
  where
    map-map : (pieces : List Datagram) → map (packet_to replica) (map spelling pieces) ≡ map (piece_to replica) pieces
    map-map [] = refl
    map-map (piece ∷ pieces) = ap (λ outs. piece_to replica piece ∷ outs) (map-map pieces)

-- and so as the primary of these versions answers it
pub pulled-is : (versions : VersionList) (durable workers : ℕ) (failed : Bool) (base asked replica from : ℕ) (packets given : List (List ℕ))
    → base ≤ durable → packets ≡ map spelling (pieces_of_base (shape_of versions.schema) versions.commits base) → given ≡ packets
    → asked ≡ base
    → map (packet_to replica) (take want_frames_max (drop from given))
    ≡ map (piece_to replica) (pulled (primary_of versions durable workers failed base) asked from)
pulled-is versions durable workers failed base asked replica from packets given within spelled same own =
    let shape = shape_of versions.schema in
    let pieces = take want_frames_max (drop from (pieces_of_base shape (take durable versions.commits) base)) in
    ap (λ ps. map (packet_to replica) (take want_frames_max (drop from ps))) same
    ∙ pulled-packets shape versions.commits durable base replica from packets within spelled
    ∙ ap (λ b. map (piece_to replica) (cond b pieces [])) (sym (eq-eqb asked base own))
