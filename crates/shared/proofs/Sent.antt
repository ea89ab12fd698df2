-- What is sent of a list is of it, and of every longer one.
use Rattle.std.proofs.Common.{◌≡◌, inl, inr, refl, ap, sym, ◌∙◌, subst, arith, ℕ, zero, suc, ◌+◌, ◌≤◌, ◌==◌, if◌then◌else◌}
use Rattle.std.proofs.Common.{List, [], ◌∷◌, ◌++◌, length, map, take, drop}
use Rattle.std.proofs.Common.{append_assoc, length-append, Option, None, Some, Result, Ok, Err, Bool, true, false, nat_lt, ◌^◌, ◌<◌, ◌-◌}
use Rattle.std.specs.List.{slice_get, AllByRecursion}
use Rattle.std.specs.Option.{option_map}
use Rattle.std.proofs.lemmas.List.{take-append-le, take-append-drop}
use Rattle.std.proofs.lemmas.Option.{none-some}
use mathlib.Core.List.{IsPrefix}
use Rattle.rows.specs.declared.commit.Commit.{Commit}
use Rattle.rows.specs.declared.entry.Entry.{Entry}
use Rattle.rows.specs.declared.kind.Kind.{Kind}
use Rattle.rows.specs.Image.{image_of}
use Rattle.rows.specs.Shape.{Shape, shape_of}
use Rattle.rows.specs.Commits.{tables_after}
use Rattle.rows.specs.Tables.{Tables}
use Rattle.update_log.specs.declared.frame.Frame as frames
use Rattle.update_log.specs.Frames.{frames_of}
use Rattle.update_log.specs.Images.{pieces_at}
use Rattle.update_log.specs.Limits.{want_frames_max}
use Rattle.update_log.specs.Parts.{pieces_of}
use Rattle.update_log.specs.Streams.{stream_from, stream_of, frame_count}
use Rattle.wire.specs.declared.datagram.Datagram.{Datagram}
use Rattle.wire.specs.declared.datagram.Datagram.TheVariants.{Frame, Ask, Head, Want, Piece, Pull}
use Rattle.wire.specs.declared.faults.WireFault.{WireFault}
use Rattle.wire.specs.declared.out.Out.{Out}
use Rattle.wire.specs.Reading.{reading}
use Rattle.wire.specs.Spelling.{spelling, frame_spelling, HasDatagramSpelling}
use Rattle.primary.specs.Sending.{pushed, answers, answers_to, counts_of, head_of, frame_to, piece_to, pieces_from, pieces_of_base}
use Rattle.primary.specs.Sending.{low_of}
use Rattle.desk.specs.Answers.{primary_of, IsBaseOf}
use Rattle.shared.specs.Laws.{IsOfList}

-- what stands in a beginning stands in the whole, at the same place
prefix_get : {A : Type 0} (xs ys : List A) (k : ℕ) (x : A) → IsPrefix xs ys → slice_get xs k ≡ Some x → slice_get ys k ≡ Some x
prefix_get [] ys k x p h = absurd (none-some x h)
prefix_get (y ∷ xs) [] k x p h = absurd (cc (p.1))
prefix_get (y ∷ xs) (z ∷ ys) zero x p h = cc (p.1, h)
prefix_get (y ∷ xs) (z ∷ ys) (suc k) x p h = prefix_get xs ys k x (p.0, cc (p.1)) h

-- the stream of a list begins that of a longer one
stream-grows : (worker before first : ℕ) (list more : List Commit)
    → IsPrefix (stream_from worker before first list) (stream_from worker before first (list ++ more))
stream-grows worker before first [] more = (stream_from worker before first more, refl)
stream-grows worker before first (commit ∷ list) more =
    let front = (if commit.worker == worker then frames_of commit (before + 1) first else []) in
    let r = stream-grows worker (before + 1) (first + length front) list more in
    (r.0, append_assoc front (stream_from worker (before + 1) (first + length front) list) r.0 ∙ ap (λ l. front ++ l) r.1)

-- the counts at a version of a list are those of a longer one
counts-stay : (list more : List Commit) (version workers : ℕ) → version ≤ length list
    → counts_of list version workers ≡ counts_of (list ++ more) version workers
counts-stay list more version zero le = refl
counts-stay list more version (suc workers) le =
    let here : frame_count list workers version ≡ frame_count (list ++ more) workers version =
    ap (λ l. length (stream_of l workers)) (sym (take-append-le version list more le)) in
    ap (λ l. l ++ frame_count list workers version ∷ []) (counts-stay list more version workers le)
    ∙ ap (λ n. counts_of (list ++ more) version workers ++ n ∷ []) here

-- so are the pieces of a base, and the base is one of a longer list
pieces-stay : (shape : Shape) (list more : List Commit) (base : ℕ) → base ≤ length list
    → pieces_at shape list base ≡ pieces_at shape (list ++ more) base
pieces-stay shape list more base le =
    let same : tables_after shape list base ≡ tables_after shape (list ++ more) base = rw (sym (take-append-le base list more le)) refl in
    ap (λ (tables : Tables). if base == 0 then [] else pieces_of (image_of shape tables)) same

base-stays : (shape : Shape) (list more : List Commit) (base : ℕ) → IsBaseOf shape list base → IsBaseOf shape (list ++ more) base
base-stays shape list more base is = record {
  within = omega (arith, is.within, length-append list more);
  counted =
      subst (λ (pieces : List (List Entry)). length (pieces_from base 0 pieces) < 2 ^ 64) (pieces-stay shape list more base is.within)
      is.counted;
  spelled =
      subst (λ (pieces : List (List Entry)). AllByRecursion HasDatagramSpelling (pieces_from base 0 pieces))
      (pieces-stay shape list more base is.within) is.spelled;
}

stays-by : (shape : Shape) (workers : ℕ) (list more : List Commit) (packet : List ℕ) → IsOfList shape workers list packet
    → IsOfList shape workers (list ++ more) packet
stays-by shape workers list more packet (inl is) =
    let grows = stream-grows is.0 0 0 list more in
    inl (is.0, is.1, is.2, prefix_get (stream_of list is.0) (stream_of (list ++ more) is.0) is.1 is.2 grows is.3, is.4)
stays-by shape workers list more packet (inr (inl is)) =
    let base = is.3 in
    let version = is.4 in
    let pieces = pieces-stay shape list more base is.5.within in
    let lows = counts-stay list more base workers is.5.within in
    let counts = counts-stay list more version workers is.7 in
    let same : spelling (Head (head_of shape list base version workers is.0 is.1 is.2))
    ≡ spelling (Head (head_of shape (list ++ more) base version workers is.0 is.1 is.2)) = λ i. spelling (Head (record {
      replica = is.0;
      boot = is.1;
      request = is.2;
      version = version;
      base = base;
      pieces = length (pieces i);
      lows = lows i;
      counts = counts i;
    })) in
    inr (inl (
      is.0,
      is.1,
      is.2,
      base,
      version,
      base-stays shape list more base is.5,
      is.6,
      omega (arith, is.7, length-append list more),
      is.8 ∙ same,
    ))
stays-by shape workers list more packet (inr (inr is)) =
    inr (inr (
      is.0,
      is.1,
      is.2,
      base-stays shape list more is.0 is.3,
      subst (λ (pieces : List (List Entry)). slice_get (pieces_from is.0 0 pieces) is.1 ≡ Some is.2)
          (pieces-stay shape list more is.0 is.3.within) is.4,
      is.5,
    ))

pub of_list_stays : (shape : Shape) (workers : ℕ) (list later : List Commit) (packet : List ℕ) → IsPrefix list later
    → IsOfList shape workers list packet → IsOfList shape workers later packet
of_list_stays shape workers list later packet begins is =
    subst (λ l. IsOfList shape workers l packet) begins.1 (stays-by shape workers list begins.0 packet is)

pub pushed_is_of_list : (schema : List (List ℕ × List Kind)) (workers worker seq : ℕ) (list : List Commit) (base : ℕ) (packet : List ℕ)
    → pushed (primary_of schema workers list base) worker seq ≡ Some packet → IsOfList (shape_of schema) workers list packet
pushed_is_of_list schema workers worker seq list base packet is =
    by (nat_lt seq (low_of (primary_of schema workers list base) worker)) (slice_get (stream_of list worker) seq) refl is
  where
    by : (dropped : Bool) (found : Option frames.Frame) → slice_get (stream_of list worker) seq ≡ found
        → (if dropped then None else option_map frame_spelling found) ≡ Some packet → IsOfList (shape_of schema) workers list packet
    by true found e h = absurd (none-some packet h)
    by false None e h = absurd (none-some packet h)
    by false (Some frame) e h = inl (worker, seq, frame, e, sym (cc h))

get-drop : {A : Type 0} (n i : ℕ) (xs : List A) → slice_get (drop n xs) i ≡ slice_get xs (n + i)
get-drop zero i xs = let e : i ≡ 0 + i = omega arith in ap (slice_get xs) e
get-drop (suc n) i [] = refl
get-drop (suc n) i (x ∷ xs) = let e : suc (n + i) ≡ suc n + i = omega arith in get-drop n i xs ∙ ap (slice_get (x ∷ xs)) e

-- what stands among the first so many from a place on stands in the whole
get-of : {A : Type 0} (from count i : ℕ) (xs : List A) (x : A) → slice_get (take count (drop from xs)) i ≡ Some x
    → slice_get xs (from + i) ≡ Some x
get-of from count i xs x h =
    let rest = drop from xs in
    sym (get-drop from i xs) ∙ prefix_get (take count rest) rest i x (drop count rest, take-append-drop count rest) h

module _ (shape : Shape) (workers : ℕ) (list : List Commit) where
  -- frames that stand in a stream from a place on are of the list
  frames-of : (replica worker from : ℕ) (found : List frames.Frame)
      → ((i : ℕ) (frame : frames.Frame) → slice_get found i ≡ Some frame → slice_get (stream_of list worker) (from + i) ≡ Some frame)
      → AllByRecursion (λ (out : Out). IsOfList shape workers list out.packet) (map (frame_to replica) found)
  frames-of replica worker from [] at = tt
  frames-of replica worker from (frame ∷ found) at = (
    inl (worker, from + 0, frame, at 0 frame refl, refl),
    frames-of replica worker (from + 1) found (
        λ i other h. ap (slice_get (stream_of list worker)) (omega arith) ∙ at (suc i) other h
        ),
  )

  -- so are Pieces that stand among those of a base
  pieces-of : (replica base from : ℕ) (found : List Datagram) → IsBaseOf shape list base
      → ((i : ℕ) (piece : Datagram) → slice_get found i ≡ Some piece → slice_get (pieces_of_base shape list base) (from + i) ≡ Some piece)
      → AllByRecursion (λ (out : Out). IsOfList shape workers list out.packet) (map (piece_to replica) found)
  pieces-of replica base from [] is at = tt
  pieces-of replica base from (piece ∷ found) is at = (
    inr (inr (base, from + 0, piece, is, at 0 piece refl, refl)),
    pieces-of replica base (from + 1) found is (
        λ i other h. ap (slice_get (pieces_of_base shape list base)) (omega arith) ∙ at (suc i) other h
        ),
  )

answered-by : (schema : List (List ℕ × List Kind)) (workers : ℕ) (list : List Commit) (base : ℕ) (read : Result Datagram WireFault)
    → IsBaseOf (shape_of schema) list base
    → AllByRecursion (λ (out : Out). IsOfList (shape_of schema) workers list out.packet)
    (answers_to (primary_of schema workers list base) read)
answered-by schema workers list base (Ok (Ask replica boot request)) is =
    (inr (inl (replica, boot, request, base, length list, is, is.within, omega arith, refl)), tt)
answered-by schema workers list base (Ok (Want replica worker from)) is =
    let stream = stream_of list worker in
    let low = low_of (primary_of schema workers list base) worker - from in
    frames-of (shape_of schema) workers list replica worker (from + low) (drop low (take want_frames_max (drop from stream))) (
    λ i frame h.
    ap (slice_get stream) (omega arith)
    ∙ get-of from want_frames_max (low + i) stream frame (sym (get-drop low i (take want_frames_max (drop from stream))) ∙ h)
    )
answered-by schema workers list base (Ok (Pull replica other from)) is = by (other == base)
  where
    pieces : List Datagram
    pieces = pieces_of_base (shape_of schema) list base

    by : (own : Bool) → AllByRecursion (λ (out : Out). IsOfList (shape_of schema) workers list out.packet)
        (map (piece_to replica) (if own then take want_frames_max (drop from pieces) else []))
    by true =
        pieces-of (shape_of schema) workers list replica base from (take want_frames_max (drop from pieces)) is (
        λ i piece h. get-of from want_frames_max i pieces piece h
        )
    by false = tt
answered-by schema workers list base (Ok (Frame worker seq commit last entries)) is = tt
answered-by schema workers list base (Ok (Head head)) is = tt
answered-by schema workers list base (Ok (Piece other number last entries)) is = tt
answered-by schema workers list base (Err fault) is = tt

pub answered_is_of_list : (schema : List (List ℕ × List Kind)) (workers : ℕ) (list : List Commit) (base : ℕ) (bytes : List ℕ)
    → IsBaseOf (shape_of schema) list base
    → AllByRecursion (λ (out : Out). IsOfList (shape_of schema) workers list out.packet)
    (answers (primary_of schema workers list base) bytes)
answered_is_of_list schema workers list base bytes is = answered-by schema workers list base (reading bytes) is
