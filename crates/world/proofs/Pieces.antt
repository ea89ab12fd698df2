-- The pieces that the primary sends of its base: they read as pieces, or as nothing; and those that have spellings are of the image.
use Rattle.std.proofs.Common.{◌≡◌, ℕ, zero, suc, ◌+◌, ◌≤◌, ◌==◌, Bool, true, false, cond, List, [], ◌∷◌, length, map, take, drop}
use Rattle.std.proofs.Common.{Result, Ok, Err, refl, sym, ap, subst, ◌∙◌, arith}
use Rattle.std.specs.List.{slice_get, AllByRecursion}
use Rattle.rows.specs.declared.commit.Commit.{Commit}
use Rattle.rows.specs.declared.entry.Entry.{Entry}
use Rattle.rows.specs.Shape.{Shape, shape_of}
use Rattle.update_log.specs.Images.{pieces_at}
use Rattle.update_log.specs.Limits.{want_frames_max}
use Rattle.wire.specs.declared.datagram.Datagram.{Datagram}
use Rattle.wire.specs.declared.datagram.Datagram.TheVariants as datagrams
use Rattle.wire.specs.declared.faults.WireFault.{WireFault}
use Rattle.wire.specs.Laws.{SpelledAreRead}
use Rattle.wire.specs.Reading.{reading}
use Rattle.wire.specs.Spelling.{HasDatagramSpelling}
use Rattle.dispatcher.specs.Feeding.{Tells}
use Rattle.dispatcher.specs.Images.{image_frames, frames_of_base}
use Rattle.primary.specs.State.{Primary}
use Rattle.primary.specs.Sending.{pieces_from, pieces_of_base, pulled, piece_to}
use Rattle.world.specs.Outputs.{packets_of}
use Rattle.world.proofs.Datagrams.{piece-reads}

-- ---- what is sent

-- this holds of what each datagram reads as that is sent so
abbrev pub HoldsSent : (Result Datagram WireFault → Type 0) → ℕ → List Datagram → Type 0
HoldsSent P replica list = AllByRecursion (λ bytes. P (reading bytes)) (packets_of (map (piece_to replica) list))

module _ (P : Result Datagram WireFault → Type 0) (replica : ℕ) where
  sent-behind : (count : ℕ) (list : List Datagram) → HoldsSent P replica list → HoldsSent P replica (drop count list)
  sent-behind zero list sent = sent
  sent-behind (suc count) [] sent = tt
  sent-behind (suc count) (first ∷ list) sent = sent-behind count list sent.1

  sent-front : (count : ℕ) (list : List Datagram) → HoldsSent P replica list → HoldsSent P replica (take count list)
  sent-front zero list sent = tt
  sent-front (suc count) [] sent = tt
  sent-front (suc count) (first ∷ list) sent = (sent.0, sent-front count list sent.1)

  -- what holds of all pieces of the base holds of those that are pulled
  pulled-sent : (p : Primary) (base from : ℕ) → HoldsSent P replica (pieces_of_base (shape_of p.schema) p.durable p.base)
      → HoldsSent P replica (pulled p base from)
  pulled-sent p base from sent = by (base == p.base)
    where
      all : List Datagram
      all = pieces_of_base (shape_of p.schema) p.durable p.base

      by : (own : Bool) → HoldsSent P replica (cond own (take want_frames_max (drop from all)) [])
      by true = sent-front want_frames_max (drop from all) (sent-behind from all sent)
      by false = tt

-- ---- what they read as

-- what holds of each fault and of each piece holds of what the primary sends
module _ (P : Result Datagram WireFault → Type 0) (faults : (fault : WireFault) → P (Err fault))
    (pieces : (base number : ℕ) (last : Bool) (entries : List Entry) → P (Ok (datagrams.Piece base number last entries)))
    (replica : ℕ) where
  all-sent : (base number : ℕ) (cut : List (List Entry)) → HoldsSent P replica (pieces_from base number cut)
  all-sent base number [] = tt
  all-sent base number (piece ∷ cut) =
      (piece-reads P faults pieces base number (length cut == 0) piece, all-sent base (number + 1) cut)

  pub pulled-read : (p : Primary) (base from : ℕ) → HoldsSent P replica (pulled p base from)
  pulled-read p base from = pulled-sent P replica p base from (all-sent p.base 0 (pieces_at (shape_of p.schema) p.durable p.base))

-- as many pieces as there are parts of the image
pub pieces-counted : (base number : ℕ) (cut : List (List Entry)) → length (pieces_from base number cut) ≡ length cut
pieces-counted base number [] = refl
pieces-counted base number (piece ∷ cut) = ap suc (pieces-counted base (number + 1) cut)

module _ (reads : SpelledAreRead) (replica : ℕ) (shape : Shape) (workers : ℕ) (commits : List Commit) (base : ℕ)
    (below : base ≤ length commits) where
  -- the pieces from one on, of which the frames of the image have those that follow
  cut-tells : (number : ℕ) (cut : List (List Entry)) → AllByRecursion HasDatagramSpelling (pieces_from base number cut)
      → ((j : ℕ) → slice_get (frames_of_base shape commits base) (number + j) ≡ slice_get (image_frames base number cut) j)
      → HoldsSent (Tells shape workers commits) replica (pieces_from base number cut)
  cut-tells number [] spelled stands = tt
  cut-tells number (piece ∷ cut) spelled stands =
      let here : number ≡ number + 0 = omega arith in (
        subst (Tells shape workers commits) (sym (reads (datagrams.Piece base number (length cut == 0) piece) spelled.0))
            (below, ap (slice_get (frames_of_base shape commits base)) here ∙ stands 0),
        cut-tells (number + 1) cut spelled.1 (λ j.
            let index : number + 1 + j ≡ number + suc j = omega arith in
            ap (slice_get (frames_of_base shape commits base)) index ∙ stands (suc j)),
      )

-- pieces that have spellings are those of the image at the base
pub pulled-tells : (reads : SpelledAreRead) (replica : ℕ) (p : Primary) (base from : ℕ) → p.base ≤ length p.durable
    → AllByRecursion HasDatagramSpelling (pieces_of_base (shape_of p.schema) p.durable p.base)
    → HoldsSent (Tells (shape_of p.schema) p.workers p.durable) replica (pulled p base from)
pulled-tells reads replica p base from below spelled =
    let shape = shape_of p.schema in
    pulled-sent (Tells shape p.workers p.durable) replica p base from
    (cut-tells reads replica shape p.workers p.durable p.base below 0 (pieces_at shape p.durable p.base) spelled
    (λ j. let index : 0 + j ≡ j = omega arith in ap (slice_get (frames_of_base shape p.durable p.base)) index))
