-- When a replica is broken, by what its calls answer.
use Rattle.std.proofs.Common.{◌≡◌, ℕ, Bool, true, false, cond, List, [], Option, Some, None, Result, Ok, Err, refl, sym, ap, ◌∙◌, inl, inr}
use Rattle.std.proofs.Common.{not, ◌||◌, nat_lt}
use Rattle.std.proofs.lemmas.Bool.{cond_both}
use Rattle.update_log.specs.declared.frame.Frame.{Frame}
use Rattle.intake.specs.declared.taken.Taken.{Taken}
use Rattle.intake.specs.declared.taken.Taken.TheVariants as takens
use Rattle.intake.specs.Steps.{taken}
use Rattle.wire.specs.declared.datagram.Datagram.{Datagram}
use Rattle.wire.specs.declared.datagram.Datagram.TheVariants as datagrams
use Rattle.wire.specs.declared.faults.WireFault.{WireFault}
use Rattle.wire.specs.declared.head.Head.{Head}
use Rattle.wire.specs.Reading.{reading}
use Rattle.queries.specs.declared.plan.Plan.{Plan}
use Rattle.dispatcher.specs.State.{Replica, Batch, Fetched, protocol_of}
use Rattle.dispatcher.specs.Images.{piece_frame}
use Rattle.dispatcher.specs.Protocol.{is_own, takes_head, fetched_for, wants_piece}
use Rattle.dispatcher.specs.declared.outcome.Got.{Got}
use Rattle.dispatcher.specs.declared.outcome.Got.TheVariants as got
use Rattle.dispatcher.specs.Steps.{received, datagram_comes, have_tables, frame_taken, frame_comes, piece_comes, got_of}
use Rattle.dispatcher.specs.Steps.{goes_on, headed, own_head_comes, MayTake}

-- an answer that is not `Broken`
abbrev IsOther : Got → Type 0
IsOther answer = answer ≡ got.Broken → ⊥

got_of-other : (answer : Taken) → IsOther (got_of answer)
got_of-other takens.Repeat = λ is. absurd (cc)
got_of-other takens.Ahead = λ is. absurd (cc)
got_of-other takens.Memory = λ is. absurd (cc)
got_of-other takens.Stored = λ is. absurd (cc)

frame-other : (r : Replica) (frame : Frame) → IsOther (frame_comes r frame).0
frame-other r frame =
    cond_both (not (nat_lt frame.worker r.workers) || not (have_tables r frame.entries))
    (got.Ignored, r) (got_of (frame_taken r frame).0, record r { arrivals = (frame_taken r frame).1 })
    (λ (answer : Got × Replica). IsOther answer.0) (λ not_taken is. absurd (cc)) (λ takes. got_of-other (frame_taken r frame).0)

piece-other : (r : Replica) (piece : Frame) → IsOther (piece_comes r piece).0
piece-other r piece =
    cond_both (not (wants_piece r.version (fetched_for r.batch) piece.commit piece.seq) || not (have_tables r piece.entries))
    (got.Ignored, r) (
      got_of (taken r.pieces.arrivals [] piece).0,
      record r { pieces = record r.pieces { arrivals = (taken r.pieces.arrivals [] piece).1 } },
    )
    (λ (answer : Got × Replica). IsOther answer.0) (λ not_taken is. absurd (cc))
    (λ takes. got_of-other (taken r.pieces.arrivals [] piece).0)

head-other : (r : Replica) (head : Head) → IsOther (own_head_comes r head).0
head-other r head =
    cond_both (goes_on r head) (headed r head (takes_head (protocol_of r) head r.batch)) (got.Ignored, r)
    (λ (answer : Got × Replica). IsOther answer.0) (λ goes. by_batch r.batch) (λ other is. absurd (cc))
  where
    by_fetched : (plans : List Plan) (fetched : Option Fetched)
        → IsOther (takes_head (protocol_of r) head (Some (record { plans = plans; fetched = fetched }))).0
    by_fetched plans (Some fetched) = λ is. absurd (cc)
    by_fetched plans None = λ is. absurd (cc)

    by_batch : (batch : Option Batch) → IsOther (takes_head (protocol_of r) head batch).0
    by_batch None = λ is. absurd (cc)
    by_batch (Some batch) = by_fetched batch.plans batch.fetched

datagram-other : (r : Replica) (datagram : Result Datagram WireFault) → IsOther (datagram_comes r datagram).0
datagram-other r (Err fault) = λ is. absurd (cc)
datagram-other r (Ok (datagrams.Frame worker seq commit last entries)) =
    frame-other r (record { worker = worker; seq = seq; commit = commit; last = last; entries = entries })
datagram-other r (Ok (datagrams.Ask replica boot request)) = λ is. absurd (cc)
datagram-other r (Ok (datagrams.Head head)) =
    cond_both (is_own (protocol_of r) head) (own_head_comes r head) (got.Ignored, r)
    (λ (answer : Got × Replica). IsOther answer.0) (λ own. head-other r head) (λ other is. absurd (cc))
datagram-other r (Ok (datagrams.Want replica worker from)) = λ is. absurd (cc)
datagram-other r (Ok (datagrams.Piece base number last entries)) = piece-other r (piece_frame base number last entries)
datagram-other r (Ok (datagrams.Pull replica base from)) = λ is. absurd (cc)

-- a replica that answers so is broken
pub heard_is_broken : (r s : Replica) (bytes : List ℕ) → MayTake r (received r bytes) got.Broken s → s.broken ≡ true
heard_is_broken r s bytes (inl memory) = absurd (cc)
heard_is_broken r s bytes (inr comes) = by r.broken refl comes
  where
    by : (broken : Bool) → r.broken ≡ broken → cond broken (got.Broken, r) (datagram_comes r (reading bytes)) ≡ (got.Broken, s)
        → s.broken ≡ true
    by true is same = sym (ap (λ (answer : Got × Replica). answer.1.broken) same) ∙ is
    by false is same = absurd (datagram-other r (reading bytes) (ap (λ (answer : Got × Replica). answer.0) same))
