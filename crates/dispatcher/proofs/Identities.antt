-- Each step of a replica leaves its identity.
use Rattle.std.proofs.Common.{◌≡◌, ℕ, not, ◌||◌, List, [], Result, Ok, Err, IsOkAnd, nat_lt, refl, ap, ◌∙◌, inl, inr}
use Rattle.std.proofs.lemmas.Bool.{cond_both}
use Rattle.rows.specs.Commits.{apply_commits}
use Rattle.rows.specs.Tables.{Tables, Refusal, shape_in}
use Rattle.update_log.specs.declared.frame.Frame.{Frame}
use Rattle.intake.specs.Steps.{taken}
use Rattle.wire.specs.declared.datagram.Datagram.{Datagram}
use Rattle.wire.specs.declared.datagram.Datagram.TheVariants as datagrams
use Rattle.wire.specs.declared.faults.WireFault.{WireFault}
use Rattle.wire.specs.declared.head.Head.{Head}
use Rattle.wire.specs.declared.out.Out.{Out}
use Rattle.wire.specs.Reading.{reading}
use Rattle.queries.specs.declared.plan.Plan.{Plan}
use Rattle.queries.specs.Checking.{checked}
use Rattle.dispatcher.specs.declared.outcome.Got.{Got}
use Rattle.dispatcher.specs.declared.outcome.Got.TheVariants as got
use Rattle.dispatcher.specs.declared.outcome.Run.{Run}
use Rattle.dispatcher.specs.State.{Replica, Fetched, protocol_of}
use Rattle.dispatcher.specs.Images.{piece_frame}
use Rattle.dispatcher.specs.Protocol.{opens_query, asks_version, renews_version, is_own, takes_head, fetched_for, wants_piece}
use Rattle.dispatcher.specs.Protocol.{Readiness, Broken, NoBatch, WaitsForHead, WaitsForPiece, WaitsForFrame, Ready}
use Rattle.dispatcher.specs.Steps.{received, opened, asked, renewed, got_of, have_tables, frame_taken, frame_comes, piece_comes, goes_on}
use Rattle.dispatcher.specs.Steps.{headed, own_head_comes, datagram_comes, first_tables, to_apply, at_fetched, CaughtUp, Ends}
use Rattle.dispatcher.specs.Steps.{readiness_of, RunsAs, RunsOutOfMemory, MayRun}
use Rattle.dispatcher.specs.Feeding.{identity_of}
use Rattle.dispatcher.proofs.Feeding.{stepped-left}

-- ---- bytes

frame-keeps : (r : Replica) (frame : Frame) → identity_of (frame_comes r frame).1 ≡ identity_of r
frame-keeps r frame =
    cond_both (not (nat_lt frame.worker r.workers) || not (have_tables r frame.entries))
    (got.Ignored, r) (got_of (frame_taken r frame).0, record r { arrivals = (frame_taken r frame).1 })
    (λ (answer : Got × Replica). identity_of answer.1 ≡ identity_of r) (λ not_taken. refl) (λ takes. refl)

piece-keeps : (r : Replica) (piece : Frame) → identity_of (piece_comes r piece).1 ≡ identity_of r
piece-keeps r piece =
    cond_both (not (wants_piece r.version (fetched_for r.batch) piece.commit piece.seq) || not (have_tables r piece.entries))
    (got.Ignored, r) (
      got_of (taken r.pieces.arrivals [] piece).0,
      record r { pieces = record r.pieces { arrivals = (taken r.pieces.arrivals [] piece).1 } },
    )
    (λ (answer : Got × Replica). identity_of answer.1 ≡ identity_of r) (λ not_taken. refl) (λ takes. refl)

head-keeps : (r : Replica) (head : Head) → identity_of (own_head_comes r head).1 ≡ identity_of r
head-keeps r head =
    cond_both (goes_on r head) (headed r head (takes_head (protocol_of r) head r.batch)) (got.Ignored, r)
    (λ (answer : Got × Replica). identity_of answer.1 ≡ identity_of r) (λ goes. refl) (λ other. refl)

datagram-keeps : (r : Replica) (datagram : Result Datagram WireFault) → identity_of (datagram_comes r datagram).1 ≡ identity_of r
datagram-keeps r (Err fault) = refl
datagram-keeps r (Ok (datagrams.Frame worker seq commit last entries)) =
    frame-keeps r (record { worker = worker; seq = seq; commit = commit; last = last; entries = entries })
datagram-keeps r (Ok (datagrams.Ask replica boot request)) = refl
datagram-keeps r (Ok (datagrams.Head head)) =
    cond_both (is_own (protocol_of r) head) (own_head_comes r head) (got.Ignored, r)
    (λ (answer : Got × Replica). identity_of answer.1 ≡ identity_of r) (λ own. head-keeps r head) (λ other. refl)
datagram-keeps r (Ok (datagrams.Want replica worker from)) = refl
datagram-keeps r (Ok (datagrams.Piece base number last entries)) = piece-keeps r (piece_frame base number last entries)
datagram-keeps r (Ok (datagrams.Pull replica base from)) = refl

pub bytes-keep : (r : Replica) (bytes : List ℕ) → identity_of (received r bytes).1 ≡ identity_of r
bytes-keep r bytes =
    cond_both r.broken (got.Broken, r) (datagram_comes r (reading bytes)) (λ (answer : Got × Replica). identity_of answer.1 ≡ identity_of r)
    (λ broken. refl) (λ whole. datagram-keeps r (reading bytes))

-- ---- queries

pub open-keeps : (r : Replica) (plan : Plan) (count : ℕ) (new : Replica) → opened r plan ≡ Ok (count, new) → identity_of new ≡ identity_of r
open-keeps r plan count new h =
    ap identity_of (stepped-left r (opens_query (protocol_of r) plan (checked (shape_in r.tables) plan)) count new h).2

pub ask-keeps : (r : Replica) (out : Out) (new : Replica) → asked r ≡ Ok (out, new) → identity_of new ≡ identity_of r
ask-keeps r out new h = ap identity_of (stepped-left r (asks_version (protocol_of r)) out new h).2

pub renew-keeps : (r : Replica) (out : Out) (new : Replica) → renewed r ≡ Ok (out, new) → identity_of new ≡ identity_of r
renew-keeps r out new h = ap identity_of (stepped-left r (renews_version (protocol_of r)) out new h).2

-- ---- runs

made-keeps : (r new : Replica) (fetched : Fetched) (made : Result Tables Refusal)
    → IsOkAnd made (λ tables. new ≡ at_fetched r fetched tables) → identity_of new ≡ identity_of r
made-keeps r new fetched (Ok tables) h = ap identity_of h
made-keeps r new fetched (Err refusal) h = absurd h

caught-keeps : (r new : Replica) (fetched : Fetched) → CaughtUp r fetched new → identity_of new ≡ identity_of r
caught-keeps r new fetched caught =
    made-keeps r new fetched (apply_commits (first_tables r fetched) (to_apply r fetched caught.commits)) caught.applied

module _ (r : Replica) (answer : Run) (new : Replica) where
  ends-keeps : (plans : List Plan) (fetched : Fetched) → Ends r plans fetched answer new → identity_of new ≡ identity_of r
  ends-keeps plans fetched (inl ended) =
      ap identity_of ended.3 ∙ caught-keeps r ended.0 fetched ended.1
  ends-keeps plans fetched (inr cannot) = ap identity_of cannot.2

  as-keeps : (found : Readiness) → RunsAs found r answer new → identity_of new ≡ identity_of r
  as-keeps (Ready plans fetched) ran = ends-keeps plans fetched ran
  as-keeps Broken ran = ap identity_of ran.1
  as-keeps NoBatch ran = ap identity_of ran.1
  as-keeps WaitsForHead ran = ap identity_of ran.1
  as-keeps (WaitsForPiece base number) ran = ap identity_of ran.1
  as-keeps (WaitsForFrame worker seq) ran = ap identity_of ran.1

  cut-keeps : RunsOutOfMemory r answer new → identity_of new ≡ identity_of r
  cut-keeps wants = elim wants.2 [
    | inl memory ↦ elim memory.1 [
      | inl same ↦ ap identity_of same
      | inr reached ↦ caught-keeps r new wants.0 reached
    ]
    | inr broken ↦ ap identity_of broken.1
  ]

pub run-keeps : (r : Replica) (answer : Run) (new : Replica) → MayRun r answer new → identity_of new ≡ identity_of r
run-keeps r answer new (inl ran) = as-keeps r answer new (readiness_of r) ran
run-keeps r answer new (inr wants) = cut-keeps r answer new wants
