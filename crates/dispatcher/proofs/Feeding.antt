-- What keeps a replica fed.
use Rattle.std.proofs.Common.{◌≡◌, ℕ, ◌+◌, ◌<◌, ◌≤◌, Bool, true, false, cond, not, ◌||◌, ◌&&◌, ◌==◌, List, [], ◌∷◌, ◌++◌}
use Rattle.std.proofs.Common.{length, Option, slice_index}
use Rattle.std.proofs.Common.{Some, None, Result, Ok, Err, nat_lt, nat_le, refl, sym, ap, subst, ◌∙◌, inl, inr, arith}
use Rattle.std.specs.Cmp.Lexicographic.{pointwise}
use Rattle.std.specs.List.{slice_get, AllByRecursion}
use Rattle.std.proofs.lemmas.Bool.{true≢false, false≢true, cases_lt, cond_both, leb-true, and_parts, eq-eqb, eqb-true, le-leb, lt-ltb}
use Rattle.std.proofs.lemmas.Bool.{or_left, or_right}
use Rattle.std.proofs.lemmas.List.{length-append, length-replicate, take_all, get_or_past}
use Rattle.std.proofs.lemmas.Option.{none-some, same_Some}
use Rattle.rows.specs.declared.commit.Commit.{Commit}
use Rattle.rows.specs.declared.limits.TheConstants.{WAITING_QUERIES_MAX}
use Rattle.rows.specs.Shape.{Shape}
use Rattle.rows.specs.Commits.{tables_after}
use Rattle.rows.specs.Tables.{Tables, shape_in}
use Rattle.update_log.specs.declared.frame.Frame.{Frame}
use Rattle.update_log.specs.Streams.{stream_of, frame_count}
use Rattle.intake.specs.Known.{is_known}
use Rattle.intake.specs.State.{Arrivals, nothing, arrivals_of, known_of}
use Rattle.intake.specs.Steps.{taken, gained}
use Rattle.intake.specs.Streams.{IsFrom}
use Rattle.intake.specs.Laws.{NothingIsFrom, CommitsKeepFrom, FramesKeepFrom, DropsKeepFrom, GainsKeepFrom}
use Rattle.intake.specs.Laws.{FramesLeaveWorkers, DropsLeaveWorkers, FramesStayKnown, DropsLeaveKnown, FramesStayKept, DropsStayKept}
use Rattle.intake.specs.Laws.{GainsLeaveWorkers, GainsAreKnown, GainsLeaveKept, NothingIsOf, FramesKeepOf}
use Rattle.ordering.specs.Cutting.{AreFrameCounts}
use Rattle.wire.specs.declared.datagram.Datagram.{Datagram}
use Rattle.wire.specs.declared.datagram.Datagram.TheVariants as datagrams
use Rattle.wire.specs.declared.faults.WireFault.{WireFault}
use Rattle.wire.specs.declared.head.Head.{Head}
use Rattle.wire.specs.declared.out.Out.{Out}
use Rattle.wire.specs.Reading.{reading}
use Rattle.dispatcher.specs.declared.outcome.Got.{Got}
use Rattle.dispatcher.specs.declared.outcome.Got.TheVariants as got
use Rattle.dispatcher.specs.declared.faults.AskFault.{AskFault}
use Rattle.dispatcher.specs.declared.faults.AskFault.TheVariants as asks
use Rattle.dispatcher.specs.declared.faults.OpenFault.{OpenFault}
use Rattle.dispatcher.specs.declared.faults.OpenFault.TheVariants as opens
use Rattle.queries.specs.declared.plan.Plan.{Plan}
use Rattle.queries.specs.declared.faults.PlanFault.{PlanFault}
use Rattle.queries.specs.Checking.{checked}
use Rattle.dispatcher.specs.Feeding.{IsFetchedFrom, ArePiecesFrom, FitAt, IsFedFrom, IsTrueHead, Tells, TruthStays, FreshIsFed}
use Rattle.dispatcher.specs.Feeding.{CommitsKeepFed, BytesKeepFed, TrueHeadGoesOn, OpenKeepsFed, AskKeepsFed, RenewKeepsFed}
use Rattle.dispatcher.specs.Feeding.{VersionTellsTables}
use Rattle.dispatcher.specs.Images.{piece_frame, frames_of_base}
use Rattle.dispatcher.specs.State.{Replica, Batch, Fetched, Pieces, no_pieces, Protocol, protocol_of, with_protocol}
use Rattle.dispatcher.specs.Protocol.{opens_checked, opens_query, ask_for, with_batch, asks_by, asks_version, renews_by, renews_version}
use Rattle.dispatcher.specs.Protocol.{is_own, fetched_by, takes_head, by_image, bases_at, first_version, first_counts, fetched_for}
use Rattle.dispatcher.specs.Protocol.{wants_piece, pieces_for}
use Rattle.dispatcher.specs.Steps.{stepped, got_of, have_tables, frame_taken, frame_comes, piece_comes, goes_on, headed, own_head_comes}
use Rattle.dispatcher.specs.Steps.{datagram_comes, at_fetched, broken_of}
use Rattle.dispatcher.proofs.Beginning.{none-known}
use Rattle.dispatcher.proofs.CatchingUp.{Merges, is-fetched, each-known, fit-later}
use Rattle.dispatcher.proofs.Imaging.{pieces-stay, base-stays}
use Rattle.dispatcher.proofs.Lists.{le-pointwise, none-counted}
use Rattle.dispatcher.proofs.Ready.{CanAnswer, can-fetched}
use Rattle.dispatcher.proofs.Gaining.{gained-kept}
use Rattle.dispatcher.proofs.Standing.{bases-first, is-by-image, not-by-image}
use Rattle.dispatcher.proofs.Streams.{stream-stays, count-stays, count-grows}
use Rattle.dispatcher.proofs.Versions.{tables-stay}

-- what the laws say of what has come
pub record Arriving : Type 0 where
  pub nothing_from : NothingIsFrom
  pub commits_from : CommitsKeepFrom
  pub frames_from : FramesKeepFrom
  pub drops_from : DropsKeepFrom
  pub gains_from : GainsKeepFrom
  pub frames_leave : FramesLeaveWorkers
  pub drops_leave : DropsLeaveWorkers
  pub gains_leave : GainsLeaveWorkers
  pub frames_known : FramesStayKnown
  pub drops_known : DropsLeaveKnown
  pub gains_known : GainsAreKnown
  pub frames_kept : FramesStayKept
  pub drops_kept : DropsStayKept
  pub gains_kept : GainsLeaveKept
  pub nothing_of : NothingIsOf
  pub frames_of : FramesKeepOf

-- ---- the beginning

-- no piece has come
pub no-pieces-from : Arriving → (shape : Shape) (commits : List Commit) (base : ℕ) → base ≤ length commits
    → ArePiecesFrom shape commits (no_pieces base)
no-pieces-from laws shape commits base below = record {
  below = below;
  one = refl;
  are = laws.nothing_of (frames_of_base shape commits base) 1 0;
  kept = λ worker seq low known. absurd (true≢false (sym known ∙ none-known 1 worker seq));
}

pub fresh-fed : Arriving → FreshIsFed
fresh-fed laws schema commits workers number boot legal spelled = record {
  shape_is = refl;
  legal = legal;
  spelled = spelled;
  workers_are = length-replicate workers nothing;
  frames_are = laws.nothing_from commits workers;
  counted = length-replicate workers 0;
  applied_are = none-counted workers;
  applied_known = λ worker seq below. absurd (omega (arith, below, none-counted workers worker));
  others_kept = λ worker seq low known. absurd (true≢false (sym known ∙ none-known workers worker seq));
  below = omega arith;
  tables_are = λ whole. refl;
  pieces_are = no-pieces-from laws _ commits 0 (omega arith);
  fetched_is = λ fetched has. absurd (none-some fetched has);
  waiting_fit = tt;
  batch_fit = λ batch there. absurd (none-some batch there);
}

-- ---- commits

counts-stay : (commits more : List Commit) (version : ℕ) (counts : List ℕ) → version ≤ length commits
    → AreFrameCounts commits version counts
    → AreFrameCounts (commits ++ more) version counts
counts-stay commits more version counts below are worker = are worker ∙ sym (count-stays commits more worker version below)

module _ (shape : Shape) (commits more : List Commit) where
  fetched-stays : (version workers base : ℕ) (fetched : Fetched) → IsFetchedFrom shape commits version workers base fetched
      → IsFetchedFrom shape (commits ++ more) version workers base fetched
  fetched-stays version workers base fetched is =
      let below = is.below in
      let within : fetched.base ≤ length commits = omega (arith, is.base_within, is.below) in
      record {
        above = is.above;
        base_within = is.base_within;
        below = omega (arith, length-append commits more);
        counted = is.counted;
        counts_are = counts-stay commits more fetched.version fetched.counts is.below is.counts_are;
        lows_counted = is.lows_counted;
        lows_are = counts-stay commits more fetched.base fetched.lows within is.lows_are;
        pieces_are = is.pieces_are ∙ sym (ap length (pieces-stay shape commits more fetched.base within));
        of_base = is.of_base;
      }

  pieces-stay-from : (pieces : Pieces) → ArePiecesFrom shape commits pieces → ArePiecesFrom shape (commits ++ more) pieces
  pieces-stay-from pieces is =
      let below = is.below in
      record {
        below = omega (arith, length-append commits more);
        one = is.one;
        are =
            subst (λ (frames : List Frame). IsFrom frames (arrivals_of pieces.arrivals 0))
            (sym (base-stays shape commits more pieces.base is.below)) is.are;
        kept = is.kept;
      }

  fit-stays : (version : ℕ) (plans : List Plan) → version ≤ length commits → FitAt shape commits version plans
      → FitAt shape (commits ++ more) version plans
  fit-stays version plans below fit =
      subst (λ (tables : Tables). AllByRecursion (λ plan. checked (shape_in tables) plan ≡ Ok tt) plans)
      (sym (tables-stay shape commits more version below)) fit

pub commits-feed : Arriving → CommitsKeepFed
commits-feed laws shape commits more r legal spelled fed =
    let below = fed.below in
    record {
      shape_is = fed.shape_is;
      legal = legal;
      spelled = spelled;
      workers_are = fed.workers_are;
      frames_are = laws.commits_from commits more r.arrivals fed.frames_are;
      counted = fed.counted;
      applied_are = counts-stay commits more r.version r.applied fed.below fed.applied_are;
      applied_known = fed.applied_known;
      others_kept = fed.others_kept;
      below = omega (arith, length-append commits more);
      tables_are = λ whole. fed.tables_are whole ∙ sym (tables-stay shape commits more r.version fed.below);
      pieces_are = pieces-stay-from shape commits more r.pieces fed.pieces_are;
      fetched_is = λ fetched has.
          fetched-stays shape commits more r.version r.workers r.pieces.base fetched (fed.fetched_is fetched has);
      waiting_fit = fit-stays shape commits more r.version r.waiting fed.below fed.waiting_fit;
      batch_fit = λ batch there. fit-stays shape commits more r.version batch.plans fed.below (fed.batch_fit batch there);
    }

-- what is true of a list is true of each that goes on from it
pub truth-stays : TruthStays
truth-stays shape workers commits more (Err fault) h = tt
truth-stays shape workers commits more (Ok (datagrams.Frame worker seq commit last entries)) h = stream-stays commits more worker seq _ h
truth-stays shape workers commits more (Ok (datagrams.Ask replica boot request)) h = tt
truth-stays shape workers commits more (Ok (datagrams.Head head)) h =
    let below = h.below in
    let within : head.base ≤ length commits = omega (arith, h.base_within, h.below) in
    record {
      below = omega (arith, length-append commits more);
      base_within = h.base_within;
      counted = h.counted;
      counts_are = counts-stay commits more head.version head.counts h.below h.counts_are;
      lows_counted = h.lows_counted;
      lows_are = counts-stay commits more head.base head.lows within h.lows_are;
      pieces_are = h.pieces_are ∙ sym (ap length (pieces-stay shape commits more head.base within));
    }
truth-stays shape workers commits more (Ok (datagrams.Want replica worker from)) h = tt
truth-stays shape workers commits more (Ok (datagrams.Piece base number last entries)) h =
    let below = h.0 in (
      omega (arith, length-append commits more),
      ap (λ (frames : List Frame). slice_get frames number) (base-stays shape commits more base h.0) ∙ h.1,
    )
truth-stays shape workers commits more (Ok (datagrams.Pull replica base from)) h = tt

-- ---- a frame

-- with a frame of the list, or one that is not taken
taken-fed : (laws : Arriving) (shape : Shape) (commits : List Commit) (r : Replica) (bases : List ℕ) (frame : Frame)
    → IsFedFrom shape commits r → slice_get (stream_of commits frame.worker) frame.seq ≡ Some frame
    → IsFedFrom shape commits (record r { arrivals = (taken r.arrivals bases frame).1 })
taken-fed laws shape commits r bases frame fed is = record {
  shape_is = fed.shape_is;
  legal = fed.legal;
  spelled = fed.spelled;
  workers_are = laws.frames_leave r.arrivals bases frame ∙ fed.workers_are;
  frames_are = laws.frames_from commits r.arrivals bases frame is fed.frames_are;
  counted = fed.counted;
  applied_are = fed.applied_are;
  applied_known = λ worker seq below. laws.frames_known r.arrivals bases frame worker seq (fed.applied_known worker seq below);
  others_kept = laws.frames_kept r.arrivals r.applied bases frame fed.others_kept;
  below = fed.below;
  tables_are = fed.tables_are;
  pieces_are = fed.pieces_are;
  fetched_is = fed.fetched_is;
  waiting_fit = fed.waiting_fit;
  batch_fit = fed.batch_fit;
}

frame-feeds : (laws : Arriving) (shape : Shape) (commits : List Commit) (r : Replica) (frame : Frame) → IsFedFrom shape commits r
    → slice_get (stream_of commits frame.worker) frame.seq ≡ Some frame
    → IsFedFrom shape commits (frame_comes r frame).1
frame-feeds laws shape commits r frame fed is =
    cond_both (not (nat_lt frame.worker r.workers) || not (have_tables r frame.entries))
    (got.Ignored, r) (got_of (frame_taken r frame).0, record r { arrivals = (frame_taken r frame).1 })
    (λ (answer : Got × Replica). IsFedFrom shape commits answer.1)
    (λ not_taken. fed) (λ takes. taken-fed laws shape commits r _ frame fed is)

-- ---- a piece

-- the same replica with other pieces of the same base
collected-fed : (shape : Shape) (commits : List Commit) (r : Replica) (arrivals : List Arrivals) → IsFedFrom shape commits r
    → ArePiecesFrom shape commits (record r.pieces { arrivals = arrivals })
    → IsFedFrom shape commits (record r { pieces = record r.pieces { arrivals = arrivals } })
collected-fed shape commits r arrivals fed is = record {
  shape_is = fed.shape_is;
  legal = fed.legal;
  spelled = fed.spelled;
  workers_are = fed.workers_are;
  frames_are = fed.frames_are;
  counted = fed.counted;
  applied_are = fed.applied_are;
  applied_known = fed.applied_known;
  others_kept = fed.others_kept;
  below = fed.below;
  tables_are = fed.tables_are;
  pieces_are = is;
  fetched_is = fed.fetched_is;
  waiting_fit = fed.waiting_fit;
  batch_fit = fed.batch_fit;
}

-- a piece that is wanted is of the base of those that are kept
wanted-base : (version : ℕ) (found : Option Fetched) (base number kept : ℕ)
    → ((fetched : Fetched) → found ≡ Some fetched → by_image version fetched ≡ true → kept ≡ fetched.base)
    → wants_piece version found base number ≡ true → base ≡ kept
wanted-base version None base number kept are h = absurd (false≢true h)
wanted-base version (Some fetched) base number kept are h =
    let front = and_parts (by_image version fetched && (base == fetched.base)) (nat_lt number fetched.pieces) h in
    let parts = and_parts (by_image version fetched) (base == fetched.base) front.0 in
    eqb-true base fetched.base parts.1 ∙ sym (are fetched refl parts.0)

piece-feeds : (laws : Arriving) (shape : Shape) (commits : List Commit) (r : Replica) (base number : ℕ) (piece : Frame)
    → IsFedFrom shape commits r → piece.worker ≡ 0 → piece.commit ≡ base → piece.seq ≡ number
    → slice_get (frames_of_base shape commits base) number ≡ Some piece
    → IsFedFrom shape commits (piece_comes r piece).1
piece-feeds laws shape commits r base number piece fed worker_is base_is number_is is =
    by (wants_piece r.version (fetched_for r.batch) piece.commit piece.seq) refl (not (have_tables r piece.entries))
  where
    came : List Arrivals
    came = (taken r.pieces.arrivals [] piece).1

    stored : wants_piece r.version (fetched_for r.batch) piece.commit piece.seq ≡ true
        → ArePiecesFrom shape commits (record r.pieces { arrivals = came })
    stored wanted =
        let same : piece.commit ≡ r.pieces.base =
        wanted-base r.version (fetched_for r.batch) piece.commit piece.seq r.pieces.base
        (λ fetched has. (fed.fetched_is fetched has).of_base) wanted in
        let found : slice_get (frames_of_base shape commits r.pieces.base) piece.seq ≡ Some piece =
        ap (λ (n : ℕ). slice_get (frames_of_base shape commits r.pieces.base) n) number_is
        ∙ ap (λ (base : ℕ). slice_get (frames_of_base shape commits base) number) (sym same ∙ base_is) ∙ is in
        record {
          below = fed.pieces_are.below;
          one = laws.frames_leave r.pieces.arrivals [] piece ∙ fed.pieces_are.one;
          are =
              subst (λ (worker : ℕ). IsFrom (frames_of_base shape commits r.pieces.base) (arrivals_of came worker)) worker_is
              (laws.frames_of (frames_of_base shape commits r.pieces.base) r.pieces.arrivals [] piece found
              (subst (λ (worker : ℕ). IsFrom (frames_of_base shape commits r.pieces.base) (arrivals_of r.pieces.arrivals worker))
              (sym worker_is) fed.pieces_are.are));
          kept = laws.frames_kept r.pieces.arrivals [] [] piece fed.pieces_are.kept;
        }

    by : (wanted : Bool) → wants_piece r.version (fetched_for r.batch) piece.commit piece.seq ≡ wanted → (unfit : Bool)
        → IsFedFrom shape commits (cond {A = Got × Replica} (not wanted || unfit) (got.Ignored, r)
        (got_of (taken r.pieces.arrivals [] piece).0, record r { pieces = record r.pieces { arrivals = came } })).1
    by true e true = fed
    by true e false = collected-fed shape commits r came fed (stored e)
    by false e unfit = fed

-- ---- its queries

-- one thing is fetched for a batch
same-fetched : (batch : Option Batch) (fetched found : Fetched) → fetched_for batch ≡ Some fetched → fetched_for batch ≡ Some found
    → fetched ≡ found
same-fetched batch fetched found e f = same_Some fetched found (sym e ∙ f)

-- the same replica with other queries and pieces, for whose batch nothing was fetched that is not of the list
queries-fed : (shape : Shape) (commits : List Commit) (r : Replica) (request : ℕ) (waiting : List Plan) (batch : Option Batch)
    (pieces : Pieces) → IsFedFrom shape commits r
    → ArePiecesFrom shape commits pieces
    → ((fetched : Fetched) → fetched_for batch ≡ Some fetched → IsFetchedFrom shape commits r.version r.workers pieces.base fetched)
    → FitAt shape commits r.version waiting
    → ((queries : Batch) → batch ≡ Some queries → FitAt shape commits r.version queries.plans)
    → IsFedFrom shape commits (record r { request = request; waiting = waiting; batch = batch; pieces = pieces })
queries-fed shape commits r request waiting batch pieces fed are is waiting_fit batch_fit = record {
  shape_is = fed.shape_is;
  legal = fed.legal;
  spelled = fed.spelled;
  workers_are = fed.workers_are;
  frames_are = fed.frames_are;
  counted = fed.counted;
  applied_are = fed.applied_are;
  applied_known = fed.applied_known;
  others_kept = fed.others_kept;
  below = fed.below;
  tables_are = fed.tables_are;
  pieces_are = are;
  fetched_is = is;
  waiting_fit = waiting_fit;
  batch_fit = batch_fit;
}

-- ---- a Head

-- one that goes on is not below the replica's version
goes-up : (r : Replica) (head : Head) → goes_on r head ≡ true → r.version ≤ head.version
goes-up r head h = by (by_image r.version (fetched_by head)) refl (leb-true (first_version r.version (fetched_by head)) head.version second)
  where
    many : Bool
    many = length head.counts == r.workers

    up : Bool
    up = nat_le (first_version r.version (fetched_by head)) head.version

    lows : Bool
    lows = pointwise nat_le r.applied (first_counts r.version r.applied (fetched_by head))

    second : up ≡ true
    second =
        let front = (and_parts (many && up && lows) _ h).0 in
        let both = (and_parts (many && up) lows front).0 in
        (and_parts many up both).1

    by : (image : Bool) → by_image r.version (fetched_by head) ≡ image → cond image head.base r.version ≤ head.version
        → r.version ≤ head.version
    by true e on = omega (arith, is-by-image r.version (fetched_by head) e)
    by false e on = on

-- the pieces that are kept once it is taken
pieces-for-from : (laws : Arriving) (shape : Shape) (commits : List Commit) (base : ℕ) (pieces : Pieces) → base ≤ length commits
    → ArePiecesFrom shape commits pieces
    → ArePiecesFrom shape commits (pieces_for base pieces) × ((pieces_for base pieces).base ≡ base)
pieces-for-from laws shape commits base pieces below are = by (pieces.base == base) refl
  where
    by : (same : Bool) → (pieces.base == base) ≡ same
        → ArePiecesFrom shape commits (cond same pieces (no_pieces base)) × ((cond same pieces (no_pieces base)).base ≡ base)
    by true e = (are, eqb-true pieces.base base e)
    by false e = (no-pieces-from laws shape commits base below, refl)

head-feeds : (laws : Arriving) (shape : Shape) (commits : List Commit) (r : Replica) (head : Head) → IsFedFrom shape commits r
    → IsTrueHead shape r.workers commits head → IsFedFrom shape commits (own_head_comes r head).1
head-feeds laws shape commits r head fed is =
    cond_both (goes_on r head) (headed r head (takes_head (protocol_of r) head r.batch)) (got.Ignored, r)
    (λ (answer : Got × Replica). IsFedFrom shape commits answer.1)
    (λ goes. by_batch (goes-up r head goes) r.batch refl) (λ other. fed)
  where
    found : Fetched
    found = fetched_by head

    kept : ArePiecesFrom shape commits (pieces_for head.base r.pieces) × ((pieces_for head.base r.pieces).base ≡ head.base)
    kept = pieces-for-from laws shape commits head.base r.pieces (omega (arith, is.base_within, is.below)) fed.pieces_are

    true-found : r.version ≤ head.version
        → IsFetchedFrom shape commits r.version r.workers (pieces_for head.base r.pieces).base found
    true-found up = record {
      above = up;
      base_within = is.base_within;
      below = is.below;
      counted = is.counted;
      counts_are = is.counts_are;
      lows_counted = is.lows_counted;
      lows_are = is.lows_are;
      pieces_are = is.pieces_are;
      of_base = λ image. kept.1;
    }

    by_fetched : r.version ≤ head.version → (plans : List Plan) (fetched : Option Fetched)
        → r.batch ≡ Some (record { plans = plans; fetched = fetched })
        → IsFedFrom shape commits (headed r head (takes_head (protocol_of r) head (Some (record { plans = plans; fetched = fetched })))).1
    by_fetched up plans (Some fetched) there = fed
    by_fetched up plans None there =
        let made : Batch = record { plans = plans; fetched = Some found } in
        queries-fed shape commits r r.request r.waiting (Some made) (pieces_for head.base r.pieces) fed kept.0
        (λ other has. subst (IsFetchedFrom shape commits r.version r.workers (pieces_for head.base r.pieces).base)
        (same_Some found other has) (true-found up))
        fed.waiting_fit
        (λ queries same. subst (λ (batch : Batch). FitAt shape commits r.version batch.plans) (same_Some made queries same)
        (fed.batch_fit (record { plans = plans; fetched = None }) there))

    by_batch : r.version ≤ head.version → (batch : Option Batch) → r.batch ≡ batch
        → IsFedFrom shape commits (headed r head (takes_head (protocol_of r) head batch)).1
    by_batch up None there = fed
    by_batch up (Some batch) there = by_fetched up batch.plans batch.fetched there

pub head-goes-on : TrueHeadGoesOn
head-goes-on shape commits r head fed is up =
    all (length head.counts == r.workers) (nat_le (first_version r.version found) head.version)
    (pointwise nat_le r.applied (first_counts r.version r.applied found))
    (pointwise nat_le (first_counts r.version r.applied found) head.counts)
    (eq-eqb (length head.counts) r.workers is.counted)
    (le-leb (first_version r.version found) head.version (first-up (by_image r.version found)))
    (le-pointwise r.applied (first_counts r.version r.applied found)
    (fed.counted ∙ sym (many (by_image r.version found)))
    (λ worker. omega (arith, fed.applied_are worker, (counted (by_image r.version found) refl worker).0)))
    (le-pointwise (first_counts r.version r.applied found) head.counts
    (many (by_image r.version found) ∙ sym is.counted)
    (λ worker. omega (arith, is.counts_are worker, (counted (by_image r.version found) refl worker).1)))
  where
    found : Fetched
    found = fetched_by head

    first-up : (image : Bool) → cond image head.base r.version ≤ head.version
    first-up true = is.base_within
    first-up false = up

    many : (image : Bool) → length (cond image head.lows r.applied) ≡ r.workers
    many true = is.lows_counted
    many false = fed.counted

    -- what it catches up from has no fewer frames than were applied, and no more than the Head counts
    counted : (image : Bool) → by_image r.version found ≡ image → (worker : ℕ)
        → (frame_count commits worker r.version ≤ slice_index (cond image head.lows r.applied) worker)
        × (slice_index (cond image head.lows r.applied) worker ≤ frame_count commits worker head.version)
    counted true e worker = (
      omega (arith, is.lows_are worker, count-grows commits worker r.version head.base (omega (arith, is-by-image r.version found e))),
      omega (arith, is.lows_are worker, count-grows commits worker head.base head.version is.base_within),
    )
    counted false e worker = (
      omega (arith, fed.applied_are worker),
      omega (arith, fed.applied_are worker, count-grows commits worker r.version head.version up),
    )

    all : (a b c d : Bool) → a ≡ true → b ≡ true → c ≡ true → d ≡ true → (a && b && c && d) ≡ true
    all a b c d e f g h = rw (e, f, g, h) refl

-- ---- bytes

datagram-feeds : (laws : Arriving) (shape : Shape) (commits : List Commit) (r : Replica) (datagram : Result Datagram WireFault)
    → IsFedFrom shape commits r → Tells shape r.workers commits datagram
    → IsFedFrom shape commits (datagram_comes r datagram).1
datagram-feeds laws shape commits r (Err fault) fed tells = fed
datagram-feeds laws shape commits r (Ok (datagrams.Frame worker seq commit last entries)) fed tells =
    frame-feeds laws shape commits r (record { worker = worker; seq = seq; commit = commit; last = last; entries = entries }) fed tells
datagram-feeds laws shape commits r (Ok (datagrams.Ask replica boot request)) fed tells = fed
datagram-feeds laws shape commits r (Ok (datagrams.Head head)) fed tells =
    cond_both (is_own (protocol_of r) head) (own_head_comes r head) (got.Ignored, r)
    (λ (answer : Got × Replica). IsFedFrom shape commits answer.1)
    (λ own. head-feeds laws shape commits r head fed tells) (λ other. fed)
datagram-feeds laws shape commits r (Ok (datagrams.Want replica worker from)) fed tells = fed
datagram-feeds laws shape commits r (Ok (datagrams.Piece base number last entries)) fed tells =
    piece-feeds laws shape commits r base number (piece_frame base number last entries) fed refl refl refl tells.1
datagram-feeds laws shape commits r (Ok (datagrams.Pull replica base from)) fed tells = fed

pub bytes-feed : Arriving → BytesKeepFed
bytes-feed laws shape commits r bytes fed tells =
    cond_both r.broken (got.Broken, r) (datagram_comes r (reading bytes)) (λ (answer : Got × Replica). IsFedFrom shape commits answer.1)
    (λ broken. fed) (λ whole. datagram-feeds laws shape commits r (reading bytes) fed tells)

-- ---- queries

-- what a step of its protocol left
pub stepped-left : {Answer Fault : Type 0} (r : Replica) (step : Result (Answer × Protocol) Fault) (answer : Answer) (new : Replica)
    → stepped r step ≡ Ok (answer, new) → (q : Protocol) × (step ≡ Ok (answer, q)) × (new ≡ with_protocol r q)
stepped-left {Answer} r (Ok step) answer new h =
    let same : ◌≡◌ {A = Answer × Replica} (step.0, with_protocol r step.1) (answer, new) = cc in (
      step.1,
      ap (λ (x : Answer × Replica). Ok (x.0, step.1)) same,
      sym (ap (λ (x : Answer × Replica). x.1) same),
    )
stepped-left r (Err fault) answer new h = absurd (cc)

-- what a step of its protocol leaves is fed: what was fetched for its batch was before, and its queries fit
record LeavesFed (shape : Shape) (commits : List Commit) (version : ℕ) (old new : Protocol) : Type 0 where
  fetched_was : (fetched : Fetched) → fetched_for new.batch ≡ Some fetched → fetched_for old.batch ≡ Some fetched
  waiting_fit : FitAt shape commits version new.waiting
  batch_fit : (batch : Batch) → new.batch ≡ Some batch → FitAt shape commits version batch.plans

abbrev Leaves : {Answer Fault : Type 0} → Shape → List Commit → ℕ → Protocol → Result (Answer × Protocol) Fault → Type 0
Leaves shape commits version q (Ok step) = LeavesFed shape commits version q step.1
Leaves shape commits version q (Err fault) = Unit {0}

step-feeds : {Answer Fault : Type 0} (shape : Shape) (commits : List Commit) (r : Replica) (step : Result (Answer × Protocol) Fault)
    (answer : Answer) (new : Replica) → IsFedFrom shape commits r → Leaves shape commits r.version (protocol_of r) step
    → stepped r step ≡ Ok (answer, new) → IsFedFrom shape commits new
step-feeds {Answer} {Fault} shape commits r step answer new fed leaves h =
    let left = stepped-left r step answer new h in
    let q = left.0 in
    let is : LeavesFed shape commits r.version (protocol_of r) q =
    subst (λ (s : Result (Answer × Protocol) Fault). Leaves shape commits r.version (protocol_of r) s) left.1 leaves in
    subst (IsFedFrom shape commits) (sym left.2) (queries-fed shape commits r q.request q.waiting q.batch r.pieces fed fed.pieces_are
    (λ fetched has. fed.fetched_is fetched (is.fetched_was fetched has)) is.waiting_fit is.batch_fit)

-- its queries as they were
pub fit-more : (shape : Shape) (commits : List Commit) (version : ℕ) (plans : List Plan) (plan : Plan)
    → FitAt shape commits version plans → checked (shape_in (tables_after shape commits version)) plan ≡ Ok tt
    → FitAt shape commits version (plans ++ plan ∷ [])
fit-more shape commits version [] plan h own = (own, tt)
fit-more shape commits version (first ∷ plans) plan h own = (h.0, fit-more shape commits version plans plan h.1 own)

pub open-feeds : OpenKeepsFed
open-feeds shape commits r plan count new fed h =
    step-feeds shape commits r (opens_query q plan (checked (shape_in r.tables) plan)) count new fed
    (by r.broken refl (nat_le WAITING_QUERIES_MAX (length r.waiting)) (checked (shape_in r.tables) plan) refl) h
  where
    q : Protocol
    q = protocol_of r

    by : (broken : Bool) → r.broken ≡ broken → (full : Bool) (check : Result (Unit {0}) PlanFault)
        → checked (shape_in r.tables) plan ≡ check
        → Leaves shape commits r.version q
        (cond {A = Result (ℕ × Protocol) OpenFault} broken (Err opens.Broken)
        (cond full (Err opens.BatchFull) (opens_checked q plan check)))
    by true whole full check is = tt
    by false whole true check is = tt
    by false whole false (Err fault) is = tt
    by false whole false (Ok fits) is = record {
      fetched_was = λ fetched has. has;
      waiting_fit =
          fit-more shape commits r.version r.waiting plan fed.waiting_fit
          (ap (λ (tables : Tables). checked (shape_in tables) plan) (sym (fed.tables_are whole)) ∙ is);
      batch_fit = fed.batch_fit;
    }

-- a batch of the queries that waited
begun-leaves : (shape : Shape) (commits : List Commit) (r : Replica) → IsFedFrom shape commits r
    → LeavesFed shape commits r.version (protocol_of r) (with_batch (protocol_of r))
begun-leaves shape commits r fed = record {
  fetched_was = λ fetched has. absurd (none-some fetched has);
  waiting_fit = tt;
  batch_fit = λ batch there.
      subst (λ (batch : Batch). FitAt shape commits r.version batch.plans)
      (same_Some (record { plans = r.waiting; fetched = None }) batch there) fed.waiting_fit;
}

same-leaves : (shape : Shape) (commits : List Commit) (r : Replica) → IsFedFrom shape commits r
    → LeavesFed shape commits r.version (protocol_of r) (protocol_of r)
same-leaves shape commits r fed =
    record { fetched_was = λ fetched has. has; waiting_fit = fed.waiting_fit; batch_fit = fed.batch_fit }

pub ask-feeds : AskKeepsFed
ask-feeds shape commits r out new fed h = step-feeds shape commits r (asks_version q) out new fed (by r.broken r.batch) h
  where
    q : Protocol
    q = protocol_of r

    again : (plans : List Plan) (fetched : Option Fetched)
        → Leaves shape commits r.version q (asks_by q (Some (record { plans = plans; fetched = fetched })))
    again plans None = same-leaves shape commits r fed
    again plans (Some fetched) = tt

    first : (empty : Bool) → Leaves shape commits r.version q (cond {A = Result (Out × Protocol) AskFault} empty (Err asks.Empty)
        (Ok (ask_for q.number q.boot (q.request + 1), with_batch q)))
    first true = tt
    first false = begun-leaves shape commits r fed

    by : (broken : Bool) (batch : Option Batch) → Leaves shape commits r.version q (cond broken (Err asks.Broken) (asks_by q batch))
    by true batch = tt
    by false None = first (length q.waiting == 0)
    by false (Some batch) = again batch.plans batch.fetched

pub renew-feeds : RenewKeepsFed
renew-feeds shape commits r out new fed h = step-feeds shape commits r (renews_version q) out new fed (by r.broken r.batch refl) h
  where
    q : Protocol
    q = protocol_of r

    again : (plans : List Plan) (fetched : Option Fetched) → r.batch ≡ Some (record { plans = plans; fetched = fetched })
        → Leaves shape commits r.version q (renews_by q (Some (record { plans = plans; fetched = fetched })))
    again plans None there = tt
    again plans (Some found) there = record {
      fetched_was = λ fetched has. absurd (none-some fetched has);
      waiting_fit = fed.waiting_fit;
      batch_fit = λ batch same.
          subst (λ (batch : Batch). FitAt shape commits r.version batch.plans)
          (same_Some (record { plans = plans; fetched = None }) batch same)
          (fed.batch_fit (record { plans = plans; fetched = Some found }) there);
    }

    by : (broken : Bool) (batch : Option Batch) → r.batch ≡ batch
        → Leaves shape commits r.version q (cond broken (Err asks.Broken) (renews_by q batch))
    by true batch there = tt
    by false None there = tt
    by false (Some batch) there = again batch.plans batch.fetched there

-- ---- runs

-- it is broken
pub broken-fed : Arriving → (shape : Shape) (commits : List Commit) (r : Replica) → IsFedFrom shape commits r
    → IsFedFrom shape commits (broken_of r)
broken-fed laws shape commits r fed = record {
  shape_is = fed.shape_is;
  legal = fed.legal;
  spelled = fed.spelled;
  workers_are = fed.workers_are;
  frames_are = fed.frames_are;
  counted = fed.counted;
  applied_are = fed.applied_are;
  applied_known = fed.applied_known;
  others_kept = fed.others_kept;
  below = fed.below;
  tables_are = λ whole. absurd (true≢false whole);
  pieces_are = no-pieces-from laws shape commits r.pieces.base fed.pieces_are.below;
  fetched_is = fed.fetched_is;
  waiting_fit = fed.waiting_fit;
  batch_fit = fed.batch_fit;
}

module _ (laws : Arriving) (merges : Merges) (shape : Shape) (commits : List Commit) (r : Replica) (batch : Batch) (fetched : Fetched)
    (fed : IsFedFrom shape commits r) (can : CanAnswer r batch fetched) where
  fetched_for_it : IsFetchedFrom shape commits r.version r.workers r.pieces.base fetched
  fetched_for_it = is-fetched merges shape commits r batch fetched fed can

  -- it stands at the version that was fetched, its batch still there
  abbrev caught : Replica
  caught = at_fetched r fetched (tables_after shape commits fetched.version)

  -- what it catches up from has no fewer frames than were applied, and no more than were counted
  firsts-are : (worker : ℕ)
      → (slice_index r.applied worker ≤ slice_index (first_counts r.version r.applied fetched) worker)
      × (slice_index (first_counts r.version r.applied fetched) worker ≤ slice_index fetched.counts worker)
  firsts-are worker = by (by_image r.version fetched) refl
    where
      by : (image : Bool) → by_image r.version fetched ≡ image
          → (slice_index r.applied worker ≤ slice_index (cond image fetched.lows r.applied) worker)
          × (slice_index (cond image fetched.lows r.applied) worker ≤ slice_index fetched.counts worker)
      by true e = (
        omega (
          arith,
          fed.applied_are worker,
          fetched_for_it.lows_are worker,
          count-grows commits worker r.version fetched.base (omega (arith, is-by-image r.version fetched e)),
        ),
        omega (
          arith,
          fetched_for_it.lows_are worker,
          fetched_for_it.counts_are worker,
          count-grows commits worker fetched.base fetched.version fetched_for_it.base_within,
        ),
      )
      by false e = (
        omega arith,
        omega (
          arith,
          fed.applied_are worker,
          fetched_for_it.counts_are worker,
          count-grows commits worker r.version fetched.version fetched_for_it.above,
        ),
      )

  -- the bases are within the streams
  bases-are : (worker : ℕ) → slice_index (bases_at r.version fetched) worker ≤ length (stream_of commits worker)
  bases-are worker =
      let all : frame_count commits worker (length commits) ≡ length (stream_of commits worker) =
      ap (λ (l : List Commit). length (stream_of l worker)) (take_all (length commits) commits (omega arith)) in
      omega (
        arith,
        bases-first r.version r.applied fetched worker,
        (firsts-are worker).1,
        fetched_for_it.counts_are worker,
        count-grows commits worker fetched.version (length commits) fetched_for_it.below,
        all,
      )

  known-then : (worker seq : ℕ) → seq < slice_index fetched.counts worker
      → is_known (known_of (gained r.arrivals (bases_at r.version fetched)) worker) seq ≡ true
  known-then worker seq below = elim (cases_lt worker (length r.arrivals)) [
    | inl within ↦
        laws.gains_known r.arrivals (bases_at r.version fetched) worker seq within
        ∙ elim (cases_lt seq (slice_index (bases_at r.version fetched) worker)) [
          | inl under ↦ or_left (nat_lt seq (slice_index (bases_at r.version fetched) worker)) (is_known (known_of r.arrivals worker) seq)
              (lt-ltb seq (slice_index (bases_at r.version fetched) worker) under)
          | inr above ↦ or_right (nat_lt seq (slice_index (bases_at r.version fetched) worker)) (is_known (known_of r.arrivals worker) seq)
              (each-known merges shape commits r batch fetched fed can worker seq above below)
        ]
    | inr past ↦
        let none : slice_index fetched.counts worker ≡ 0 =
        get_or_past fetched.counts worker 0 (omega (arith, past, fetched_for_it.counted, fed.workers_are)) in
        absurd (omega (arith, below, none))
  ]

  pub caught-fed : IsFedFrom shape commits caught
  caught-fed = record {
    shape_is = fed.shape_is;
    legal = fed.legal;
    spelled = fed.spelled;
    workers_are =
        laws.drops_leave (gained r.arrivals (bases_at r.version fetched)) fetched.counts
        ∙ laws.gains_leave r.arrivals (bases_at r.version fetched) ∙ fed.workers_are;
    frames_are =
        laws.drops_from commits (gained r.arrivals (bases_at r.version fetched)) fetched.counts
        (laws.gains_from commits r.arrivals (bases_at r.version fetched) bases-are fed.frames_are);
    counted = fetched_for_it.counted;
    applied_are = fetched_for_it.counts_are;
    applied_known = λ worker seq below.
        subst (λ (known : List ℕ). is_known known seq ≡ true)
        (sym (laws.drops_known (gained r.arrivals (bases_at r.version fetched)) fetched.counts worker))
        (known-then worker seq below);
    others_kept =
        gained-kept laws.gains_leave laws.gains_known laws.gains_kept laws.drops_kept r.arrivals r.applied (bases_at r.version fetched)
        (first_counts r.version r.applied fetched) fetched.counts (bases-first r.version r.applied fetched)
        (λ worker. (firsts-are worker).0)
        (λ worker. (firsts-are worker).1) fed.others_kept;
    below = fetched_for_it.below;
    tables_are = λ whole. refl;
    pieces_are = no-pieces-from laws shape commits 0 (omega arith);
    fetched_is = λ found has.
        subst (IsFetchedFrom shape commits fetched.version r.workers 0)
        (same-fetched r.batch fetched found (can-fetched r batch fetched can) has)
        (record {
          above = omega arith;
          base_within = fetched_for_it.base_within;
          below = fetched_for_it.below;
          counted = fetched_for_it.counted;
          counts_are = fetched_for_it.counts_are;
          lows_counted = fetched_for_it.lows_counted;
          lows_are = fetched_for_it.lows_are;
          pieces_are = fetched_for_it.pieces_are;
          of_base = λ image.
              absurd (true≢false (sym image ∙ not-by-image fetched.version fetched fetched_for_it.base_within));
        });
    waiting_fit =
        fit-later merges shape commits r.workers r.version fetched.version r.waiting fed.legal fetched_for_it.above fed.waiting_fit;
    batch_fit = λ queries there.
        fit-later merges shape commits r.workers r.version fetched.version queries.plans fed.legal fetched_for_it.above
        (fed.batch_fit queries there);
  }

  -- it stands there, its batch answered
  pub finished-fed : IsFedFrom shape commits (record caught { batch = None })
  finished-fed =
      queries-fed shape commits caught r.request r.waiting None (no_pieces 0) caught-fed (no-pieces-from laws shape commits 0 (omega arith))
      (λ found has. absurd (none-some found has)) caught-fed.waiting_fit (λ queries there. absurd (none-some queries there))

-- ---- two replicas

-- a version has the same tables at both
pub same-tables : VersionTellsTables
same-tables shape commits more r other fed later whole whole_too same =
    let below = fed.below in
    fed.tables_are whole
    ∙ ap (tables_after shape commits) same
    ∙ sym (tables-stay shape commits more other.version (omega arith))
    ∙ sym (later.tables_are whole_too)
