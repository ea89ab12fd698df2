-- Running a batch does at a replica of sound parts what it does at its member, also where it is cut short.
use Rattle.std.proofs.Common.{◌≡◌, ℕ, ◌+◌, ◌<◌, cond, nat_lt, List, [], ◌∷◌, ◌++◌, length, Option, Some, None, Result, Ok, Err}
use Rattle.std.proofs.Common.{refl, sym, ap, subst, ◌∙◌, ◌⊎◌, inl, inr}
use Rattle.std.specs.Prelude.{IsOkAnd}
use Rattle.std.specs.List.{slice_get, slice_index}
use Rattle.std.proofs.lemmas.Option.{none-some}
use Rattle.rows.specs.Shape.{Shape, shape_of}
use Rattle.rows.specs.Tables.{Tables, Refusal}
use Rattle.rows.specs.Commits.{tables_after, apply_commits}
use Rattle.wire.specs.Reading.{reading}
use Rattle.intake.specs.State.{Arrivals}
use Rattle.intake.specs.Known.{with_below}
use Rattle.intake.specs.Steps.{gained, dropped, missing_at, lacking, lacking_from as arrivals_lacking_from}
use Rattle.dispatcher.specs.declared.outcome.Run.{Run}
use Rattle.dispatcher.specs.declared.outcome.Run.TheVariants as runs
use Rattle.queries.specs.declared.plan.Plan.{Plan}
use Rattle.dispatcher.specs.Feeding.{IsFedFrom, Tells}
use Rattle.dispatcher.specs.State.{Replica, Batch, Fetched}
use Rattle.dispatcher.specs.Protocol.{Readiness, Broken, NoBatch, WaitsForHead, WaitsForPiece, WaitsForFrame, Ready, want_for, pull_for}
use Rattle.dispatcher.specs.Protocol.{by_image, bases_at, lack_of, lack_at, readiness, fetched_in}
use Rattle.dispatcher.specs.Report.{report_of}
use Rattle.dispatcher.specs.Steps.{first_tables, to_apply, at_fetched, broken_of, readiness_of, CaughtUp, RunsAs, RunsOutOfMemory}
use Rattle.script.specs.declared.output.Output.{Output}
use Rattle.script.specs.declared.output.Output.TheVariants as outputs
use Rattle.world.specs.Cores.{Cores}
use Rattle.world.specs.Inner.CoreSteps.{with_replica, with_sent, run_output}
use Rattle.world.specs.Steps.{World, Member, arrived, known_in, arrived_pieces, known_pieces, readiness_at, caught_up, run_happens}
use Rattle.world.specs.Steps.{with_member}
use Rattle.world.specs.Allowed.{RunIsInterrupted}
use Rattle.world.specs.Inner.Sound.{Sound}
use Rattle.world.specs.Standing.{boots_at, world_of, member_of}
use Rattle.world.proofs.Datagrams.{want-reads, pull-reads}
use Rattle.world.proofs.FedLaws.{FedLaws}
use Rattle.world.proofs.Lists.{set-same}
use Rattle.world.proofs.Moving.{TakesMemory}
use Rattle.world.proofs.Worlds.{member_at, member-changes}
use Rattle.world.proofs.WorldMoves.{Found, found-is}
use Rattle.world.proofs.Moves.{Follows, Sound-replica, Sound-one, Follows-same}
use Rattle.world.proofs.Replicas.{Follows-goes, arrived-known, one-known}

-- ---- what is known and what is missing

-- what is dropped stays known
known-dropped : (arrivals : List Arrivals) (counts : List ℕ) → known_in (dropped arrivals counts) ≡ known_in arrivals
known-dropped [] counts = refl
known-dropped (first ∷ arrivals) [] = refl
known-dropped (first ∷ arrivals) (count ∷ counts) = ap (λ l. first.known ∷ l) (known-dropped arrivals counts)

-- what an image stands for is known by the seqs that were
gained-known : (arrivals : List Arrivals) (bases : List ℕ)
    → known_in (gained (arrived (known_in arrivals)) bases) ≡ known_in (gained arrivals bases)
gained-known arrivals [] = arrived-known (known_in arrivals)
gained-known [] (base ∷ bases) = refl
gained-known (first ∷ arrivals) (base ∷ bases) = ap (λ l. with_below first.known base ∷ l) (gained-known arrivals bases)

lacking-from : (worker : ℕ) (arrivals : List Arrivals) (bases counts : List ℕ)
    → arrivals_lacking_from worker (arrived (known_in arrivals)) bases counts ≡ arrivals_lacking_from worker arrivals bases counts
lacking-from worker [] bases counts = refl
lacking-from worker (first ∷ arrivals) bases [] = refl
lacking-from worker (first ∷ arrivals) bases (count ∷ counts) =
    ap (λ (rest : Option (ℕ × ℕ)). cond (nat_lt (missing_at bases worker first) count) (Some (worker, missing_at bases worker first)) rest)
    (lacking-from (worker + 1) arrivals bases counts)

-- what a batch lacks is told by the seqs and the pieces that are known
lack-same : (r : Replica) (fetched : Fetched) → length r.pieces.arrivals ≡ 1
    → lack_at r.version (arrived_pieces (known_pieces r.pieces)) (arrived (known_in r.arrivals)) fetched
    ≡ lack_at r.version r.pieces r.arrivals fetched
lack-same r fetched one =
    let lacks : List Arrivals → Option (ℕ × ℕ) = λ arrivals. lacking arrivals [] (fetched.pieces ∷ []) in
    let piece : lacks (arrived_pieces (known_pieces r.pieces)).arrivals ≡ lacks r.pieces.arrivals =
    ap (λ (l : List (List ℕ)). lacks (arrived l)) (one-known r.pieces.arrivals one)
    ∙ lacking-from 0 r.pieces.arrivals [] (fetched.pieces ∷ []) in
    let frame = lacking-from 0 r.arrivals (bases_at r.version fetched) fetched.counts in
    λ i. lack_of (cond (by_image r.version fetched) (piece i) None) (frame i)

-- what a run finds is told by them
pub readiness-same : (had : List ℕ) (at : ℕ) (r : Replica) → length r.pieces.arrivals ≡ 1
    → readiness_at (member_of had at r) ≡ readiness_of r
readiness-same had at r one = λ i. readiness r.broken r.batch (λ fetched. lack-same r fetched one i)

-- its member at the version that was fetched
caught-member : (had : List ℕ) (at : ℕ) (r : Replica) (fetched : Fetched) (tables : Tables) (batch : Option Batch)
    → member_of had at (record (at_fetched r fetched tables) { batch = batch }) ≡ caught_up (member_of had at r) fetched batch
caught-member had at r fetched tables batch =
    let bases = bases_at r.version fetched in
    ap (λ (known : List (List ℕ)). record (caught_up (member_of had at r) fetched batch) { known = known })
    (known-dropped (gained r.arrivals bases) fetched.counts ∙ sym (gained-known r.arrivals bases))

-- ---- the run

module _ (laws : FedLaws) (shape : Shape) (p : Cores) (i : ℕ) (r : Replica) (sound : Sound shape p) (here : slice_get p.replicas i ≡ Some r)
  where
    -- a run that leaves the replica as it was
    run-same : (there : Output × World) (answer : Run) (after : Replica) (known : Run) → after ≡ r → answer ≡ known
        → Follows shape there (run_output p i (known, r)) → Follows shape there (run_output p i (answer, after))
    run-same there answer after known same is follows =
        let pair : (answer, after) ≡ (known, r) = cc in
        subst (λ (x : Run × Replica). Follows shape there (run_output p i x)) (sym pair) follows

    -- a run that sends a datagram, which tells nothing of the list
    run-sends : (bytes : List ℕ) (output : Output) → Tells shape p.primary.workers p.primary.durable (reading bytes)
        → Follows shape (output, record (world_of p) { sent = p.sent ++ bytes ∷ [] }) (output, with_sent (with_replica p i r) bytes)
    run-sends bytes output tells =
        let same : with_sent p bytes ≡ with_sent (with_replica p i r) bytes =
        ap (λ (replicas : List Replica). with_sent (record p { replicas = replicas }) bytes) (sym (set-same p.replicas i r here)) in
        (ap (λ (p : Cores). (output, world_of p)) same, subst (Sound shape) same (Sound-one shape p bytes sound tells))

    run-waits-piece : (base number : ℕ)
        → Follows shape (run_happens (world_of p) (member_at p i r) (WaitsForPiece base number))
        (run_output p i (runs.WaitingPiece number (pull_for r.number base number), r))
    run-waits-piece base number =
        let bytes = (pull_for r.number base number).packet in
        run-sends bytes (outputs.WaitingPiece number (record { index = length p.sent; len = length bytes }))
        (pull-reads (Tells shape p.primary.workers p.primary.durable) (λ fault. tt) (λ replica base from. tt) r.number base number)

    run-waits : (worker seq : ℕ)
        → Follows shape (run_happens (world_of p) (member_at p i r) (WaitsForFrame worker seq))
        (run_output p i (runs.Waiting worker seq (want_for r.number worker seq), r))
    run-waits worker seq =
        let bytes = (want_for r.number worker seq).packet in
        run-sends bytes (outputs.Waiting worker seq (record { index = length p.sent; len = length bytes }))
        (want-reads (Tells shape p.primary.workers p.primary.durable) (λ fault. tt) (λ replica worker from. tt) r.number worker seq)

    run-finishes : (plans : List Plan) (fetched : Fetched) (answer : Run) (after : Replica)
        → readiness_of r ≡ Ready plans fetched → RunsAs (readiness_of r) r answer after
        → Follows shape (run_happens (world_of p) (member_at p i r) (Ready plans fetched)) (run_output p i (answer, after))
    run-finishes plans fetched answer after is run =
        let fed = (sound.fed i r here).feeding in
        let durable = p.primary.durable in
        let tables = tables_after shape durable fetched.version in
        let end = record (at_fetched r fetched tables) { batch = None } in
        let text =
        λ (shape : Shape). report_of (tables_after shape durable fetched.version) fetched.version plans in
        let m = member_at p i r in
        let batch = subst (Found m.protocol) (readiness-same m.boots m.asked_at r fed.pieces_are.one ∙ is) (found-is m) in
        let done =
        laws.ready shape durable r (record { plans = plans; fetched = Some fetched }) fetched answer after fed batch (ap fetched_in is)
        run in
        let new = caught_up m fetched None in
        let there : Output × World = run_happens (world_of p) m (Ready plans fetched) in
        let pair : (answer, after) ≡ (runs.Answered (text shape), end) = cc in
        subst (λ (x : Run × Replica). Follows shape there (run_output p i x)) (sym pair)
        (Follows-goes shape p i r (outputs.Report (text (shape_of p.primary.schema)), new) (outputs.Report (text shape)) end sound here
        (ap (λ (s : Shape). (outputs.Report (text s), new)) sound.primary_is.shape_is
        ∙ ap (λ (x : Member). (outputs.Report (text shape), x)) (sym (caught-member m.boots m.asked_at r fetched tables None)))
        (record {
          feeding = subst (IsFedFrom shape durable) done.1 (laws.running shape durable r answer after fed (inl run));
          identity = refl;
        }))

    pub replica-runs : (answer : Run) (after : Replica) → RunsAs (readiness_of r) r answer after
        → Follows shape (run_happens (world_of p) (member_at p i r) (readiness_at (member_at p i r))) (run_output p i (answer, after))
    replica-runs answer after run =
        subst (λ (found : Readiness). Follows shape (run_happens (world_of p) (member_at p i r) found) (run_output p i (answer, after)))
        (sym (readiness-same (boots_at p.boots i) (slice_index p.asked_at i) r (sound.fed i r here).feeding.pieces_are.one))
        (by (readiness_of r) refl run)
      where
        by : (found : Readiness) → readiness_of r ≡ found → RunsAs found r answer after
            → Follows shape (run_happens (world_of p) (member_at p i r) found) (run_output p i (answer, after))
        by Broken is told = run-same _ answer after runs.Broken told.1 told.0 (Follows-same shape p i r outputs.Broken sound here)
        by NoBatch is told = run-same _ answer after runs.NoBatch told.1 told.0 (Follows-same shape p i r outputs.NoBatch sound here)
        by WaitsForHead is told =
            run-same _ answer after runs.WaitingHead told.1 told.0 (Follows-same shape p i r outputs.WaitingHead sound here)
        by (WaitsForPiece base number) is told =
            run-same _ answer after (runs.WaitingPiece number (pull_for r.number base number)) told.1 told.0 (run-waits-piece base number)
        by (WaitsForFrame worker seq) is told =
            run-same _ answer after (runs.Waiting worker seq (want_for r.number worker seq)) told.1 told.0 (run-waits worker seq)
        by (Ready plans fetched) is told = run-finishes plans fetched answer after is run

-- ---- a run that is cut short

-- a batch for which nothing is missing is answered by its report, which takes memory
pub ready-takes : (w : World) (m : Member) (fetched : Fetched) → fetched_in (readiness_at m) ≡ Some fetched
    → TakesMemory (run_happens w m (readiness_at m)).0
ready-takes w m fetched h = by (readiness_at m) h
  where
    by : (found : Readiness) → fetched_in found ≡ Some fetched → TakesMemory (run_happens w m found).0
    by (Ready plans held) h = refl
    by other h = absurd (none-some fetched h)

-- what a cut run is in the world
abbrev pub Cuts : World → Option Member → Output → World → Type 0
Cuts w found output new = ((output ≡ outputs.Memory) × (new ≡ w)) ⊎ RunIsInterrupted w found output new

-- a cut run, and sound parts after it
abbrev Ends : Shape → Cores → Member → Output × Cores → Type 0
Ends shape p m answer = Cuts (world_of p) (Some m) answer.0 (world_of answer.1) × Sound shape answer.1

-- the tables of a replica that has caught up
caught-up : (old : Replica) (fetched : Fetched) (new : Replica) → CaughtUp old fetched new
    → (tables : Tables) × (new ≡ at_fetched old fetched tables)
caught-up old fetched new caught =
    by (apply_commits (first_tables old fetched) (to_apply old fetched caught.commits)) caught.applied
  where
    by : (made : Result Tables Refusal) → IsOkAnd made (λ tables. new ≡ at_fetched old fetched tables)
        → (tables : Tables) × (new ≡ at_fetched old fetched tables)
    by (Ok tables) h = (tables, h)
    by (Err refusal) h = absurd h

module _ (laws : FedLaws) (shape : Shape) (p : Cores) (i : ℕ) (r : Replica) (sound : Sound shape p) (here : slice_get p.replicas i ≡ Some r)
  where
    memory-same : Ends shape p (member_at p i r) (outputs.Memory, with_replica p i r)
    memory-same =
        let follows = Follows-same shape p i r outputs.Memory sound here in
        (inl (refl, ap (λ (x : Output × World). x.1) (sym follows.0)), follows.1)

    memory-caught : (fetched : Fetched) (tables : Tables) → fetched_in (readiness_of r) ≡ Some fetched
        → IsFedFrom shape p.primary.durable (at_fetched r fetched tables)
        → Ends shape p (member_at p i r) (outputs.Memory, with_replica p i (at_fetched r fetched tables))
    memory-caught fetched tables is_ready feeding =
        let had = boots_at p.boots i in
        let at = slice_index p.asked_at i in
        let after = at_fetched r fetched tables in (
          inr (
            fetched,
            ap fetched_in (readiness-same had at r (sound.fed i r here).feeding.pieces_are.one) ∙ is_ready,
            inl (
              refl,
              sym (member-changes p i after (sound.fed i r here).number_is)
                  ∙ ap (with_member (world_of p)) (caught-member had at r fetched tables r.batch),
            ),
          ),
          Sound-replica shape p i r after sound here
              (record { feeding = feeding; identity = refl }),
        )

    cut-broken : (fetched : Fetched) → fetched_in (readiness_of r) ≡ Some fetched → r.version < fetched.version
        → IsFedFrom shape p.primary.durable (broken_of r)
        → Ends shape p (member_at p i r) (outputs.Broken, with_replica p i (broken_of r))
    cut-broken fetched is_ready below feeding =
        let had = boots_at p.boots i in
        let at = slice_index p.asked_at i in (
          inr (
            fetched,
            ap fetched_in (readiness-same had at r (sound.fed i r here).feeding.pieces_are.one) ∙ is_ready,
            inr (refl, sym (member-changes p i (broken_of r) (sound.fed i r here).number_is), below),
          ),
          Sound-replica shape p i r (broken_of r) sound here
              (record { feeding = feeding; identity = refl }),
        )

    pub cut-ends : (answer : Run) (after : Replica) → RunsOutOfMemory r answer after
        → Ends shape p (member_at p i r) (run_output p i (answer, after))
    cut-ends answer after wants =
        let m = member_at p i r in
        let fed = laws.running shape p.primary.durable r answer after (sound.fed i r here).feeding (inr wants) in
        elim wants.2 [
          | inl memory ↦ subst (λ (a : Run). Ends shape p m (run_output p i (a, after))) (sym memory.0) (elim memory.1 [
            | inl same ↦ subst (λ (s : Replica). Ends shape p m (run_output p i (runs.Memory, s))) (sym same) memory-same
            | inr reached ↦
                let up = caught-up r wants.0 after reached in
                subst (λ (s : Replica). Ends shape p m (run_output p i (runs.Memory, s))) (sym up.1)
                (memory-caught wants.0 up.0 wants.1 (subst (IsFedFrom shape p.primary.durable) up.1 fed))
          ])
          | inr broken ↦ subst (λ (a : Run). Ends shape p m (run_output p i (a, after))) (sym broken.0)
              (subst (λ (s : Replica). Ends shape p m (run_output p i (runs.Broken, s))) (sym broken.1)
              (cut-broken wants.0 wants.1 broken.2 (subst (IsFedFrom shape p.primary.durable) broken.1 fed)))
        ]
