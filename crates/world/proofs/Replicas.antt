-- What comes to a replica of sound parts does to it what it does to its member.
use Rattle.std.proofs.Common.{◌≡◌, ℕ, zero, suc, ◌≤◌, Bool, true, false, cond, List, [], ◌∷◌, Option, Some, None, Result, Ok, Err}
use Rattle.std.proofs.Common.{◌==◌, ◌||◌, not, length, refl, sym, ap, subst, ◌∙◌, arith}
use Rattle.std.specs.List.{slice_get, slice_set, slice_index, slice_index_or}
use Rattle.std.specs.Option.{option_map, is_none}
use Rattle.std.proofs.lemmas.Bool.{false≢true, cond-false}
use Rattle.rows.specs.declared.entry.Entry.{Entry}
use Rattle.rows.specs.Shape.{Shape}
use Rattle.wire.specs.declared.datagram.Datagram.{Datagram}
use Rattle.wire.specs.declared.datagram.Datagram.TheVariants as datagrams
use Rattle.wire.specs.declared.faults.WireFault.{WireFault}
use Rattle.wire.specs.declared.head.Head.{Head}
use Rattle.update_log.specs.declared.frame.Frame.{Frame}
use Rattle.wire.specs.Reading.{reading}
use Rattle.wire.specs.Spelling.{datagram_of_frame}
use Rattle.intake.specs.declared.taken.Taken.{Taken}
use Rattle.intake.specs.declared.taken.Taken.TheVariants as takens
use Rattle.intake.specs.Known.{is_known, is_ahead, with_seq}
use Rattle.intake.specs.State.{Arrivals, arrivals_of, known_of}
use Rattle.intake.specs.Steps.{with_frame, taken}
use Rattle.dispatcher.specs.declared.outcome.Got.{Got}
use Rattle.dispatcher.specs.declared.outcome.Got.TheVariants as got
use Rattle.queries.specs.declared.plan.Plan.{Plan}
use Rattle.dispatcher.specs.Feeding.{Tells, IsTrueHead}
use Rattle.dispatcher.specs.Images.{piece_frame}
use Rattle.dispatcher.specs.State.{Replica, Batch, Fetched, Pieces, no_pieces}
use Rattle.dispatcher.specs.Protocol.{is_own, takes_head, bases_for, fetched_for, wants_piece, pieces_after}
use Rattle.dispatcher.specs.TableText.{names_of}
use Rattle.dispatcher.specs.Steps.{received, headed, own_head_comes, goes_on, got_of, have_tables, piece_comes, datagram_comes}
use Rattle.script.specs.declared.output.Output.{Output}
use Rattle.script.specs.declared.output.Output.TheVariants as outputs
use Rattle.world.specs.Outputs.{of_got}
use Rattle.world.specs.Cores.{Cores}
use Rattle.world.specs.Inner.CoreSteps.{with_replica, got_by, to_replica}
use Rattle.world.specs.Steps.{World, Member, KnownPieces, arrived, known_in, arrived_pieces, known_pieces, piece_happens, head_happens}
use Rattle.world.specs.Steps.{datagram_happens, member_output, on_member}
use Rattle.world.specs.Inner.Sound.{Sound, IsFed}
use Rattle.world.specs.Inner.Fresh.{IsFreshMember, IsFreshHead, IsFreshReading, Fresh}
use Rattle.world.specs.Standing.{boots_at, world_of}
use Rattle.world.proofs.FedLaws.{FedLaws}
use Rattle.world.proofs.Arriving.{Means}
use Rattle.world.proofs.Worlds.{member_at, member-changes, members-get}
use Rattle.world.proofs.Moves.{Goes, Follows, Sound-replica, Follows-same}
use Rattle.world.proofs.WorldMoves.{own-is}

-- ---- a frame

-- the intake goes by the seqs that are known
abbrev seen : Taken × List Arrivals → Taken × List (List ℕ)
seen came = (came.0, known_in came.1)

pub arrived-known : (known : List (List ℕ)) → known_in (arrived known) ≡ known
arrived-known [] = refl
arrived-known (seqs ∷ known) = ap (λ l. seqs ∷ l) (arrived-known known)

known-at : (arrivals : List Arrivals) (worker : ℕ)
    → (arrivals_of (arrived (known_in arrivals)) worker).known ≡ (arrivals_of arrivals worker).known
known-at [] worker = refl
known-at (first ∷ arrivals) zero = refl
known-at (first ∷ arrivals) (suc worker) = known-at arrivals worker

known-set : (arrivals : List Arrivals) (worker : ℕ) (one : Arrivals)
    → known_in (slice_set arrivals worker one) ≡ slice_set (known_in arrivals) worker one.known
known-set [] worker one = refl
known-set (first ∷ arrivals) zero one = refl
known-set (first ∷ arrivals) (suc worker) one = ap (λ l. first.known ∷ l) (known-set arrivals worker one)

-- the answer to a frame of this seq, where these are known of its worker, who has that base
abbrev takes : List Arrivals → List Arrivals → List ℕ → (base seq : ℕ) → Taken × List Arrivals
takes all stored known base seq =
    cond (is_known known seq) (takens.Repeat, all) (cond (is_ahead known base seq) (takens.Ahead, all) (takens.Stored, stored))

takes-same : (all other stored kept : List Arrivals) (known : List ℕ) (base seq : ℕ) → known_in all ≡ known_in other
    → known_in stored ≡ known_in kept → seen (takes all stored known base seq) ≡ seen (takes other kept known base seq)
takes-same all other stored kept known base seq same after = by (is_known known seq) (is_ahead known base seq)
  where
    by : (b c : Bool)
        → seen (cond b (takens.Repeat, all) (cond c (takens.Ahead, all) (takens.Stored, stored)))
        ≡ seen (cond b (takens.Repeat, other) (cond c (takens.Ahead, other) (takens.Stored, kept)))
    by true c = λ i. (takens.Repeat, same i)
    by false true = λ i. (takens.Ahead, same i)
    by false false = λ i. (takens.Stored, after i)

taken-known : (arrivals : List Arrivals) (bases : List ℕ) (frame : Frame)
    → seen (taken (arrived (known_in arrivals)) bases frame) ≡ seen (taken arrivals bases frame)
taken-known arrivals bases frame =
    let base = slice_index bases frame.worker in
    let all = arrived (known_in arrivals) in
    let one = with_frame (arrivals_of all frame.worker) frame in
    let other = with_frame (arrivals_of arrivals frame.worker) frame in
    let at = known-at arrivals frame.worker in
    let same = arrived-known (known_in arrivals) in
    takes-same all arrivals (slice_set all frame.worker one) (slice_set arrivals frame.worker other)
    (arrivals_of all frame.worker).known base frame.seq same
    (known-set all frame.worker one ∙ (λ i. slice_set (same i) frame.worker (with_seq (at i) frame.seq))
    ∙ sym (known-set arrivals frame.worker other))
    ∙ (λ i. seen (takes arrivals (slice_set arrivals frame.worker other) (at i) base frame.seq))

-- ---- a piece

-- the first of some lists; the empty one, if there is none
abbrev first_in : List (List ℕ) → List ℕ
first_in known = slice_index_or known 0 []

first-known : (arrivals : List Arrivals) → known_of arrivals 0 ≡ first_in (known_in arrivals)
first-known [] = refl
first-known (first ∷ arrivals) = refl

-- what has come of one worker is known by its seqs
pub one-known : (arrivals : List Arrivals) → length arrivals ≡ 1 → known_of arrivals 0 ∷ [] ≡ known_in arrivals
one-known [] one = absurd (omega (arith, one))
one-known (first ∷ []) one = refl
one-known (first ∷ second ∷ arrivals) one = absurd (omega (arith, one))

-- the intake of pieces goes by the numbers that are known
piece-known : (arrivals : List Arrivals) (piece : Frame) → length arrivals ≡ 1
    → (◌≡◌ {A = Taken × List ℕ}
    ((taken (arrived (known_of arrivals 0 ∷ [])) [] piece).0, known_of (taken (arrived (known_of arrivals 0 ∷ [])) [] piece).1 0)
    ((taken arrivals [] piece).0, known_of (taken arrivals [] piece).1 0))
piece-known arrivals piece one =
    let numbers : Taken × List Arrivals → Taken × List ℕ = λ came. (came.0, known_of came.1 0) in
    let by_seen : (came : Taken × List Arrivals) → numbers came ≡ ((seen came).0, first_in (seen came).1) =
    λ came. ap (λ (l : List ℕ). (came.0, l)) (first-known came.1) in
    ap (λ (l : List (List ℕ)). numbers (taken (arrived l) [] piece)) (one-known arrivals one)
    ∙ by_seen (taken (arrived (known_in arrivals)) [] piece)
    ∙ ap (λ (x : Taken × List (List ℕ)). (x.0, first_in x.1)) (taken-known arrivals [] piece)
    ∙ sym (by_seen (taken arrivals [] piece))

-- the pieces that are known after a Head
after-head : (answer : Got) (base : ℕ) (pieces : Pieces)
    → known_pieces (pieces_after answer base (arrived_pieces (known_pieces pieces))) ≡ known_pieces (pieces_after answer base pieces)
after-head (got.Head version) base pieces = by (pieces.base == base)
  where
    by : (same : Bool)
        → known_pieces (cond same (arrived_pieces (known_pieces pieces)) (no_pieces base))
        ≡ known_pieces (cond same pieces (no_pieces base))
    by true = refl
    by false = refl
after-head got.Stored base pieces = refl
after-head got.Repeat base pieces = refl
after-head got.Ahead base pieces = refl
after-head got.Ignored base pieces = refl
after-head got.Memory base pieces = refl
after-head got.Broken base pieces = refl

-- ---- bytes

-- a replica that goes on, and the member that does as it does
pub Follows-goes : (shape : Shape) (p : Cores) (i : ℕ) (r : Replica) (there : Output × Member) (output : Output) (new : Replica)
    → Sound shape p → slice_get p.replicas i ≡ Some r
    → there ≡ (output, member_at p i new) → Goes shape p.primary.durable r new
    → Follows shape (member_output (world_of p) there) (output, with_replica p i new)
Follows-goes shape p i r there output new sound here same goes =
    let number = ap (λ (x : List (List ℕ) × Shape × ℕ × ℕ × ℕ). x.3) goes.identity ∙ (sound.fed i r here).number_is in (
      ap (member_output (world_of p)) same ∙ ap (λ (w : World). (output, w)) (member-changes p i new number),
      Sound-replica shape p i r new sound here goes,
    )

-- whether a batch waits for a Head
abbrev awaits : Option Batch → Bool
awaits None = false
awaits (Some batch) = is_none batch.fetched

module _ (laws : FedLaws) (shape : Shape) (p : Cores) (i : ℕ) (r : Replica) (sound : Sound shape p) (fresh : Fresh (world_of p))
    (here : slice_get p.replicas i ≡ Some r) (bytes : List ℕ) (whole : r.broken ≡ false) where
  abbrev m : Member
  m = member_at p i r

  -- what the replica makes of something, as its member does
  abbrev told : Got × Replica → Output × Member
  told answer = (of_got answer.0, member_at p i answer.1)

  abbrev Comes : Output × Member → Got × Replica → Type 0
  Comes there answer = there ≡ told answer

  fed : IsFed shape (names_of p.primary.schema) p.primary.workers p.primary.durable (boots_at p.boots i) i r
  fed = sound.fed i r here

  -- bytes that read as a datagram are what that is, while the replica is whole
  received-as : (datagram : Result Datagram WireFault) → reading bytes ≡ datagram → datagram_comes r datagram ≡ received r bytes
  received-as datagram reads =
      ap (datagram_comes r) (sym reads)
      ∙ sym (cond-false {A = Got × Replica} r.broken (got.Broken, r) (datagram_comes r (reading bytes)) whole)

  -- a frame of the durable list
  frame-comes : (frame : Frame) → reading bytes ≡ Ok (datagram_of_frame frame)
      → Tells shape p.primary.workers p.primary.durable (Ok (datagram_of_frame frame))
      → Comes (datagram_happens m (Ok (datagram_of_frame frame))) (datagram_comes r (Ok (datagram_of_frame frame)))
  frame-comes frame reads tells =
      let holds : Tells shape r.workers p.primary.durable (reading bytes) =
      subst (Tells shape r.workers p.primary.durable) (sym reads) tells in
      ap (λ (x : Taken × List (List ℕ)). (of_got (got_of x.0), record m { known = x.1 }))
      (taken-known r.arrivals (bases_for r.version (fetched_for r.batch)) frame)
      ∙ ap told (sym (received-as (Ok (datagram_of_frame frame)) reads
      ∙ laws.frame shape p.primary.durable r bytes frame fed.feeding whole reads holds))

  -- a piece of the image at a base of the durable list
  piece-comes : (base number : ℕ) (last : Bool) (entries : List Entry) → reading bytes ≡ Ok (datagrams.Piece base number last entries)
      → Tells shape p.primary.workers p.primary.durable (Ok (datagrams.Piece base number last entries))
      → Comes (piece_happens m (piece_frame base number last entries)) (piece_comes r (piece_frame base number last entries))
  piece-comes base number last entries reads tells = by (wants_piece r.version (fetched_for r.batch) base number) refl
    where
      piece : Frame
      piece = piece_frame base number last entries

      known : Output × Member
      known = (
        of_got (got_of (taken (arrived_pieces m.pieces).arrivals [] piece).0),
        record m { pieces = record m.pieces { numbers = known_of (taken (arrived_pieces m.pieces).arrivals [] piece).1 0 } },
      )

      stored : Got × Replica
      stored = (
        got_of (taken r.pieces.arrivals [] piece).0,
        record r { pieces = record r.pieces { arrivals = (taken r.pieces.arrivals [] piece).1 } },
      )

      by : (wanted : Bool) → wants_piece r.version (fetched_for r.batch) base number ≡ wanted
          → Comes (cond wanted known (outputs.Ignored, m)) (cond (not wanted || not (have_tables r entries)) (got.Ignored, r) stored)
      by false e = refl
      by true e =
          let holds : Tells shape r.workers p.primary.durable (reading bytes) =
          subst (Tells shape r.workers p.primary.durable) (sym reads) tells in
          let received_is = laws.piece shape p.primary.durable r bytes base number last entries fed.feeding whole reads holds e in
          ap (λ (x : Taken × List ℕ). (of_got (got_of x.0), record m { pieces = record m.pieces { numbers = x.1 } }))
          (piece-known r.pieces.arrivals piece fed.feeding.pieces_are.one)
          ∙ ap told (sym (ap (λ (w : Bool). cond (not w || not (have_tables r entries)) (got.Ignored, r) stored) (sym e)
          ∙ received-as (Ok (datagrams.Piece base number last entries)) reads ∙ received_is))

  -- a Head of the replica's own request
  head-comes : (head : Head) → (awaits r.batch ≡ true → goes_on r head ≡ true)
      → Comes (head_happens m head.base (takes_head m.protocol head r.batch)) (own_head_comes r head)
  head-comes head passes = by r.batch passes
    where
      comes : Option Batch → Got × Replica
      comes batch = cond (goes_on r head) (headed r head (takes_head m.protocol head batch)) (got.Ignored, r)

      ignored : (goes : Bool) → Comes (outputs.Ignored, m) (cond goes (got.Ignored, r) (got.Ignored, r))
      ignored true = refl
      ignored false = refl

      on : (plans : List Plan) (fetched : Option Fetched) → (is_none fetched ≡ true → goes_on r head ≡ true)
          → Comes (head_happens m head.base (takes_head m.protocol head (Some (record { plans = plans; fetched = fetched }))))
          (comes (Some (record { plans = plans; fetched = fetched })))
      on plans (Some fetched) passes = ignored (goes_on r head)
      on plans None passes =
          let step = takes_head m.protocol head (Some (record { plans = plans; fetched = None })) in
          ap (λ (pieces : KnownPieces). (of_got step.0, record m { pieces = pieces; protocol = step.1 }))
          (after-head step.0 head.base r.pieces)
          ∙ ap (λ (goes : Bool). told (cond goes (headed r head step) (got.Ignored, r))) (sym (passes refl))

      by : (batch : Option Batch) → (awaits batch ≡ true → goes_on r head ≡ true)
          → Comes (head_happens m head.base (takes_head m.protocol head batch)) (comes batch)
      by None passes = ignored (goes_on r head)
      by (Some batch) passes = on batch.plans batch.fetched passes

  -- no version that a batch waits for is older than its replica's
  awaited : (version : ℕ) → IsFreshMember p.primary.durable i m → IsFreshHead m r.request version → (batch : Option Batch)
      → r.batch ≡ batch → awaits batch ≡ true → r.version ≤ version
  awaited version is head None has waits = absurd (false≢true waits)
  awaited version is head (Some batch) has waits = by batch.fetched has waits
    where
      by : (fetched : Option Fetched) → r.batch ≡ Some (record batch { fetched = fetched }) → is_none fetched ≡ true → r.version ≤ version
      by (Some fetched) has waits = absurd (false≢true waits)
      by None has waits = head.on _ has refl refl

  datagram-comes : (datagram : Result Datagram WireFault) → reading bytes ≡ datagram → Means shape p datagram
      → Comes (datagram_happens m datagram) (datagram_comes r datagram)
  datagram-comes (Err fault) reads means = refl
  datagram-comes (Ok (datagrams.Frame worker seq commit last entries)) reads means =
      frame-comes (record { worker = worker; seq = seq; commit = commit; last = last; entries = entries }) reads means.tells
  datagram-comes (Ok (datagrams.Ask replica boot request)) reads means = refl
  datagram-comes (Ok (datagrams.Head head)) reads means = by (is_own m.protocol head) refl
    where
      by : (own : Bool) → is_own m.protocol head ≡ own
          → Comes (cond own (head_happens m head.base (takes_head m.protocol head r.batch)) (outputs.Ignored, m))
          (cond own (own_head_comes r head) (got.Ignored, r))
      by false e = refl
      by true e =
          let tells : IsTrueHead shape r.workers p.primary.durable head =
          subst (λ (n : ℕ). IsTrueHead shape n p.primary.durable head) (sym fed.workers_are) means.tells in
          let there = members-get p.replicas p.boots p.asked_at i ∙ ap (option_map (member_at p i)) here in
          let sent =
          subst (λ (h : Head). IsFreshReading p.primary.durable (world_of p).members (Ok (datagrams.Head h)))
          (own-is m.protocol head e) means.fresh in
          let fresh_head = (sent.1 m (ap (slice_get (world_of p).members) fed.number_is ∙ there)).holds refl in
          head-comes head
          (λ waits. laws.head shape p.primary.durable r head fed.feeding tells
          (awaited head.version (fresh.members_are i m there) fresh_head r.batch refl waits))
  datagram-comes (Ok (datagrams.Want replica worker from)) reads means = refl
  datagram-comes (Ok (datagrams.Piece base number last entries)) reads means = piece-comes base number last entries reads means.tells
  datagram-comes (Ok (datagrams.Pull replica base from)) reads means = refl

  -- the replica goes on with what it makes of the bytes
  goes : Means shape p (reading bytes) → Goes shape p.primary.durable r (datagram_comes r (reading bytes)).1
  goes means =
      subst (λ (b : Bool). Goes shape p.primary.durable r (cond b (got.Broken, r) (datagram_comes r (reading bytes))).1) whole (record {
        feeding = laws.bytes shape p.primary.durable r bytes fed.feeding
            (subst (λ (n : ℕ). Tells shape n p.primary.durable (reading bytes)) (sym fed.workers_are) means.tells);
        identity = laws.identity.by_bytes r bytes;
      })

pub bytes-come : (laws : FedLaws) (shape : Shape) (p : Cores) (i : ℕ) (bytes : List ℕ) (found : Option Replica) → Sound shape p
    → Fresh (world_of p) → Means shape p (reading bytes) → slice_get p.replicas i ≡ found
    → Follows shape
    (on_member (world_of p) (option_map (member_at p i) found)
    (λ m. cond m.protocol.broken (outputs.Broken, world_of p) (member_output (world_of p) (datagram_happens m (reading bytes)))))
    (to_replica p i bytes found)
bytes-come laws shape p i bytes None sound fresh means here = (refl, sound)
bytes-come laws shape p i bytes (Some r) sound fresh means here = by r.broken refl
  where
    by : (b : Bool) → r.broken ≡ b → Follows shape
        (cond b (outputs.Broken, world_of p) (member_output (world_of p) (datagram_happens (member_at p i r) (reading bytes))))
        (got_by p i (cond b (got.Broken, r) (datagram_comes r (reading bytes))))
    by true whole = Follows-same shape p i r outputs.Broken sound here
    by false whole =
        let came = datagram_comes r (reading bytes) in
        Follows-goes shape p i r (datagram_happens (member_at p i r) (reading bytes)) (of_got came.0) came.1 sound here
        (datagram-comes laws shape p i r sound fresh here bytes whole (reading bytes) refl means)
        (goes laws shape p i r sound fresh here bytes whole means)
