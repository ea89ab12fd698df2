-- What is sent keeps a world fresh, and so does what a replica fetches.
use Rattle.std.proofs.Common.{◌≡◌, ℕ, ◌≤◌, List, [], ◌∷◌, length, map, Some, None, Result, Ok, Err, refl, sym, ap, subst, ◌∙◌, inl, inr}
use Rattle.std.proofs.Common.{◌<◌, arith}
use Rattle.std.specs.List.{slice_get, Contains, AllByRecursion}
use Rattle.std.proofs.lemmas.Option.{slice_get_within, same_Some}
use Rattle.rows.specs.declared.limits.TheConstants.{REPLICAS_MAX}
use Rattle.wire.specs.declared.datagram.Datagram.{Datagram}
use Rattle.wire.specs.declared.datagram.Datagram.TheVariants as datagrams
use Rattle.wire.specs.declared.faults.WireFault.{WireFault}
use Rattle.wire.specs.declared.head.Head.{Head}
use Rattle.update_log.specs.declared.frame.Frame.{Frame}
use Rattle.wire.specs.Reading.{reading}
use Rattle.primary.specs.Sending.{answers_to, head_for, wanted, frame_to}
use Rattle.queries.specs.declared.plan.Plan.{Plan}
use Rattle.world.specs.Outputs.{packets_of}
use Rattle.world.specs.Steps.{World, Member}
use Rattle.world.specs.Inner.Fresh.{IsFreshHead, IsFreshReading, Fresh}
use Rattle.world.specs.Inner.StepLaws.{StepLaws}
use Rattle.world.proofs.Boots.{of-boot}
use Rattle.world.proofs.Datagrams.{ask-read, ask-kept, frame-reads, head-reads, want-reads, pull-reads}
use Rattle.world.proofs.Pieces.{pulled-read}
use Rattle.world.proofs.WorldMoves.{ask_bytes, own_head, WasSent, AreSent, framed, answered, repeated, asked_for, pulled_for}

-- what was sent is fresh, and so is what is no datagram
pub told-fresh : (w : World) (read : Result Datagram WireFault) → Fresh w → WasSent w read → IsFreshReading w.primary.durable w.members read
told-fresh w read h (inl sent) = subst (IsFreshReading w.primary.durable w.members) sent.3 (h.sent_is sent.0 sent.1 sent.2)
told-fresh w read h (inr none) = subst (IsFreshReading w.primary.durable w.members) (sym none.1) tt

-- frames tell of no request
frames-fresh : (w : World) (replica : ℕ) (frames : List Frame)
    → AllByRecursion (λ bytes. IsFreshReading w.primary.durable w.members (reading bytes)) (packets_of (map (frame_to replica) frames))
frames-fresh w replica [] = tt
frames-fresh w replica (frame ∷ frames) = (
  frame-reads (IsFreshReading w.primary.durable w.members) (λ fault. tt) (λ worker seq commit last entries. tt) frame,
  frames-fresh w replica frames,
)

-- the Head of an Ask has what is durable now, and no batch asked later
answers-fresh : (w : World) (read : Result Datagram WireFault) → Fresh w → IsFreshReading w.primary.durable w.members read
    → AllByRecursion (λ bytes. IsFreshReading w.primary.durable w.members (reading bytes)) (packets_of (answers_to w.primary read))
answers-fresh w (Err fault) h told = tt
answers-fresh w (Ok (datagrams.Frame worker seq commit last entries)) h told = tt
answers-fresh w (Ok (datagrams.Ask replica boot request)) h told =
    let version = length w.primary.durable in
    let numbered = h.numbered in (
      head-reads (IsFreshReading w.primary.durable w.members) (λ fault. tt) (head_for w.primary replica boot request)
          told.0.boot_below told.0.request_below (omega arith)
          (λ base pieces lows counts are. (
            omega arith,
            λ m there. of-boot m.boots m.protocol.boot boot (request ≤ m.protocol.request) (IsFreshHead m request version)
                (λ asked. record {
                  asked = asked;
                  above = λ batch has same. ((h.members_are replica m there).batch_is batch has).asked;
                  on = λ batch has none same. (h.members_are replica m there).below;
                }) (told.1 m there),
          )),
      tt,
    )
answers-fresh w (Ok (datagrams.Head head)) h told = tt
answers-fresh w (Ok (datagrams.Want replica worker from)) h told = frames-fresh w replica (wanted w.primary worker from)
answers-fresh w (Ok (datagrams.Piece base number last entries)) h told = tt
answers-fresh w (Ok (datagrams.Pull replica base from)) h told =
    pulled-read (IsFreshReading w.primary.durable w.members) (λ fault. tt) (λ base number last entries. tt) replica w.primary base from

-- an Ask of a request that its replica has made
pub ask-fresh : (laws : StepLaws) (w : World) (members : List Member) (i : ℕ) (m : Member) (request : ℕ) → Fresh w
    → slice_get w.members i ≡ Some m
    → ((other : Member) → slice_get members m.protocol.number ≡ Some other
    → (other.boots ≡ m.boots) × (request ≤ other.protocol.request))
    → IsFreshReading w.primary.durable members (reading (ask_bytes m request))
ask-fresh laws w members i m request h here made =
    let is = h.members_are i m here in
    let number_is = is.number_is in
    let few = h.few in
    let within = slice_get_within w.members i m here in
    let number_below : m.protocol.number < REPLICAS_MAX = omega arith in
    let boot_below = is.boot_is.below in
    subst (IsFreshReading w.primary.durable members)
    (sym (ask-read laws.reads m.protocol.number m.protocol.boot request number_below boot_below)) (
      ask-kept m.protocol.number m.protocol.boot request number_below boot_below,
      λ other there.
          let is_made = made other there in
          record {
            had = subst (λ (boots : List ℕ). Contains boots m.protocol.boot) (sym is_made.0) is.boot_is.had;
            holds = λ same. let asked = is_made.1 in omega arith;
          },
    )

-- what is sent is fresh
pub sent-fresh : (laws : StepLaws) (w : World) (more : List (List ℕ)) → Fresh w → AreSent w more
    → AllByRecursion (λ bytes. IsFreshReading w.primary.durable w.members (reading bytes)) more
sent-fresh laws w more h (framed one) = (
  frame-reads (IsFreshReading w.primary.durable w.members) (λ fault. tt) (λ worker seq commit last entries. tt) one,
  tt,
)
sent-fresh laws w more h (answered bytes sent) = answers-fresh w (reading bytes) h (told-fresh w (reading bytes) h sent)
sent-fresh laws w more h (repeated i m here) = (
  ask-fresh laws w w.members i m m.protocol.request h here (λ other there.
      let same : m ≡ other = same_Some m other (sym here ∙ ap (slice_get w.members) (sym (h.members_are i m here).number_is) ∙ there) in
      let asked = ap (λ (x : Member). x.protocol.request) same in
      (ap (λ (x : Member). x.boots) (sym same), omega arith)),
  tt,
)
sent-fresh laws w more h (asked_for number worker from) = (
  want-reads (IsFreshReading w.primary.durable w.members) (λ fault. tt) (λ replica worker from. tt) number worker from,
  tt,
)
sent-fresh laws w more h (pulled_for number base from) = (
  pull-reads (IsFreshReading w.primary.durable w.members) (λ fault. tt) (λ replica base from. tt) number base from,
  tt,
)

-- a version that is fetched for a batch is no older than the batch or its replica, and durable
pub fetched-fresh : (w : World) (i : ℕ) (m : Member) (plans : List Plan) (head : Head) → Fresh w
    → slice_get w.members i ≡ Some m → m.protocol.batch ≡ Some (record { plans = plans; fetched = None })
    → WasSent w (Ok (datagrams.Head (own_head m.protocol head)))
    → (m.protocol.version ≤ head.version) × (m.asked_at ≤ head.version) × (head.version ≤ length w.primary.durable)
fetched-fresh w i m plans head h here has sent =
    let is = h.members_are i m here in
    let told = told-fresh w _ h sent in
    let fresh = (told.1 m (ap (slice_get w.members) is.number_is ∙ here)).holds refl in
    let above = fresh.above _ has refl in
    (fresh.on _ has refl refl, above, told.0)
