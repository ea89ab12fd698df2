-- What the primary or a replica makes of a datagram is what a delivery may.
use Rattle.std.proofs.Common.{◌≡◌, ℕ, ◌<◌, ◌++◌, ◌⊎◌, inl, inr, List, [], ◌∷◌, length, Bool, true, false, cond, Option, Some}
use Rattle.std.proofs.Common.{None, slice_get, refl, sym, ap}
use Rattle.std.proofs.Common.{subst, ◌∙◌, arith}
use Rattle.wire.specs.declared.out.Out.{Out}
use Rattle.primary.specs.Sending.{answers}
use Rattle.dispatcher.specs.declared.outcome.Got.{Got}
use Rattle.dispatcher.specs.declared.outcome.Got.TheVariants as gots
use Rattle.dispatcher.specs.State.{Replica}
use Rattle.dispatcher.specs.Steps.{received}
use Rattle.script.specs.declared.event.Event.{Event}
use Rattle.script.specs.declared.event.Event.TheVariants.{Deliver, Raw}
use Rattle.script.specs.declared.event.Node.TheVariants as nodes
use Rattle.script.specs.declared.output.Output.{Output}
use Rattle.script.specs.declared.output.Output.TheVariants as outputs
use Rattle.world.specs.Outputs.{of_answers, packets_of, of_got}
use Rattle.world.specs.Cores.{Cores}
use Rattle.world.specs.Standing.{world_of}
use Rattle.world.specs.Steps.{World, happens, delivered, deliver_happens, raw_happens, is_forged}
use Rattle.world.specs.Inner.CoreSteps.{HappensBeside, MayStep, MaySendAnswers, with_replica, got_by, to_replica, come_by, raw_by}
use Rattle.world.proofs.Moving.{beside, beside_same, beside_memory, TakesMemory, AsksByAnswer, replica_same}

-- what comes to the primary, by what is found at the index
comes : (p : Cores) (index : ℕ) (found : Option (List ℕ)) → p.stopped ≡ false → slice_get p.sent index ≡ found
    → happens (world_of p) (Deliver index nodes.Primary) ≡ deliver_happens (world_of p) nodes.Primary found
comes p index found running at =
    ap (λ (stopped : Bool). cond stopped (
      outputs.Stopped,
      world_of p,
    ) (deliver_happens (world_of p) nodes.Primary (slice_get p.sent index)))
    running
    ∙ ap (deliver_happens (world_of p) nodes.Primary) at

-- ---- the primary's answers

-- what is told where these answers are sent, and the parts then; and in the world
abbrev told_at : Cores → List Out → Output × Cores
told_at p outs = (of_answers (length p.sent) outs, record p { sent = p.sent ++ packets_of outs })

abbrev told_in : Cores → List Out → Output × World
told_in p outs = (of_answers (length p.sent) outs, world_of (record p { sent = p.sent ++ packets_of outs }))

-- datagrams that are sent take memory
sending_takes : (index : ℕ) (outs : List Out) → 0 < length outs → TakesMemory (of_answers index outs)
sending_takes index [] some = absurd (omega arith)
sending_takes index (out ∷ outs) some = refl

-- there is no memory for answers that are to be sent
pub answers_lack : (p old : Cores) (seen : p ≡ old) (event : Event) (bytes : List ℕ) → AsksByAnswer (world_of p) event
    → happens (world_of p) event ≡ delivered (world_of p) bytes nodes.Primary → 0 < length (answers p.primary bytes)
    → (output : Output) (new : Cores) → output ≡ outputs.Memory → new ≡ old → HappensBeside old event output new
answers_lack p old seen event bytes asks is some output new memory same =
    beside_memory p old new event output (delivered (world_of p) bytes nodes.Primary) seen is
    (asks _ (sending_takes (length p.sent) (answers p.primary bytes) some)) memory same

-- answers that are sent, or not where it is out of memory, are what an event gives by which bytes come to the primary
pub answers_told : (p old : Cores) (seen : p ≡ old) (event : Event) (bytes : List ℕ) → AsksByAnswer (world_of p) event
    → p.stopped ≡ false → happens (world_of p) event ≡ delivered (world_of p) bytes nodes.Primary
    → (outs : List Out) (output : Output) (new : Cores) → outs ≡ answers p.primary bytes → MaySendAnswers old outs output new
    → HappensBeside old event output new
answers_told p old seen event bytes asks running is outs output new outs_are (inl made) =
    let same : ◌≡◌ {A = Output × Cores} (output, new) (told_at old outs) = cc (made.0, made.1) in
    let told : told_at p outs ≡ (output, new) = ap (λ (x : Cores). told_at x outs) seen ∙ sym same in
    subst (λ (x : Output × Cores). HappensBeside old event x.0 x.1) told
    (beside p old (record p { sent = p.sent ++ packets_of outs }) event (of_answers (length p.sent) outs) seen
    (is ∙ ap (told_in p) (sym outs_are)) running refl refl refl refl)
answers_told p old seen event bytes asks running is outs output new outs_are (inr memory) =
    answers_lack p old seen event bytes asks is (subst (λ (l : List Out). 0 < length l) outs_are memory.2) output new memory.0 memory.1

-- ---- bytes that are handed over as they are

module _ (p old : Cores) (seen : p ≡ old) (bytes : List ℕ) where
  -- what happens with bytes that come to the primary, by whether they are forged
  raw_comes : (forged : Bool) → p.stopped ≡ false → is_forged p.sent bytes ≡ forged
      → happens (world_of p) (Raw nodes.Primary bytes)
      ≡ cond forged (outputs.Forged, world_of p) (delivered (world_of p) bytes nodes.Primary)
  raw_comes forged running is =
      ap (λ (stopped : Bool). cond stopped (outputs.Stopped, world_of p) (raw_happens (world_of p) nodes.Primary bytes)) running
      ∙ ap (λ (b : Bool). cond b (outputs.Forged, world_of p) (delivered (world_of p) bytes nodes.Primary)) is

  pub raw_forged : p.stopped ≡ false → is_forged p.sent bytes ≡ true → HappensBeside old (Raw nodes.Primary bytes) outputs.Forged old
  raw_forged running is = beside_same p old (Raw nodes.Primary bytes) outputs.Forged seen (raw_comes true running is)

  pub raw_answered : p.stopped ≡ false → is_forged p.sent bytes ≡ false → (outs : List Out) (output : Output) (new : Cores)
      → outs ≡ answers p.primary bytes → MaySendAnswers old outs output new → HappensBeside old (Raw nodes.Primary bytes) output new
  raw_answered running is =
      answers_told p old seen (Raw nodes.Primary bytes) bytes (λ answer takes. takes) running (raw_comes false running is)

  pub raw_lacks : p.stopped ≡ false → is_forged p.sent bytes ≡ false → 0 < length (answers p.primary bytes)
      → HappensBeside old (Raw nodes.Primary bytes) outputs.Memory old
  raw_lacks running is some =
      answers_lack p old seen (Raw nodes.Primary bytes) bytes (λ answer takes. takes) (raw_comes false running is) some outputs.Memory old
      refl refl

  pub raw_refused : (number : ℕ) → is_forged p.sent bytes ≡ true → MayStep old (Raw (nodes.Replica number) bytes) outputs.Forged old
  raw_refused number is =
      subst (λ (x : Cores). MayStep x (Raw (nodes.Replica number) bytes) outputs.Forged x) seen
      (inl (ap
      (λ (b : Bool). cond {A = Output × Cores} b (outputs.Forged, p) (to_replica p number bytes (slice_get p.replicas number))) is))

  pub raw_came : (number : ℕ) (before after : Replica) (got : Got) → is_forged p.sent bytes ≡ false
      → slice_get p.replicas number ≡ Some before
      → ((got ≡ gots.Memory) × (after ≡ before) × ((received before bytes).0 ≡ gots.Stored)) ⊎ (received before bytes ≡ (got, after))
      → MayStep old (Raw (nodes.Replica number) bytes) (of_got got) (with_replica p number after)
  raw_came number before after got is there (inl memory) = inr (
    ap of_got memory.0,
    sym (replica_same p old seen number before after there memory.1) ∙ seen,
    subst (λ (x : Cores). TakesMemory (raw_by x number bytes (slice_get x.replicas number)).0) seen
        (subst (λ (b : Bool). TakesMemory
        (cond {A = Output × Cores} b (outputs.Forged, p) (to_replica p number bytes (slice_get p.replicas number))).0) (sym is)
        (subst (λ (found : Option Replica). TakesMemory (to_replica p number bytes found).0) (sym there)
        (subst (λ (g : Got). TakesMemory (of_got g)) (sym memory.2) refl))),
  )
  raw_came number before after got is there (inr came) =
      subst (λ (x : Cores). MayStep x (Raw (nodes.Replica number) bytes) (of_got got) (with_replica p number after)) seen
      (inl (ap (λ (b : Bool). cond {A = Output × Cores} b (outputs.Forged, p) (to_replica p number bytes (slice_get p.replicas number))) is
      ∙ ap (to_replica p number bytes) there ∙ ap (got_by p number) came))

-- ---- datagrams that were sent

module _ (p old : Cores) (seen : p ≡ old) (index : ℕ) where
  pub never_sent : p.stopped ≡ false → slice_get p.sent index ≡ None → HappensBeside old (Deliver index nodes.Primary) outputs.NeverSent old
  never_sent running at = beside_same p old (Deliver index nodes.Primary) outputs.NeverSent seen (comes p index None running at)

  module _ (bytes : List ℕ) (at : slice_get p.sent index ≡ Some bytes) where
    -- what the primary makes of a datagram that was sent
    pub delivered_to : p.stopped ≡ false → (outs : List Out) (output : Output) (new : Cores) → outs ≡ answers p.primary bytes
        → MaySendAnswers old outs output new → HappensBeside old (Deliver index nodes.Primary) output new
    delivered_to running =
        answers_told p old seen (Deliver index nodes.Primary) bytes (λ answer takes. takes) running (comes p index (Some bytes) running at)

    pub deliver_lacks : p.stopped ≡ false → 0 < length (answers p.primary bytes)
        → HappensBeside old (Deliver index nodes.Primary) outputs.Memory old
    deliver_lacks running some =
        answers_lack p old seen (Deliver index nodes.Primary) bytes (λ answer takes. takes) (comes p index (Some bytes) running at) some
        outputs.Memory old refl refl

    pub came_to : (number : ℕ) (before after : Replica) (got : Got) → slice_get p.replicas number ≡ Some before
        → ((got ≡ gots.Memory) × (after ≡ before) × ((received before bytes).0 ≡ gots.Stored)) ⊎ (received before bytes ≡ (got, after))
        → MayStep old (Deliver index (nodes.Replica number)) (of_got got) (with_replica p number after)
    came_to number before after got there (inl memory) = inr (
      ap of_got memory.0,
      sym (replica_same p old seen number before after there memory.1) ∙ seen,
      subst (λ (x : Cores). TakesMemory (come_by x number (slice_get x.sent index)).0) seen
          (subst (λ (found : Option (List ℕ)). TakesMemory (come_by p number found).0) (sym at)
          (subst (λ (found : Option Replica). TakesMemory (to_replica p number bytes found).0) (sym there)
          (subst (λ (g : Got). TakesMemory (of_got g)) (sym memory.2) refl))),
    )
    came_to number before after got there (inr came) =
        subst (λ (x : Cores). MayStep x (Deliver index (nodes.Replica number)) (of_got got) (with_replica p number after)) seen
        (inl (ap (come_by p number) at ∙ ap (to_replica p number bytes) there ∙ ap (got_by p number) came))
