-- What the calls of the cores answer and leave is what an event may.
use Rattle.std.proofs.Common.{◌≡◌, ℕ, ◌⊎◌, inl, inr, List, [], ◌∷◌, Option, None, Some, Result, Ok, Err, IsOk, slice_get, slice_set, refl}
use Rattle.std.proofs.Common.{ap, sym, subst, ◌∙◌, Bool, true, false, cond, OnOk, IfErr, length, ◌==◌, ◌++◌, nat_lt}
use Rattle.std.specs.Result.{is_ok}
use Rattle.std.proofs.lemmas.Bool.{false≢true, true≢false}
use Rattle.std.proofs.lemmas.List.{set-set}
use Rattle.rows.specs.declared.value.Value.{Value}
use Rattle.mvcc.specs.declared.faults.TxFault.{TxFault}
use Rattle.mvcc.specs.declared.faults.TxFault.TheVariants as changes
use Rattle.mvcc.specs.Transaction.{Transaction}
use Rattle.mvcc.specs.Transactions.{insert_answer, set_answer, delete_answer, add_column_answer}
use Rattle.rows.specs.Shape.{shape_of}
use Rattle.primary.specs.declared.faults.CommitFault.{CommitFault}
use Rattle.primary.specs.declared.faults.CommitFault.TheVariants as commits
use Rattle.rows.specs.Commits.{last_touching}
use Rattle.primary.specs.Steps.{commit_answer, committed, is_foreign, has_numbers, next_number}
use Rattle.primary.specs.State.{Primary}
use Rattle.wire.specs.declared.out.Out.{Out}
use Rattle.dispatcher.specs.declared.faults.AskFault.{AskFault}
use Rattle.dispatcher.specs.declared.faults.OpenFault.{OpenFault}
use Rattle.dispatcher.specs.declared.faults.OpenFault.TheVariants as opens
use Rattle.queries.specs.declared.plan.Plan.{Plan}
use Rattle.dispatcher.specs.declared.outcome.Run.{Run}
use Rattle.dispatcher.specs.declared.outcome.Run.TheVariants as runs
use Rattle.dispatcher.specs.State.{Replica}
use Rattle.dispatcher.specs.Protocol.{Readiness, Broken, NoBatch, WaitsForHead, WaitsForPiece, WaitsForFrame, Ready}
use Rattle.dispatcher.specs.Steps.{opened, asked, renewed, readiness_of, MayRun, RunsAs}
use Rattle.script.specs.declared.event.Event.{Event}
use Rattle.script.specs.declared.event.Event.TheVariants as events
use Rattle.script.specs.declared.output.Output.{Output}
use Rattle.script.specs.declared.output.Output.TheVariants as outputs
use Rattle.script.specs.declared.sent.Sent.{Sent}
use Rattle.world.specs.Outputs.{of_change, of_commit, of_look, of_open, of_ask}
use Rattle.world.specs.Allowed.{takes_memory, asks_for_memory}
use Rattle.world.specs.Inner.Naming.{of_changed}
use Rattle.world.specs.Cores.{Cores}
use Rattle.world.specs.Standing.{world_of}
use Rattle.world.specs.Steps.{World, unless_stopped, open_transaction, happens, on_transaction, change_happens, commit_happens}
use Rattle.world.specs.Steps.{abort_happens}
use Rattle.world.specs.Inner.CoreSteps.{HappensBeside, MayStep, ReplicaRunsBy, with_replica, with_sent, opening_query, open_by, asking}
use Rattle.world.specs.Inner.CoreSteps.{ask_by, renew_by, renewing, run_output, waiting_for, waiting_for_piece, ChangesTransaction}
use Rattle.world.specs.Inner.CoreSteps.{change_answer}
use Rattle.world.proofs.Slots.{set_same, slot_same}

-- ---- a commit

-- whether a commit is refused for memory
abbrev is_memory : CommitFault → Bool
is_memory commits.Memory = true
is_memory other = false

abbrev lacks_memory : Result ℕ CommitFault → Bool
lacks_memory (Ok number) = false
lacks_memory (Err fault) = is_memory fault

-- a commit's own refusals are others
not-memory : (p : Primary) (worker : ℕ) (draft : Transaction) → commit_answer p worker draft ≡ Err commits.Memory → ⊥
not-memory p worker draft told =
    let all = p.durable ++ p.pending in
    let last = last_touching draft.entries 0 all in
    false≢true (sym (by p.failed (length draft.entries == 0) (is_foreign p draft) (nat_lt draft.snapshot last)
    (has_numbers p worker draft.entries) last (next_number p)) ∙ ap lacks_memory told)
  where
    by : (failed empty foreign late fits : Bool) (last next : ℕ) → lacks_memory (cond failed (Err commits.Failed)
        (cond empty (Err commits.ReadOnly) (cond foreign (Err commits.Foreign) (cond late (Err (commits.Conflict last))
        (cond fits (Ok next) (Err commits.NumbersUsedUp))))))
        ≡ false
    by true empty foreign late fits last next = refl
    by false true foreign late fits last next = refl
    by false false true late fits last next = refl
    by false false false true fits last next = refl
    by false false false false true last next = refl
    by false false false false false last next = refl

-- ---- beside the replicas

-- what happens in the world, where the replicas stay and the primary runs
pub beside : (p old new : Cores) (event : Event) (output : Output) → p ≡ old → happens (world_of p) event ≡ (output, world_of new)
    → new.stopped ≡ false → new.setup ≡ p.setup → new.replicas ≡ p.replicas → new.boots ≡ p.boots
    → new.asked_at ≡ p.asked_at
    → HappensBeside old event output new
beside p old new event output seen is running setup replicas boots asked_at =
    subst (λ x. HappensBeside x event output new) seen (record {
      happens = inl is;
      setup = setup;
      replicas = replicas;
      boots = boots;
      asked_at = asked_at;
      kept = λ keeps stopped. absurd (false≢true (sym running ∙ stopped));
    })

-- nothing changes
pub beside_same : (p old : Cores) (event : Event) (output : Output) → p ≡ old → happens (world_of p) event ≡ (output, world_of p)
    → HappensBeside old event output old
beside_same p old event output seen is =
    subst (λ x. HappensBeside x event output x) seen
    (record { happens = inl is; setup = refl; replicas = refl; boots = refl; asked_at = refl; kept = λ keeps. keeps })

-- an answer is made with memory
abbrev pub TakesMemory : Output → Type 0
TakesMemory answer = takes_memory answer ≡ true

-- an event asks for memory where it would give this answer
abbrev Asks : World → Event → Output → Type 0
Asks w event answer = asks_for_memory w event answer ≡ true

-- it is out of memory where it asks for some, and nothing has changed
pub beside_memory : (p old new : Cores) (event : Event) (output : Output) (there : Output × World) → p ≡ old
    → happens (world_of p) event ≡ there → Asks (world_of p) event there.0 → output ≡ outputs.Memory → new ≡ old
    → HappensBeside old event output new
beside_memory p old new event output there seen is asks memory same =
    let asked = subst (λ (x : Cores). Asks (world_of x) event (happens (world_of x) event).0) seen
    (subst (λ (x : Output × World). Asks (world_of p) event x.0) (sym is) asks) in
    subst (λ x. HappensBeside old event output x) (sym same) (record {
      happens = inr (inl (memory, refl, asked));
      setup = refl;
      replicas = refl;
      boots = refl;
      asked_at = refl;
      kept = λ keeps. keeps;
    })

-- an event that asks for memory wherever its answer is made with some
abbrev pub AsksByAnswer : World → Event → Type 0
AsksByAnswer w event = (answer : Output) → TakesMemory answer → Asks w event answer

-- a primary that runs serves
runs_on : (p : Cores) (next : Output × World) → p.stopped ≡ false → unless_stopped (world_of p) next ≡ next
runs_on p next running = ap (λ (stopped : Bool). cond stopped (outputs.Stopped, world_of p) next) running

-- the parts with these transactions
abbrev with_slots : Cores → List (Option Transaction) → Cores
with_slots p slots = record p { transactions = slots }

-- what stood in a slot is put back there
put_same : (p : Cores) (number : ℕ) (slot : Option Transaction) (left : List (Option Transaction))
    → open_transaction p.transactions number ≡ slot
    → left ≡ slice_set p.transactions number slot → p ≡ with_slots p left
put_same p number slot left at is = ap (with_slots p) (sym (is ∙ slot_same p.transactions number slot at))

-- a change of a transaction, as the world has it
abbrev change_in : World → ℕ → (Transaction → Result Transaction TxFault) → Option Transaction → Output × World
change_in w number change slot = on_transaction w slot (λ draft. change_happens w number (change draft))

-- an event that changes a transaction of a primary that runs
pub change-is : (p : Cores) (number : ℕ) (event : Event) → ChangesTransaction number event → p.stopped ≡ false
    → happens (world_of p) event
    ≡ change_in (world_of p) number (change_answer (shape_of p.primary.schema) p.primary.durable event)
    (open_transaction p.transactions number)
change-is p number (events.Insert transaction table row values) is running =
    runs_on p _ running ∙ ap (λ n. change_in (world_of p) n
    (λ draft. insert_answer (shape_of p.primary.schema) p.primary.durable draft table row.0 values) (open_transaction p.transactions n))
    (sym is)
change-is p number (events.Set transaction table row column value) is running =
    runs_on p _ running ∙ ap (λ n. change_in (world_of p) n
    (λ draft. set_answer (shape_of p.primary.schema) p.primary.durable draft table row.0 column value)
    (open_transaction p.transactions n)) (sym is)
change-is p number (events.Delete transaction table row) is running =
    runs_on p _ running ∙ ap (λ n. change_in (world_of p) n
    (λ draft. delete_answer (shape_of p.primary.schema) p.primary.durable draft table row.0) (open_transaction p.transactions n))
    (sym is)
change-is p number (events.AddColumn transaction table default) is running =
    runs_on p _ running ∙ ap (λ n. change_in (world_of p) n
    (λ draft. add_column_answer (shape_of p.primary.schema) p.primary.durable draft table default) (open_transaction p.transactions n))
    (sym is)
change-is p number other is running = absurd is

pub change-asks : (w : World) (number : ℕ) (event : Event) → ChangesTransaction number event → AsksByAnswer w event
change-asks w number (events.Insert transaction table row values) is answer takes = takes
change-asks w number (events.Set transaction table row column value) is answer takes = takes
change-asks w number (events.Delete transaction table row) is answer takes = takes
change-asks w number (events.AddColumn transaction table default) is answer takes = takes
change-asks w number other is answer takes = absurd is

module _ (p old : Cores) (seen : p ≡ old) (running : p.stopped ≡ false) (number : ℕ) where
  -- a change of a transaction, which is taken out of its slot, changed or not, and put back
  module _ (event : Event) (change : Transaction → Result Transaction TxFault)
      (is_change : happens (world_of p) event ≡ change_in (world_of p) number change (open_transaction p.transactions number)) where
    by_slot : (slot : Option Transaction) (output : Output) (left : List (Option Transaction))
        → open_transaction p.transactions number ≡ slot
        → change_in (world_of p) number change slot ≡ (output, world_of (with_slots p left))
        → HappensBeside old event output (with_slots p left)
    by_slot slot output left at is =
        beside p old (with_slots p left) event output seen (is_change ∙ ap (change_in (world_of p) number change) at
        ∙ is) running refl refl refl refl

    pub change_nothing : (left : List (Option Transaction)) → open_transaction p.transactions number ≡ None
        → left ≡ slice_set p.transactions number None
        → HappensBeside old event outputs.NoTx (with_slots p left)
    change_nothing left at is = by_slot None outputs.NoTx left at (ap (λ x. (outputs.NoTx, world_of x)) (put_same p number None left at is))

    changed : (draft after : Transaction) (left : List (Option Transaction)) → open_transaction p.transactions number ≡ Some draft
        → left ≡ slice_set (slice_set p.transactions number None) number (Some after) → change draft ≡ Ok after
        → HappensBeside old event outputs.Accepted (with_slots p left)
    changed draft after left at is ok =
        by_slot (Some draft) outputs.Accepted left at
        (ap (change_happens (world_of p) number) ok
        ∙ ap (λ (slots : List (Option Transaction)). (outputs.Accepted, world_of (with_slots p slots)))
        (sym (is ∙ set-set p.transactions number None (Some after))))

    -- a change that is taken is made with memory
    change_takes : (told : Result Transaction TxFault) → IsOk told → TakesMemory (change_happens (world_of p) number told).0
    change_takes (Ok after) ok = refl
    change_takes (Err fault) ok = absurd (false≢true ok)

    change_refused : (draft after : Transaction) (fault : TxFault) (left : List (Option Transaction)) (told : Result Transaction TxFault)
        → AsksByAnswer (world_of p) event → open_transaction p.transactions number ≡ Some draft
        → left ≡ slice_set (slice_set p.transactions number None) number (Some after) → after ≡ draft → change draft ≡ told
        → ((fault ≡ changes.Memory) × IsOk told) ⊎ (told ≡ Err fault)
        → HappensBeside old event (of_change fault) (with_slots p left)
    change_refused draft after fault left told asks at is same tells refusal =
        let stays =
        put_same p number (Some draft) left at
        (is ∙ set-set p.transactions number None (Some after) ∙ ap (λ x. slice_set p.transactions number (Some x)) same) in
        elim refusal [
          | inl memory ↦ beside_memory p old (with_slots p left) event (of_change fault) (change_happens (world_of p) number told) seen
              (is_change ∙ ap (change_in (world_of p) number change) at ∙ ap (change_happens (world_of p) number) tells)
              (asks (change_happens (world_of p) number told).0 (change_takes told memory.1)) (ap of_change memory.0) (sym stays ∙ seen)
          | inr refused ↦ by_slot (Some draft) (of_change fault) left at
              (ap (change_happens (world_of p) number) (tells ∙ refused) ∙ ap (λ x. (of_change fault, world_of x)) stays)
        ]

    pub answered : (draft after : Transaction) (left : List (Option Transaction)) (told : Result Transaction TxFault)
        (result : Result (Unit {0}) TxFault) → AsksByAnswer (world_of p) event
        → open_transaction p.transactions number ≡ Some draft
        → left ≡ slice_set (slice_set p.transactions number None) number (Some after) → change draft ≡ told → OnOk result (told ≡ Ok after)
        → IfErr result (λ fault. (after ≡ draft) × (((fault ≡ changes.Memory) × IsOk told) ⊎ (told ≡ Err fault)))
        → HappensBeside old event (of_changed result) (with_slots p left)
    answered draft after left told (Ok done) asks at is tells ok refused = changed draft after left at is (tells ∙ ok)
    answered draft after left told (Err fault) asks at is tells ok refused =
        change_refused draft after fault left told asks at is refused.0 tells refused.1

  -- a look at a column
  look_done : (event : Event) (look : Transaction → Result Value TxFault)
      → happens (world_of p) event
      ≡ on_transaction (world_of p) (open_transaction p.transactions number) (λ draft. (of_look (look draft), world_of p))
      → (slot : Option Transaction) (output : Output) → open_transaction p.transactions number ≡ slot
      → on_transaction (world_of p) slot (λ draft. (of_look (look draft), world_of p)) ≡ (output, world_of p)
      → HappensBeside old event output old
  look_done event look is_look slot output at is =
      beside_same p old event output seen
      (is_look ∙ ap (λ slot. on_transaction (world_of p) slot (λ draft. (of_look (look draft), world_of p))) at ∙ is)

  pub look_nothing : (event : Event) (look : Transaction → Result Value TxFault)
      → happens (world_of p) event
      ≡ on_transaction (world_of p) (open_transaction p.transactions number) (λ draft. (of_look (look draft), world_of p))
      → open_transaction p.transactions number ≡ None → HappensBeside old event outputs.NoTx old
  look_nothing event look is_look at = look_done event look is_look None outputs.NoTx at refl

  pub looked : (event : Event) (look : Transaction → Result Value TxFault)
      → happens (world_of p) event
      ≡ on_transaction (world_of p) (open_transaction p.transactions number) (λ draft. (of_look (look draft), world_of p))
      → (draft : Transaction) (seen : Result Value TxFault) → open_transaction p.transactions number ≡ Some draft → look draft ≡ seen
      → HappensBeside old event (of_look seen) old
  looked event look is_look draft seen at is =
      look_done event look is_look (Some draft) (of_look seen) at (ap (λ answer. (of_look answer, world_of p)) is)

  -- a transaction is taken out of its slot for good
  pub gave_up : (slot : Option Transaction) (left : List (Option Transaction)) → open_transaction p.transactions number ≡ slot
      → left ≡ slice_set p.transactions number None
      → HappensBeside old (events.Abort number) (on_transaction (world_of p) slot (λ draft. abort_happens (world_of p) number)).0
      (with_slots p left)
  gave_up slot left at is =
      let world = world_of p in
      beside p old (with_slots p left) (events.Abort number) (on_transaction world slot (λ draft. abort_happens world number)).0 seen
      (runs_on p _ running ∙ ap (λ slot. on_transaction world slot (λ draft. abort_happens world number)) at ∙ by slot at) running refl refl
      refl refl
    where
      by : (slot : Option Transaction) → open_transaction p.transactions number ≡ slot
          → on_transaction (world_of p) slot (λ draft. abort_happens (world_of p) number)
          ≡ ((on_transaction (world_of p) slot (λ draft. abort_happens (world_of p) number)).0, world_of (with_slots p left))
      by None at = ap (λ x. (outputs.NoTx, world_of x)) (put_same p number None left at is)
      by (Some draft) at =
          ap (λ (slots : List (Option Transaction)). (outputs.Accepted, world_of (with_slots p slots))) (sym is)

  -- a transaction that is put back leaves all as it was
  pub put_back_same : (draft after : Transaction) (left : List (Option Transaction)) → open_transaction p.transactions number ≡ Some draft
      → left ≡ slice_set (slice_set p.transactions number None) number (Some after) → after ≡ draft → with_slots p left ≡ old
  put_back_same draft after left at is same =
      sym (put_same p number (Some draft) left at
      (is ∙ set-set p.transactions number None (Some after) ∙ ap (λ x. slice_set p.transactions number (Some x)) same)) ∙ seen

  module _ (worker : ℕ) where
    commit_by : (slot : Option Transaction) (output : Output) (new : Cores) → open_transaction p.transactions number ≡ slot
        → on_transaction (world_of p) slot (λ draft. commit_happens (world_of p) number worker draft (commit_answer p.primary worker draft))
        ≡ (output, world_of new)
        → new.stopped ≡ false → new.setup ≡ p.setup → new.replicas ≡ p.replicas → new.boots ≡ p.boots
        → new.asked_at ≡ p.asked_at
        → HappensBeside old (events.Commit number worker) output new
    commit_by slot output new at is runs setup replicas boots asked_at =
        beside p old new (events.Commit number worker) output seen
        (runs_on p _ running ∙ ap (λ slot. on_transaction (world_of p) slot
        (λ draft. commit_happens (world_of p) number worker draft (commit_answer p.primary worker draft))) at ∙ is)
        runs setup replicas boots asked_at

    -- a commit that is taken is made with memory
    commit_takes : (draft : Transaction) (answer : Result ℕ CommitFault) → IsOk answer
        → TakesMemory (commit_happens (world_of p) number worker draft answer).0
    commit_takes draft (Ok ticket) ok = refl
    commit_takes draft (Err fault) ok = absurd (false≢true ok)

    -- there is no memory for a commit, and its transaction is put back
    pub commit_lacks : (draft after : Transaction) (left : List (Option Transaction)) → open_transaction p.transactions number ≡ Some draft
        → left ≡ slice_set (slice_set p.transactions number None) number (Some after) → after ≡ draft
        → ((commits.Memory ≡ commits.Memory) × IsOk (commit_answer p.primary worker draft))
        ⊎ (commit_answer p.primary worker draft ≡ Err commits.Memory)
        → HappensBeside old (events.Commit number worker) outputs.Memory (with_slots p left)
    commit_lacks draft after left at is same refusal = elim refusal [
      | inl memory ↦ beside_memory p old (with_slots p left) (events.Commit number worker) outputs.Memory
          (commit_happens (world_of p) number worker draft (commit_answer p.primary worker draft)) seen
          (runs_on p _ running ∙ ap (λ slot. on_transaction (world_of p) slot
          (λ draft. commit_happens (world_of p) number worker draft (commit_answer p.primary worker draft))) at)
          (commit_takes draft (commit_answer p.primary worker draft) memory.1) refl (put_back_same draft after left at is same)
      | inr refused ↦ absurd (not-memory p.primary worker draft refused)
    ]

    pub commit_nothing : (left : List (Option Transaction)) → open_transaction p.transactions number ≡ None
        → left ≡ slice_set p.transactions number None
        → HappensBeside old (events.Commit number worker) outputs.NoTx (with_slots p left)
    commit_nothing left at is =
        commit_by None outputs.NoTx (with_slots p left) at (ap (λ x. (outputs.NoTx, world_of x)) (put_same p number None left at is))
        running refl refl refl refl

    pub commit_taken : (draft : Transaction) (ticket : ℕ) (primary : Primary) (journal : List ℕ) (left : List (Option Transaction))
        → open_transaction p.transactions number ≡ Some draft → left ≡ slice_set p.transactions number None
        → commit_answer p.primary worker draft ≡ Ok ticket → primary ≡ committed p.primary worker draft.entries
        → HappensBeside old (events.Commit number worker) (outputs.Ticket ticket)
        (record p { primary = primary; journal = journal; transactions = left })
    commit_taken draft ticket primary journal left at is ok made =
        commit_by (Some draft) (outputs.Ticket ticket) (record p { primary = primary; journal = journal; transactions = left }) at
        (ap (commit_happens (world_of p) number worker draft) ok
        ∙ ap (λ (x : Primary × List (Option Transaction)).
        (outputs.Ticket ticket, world_of (record p { primary = x.0; journal = journal; transactions = x.1 })))
        (sym cc)) running refl refl refl refl

    pub commit_refused : (draft : Transaction) (fault : CommitFault) (primary : Primary) (journal : List ℕ)
        (left : List (Option Transaction))
        → open_transaction p.transactions number ≡ Some draft → left ≡ slice_set p.transactions number None
        → commit_answer p.primary worker draft ≡ Err fault → primary ≡ p.primary
        → HappensBeside old (events.Commit number worker) (of_commit fault)
        (record p { primary = primary; journal = journal; transactions = left })
    commit_refused draft fault primary journal left at is refused same =
        commit_by (Some draft) (of_commit fault) (record p { primary = primary; journal = journal; transactions = left }) at
        (ap (commit_happens (world_of p) number worker draft) refused
        ∙ ap (λ (x : Primary × List (Option Transaction)).
        (of_commit fault, world_of (record p { primary = x.0; journal = journal; transactions = x.1 }))) (sym cc)) running refl refl
        refl refl

-- ---- a run that waits

abbrev is_waiting : Run → Bool
is_waiting (runs.WaitingPiece number pull) = true
is_waiting (runs.Waiting worker seq want) = true
is_waiting other = false

-- a replica that waits for a piece or a frame is as it was
waits_same : (old new : Replica) (answer : Run) → is_waiting answer ≡ true → MayRun old answer new → new ≡ old
waits_same old new answer waits (inl run) = by (readiness_of old) run
  where
    by : (found : Readiness) → RunsAs found old answer new → new ≡ old
    by (WaitsForPiece base number) told = told.1
    by (WaitsForFrame other from) told = told.1
    by (Ready plans fetched) (inl ends) = absurd (true≢false (sym waits ∙ ap is_waiting ends.2))
    by (Ready plans fetched) (inr ends) = absurd (true≢false (sym waits ∙ ap is_waiting ends.1))
    by Broken told = told.1
    by NoBatch told = told.1
    by WaitsForHead told = told.1
waits_same old new answer waits (inr lacks) = elim lacks.2 [
  | inl memory ↦ absurd (true≢false (sym waits ∙ ap is_waiting memory.0))
  | inr broken ↦ absurd (true≢false (sym waits ∙ ap is_waiting broken.0))
]

-- ---- calls on a replica

module _ (p old : Cores) (seen : p ≡ old) (number : ℕ) where
  module _ (before after : Replica) (at : slice_get p.replicas number ≡ Some before) where
    pub replica_same : after ≡ before → p ≡ with_replica p number after
    replica_same same =
        ap (λ (replicas : List Replica). record p { replicas = replicas })
        (sym (ap (slice_set p.replicas number) same ∙ set_same p.replicas number before at))

    module _ (plan : Plan) where
      by_replica : (output : Output) (new : Cores) → opening_query p number (opened before plan) ≡ (output, new)
          → MayStep old (events.Open number plan) output new
      by_replica output new is = subst (λ x. MayStep x (events.Open number plan) output new) seen (inl (ap (open_by p number plan) at ∙ is))

      pub opened_query : (count : ℕ) → opened before plan ≡ Ok (count, after)
          → MayStep old (events.Open number plan) (outputs.Opened count) (with_replica p number after)
      opened_query count ok = by_replica _ _ (ap (opening_query p number) ok)

      -- a query that is opened takes memory
      pub open_takes : IsOk (opened before plan) → TakesMemory (open_by old number plan (slice_get old.replicas number)).0
      open_takes ok =
          subst (λ (x : Cores). TakesMemory (open_by x number plan (slice_get x.replicas number)).0) seen
          (subst (λ (found : Option Replica). TakesMemory (open_by p number plan found).0) (sym at) (by (opened before plan) ok))
        where
          by : (answer : Result (ℕ × Replica) OpenFault) → IsOk answer → TakesMemory (opening_query p number answer).0
          by (Ok made) ok = refl
          by (Err fault) ok = absurd (false≢true ok)

      pub open_refused : (fault : OpenFault) → after ≡ before → ((fault ≡ opens.Memory) × IsOk (opened before plan))
          ⊎ (opened before plan ≡ Err fault)
          → MayStep old (events.Open number plan) (of_open fault) (with_replica p number after)
      open_refused fault same (inl memory) = inr (ap of_open memory.0, sym (replica_same same) ∙ seen, open_takes memory.1)
      open_refused fault same (inr refused) =
          by_replica _ _ (ap (opening_query p number) refused ∙ ap (λ x. (of_open fault, x)) (replica_same same))

    pub ask_told : (fault : AskFault) → asked before ≡ Err fault → MayStep old (events.Ask number) (of_ask fault) old
    ask_told fault refused =
        subst (λ x. MayStep x (events.Ask number) (of_ask fault) x) seen
        (inl (ap (ask_by p number) at ∙ ap (asking p number before.batch) refused))

    -- an ask for which there is no memory
    pub ask_lacks : IsOk (asked before) → (new : Cores) → new ≡ old → MayStep old (events.Ask number) outputs.Memory new
    ask_lacks taken new same = inr (
      refl,
      same,
      subst (λ (x : Cores). TakesMemory (ask_by x number (slice_get x.replicas number)).0) seen
          (subst (λ (found : Option Replica). TakesMemory (ask_by p number found).0) (sym at) (by (asked before) taken)),
    )
      where
        by : (answer : Result (Out × Replica) AskFault) → IsOk answer → TakesMemory (asking p number before.batch answer).0
        by (Ok done) ok = refl
        by (Err fault) ok = absurd (false≢true ok)

    -- a renewal that is refused
    pub renew_told : (fault : AskFault) → (after ≡ before) × (renewed before ≡ Err fault)
        → MayStep old (events.Renew number) (of_ask fault) (with_replica p number after)
    renew_told fault refused =
        subst (λ x. MayStep x (events.Renew number) (of_ask fault) (with_replica p number after)) seen
        (inl (ap (renew_by p number) at ∙ ap (renewing p number) refused.1 ∙ ap (λ x. (of_ask fault, x)) (replica_same refused.0)))

    -- one for which there is no memory
    pub renew_lacks : is_ok (renewed before) ≡ true → (new : Cores) → new ≡ old → MayStep old (events.Renew number) outputs.Memory new
    renew_lacks taken new same = inr (
      refl,
      same,
      subst (λ (x : Cores). TakesMemory (renew_by x number (slice_get x.replicas number)).0) seen
          (subst (λ (found : Option Replica). TakesMemory (renew_by p number found).0) (sym at) (by (renewed before) taken)),
    )
      where
        by : (answer : Result (Out × Replica) AskFault) → is_ok answer ≡ true → TakesMemory (renewing p number answer).0
        by (Ok done) ok = refl
        by (Err fault) ok = absurd (false≢true ok)

    -- and one that is sent
    pub renew_sent : (out : Out) (list : List Sent) (sent : List (List ℕ)) → renewed before ≡ Ok (out, after)
        → list ≡ record { index = length p.sent; len = length out.packet } ∷ [] → sent ≡ p.sent ++ out.packet ∷ []
        → MayStep old (events.Renew number) (outputs.Sent list) (record (with_replica p number after) { sent = sent })
    renew_sent out list sent taken list_is sent_is =
        subst (λ x. MayStep x (events.Renew number) (outputs.Sent list) (record (with_replica p number after) { sent = sent })) seen
        (inl (ap (renew_by p number) at ∙ ap (renewing p number) taken
        ∙ (λ i. (outputs.Sent (sym list_is i), record (with_replica p number after) { sent = sym sent_is i }))))

    -- what a run answers and leaves
    pub ran : (answer : Run) → MayRun before answer after
        → MayStep old (events.Run number) (run_output p number (answer, after)).0 (run_output p number (answer, after)).1
    ran answer may =
        let output = (run_output p number (answer, after)).0 in
        let new = (run_output p number (answer, after)).1 in
        subst (λ x. MayStep x (events.Run number) output new) seen
        (subst (λ (found : Option Replica). ReplicaRunsBy p number found output new) (sym at) (answer, after, may, inl refl))

    -- a run that waits has changed nothing, so that what it sends may lack memory
    waits_told : (answer : Run) → is_waiting answer ≡ true → TakesMemory (run_output p number (answer, after)).0
        → MayRun before answer after → (output : Output) (new : Cores)
        → ((output ≡ (run_output p number (answer, after)).0) × (new ≡ (run_output p number (answer, after)).1))
        ⊎ ((output ≡ outputs.Memory) × (new ≡ with_replica p number after))
        → MayStep old (events.Run number) output new
    waits_told answer waits takes may output new sends =
        subst (λ x. MayStep x (events.Run number) output new) seen
        (subst (λ (found : Option Replica). ReplicaRunsBy p number found output new) (sym at) (
          answer,
          after,
          may,
          elim sends [
            | inl sent ↦
                let same : ◌≡◌ {A = Output × Cores} (output, new) (run_output p number (answer, after)) = λ i. (sent.0 i, sent.1 i) in
                inl (sym same)
            | inr lacks ↦ inr (lacks.0, lacks.1 ∙ sym (replica_same (waits_same before after answer waits may)), takes)
          ],
        ))

    pub run_waits : (worker seq : ℕ) (want : Out) → MayRun before (runs.Waiting worker seq want) after → (output : Output) (new : Cores)
        → ((output ≡ waiting_for p worker seq want.packet) × (new ≡ with_sent (with_replica p number after) want.packet))
        ⊎ ((output ≡ outputs.Memory) × (new ≡ with_replica p number after))
        → MayStep old (events.Run number) output new
    run_waits worker seq want = waits_told (runs.Waiting worker seq want) refl refl

    pub run_waits_piece : (piece : ℕ) (pull : Out) → MayRun before (runs.WaitingPiece piece pull) after → (output : Output) (new : Cores)
        → ((output ≡ waiting_for_piece p piece pull.packet) × (new ≡ with_sent (with_replica p number after) pull.packet))
        ⊎ ((output ≡ outputs.Memory) × (new ≡ with_replica p number after))
        → MayStep old (events.Run number) output new
    run_waits_piece piece pull = waits_told (runs.WaitingPiece piece pull) refl refl
