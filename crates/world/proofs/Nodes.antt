-- The parts by what the primary's node is, and what a stop and a start make of it.
use Rattle.std.proofs.Common.{◌≡◌, ℕ, zero, suc, ◌+◌, ◌<◌, ◌++◌, List, [], ◌∷◌, length, replicate}
use Rattle.std.proofs.Common.{take, drop, Bool, true, false, Option, None}
use Rattle.std.proofs.Common.{refl, sym, ap, subst, ◌∙◌, inl, inr, arith}
use Rattle.std.specs.List.{slice_set}
use Rattle.std.proofs.lemmas.Bool.{false≢true}
use Rattle.rows.specs.declared.commit.Commit.{Commit}
use Rattle.rows.specs.declared.kind.Kind.{Kind}
use Rattle.rows.specs.Shape.{Shape, shape_of}
use Rattle.mvcc.specs.Transaction.{Transaction}
use Rattle.journal.specs.declared.form.Form.{Form}
use Rattle.journal.specs.declared.form.Form.TheVariants.{New}
use Rattle.journal.specs.Laws.{StopsAreRecovered, IsRecoveredOnce, FormStays, TextGrows, StartedGoesOn}
use Rattle.journal.specs.Recovery.{IsJournaled, IsRecovered}
use Rattle.journal.specs.Text.{header, journal_text, records_from, started}
use Rattle.primary.specs.Journaling.{IsFormOf}
use Rattle.primary.specs.State.{Primary}
use Rattle.dispatcher.specs.State.{Replica}
use Rattle.script.specs.declared.event.Event.TheVariants.{Stop, Start}
use Rattle.script.specs.declared.output.Output.TheVariants as outputs
use Rattle.script.specs.declared.setup.Setup.{Setup}
use Rattle.world.specs.Inner.CoreSteps.{MayStep}
use Rattle.world.specs.declared.primary_node.PrimaryNode.{PrimaryNode}
use Rattle.world.specs.Inner.Running.{Running as RunningOf}
use Rattle.world.specs.Inner.Nodes.{primary_kept, primary_in, durable_in, is_stopped, journal_bytes_in, form_in, opening_of}
use Rattle.world.specs.declared.primary_node.PrimaryNode.TheVariants.{Running, Stopped}
use Rattle.world.specs.Cores.{Cores, Opening, new_opening, cores_started, replicas_from, zeros}
use Rattle.world.specs.Standing.{world_of}
use Rattle.world.specs.Stops.{stopped_at, closed}
use Rattle.world.proofs.Stops.{stop-recovered}

-- the parts, by the primary's node
abbrev pub parts_with : Setup → PrimaryNode → List (Option Transaction) → List (List ℕ) → List Replica → List (List ℕ) → List ℕ → Cores
parts_with setup node transactions sent replicas boots asked_at = record {
  setup = setup;
  primary = primary_in setup node;
  stopped = is_stopped node;
  journal = journal_bytes_in node;
  form = form_in node;
  transactions = transactions;
  sent = sent;
  replicas = replicas;
  boots = boots;
  asked_at = asked_at;
}

-- what the parts are where the primary's node is known
pub node_seen : (setup : Setup) (node known : PrimaryNode) (transactions : List (Option Transaction)) (sent : List (List ℕ))
    (replicas : List Replica) (boots : List (List ℕ)) (asked_at : List ℕ) (old : Cores) → node ≡ known
    → parts_with setup node transactions sent replicas boots asked_at ≡ old
    → parts_with setup known transactions sent replicas boots asked_at ≡ old
node_seen setup node known transactions sent replicas boots asked_at old is seen =
    sym (ap (λ (n : PrimaryNode). parts_with setup n transactions sent replicas boots asked_at) is) ∙ seen

-- a journal without bytes keeps nothing
pub nothing_kept : (workers : ℕ) (shape : Shape) (bytes : List ℕ) → bytes ≡ [] → IsRecovered workers shape bytes New [] 0
nothing_kept workers shape bytes is =
    subst (λ (b : List ℕ). IsRecovered workers shape b New [] 0) (sym is)
    (inl ((New, (header New workers shape, refl), omega arith), refl, refl, refl))

same-opening : (setup : Setup) (bytes bytes' : List ℕ) (form form' : Form) (durable durable' : List Commit) → bytes ≡ bytes' → form ≡ form'
    → durable ≡ durable'
    → ◌≡◌ {A = Opening} (record { setup = setup; stopped = false; journal = bytes; form = form; durable = durable })
    (record { setup = setup; stopped = false; journal = bytes'; form = form'; durable = durable' })
same-opening setup bytes bytes' form form' durable durable' e e' e'' =
    ap (λ (b : List ℕ). record { setup = setup; stopped = false; journal = b; form = form; durable = durable }) e
    ∙ ap (λ (f : Form). record { setup = setup; stopped = false; journal = bytes'; form = f; durable = durable }) e'
    ∙ ap (λ (d : List Commit). record { setup = setup; stopped = false; journal = bytes'; form = form'; durable = d }) e''

-- the primary that has started on an empty journal is that of a new world
pub opening_new : (setup : Setup) (core : RunningOf) → core.primary ≡ primary_kept setup [] → core.form ≡ New
    → core.journal.bytes ≡ journal_text core.form setup.workers (shape_of setup.schema) core.primary.durable
    → opening_of setup (Running core) ≡ new_opening setup
opening_new setup core primary form text =
    let bytes : core.journal.bytes ≡ journal_text New setup.workers (shape_of setup.schema) [] =
    text ∙ ap (λ (f : Form). journal_text f setup.workers (shape_of setup.schema) core.primary.durable) form
    ∙ ap (λ (p : Primary). journal_text New setup.workers (shape_of setup.schema) p.durable) primary in
    let durable : core.primary.durable ≡ [] = ap (λ (p : Primary). p.durable) primary in
    same-opening setup core.journal.bytes (journal_text New setup.workers (shape_of setup.schema) []) core.form New core.primary.durable []
    bytes form durable

-- parts that are equal one by one
same-parts : (setup setup' : Setup) (p p' : Primary) (stopped : Bool) (journal : List ℕ) (form : Form)
    (transactions transactions' : List (Option Transaction)) (sent sent' : List (List ℕ)) (replicas replicas' : List Replica)
    (boots boots' : List (List ℕ)) (asked_at asked_at' : List ℕ) → setup ≡ setup' → p ≡ p' → transactions ≡ transactions' → sent ≡ sent'
    → replicas ≡ replicas' → boots ≡ boots' → asked_at ≡ asked_at'
    → ◌≡◌ {A = Cores} (record {
      setup = setup;
      primary = p;
      stopped = stopped;
      journal = journal;
      form = form;
      transactions = transactions;
      sent = sent;
      replicas = replicas;
      boots = boots;
      asked_at = asked_at;
    }) (record {
      setup = setup';
      primary = p';
      stopped = stopped;
      journal = journal;
      form = form;
      transactions = transactions';
      sent = sent';
      replicas = replicas';
      boots = boots';
      asked_at = asked_at';
    })
same-parts setup setup' p p' stopped journal form transactions transactions' sent sent' replicas replicas' boots boots' asked_at asked_at'
    a b c d e f g =
    let all
    : (setup, p, transactions, sent, replicas, boots, asked_at) ≡ (setup', p', transactions', sent', replicas', boots', asked_at')
    = cc (a, b, c, d, e, f, g) in
    ap (λ (x : Setup × Primary × List (Option Transaction) × List (List ℕ) × List Replica × List (List ℕ) × List ℕ). record {
      setup = x.0;
      primary = x.1;
      stopped = stopped;
      journal = journal;
      form = form;
      transactions = x.2;
      sent = x.3;
      replicas = x.4;
      boots = x.5;
      asked_at = x.6;
    }) all

-- the parts at the beginning, around a primary of which nothing is pending
pub parts_made : (setup copy : Setup) (node : PrimaryNode) (transactions : List (Option Transaction)) (sent : List (List ℕ))
    (replicas : List Replica) (boots : List (List ℕ)) (asked_at : List ℕ) → copy ≡ setup
    → primary_in setup node ≡ primary_kept setup (durable_in node) → transactions ≡ [] → sent ≡ []
    → replicas ≡ replicas_from setup.schema setup.workers 0 setup.replicas → boots ≡ replicate setup.replicas (1 ∷ [])
    → asked_at ≡ zeros setup.replicas
    → parts_with copy node transactions sent replicas boots asked_at ≡ cores_started (opening_of setup node)
parts_made setup copy node transactions sent replicas boots asked_at same primary none unsent made first noted =
    let here : primary_in copy node ≡ primary_kept setup (durable_in node) = ap (λ (s : Setup). primary_in s node) same ∙ primary in
    same-parts copy setup (primary_in copy node) (primary_kept setup (durable_in node)) (is_stopped node) (journal_bytes_in node)
    (form_in node) transactions [] sent [] replicas (replicas_from setup.schema setup.workers 0 setup.replicas) boots
    (replicate setup.replicas (1 ∷ [])) asked_at (zeros setup.replicas) same here none unsent made first noted

-- of a primary that is stopped nothing is pending
pub stopped_still : (setup : Setup) (node : PrimaryNode) → is_stopped node ≡ true
    → primary_in setup node ≡ primary_kept setup (durable_in node)
stopped_still setup (Running core) stopped = absurd (false≢true stopped)
stopped_still setup (Stopped journal kept form) stopped = refl

-- transactions that are given up one after the other
pub closed_set : (transactions : List (Option Transaction)) (i : ℕ) → i < length transactions
    → slice_set (closed (take i transactions) ++ drop i transactions) i None
    ≡ closed (take (i + 1) transactions) ++ drop (i + 1) transactions
closed_set [] i within = absurd (omega arith)
closed_set (slot ∷ slots) zero within = refl
closed_set (slot ∷ slots) (suc i) within =
    let next : suc (i + 1) ≡ suc i + 1 = omega arith in
    ap (λ (l : List (Option Transaction)). None ∷ l) (closed_set slots i (omega arith))
    ∙ ap (λ (n : ℕ). closed (take n (slot ∷ slots)) ++ drop n (slot ∷ slots)) next

pub closed_length : (transactions : List (Option Transaction)) → length (closed transactions) ≡ length transactions
closed_length [] = refl
closed_length (slot ∷ slots) = ap suc (closed_length slots)

-- ---- what a stop leaves

module _ (stops : StopsAreRecovered) (once : IsRecoveredOnce) (stays : FormStays) (grows : TextGrows) (goes_on : StartedGoesOn)
    (setup : Setup)
    (p : Primary) (bytes : ℕ) (journal content : List ℕ) (form : Form)
    (set : (setup.schema ≡ p.schema) × (setup.workers ≡ p.workers))
    (journaled : IsJournaled p.workers (shape_of p.schema) (p.durable ++ p.pending)) (formed : IsFormOf form p.durable)
    (text : journal ≡ journal_text form p.workers (shape_of p.schema) p.durable)
    (is : content ≡ journal ++ take bytes (records_from (length p.durable) p.pending)) where
  same_setup : ◌≡◌ {A = ℕ × List (List ℕ × List Kind)} (setup.workers, setup.schema) (p.workers, p.schema)
  same_setup = cc (set.0, set.1)

  left : content ≡ journal_text form p.workers (shape_of p.schema) p.durable ++ take bytes (records_from (length p.durable) p.pending)
  left = is ∙ ap (λ (b : List ℕ). b ++ take bytes (records_from (length p.durable) p.pending)) text

  there : (count : ℕ) × IsRecovered p.workers (shape_of p.schema) content form (stopped_at p bytes).durable count
  there =
      let found = stop-recovered stops stays grows goes_on form (shape_of p.schema) p bytes journaled formed in (
        found.0,
        subst (λ (b : List ℕ). IsRecovered p.workers (shape_of p.schema) b form (stopped_at p bytes).durable found.0) (sym left) found.1,
      )

  -- it is not refused
  pub left_recovered : (found : Form) × (commits : List Commit) × (count : ℕ)
      × IsRecovered setup.workers (shape_of setup.schema) content found commits count
  left_recovered = (
    form,
    (stopped_at p bytes).durable,
    there.0,
    subst (λ (x : ℕ × List (List ℕ × List Kind)). IsRecovered x.0 (shape_of x.1) content form (stopped_at p bytes).durable there.0)
        (sym same_setup) there.1,
  )

  -- what is kept of it is what is durable then, in the same form
  pub left_kept : (found : Form) (kept : List Commit) (count : ℕ)
      → IsRecovered setup.workers (shape_of setup.schema) content found kept count → (found ≡ form) × (kept ≡ (stopped_at p bytes).durable)
  left_kept found kept count recovered =
      let same =
      once found form p.workers (shape_of p.schema) content kept (stopped_at p bytes).durable count there.0
      (subst (λ (x : ℕ × List (List ℕ × List Kind)). IsRecovered x.0 (shape_of x.1) content found kept count) same_setup recovered)
      there.1 in
      (same.0, same.1)

-- ---- stops and starts

module _ (setup : Setup) (p : Primary) (journal : List ℕ) (form : Form) (transactions : List (Option Transaction)) (sent : List (List ℕ))
    (replicas : List Replica) (boots : List (List ℕ)) (asked_at : List ℕ) where
  abbrev running : Cores
  running = record {
    setup = setup;
    primary = p;
    stopped = false;
    journal = journal;
    form = form;
    transactions = transactions;
    sent = sent;
    replicas = replicas;
    boots = boots;
    asked_at = asked_at;
  }

  abbrev stopped : List Commit → List ℕ → Form → List (Option Transaction) → Cores
  stopped kept bytes found slots = record {
    setup = setup;
    primary = primary_kept setup kept;
    stopped = true;
    journal = bytes;
    form = found;
    transactions = slots;
    sent = sent;
    replicas = replicas;
    boots = boots;
    asked_at = asked_at;
  }

  -- the primary stops, and leaves the bytes that the stop names
  pub stop_done : (old : Cores) (bytes count : ℕ) (content : List ℕ) (found : Form) (kept : List Commit) (left : List ℕ)
      (slots : List (Option Transaction))
      → running ≡ old → (setup.schema ≡ p.schema) × (setup.workers ≡ p.workers)
      → (found ≡ form) × (kept ≡ (stopped_at p bytes).durable)
      → IsRecovered setup.workers (shape_of setup.schema) content found kept count → left ≡ content
      → content ≡ journal ++ take bytes (records_from (length p.durable) p.pending) → slots ≡ closed transactions
      → MayStep old (Stop bytes) outputs.Stopped (stopped kept left found slots)
  stop_done old bytes count content found kept left slots seen set same recovered stands is over =
      let w = world_of running in
      let all : (p.schema, p.workers, (stopped_at p bytes).durable) ≡ (setup.schema, setup.workers, kept) = cc (set.0, set.1, same.1) in
      let made : stopped_at p bytes ≡ primary_kept setup kept =
      ap (λ (x : List (List ℕ × List Kind) × ℕ × List Commit). record
      (primary_kept setup kept) { schema = x.0; workers = x.1; durable = x.2 }) all in
      let happened : (stopped_at p bytes, closed transactions) ≡ (primary_kept setup kept, slots) = cc (made, over) in
      subst (λ (x : Cores). MayStep x (Stop bytes) outputs.Stopped (stopped kept left found slots)) seen (
        record {
          happens = inl (ap (λ (x : Primary × List (Option Transaction)).
              (outputs.Stopped, record w { primary = x.0; stopped = true; transactions = x.1 })) happened);
          setup = refl;
          replicas = refl;
          boots = refl;
          asked_at = refl;
          kept = λ keeps is. (
            count,
            subst (λ (b : List ℕ). IsRecovered setup.workers (shape_of setup.schema) b found kept count) (sym stands) recovered,
          );
        },
        λ was now. (stands ∙ is, same.0),
      )

  -- it starts on what is kept, in the form that a start leaves
  pub start_done : (old : Cores) (kept : List Commit) (bytes : List ℕ) (found : Form) → stopped kept bytes found transactions ≡ old
      → p ≡ primary_kept setup kept → form ≡ started found (length kept) → MayStep old Start (outputs.Durable (length p.durable)) running
  start_done old kept bytes found seen same marked =
      let w = world_of (stopped kept bytes found transactions) in
      subst (λ (x : Cores). MayStep x Start (outputs.Durable (length p.durable)) running) seen (
        record {
          happens = inl (ap (λ (x : Primary). (outputs.Durable (length x.durable), record w { primary = x; stopped = false })) (sym same));
          setup = refl;
          replicas = refl;
          boots = refl;
          asked_at = refl;
          kept = λ keeps is. absurd (false≢true is);
        },
        λ was now. marked,
      )

  -- it is out of memory, and stays stopped
  pub start_lacks : (old : Cores) (kept : List Commit) (bytes back : List ℕ) (found : Form) (count : ℕ)
      → stopped kept bytes found transactions ≡ old → IsRecovered setup.workers (shape_of setup.schema) back found kept count
      → MayStep old Start outputs.Memory (stopped kept back found transactions)
  start_lacks old kept bytes back found count seen recovered =
      subst (λ (x : Cores). MayStep x Start outputs.Memory (stopped kept back found transactions)) seen (
        record {
          happens = inr (inl (refl, refl, refl));
          setup = refl;
          replicas = refl;
          boots = refl;
          asked_at = refl;
          kept = λ keeps is. (count, recovered);
        },
        λ was now. absurd (false≢true (sym now)),
      )
