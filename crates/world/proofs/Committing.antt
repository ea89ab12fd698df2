-- What the primary does with transactions, commits and bytes leaves sound parts, and what a stop and a start leave.
use Rattle.std.proofs.Common.{◌≡◌, ℕ, zero, suc, ◌+◌, ◌-◌, ◌^◌, ◌<◌, ◌≤◌, Bool, true, false, cond, ◌==◌, List, [], ◌∷◌, ◌++◌}
use Rattle.std.proofs.Common.{length, take, drop, map}
use Rattle.std.proofs.Common.{Option, Some, None, Result, Ok, Err, nat_lt, refl, sym, ap, subst, ◌∙◌, inl, inr, arith}
use Rattle.std.specs.List.{slice_get, slice_set, AllByRecursion}
use Rattle.std.specs.Option.{option_map, option_and_then}
use Rattle.std.proofs.lemmas.Bool.{ltb-true, and_parts}
use Rattle.std.proofs.lemmas.List.{append_assoc, length-append, take-append-drop}
use Rattle.std.proofs.lemmas.Option.{none-some, same_Some}
use Rattle.rows.specs.declared.commit.Commit.{Commit}
use Rattle.rows.specs.declared.value.Value.{Value}
use Rattle.rows.specs.Shape.{Shape, shape_of}
use Rattle.rows.specs.Commits.{IsLegal, last_touching}
use Rattle.rows.specs.ImageLaws.{AreSpelled}
use Rattle.update_log.specs.declared.frame.Frame.{Frame}
use Rattle.update_log.specs.Frames.{IsSendable}
use Rattle.update_log.specs.Limits.{want_frames_max}
use Rattle.update_log.specs.Parts.{parts_of}
use Rattle.update_log.specs.Images.{pieces_at}
use Rattle.update_log.specs.Streams.{stream_of, frame_count}
use Rattle.wire.specs.declared.datagram.Datagram.{Datagram}
use Rattle.wire.specs.declared.datagram.Datagram.TheVariants as datagrams
use Rattle.wire.specs.declared.faults.WireFault.{WireFault}
use Rattle.wire.specs.Laws.{SpelledAreRead}
use Rattle.wire.specs.Reading.{reading}
use Rattle.wire.specs.Spelling.{spelling, frame_spelling, IsAsk}
use Rattle.mvcc.specs.declared.faults.TxFault.{TxFault}
use Rattle.primary.specs.declared.faults.CommitFault.{CommitFault}
use Rattle.primary.specs.declared.faults.CommitFault.TheVariants as faults
use Rattle.mvcc.specs.Transaction.{Transaction}
use Rattle.dispatcher.specs.Feeding.{Tells, IsTrueHead}
use Rattle.primary.specs.Steps.{commit_answer, flushed, is_foreign, next_number, has_numbers}
use Rattle.primary.specs.Sending.{answers, answers_to, head_for, low_of, wanted, frame_to, pulled, piece_to}
use Rattle.primary.specs.State.{Primary}
use Rattle.script.specs.declared.event.Node.TheVariants as nodes
use Rattle.script.specs.declared.output.Output.{Output}
use Rattle.script.specs.declared.output.Output.TheVariants as outputs
use Rattle.world.specs.Outputs.{of_look, packets_of}
use Rattle.world.specs.Cores.{Cores}
use Rattle.world.specs.Steps.{World, open_transaction, change_happens, commit_happens, abort_happens, on_transaction, push_happens}
use Rattle.world.specs.Steps.{base_happens}
use Rattle.world.specs.Steps.{deliver_happens}
use Rattle.world.specs.Steps.{stop_happens, delivered, raw_happens, is_forged}
use Rattle.world.specs.Stops.{stopped_at, whole_in, closed}
use Rattle.world.specs.Inner.Sound.{Sound, PrimaryListsAreLegal}
use Rattle.world.specs.Inner.Fresh.{Fresh}
use Rattle.world.proofs.Arriving.{Means, sent-means, raw-means}
use Rattle.world.specs.Standing.{world_of}
use Rattle.world.proofs.Datagrams.{frame-read, HasMarks, head-reads}
use Rattle.world.proofs.Durable.{legal-front, journaled-spelled, stream-grows}
use Rattle.world.proofs.FedLaws.{FedLaws}
use Rattle.world.proofs.Lists.{get-set, get-append, get-one, All-get, All-left}
use Rattle.world.proofs.Moves.{Sound-transactions, Sound-sent, Sound-one, Sound-pending, Sound-grown, Sound-apart}
use Rattle.world.proofs.Pieces.{pieces-counted, pulled-tells}
use Rattle.world.proofs.Streams.{frame-at, get-take, get-drop, counts-length, counts-are, counts-below}
use Rattle.world.proofs.Worlds.{beside_of}

-- ---- transactions

pub opened : (found : Option (Option Transaction)) (draft : Transaction) → option_and_then (λ slot. slot) found ≡ Some draft
    → found ≡ Some (Some draft)
opened None draft h = absurd (none-some draft h)
opened (Some slot) draft h = ap Some h

-- the transactions with one more
pub transactions-begun : (shape : Shape) (p : Cores) → Sound shape p
    → Sound shape (record p { transactions = p.transactions ++ Some (record { snapshot = length p.primary.durable; entries = [] }) ∷ [] })
transactions-begun shape p sound =
    let fresh : Transaction = record { snapshot = length p.primary.durable; entries = [] } in
    Sound-transactions shape p (p.transactions ++ Some fresh ∷ []) sound
    (λ i draft here. elim (get-append p.transactions (Some fresh ∷ []) i (Some draft) here) [
      | inl old ↦ sound.transactions_are i draft old
      | inr new ↦
          let same : draft ≡ fresh = same_Some draft fresh (get-one (Some fresh) new.0 (Some draft) new.1) in
          let snapshot = ap (λ (d : Transaction). d.snapshot) same in
          omega arith
    ])

-- one transaction changed
transactions-changed : (shape : Shape) (p : Cores) (number : ℕ) (new : Transaction) → Sound shape p
    → new.snapshot ≤ length p.primary.durable
    → Sound shape (record p { transactions = slice_set p.transactions number (Some new) })
transactions-changed shape p number new sound known =
    Sound-transactions shape p (slice_set p.transactions number (Some new)) sound
    (λ i draft here. elim (get-set p.transactions number (Some new) i (Some draft) here) [
      | inl same ↦
          let snapshot = ap (λ (d : Transaction). d.snapshot) (same_Some draft new same.1) in
          omega arith
      | inr old ↦ sound.transactions_are i draft old
    ])

-- one transaction no longer open
transactions-ended : (shape : Shape) (p : Cores) (number : ℕ) → Sound shape p
    → Sound shape (record p { transactions = slice_set p.transactions number None })
transactions-ended shape p number sound =
    Sound-transactions shape p (slice_set p.transactions number None) sound
    (λ i draft here. elim (get-set p.transactions number None i (Some draft) here) [
      | inl same ↦ absurd (none-some draft (sym same.1))
      | inr old ↦ sound.transactions_are i draft old
    ])

-- none is open
pub none-open : (transactions : List (Option Transaction)) (number : ℕ) (draft : Transaction)
    → ¬ (slice_get (closed transactions) number ≡ Some (Some draft))
none-open [] number draft h = absurd (none-some (Some draft) h)
none-open (slot ∷ slots) zero draft h = none-some draft (same_Some None (Some draft) h)
none-open (slot ∷ slots) (suc number) draft h = none-open slots number draft h

-- ---- changes, looks, and giving up

changed : (shape : Shape) (p : Cores) (number : ℕ) (answer : Result Transaction TxFault) → Sound shape p
    → ((new : Transaction) → answer ≡ Ok new → new.snapshot ≤ length p.primary.durable)
    → Sound shape (beside_of (change_happens (world_of p) number answer).1 p)
changed shape p number (Ok new) sound known = transactions-changed shape p number new sound (known new refl)
changed shape p number (Err fault) sound known = sound

pub change-sound : (shape : Shape) (p : Cores) (number : ℕ) (change : Transaction → Result Transaction TxFault) (found : Option Transaction)
    → Sound shape p
    → ((draft new : Transaction) → change draft ≡ Ok new → new.snapshot ≡ draft.snapshot) → open_transaction p.transactions number ≡ found
    → Sound shape (beside_of (on_transaction (world_of p) found (λ draft. change_happens (world_of p) number (change draft))).1 p)
change-sound shape p number change None sound reads at = sound
change-sound shape p number change (Some draft) sound reads at =
    let known = sound.transactions_are number draft (opened (slice_get p.transactions number) draft at) in
    changed shape p number (change draft) sound (λ new h. let same = reads draft new h in omega arith)

pub look-sound : (shape : Shape) (p : Cores) (look : Transaction → Result Value TxFault) (found : Option Transaction) → Sound shape p
    → Sound shape (beside_of (on_transaction (world_of p) found (λ draft. (of_look (look draft), world_of p))).1 p)
look-sound shape p look None sound = sound
look-sound shape p look (Some draft) sound = sound

pub abort-sound : (shape : Shape) (p : Cores) (number : ℕ) (found : Option Transaction) → Sound shape p
    → Sound shape (beside_of (on_transaction (world_of p) found (λ draft. abort_happens (world_of p) number)).1 p)
abort-sound shape p number None sound = sound
abort-sound shape p number (Some draft) sound = transactions-ended shape p number sound

-- ---- commits

-- a commit that is answered by its number has one of 64 bits
pub commit-numbered : (p : Primary) (worker : ℕ) (draft : Transaction) (number : ℕ) → commit_answer p worker draft ≡ Ok number
    → next_number p < 2 ^ 64
commit-numbered p worker draft number h =
    by p.failed (length draft.entries == 0) (is_foreign p draft)
    (nat_lt draft.snapshot (last_touching draft.entries 0 (p.durable ++ p.pending)))
    (has_numbers p worker draft.entries) refl h
  where
    by : (a b c d e : Bool) → has_numbers p worker draft.entries ≡ e
        → cond a (Err faults.Failed) (cond b (Err faults.ReadOnly)
        (cond c (Err faults.Foreign) (cond d (Err (faults.Conflict (last_touching draft.entries 0 (p.durable ++ p.pending))))
        (cond e (Ok (next_number p)) (Err faults.NumbersUsedUp))))) ≡ Ok number
        → next_number p < 2 ^ 64
    by true b c d e t h = absurd (cc)
    by false true c d e t h = absurd (cc)
    by false false true d e t h = absurd (cc)
    by false false false true e t h = absurd (cc)
    by false false false false false t h = absurd (cc)
    by false false false false true t h =
        ltb-true (next_number p) (2 ^ 64)
        (and_parts (nat_lt (next_number p) (2 ^ 64))
        (nat_lt (length (stream_of (p.durable ++ p.pending) worker) + length (parts_of draft.entries)) (2 ^ 64)) t).0

commits : (shape : Shape) (p : Cores) (number worker : ℕ) (draft : Transaction) (answer : Result ℕ CommitFault) → Sound shape p
    → Sound shape (beside_of (commit_happens (world_of p) number worker draft answer).1 p)
commits shape p number worker draft (Ok ticket) sound =
    Sound-pending shape (record p { transactions = slice_set p.transactions number None })
    (p.primary.pending ++ record { worker = worker; entries = draft.entries } ∷ []) (transactions-ended shape p number sound)
commits shape p number worker draft (Err fault) sound = transactions-ended shape p number sound

pub commit-sound : (shape : Shape) (p : Cores) (number worker : ℕ) (found : Option Transaction) → Sound shape p
    → Sound shape (beside_of (on_transaction (world_of p) found
    (λ draft. commit_happens (world_of p) number worker draft (commit_answer p.primary worker draft))).1 p)
commit-sound shape p number worker None sound = sound
commit-sound shape p number worker (Some draft) sound = commits shape p number worker draft (commit_answer p.primary worker draft) sound

-- the legal list of a primary's shape
own-legal : (shape : Shape) (p : Cores) → PrimaryListsAreLegal p.primary → Sound shape p
    → IsLegal shape p.primary.workers (p.primary.durable ++ p.primary.pending)
own-legal shape p lists sound =
    subst (λ (s : Shape). IsLegal s p.primary.workers (p.primary.durable ++ p.primary.pending)) sound.primary_is.shape_is lists.all.legal

-- the durable commits and the first of the pending ones, and the others behind them
whole-list : (p : Cores) (count : ℕ)
    → (p.primary.durable ++ take count p.primary.pending) ++ drop count p.primary.pending ≡ p.primary.durable ++ p.primary.pending
whole-list p count =
    append_assoc p.primary.durable (take count p.primary.pending) (drop count p.primary.pending)
    ∙ ap (λ (l : List Commit). p.primary.durable ++ l) (take-append-drop count p.primary.pending)

-- the first of the pending commits behind the durable ones are legal, and their entries have spellings
legal-taken : (shape : Shape) (p : Cores) (count : ℕ) → PrimaryListsAreLegal p.primary → Sound shape p
    → IsLegal shape p.primary.workers (p.primary.durable ++ take count p.primary.pending)
legal-taken shape p count lists sound =
    legal-front shape p.primary.workers (p.primary.durable ++ take count p.primary.pending) (drop count p.primary.pending)
    (subst (IsLegal shape p.primary.workers) (sym (whole-list p count)) (own-legal shape p lists sound))

spelled-taken : (p : Cores) (count : ℕ) → PrimaryListsAreLegal p.primary
    → AreSpelled (p.primary.durable ++ take count p.primary.pending)
spelled-taken p count lists =
    All-left _ (p.primary.durable ++ take count p.primary.pending) (drop count p.primary.pending)
    (subst AreSpelled (sym (whole-list p count)) (journaled-spelled (p.primary.durable ++ p.primary.pending) lists.all.records))

pub flush-sound : (laws : FedLaws) (shape : Shape) (p : Cores) (count : ℕ) (failed : Bool) (refused answered : Output)
    → PrimaryListsAreLegal p.primary → Sound shape p
    → Sound shape (beside_of (cond {A = Output × World} failed (refused, world_of p)
    (answered, world_of (record p { primary = flushed p.primary count }))).1 p)
flush-sound laws shape p count true refused answered lists sound = sound
flush-sound laws shape p count false refused answered lists sound =
    Sound-grown laws shape p (take count p.primary.pending) (drop count p.primary.pending) (legal-taken shape p count lists sound)
    (spelled-taken p count lists) sound

-- ---- stops and starts

pub stop-sound : (laws : FedLaws) (shape : Shape) (p : Cores) (bytes : ℕ) → PrimaryListsAreLegal p.primary → Sound shape p
    → Sound shape (beside_of (stop_happens (world_of p) bytes).1 p)
stop-sound laws shape p bytes lists sound =
    let count = whole_in (length p.primary.durable) p.primary.pending bytes in
    let ended =
    Sound-transactions shape p (closed p.transactions) sound
    (λ i draft here. absurd (none-open p.transactions i draft here)) in
    let grown =
    Sound-grown laws shape (record p { transactions = closed p.transactions }) (take count p.primary.pending) []
    (legal-taken shape p count lists sound) (spelled-taken p count lists) ended in
    Sound-apart shape
    (record p {
      primary = record (stopped_at p.primary bytes) { failed = p.primary.failed; base = p.primary.base };
      transactions = closed p.transactions;
    }) false 0 true p.journal p.form grown

pub start-sound : (shape : Shape) (p : Cores) (stopped : Bool) → Sound shape p
    → Sound shape (beside_of (cond {A = Output × World} stopped
    (outputs.Durable (length p.primary.durable), record (world_of p) { stopped = false }) (outputs.Running, world_of p)).1 p)
start-sound shape p true sound = Sound-apart shape p p.primary.failed p.primary.base false p.journal p.form sound
start-sound shape p false sound = sound

-- ---- bases

pub base-sound : (shape : Shape) (p : Cores) → Sound shape p → Sound shape (beside_of (base_happens (world_of p)).1 p)
base-sound shape p sound = Sound-apart shape p p.primary.failed (length p.primary.durable) p.stopped p.journal p.form sound

-- ---- what the primary sends

-- a frame of the durable list tells the truth of it
frame-tells : (reads : SpelledAreRead) (shape : Shape) (p : Cores) (worker seq : ℕ) (frame : Frame) → PrimaryListsAreLegal p.primary
    → slice_get (stream_of p.primary.durable worker) seq ≡ Some frame
    → Tells shape p.primary.workers p.primary.durable (reading (frame_spelling frame))
frame-tells reads shape p worker seq frame lists h =
    let durable = p.primary.durable in
    let at = frame-at durable worker seq frame h in
    let sendable = All-get IsSendable (stream_of durable worker) (lists.sendable worker) seq frame h in
    subst (Tells shape p.primary.workers durable) (sym (frame-read reads frame sendable))
    (ap (λ (w : ℕ). slice_get (stream_of durable w) frame.seq) at.worker_is
    ∙ ap (slice_get (stream_of durable worker)) at.seq_is ∙ h)

pub push-sound : (reads : SpelledAreRead) (shape : Shape) (p : Cores) (worker seq : ℕ) (below : Bool) (found : Option Frame)
    → PrimaryListsAreLegal p.primary → Sound shape p
    → slice_get (stream_of p.primary.durable worker) seq ≡ found
    → Sound shape (beside_of (push_happens (world_of p) (cond below None (option_map frame_spelling found))).1 p)
push-sound reads shape p worker seq true found lists sound here = sound
push-sound reads shape p worker seq false None lists sound here = sound
push-sound reads shape p worker seq false (Some frame) lists sound here =
    Sound-one shape p (frame_spelling frame) sound (frame-tells reads shape p worker seq frame lists here)

-- the streams of the durable list have numbers of 64 bits, also up to a version
durable-below : (p : Primary) → PrimaryListsAreLegal p → (version worker : ℕ) → frame_count p.durable worker version < 2 ^ 64
durable-below p lists version worker =
    let below = lists.numbered.frames_below worker in
    let grows = stream-grows p.durable p.pending worker in
    let front = stream-grows (take version p.durable) (drop version p.durable) worker in
    let whole = ap (λ (l : List Commit). length (stream_of l worker)) (take-append-drop version p.durable) in
    omega arith

-- the Head of what is durable is true of it
true-head : (shape : Shape) (p : Cores) (replica boot request : ℕ) → PrimaryListsAreLegal p.primary → Sound shape p
    → IsTrueHead shape p.primary.workers p.primary.durable (head_for p.primary replica boot request)
true-head shape p replica boot request lists sound =
    let durable = p.primary.durable in
    let workers = p.primary.workers in
    let legal = legal-front shape workers durable p.primary.pending (own-legal shape p lists sound) in
    record {
      below = omega arith;
      base_within = lists.based;
      counted = counts-length durable (length durable) workers;
      counts_are = counts-are durable (length durable) workers legal.each;
      lows_counted = counts-length durable p.primary.base workers;
      lows_are = counts-are durable p.primary.base workers legal.each;
      pieces_are = ap (λ (s : Shape). length (pieces_at s durable p.primary.base)) sound.primary_is.shape_is;
    }

head-tells : (shape : Shape) (p : Cores) (replica boot request : ℕ) → PrimaryListsAreLegal p.primary
    → Sound shape p
    → IsAsk replica boot request
    → Tells shape p.primary.workers p.primary.durable (reading (spelling (datagrams.Head (head_for p.primary replica boot request))))
head-tells shape p replica boot request lists sound ask =
    let durable = p.primary.durable in
    let workers = p.primary.workers in
    let base = p.primary.base in
    let version = length durable in
    let below : version < 2 ^ 64 =
    let all = lists.numbered.commits_below in omega (arith, length-append durable p.primary.pending) in
    let head = head_for p.primary replica boot request in
    let has : HasMarks head = record {
      base_below = let within = lists.based in omega arith;
      pieces_below =
          let few = lists.pieces in
          omega (arith, pieces-counted base 0 (pieces_at (shape_of p.primary.schema) durable base));
      each = counts-length durable base workers ∙ sym (counts-length durable version workers);
      lows_below = counts-below durable base workers (durable-below p.primary lists base);
      counts_below = counts-below durable version workers (durable-below p.primary lists version);
    } in
    head-reads (Tells shape workers durable) (λ fault. tt) head ask.boot_below ask.request_below below
    (λ base pieces lows counts are. subst (IsTrueHead shape workers durable) (sym (are has))
    (true-head shape p replica boot request lists sound))

-- the bytes that go to a replica, where frames are sent
packets-at : (replica : ℕ) (frames : List Frame) (i : ℕ) (bytes : List ℕ)
    → slice_get (packets_of (map (frame_to replica) frames)) i ≡ Some bytes
    → (frame : Frame) × (slice_get frames i ≡ Some frame) × (frame_spelling frame ≡ bytes)
packets-at replica [] i bytes h = absurd (none-some bytes h)
packets-at replica (frame ∷ frames) zero bytes h = (frame, refl, same_Some (frame_spelling frame) bytes h)
packets-at replica (frame ∷ frames) (suc i) bytes h = packets-at replica frames i bytes h

want-tells : (reads : SpelledAreRead) (shape : Shape) (p : Cores) (replica worker from : ℕ) → PrimaryListsAreLegal p.primary
    → (i : ℕ) (bytes : List ℕ) → slice_get (packets_of (map (frame_to replica) (wanted p.primary worker from))) i ≡ Some bytes
    → Tells shape p.primary.workers p.primary.durable (reading bytes)
want-tells reads shape p replica worker from lists i bytes h =
    let stream = stream_of p.primary.durable worker in
    let skipped = low_of p.primary worker - from in
    let found = packets-at replica (wanted p.primary worker from) i bytes h in
    let kept = sym (get-drop skipped (take want_frames_max (drop from stream)) i) ∙ found.1 in
    let at = sym (get-drop from stream (skipped + i)) ∙ get-take want_frames_max (drop from stream) (skipped + i) found.0 kept in
    subst (λ (b : List ℕ). Tells shape p.primary.workers p.primary.durable (reading b)) found.2
    (frame-tells reads shape p worker (from + (skipped + i)) found.0 lists at)

answers-tell : (reads : SpelledAreRead) (shape : Shape) (p : Cores) (datagram : Result Datagram WireFault)
    → PrimaryListsAreLegal p.primary → Sound shape p
    → Means shape p datagram
    → (i : ℕ) (bytes : List ℕ) → slice_get (packets_of (answers_to p.primary datagram)) i ≡ Some bytes
    → Tells shape p.primary.workers p.primary.durable (reading bytes)
answers-tell reads shape p (Err fault) lists sound means i bytes h = absurd (none-some bytes h)
answers-tell reads shape p (Ok (datagrams.Frame worker seq commit last entries)) lists sound means i bytes h = absurd (none-some bytes h)
answers-tell reads shape p (Ok (datagrams.Ask replica boot request)) lists sound means i bytes h =
    subst (λ (b : List ℕ). Tells shape p.primary.workers p.primary.durable (reading b))
    (sym (get-one (spelling (datagrams.Head (head_for p.primary replica boot request))) i bytes h))
    (head-tells shape p replica boot request lists sound means.fresh.0)
answers-tell reads shape p (Ok (datagrams.Head head)) lists sound means i bytes h = absurd (none-some bytes h)
answers-tell reads shape p (Ok (datagrams.Piece base number last entries)) lists sound means i bytes h = absurd (none-some bytes h)
answers-tell reads shape p (Ok (datagrams.Pull replica base from)) lists sound means i bytes h =
    let workers = p.primary.workers in
    let durable = p.primary.durable in
    let packets = packets_of (map (piece_to replica) (pulled p.primary base from)) in
    All-get (λ bytes. Tells shape workers durable (reading bytes)) packets
    (subst (λ (s : Shape). AllByRecursion (λ bytes. Tells s workers durable (reading bytes)) packets) sound.primary_is.shape_is
    (pulled-tells reads replica p.primary base from lists.based lists.pieces_spelled)) i bytes h
answers-tell reads shape p (Ok (datagrams.Want replica worker from)) lists sound means i bytes h =
    want-tells reads shape p replica worker from lists i bytes
    h

-- bytes that come to the primary
hand-sound : (reads : SpelledAreRead) (shape : Shape) (p : Cores) (bytes : List ℕ) → PrimaryListsAreLegal p.primary → Sound shape p
    → Means shape p (reading bytes)
    → Sound shape (beside_of (delivered (world_of p) bytes nodes.Primary).1 p)
hand-sound reads shape p bytes lists sound means =
    Sound-sent shape p (packets_of (answers p.primary bytes)) sound (answers-tell reads shape p (reading bytes) lists sound means)

pub deliver-sound : (reads : SpelledAreRead) (shape : Shape) (p : Cores) (index : ℕ) (found : Option (List ℕ))
    → PrimaryListsAreLegal p.primary → Sound shape p → Fresh (world_of p)
    → slice_get p.sent index ≡ found → Sound shape (beside_of (deliver_happens (world_of p) nodes.Primary found).1 p)
deliver-sound reads shape p index None lists sound fresh here = sound
deliver-sound reads shape p index (Some bytes) lists sound fresh here =
    hand-sound reads shape p bytes lists sound (sent-means shape p sound fresh index bytes here)

pub raw-sound : (reads : SpelledAreRead) (shape : Shape) (p : Cores) (bytes : List ℕ) → PrimaryListsAreLegal p.primary → Sound shape p
    → Fresh (world_of p) → Sound shape (beside_of (raw_happens (world_of p) nodes.Primary bytes).1 p)
raw-sound reads shape p bytes lists sound fresh = by (is_forged p.sent bytes) refl
  where
    by : (forged : Bool) → is_forged p.sent bytes ≡ forged
        → Sound shape (beside_of (cond forged (outputs.Forged, world_of p) (delivered (world_of p) bytes nodes.Primary)).1 p)
    by true e = sound
    by false e = hand-sound reads shape p bytes lists sound (raw-means shape p bytes sound fresh e)
