-- The few moves that a step of the world can be: whatever the event, and whatever it answers, it is one of them.
use Rattle.std.proofs.Common.{◌≡◌, ℕ, ◌+◌, Bool, true, false, cond, ◌&&◌, ◌==◌, ◌⊎◌, inl, inr, List, [], ◌∷◌, ◌++◌, length, nat_le, nat_lt}
use Rattle.std.proofs.Common.{Option, None, Some, Result, Ok, Err, refl, sym, ap, subst, ◌∙◌}
use Rattle.std.specs.List.{slice_get, slice_set}
use Rattle.std.specs.Option.{option_map}
use Rattle.std.proofs.lemmas.Bool.{and_parts, eqb-true}
use Rattle.std.proofs.lemmas.Option.{none-some}
use Rattle.rows.specs.declared.limits.TheConstants.{WAITING_QUERIES_MAX}
use Rattle.rows.specs.declared.value.Value.{Value}
use Rattle.rows.specs.Shape.{shape_of}
use Rattle.rows.specs.Tables.{shape_in}
use Rattle.update_log.specs.declared.frame.Frame.{Frame}
use Rattle.update_log.specs.Streams.{stream_of}
use Rattle.wire.specs.declared.datagram.Datagram.{Datagram}
use Rattle.wire.specs.declared.datagram.Datagram.TheVariants as datagrams
use Rattle.wire.specs.declared.faults.WireFault.{WireFault}
use Rattle.wire.specs.declared.head.Head.{Head}
use Rattle.wire.specs.declared.out.Out.{Out}
use Rattle.wire.specs.Spelling.{frame_spelling}
use Rattle.wire.specs.Reading.{reading}
use Rattle.mvcc.specs.declared.faults.TxFault.{TxFault}
use Rattle.mvcc.specs.declared.faults.TxFault.TheVariants as refusals
use Rattle.mvcc.specs.Transaction.{Transaction}
use Rattle.mvcc.specs.Transactions.{insert_answer, set_answer, delete_answer, add_column_answer, get_answer}
use Rattle.intake.specs.declared.taken.Taken.{Taken}
use Rattle.intake.specs.declared.taken.Taken.TheVariants as takens
use Rattle.intake.specs.Steps.{taken}
use Rattle.intake.specs.State.{Arrivals, known_of}
use Rattle.primary.specs.declared.faults.CommitFault.{CommitFault}
use Rattle.primary.specs.declared.faults.CommitFault.TheVariants as faults
use Rattle.primary.specs.Steps.{commit_answer, committed, flushed, based}
use Rattle.primary.specs.Sending.{low_of, answers}
use Rattle.queries.specs.declared.plan.Plan.{Plan}
use Rattle.queries.specs.declared.faults.PlanFault.{PlanFault}
use Rattle.queries.specs.Checking.{checked}
use Rattle.dispatcher.specs.declared.faults.AskFault.{AskFault}
use Rattle.dispatcher.specs.declared.faults.AskFault.TheVariants as ask_faults
use Rattle.dispatcher.specs.declared.faults.OpenFault.TheVariants as open_faults
use Rattle.dispatcher.specs.State.{Batch, Fetched, Protocol}
use Rattle.dispatcher.specs.Images.{piece_frame}
use Rattle.dispatcher.specs.Protocol.{opens_checked, ask_for, want_for, pull_for, with_batch, asks_by, renews_by, is_own, fetched_by}
use Rattle.dispatcher.specs.Protocol.{takes_head, bases_for, fetched_for, wants_piece, pieces_for}
use Rattle.dispatcher.specs.Protocol.{Readiness, Broken, NoBatch, WaitsForHead, WaitsForPiece, WaitsForFrame, Ready}
use Rattle.dispatcher.specs.Protocol.{Lack, Piece as LacksPiece, Frame as LacksFrame, Nothing as LacksNothing, lack_at, readiness}
use Rattle.dispatcher.specs.Protocol.{fetched_in}
use Rattle.dispatcher.specs.Steps.{got_of}
use Rattle.dispatcher.specs.Report.{report_of}
use Rattle.script.specs.declared.event.Event.{Event}
use Rattle.script.specs.declared.event.Event.TheVariants as events
use Rattle.script.specs.declared.event.Node.{Node}
use Rattle.script.specs.declared.event.Node.TheVariants as nodes
use Rattle.script.specs.declared.output.Output.{Output}
use Rattle.script.specs.declared.output.Output.TheVariants as outputs
use Rattle.world.specs.Outputs.{of_change, of_look, of_commit, of_answers, packets_of, of_got}
use Rattle.world.specs.Stops.{stopped_at, closed}
use Rattle.world.specs.Steps.{World, Member, open_transaction, happens, unless_stopped, on_transaction, change_happens, commit_happens}
use Rattle.world.specs.Steps.{abort_happens, push_happens, with_member, KnownPieces, arrived, known_in, arrived_pieces, known_pieces}
use Rattle.world.specs.Steps.{piece_happens, head_happens, datagram_happens, on_member, delivered, deliver_happens, is_forged, shown}
use Rattle.world.specs.Steps.{open_happens, ask_happens, renew_happens, readiness_at, caught_up, run_happens, dump_at, send, restarted}
use Rattle.world.specs.Steps.{had_boot, durable_tables}
use Rattle.world.specs.Theorem.{IsFaultless}
use Rattle.world.specs.Allowed.{broken_at, RunIsInterrupted, MayHappen}
use Rattle.world.proofs.Raw.{unforged}

-- ---- a replica

-- the Ask of a request
abbrev pub ask_bytes : Member → ℕ → List ℕ
ask_bytes m request = (ask_for m.protocol.number m.protocol.boot request).packet

-- the replica with a new batch
abbrev pub new_batch : World → Member → Member
new_batch w m = record m { asked_at = length w.primary.durable; protocol = with_batch m.protocol }

-- the replica with its batch, for which the version that was fetched is given up
abbrev pub renewed_batch : Member → List Plan → Member
renewed_batch m plans = record m {
  protocol = record m.protocol { request = m.protocol.request + 1; batch = Some (record { plans = plans; fetched = None }) };
}

-- a Head with the request of a replica
abbrev pub own_head : Protocol → Head → Head
own_head q head = record head { replica = q.number; boot = q.boot; request = q.request }

-- a Head that is for a replica is of its own request
pub own-is : (q : Protocol) (head : Head) → is_own q head ≡ true → head ≡ own_head q head
own-is q head e =
    let parts = and_parts ((head.replica == q.number) && (head.boot == q.boot)) (head.request == q.request) e in
    let front = and_parts (head.replica == q.number) (head.boot == q.boot) parts.0 in
    let number = eqb-true head.replica q.number front.0 in
    let boot = eqb-true head.boot q.boot front.1 in
    let request = eqb-true head.request q.request parts.1 in
    λ i. record head { replica = number i; boot = boot i; request = request i }

-- what is known of what a run finds
abbrev pub Found : Protocol → Readiness → Type 0
Found q (Ready plans fetched) = q.batch ≡ Some (record { plans = plans; fetched = Some fetched })
Found q other = Unit {0}

pub found-is : (m : Member) → Found m.protocol (readiness_at m)
found-is m = by m.protocol.broken m.protocol.batch refl
  where
    missing : Fetched → Lack
    missing = lack_at m.protocol.version (arrived_pieces m.pieces) (arrived m.known)

    at : (plans : List Plan) (fetched : Fetched) (first : Lack)
        → m.protocol.batch ≡ Some (record { plans = plans; fetched = Some fetched })
        → Found m.protocol (readiness false (Some (record { plans = plans; fetched = Some fetched })) (λ fetched. first))
    at plans fetched LacksNothing has = has
    at plans fetched (LacksPiece number) has = tt
    at plans fetched (LacksFrame worker seq) has = tt

    on : (plans : List Plan) (fetched : Option Fetched) → m.protocol.batch ≡ Some (record { plans = plans; fetched = fetched })
        → Found m.protocol (readiness false (Some (record { plans = plans; fetched = fetched })) missing)
    on plans None has = tt
    on plans (Some fetched) has = at plans fetched (missing fetched) has

    by : (broken : Bool) (batch : Option Batch) → m.protocol.batch ≡ batch
        → Found m.protocol (readiness broken batch missing)
    by true batch has = tt
    by false None has = tt
    by false (Some batch) has = on batch.plans batch.fetched has

-- ---- the moves

-- an output that tells nothing of a replica's rows, version or start, nor which commits there are
abbrev pub IsSilent : Output → Type 0
IsSilent (outputs.Report text) = ⊥
IsSilent (outputs.Dump text) = ⊥
IsSilent (outputs.Version version) = ⊥
IsSilent (outputs.Head version) = ⊥
IsSilent (outputs.Boot boot) = ⊥
IsSilent (outputs.Ticket number) = ⊥
IsSilent (outputs.Durable commits) = ⊥
IsSilent other = Unit {0}

-- nor reports damage
abbrev pub IsPlain : Output → Type 0
IsPlain output = IsSilent output × IsFaultless output

-- this is what bytes that were sent read as, or it is no datagram
abbrev pub WasSent : World → Result Datagram WireFault → Type 0
WasSent w read =
    ((i : ℕ) × (bytes : List ℕ) × (slice_get w.sent i ≡ Some bytes) × (reading bytes ≡ read))
    ⊎ ((fault : WireFault) × (read ≡ Err fault))

-- what a transaction becomes by a change that is taken
abbrev pub IsChanged : World → Transaction → Transaction → Type 0
IsChanged w draft new =
    ((table row : ℕ) × (values : List Value)
    × (insert_answer (shape_of w.primary.schema) w.primary.durable draft table row values ≡ Ok new))
    ⊎ ((table row column : ℕ) × (value : Value)
    × (set_answer (shape_of w.primary.schema) w.primary.durable draft table row column value ≡ Ok new))
    ⊎ ((table row : ℕ) × (delete_answer (shape_of w.primary.schema) w.primary.durable draft table row ≡ Ok new))
    ⊎ ((table : ℕ) × (default : Value) × (add_column_answer (shape_of w.primary.schema) w.primary.durable draft table default ≡ Ok new))

-- datagrams that are sent: a frame, what the primary answers to bytes that were sent, the Ask of a batch again, a Want, a Pull
pub data AreSent (w : World) : List (List ℕ) → Type 0 where
  framed : (frame : Frame) → AreSent w (frame_spelling frame ∷ [])
  answered : (bytes : List ℕ) → WasSent w (reading bytes) → AreSent w (packets_of (answers w.primary bytes))
  repeated : (i : ℕ) (m : Member) → slice_get w.members i ≡ Some m → AreSent w (ask_bytes m m.protocol.request ∷ [])
  asked_for : (number worker from : ℕ) → AreSent w ((want_for number worker from).packet ∷ [])
  pulled_for : (number base from : ℕ) → AreSent w ((pull_for number base from).packet ∷ [])

-- what becomes of one replica, and what the event answers
pub data Change (w : World) (event : Event) (i : ℕ) (m : Member) : Output → Member → Type 0 where
  -- nothing but the frames and the pieces that it knows
  hears : (output : Output) (known : List (List ℕ)) (pieces : KnownPieces) → IsPlain output
      → Change w event i m output (record m { known = known; pieces = pieces })
  opens : (plan : Plan) → Change w event i m (outputs.Opened (length m.protocol.waiting + 1))
      (record m { protocol = record m.protocol { waiting = m.protocol.waiting ++ plan ∷ [] } })
  fetches : (plans : List Plan) (head : Head) (pieces : KnownPieces)
      → m.protocol.batch ≡ Some (record { plans = plans; fetched = None })
      → WasSent w (Ok (datagrams.Head (own_head m.protocol head)))
      → Change w event i m (outputs.Head head.version) (record m {
        pieces = pieces;
        protocol = record m.protocol { batch = Some (record { plans = plans; fetched = Some (fetched_by head) }) };
      })
  reports : (plans : List Plan) (fetched : Fetched) → event ≡ events.Run i
      → m.protocol.batch ≡ Some (record { plans = plans; fetched = Some fetched })
      → Change w event i m (outputs.Report (report_of (durable_tables w fetched.version) fetched.version plans)) (caught_up m fetched None)
  -- out of memory behind its commits
  moves : (plans : List Plan) (fetched : Fetched) → m.protocol.batch ≡ Some (record { plans = plans; fetched = Some fetched })
      → Change w event i m outputs.Memory (caught_up m fetched m.protocol.batch)
  -- or amid them
  breaks : Change w event i m outputs.Broken (broken_at m)
  restarts : (boot : ℕ) → event ≡ events.Restart i boot → had_boot m.boots boot ≡ false
      → Change w event i m (outputs.Boot boot) (restarted w.primary.workers m boot)

-- what an event answers, and the world that it leaves
pub data Move (w : World) (event : Event) : Output → World → Type 0 where
  -- nothing happens
  idle : (output : Output) → IsPlain output → Move w event output w
  fails : w.primary.failed ≡ true → Move w event outputs.Failed w
  tells : (i : ℕ) (m : Member) → slice_get w.members i ≡ Some m → Move w event (outputs.Version m.protocol.version) w
  dumps : (i : ℕ) (m : Member) → event ≡ events.Dump i → slice_get w.members i ≡ Some m
      → Move w event (outputs.Dump (dump_at w m.protocol.version)) w
  -- a transaction's slot
  begins : Move w event (outputs.Tx (length w.transactions) (length w.primary.durable))
      (record w { transactions = w.transactions ++ Some (record { snapshot = length w.primary.durable; entries = [] }) ∷ [] })
  changes : (number : ℕ) (draft new : Transaction) → open_transaction w.transactions number ≡ Some draft → IsChanged w draft new
      → Move w event outputs.Accepted (record w { transactions = slice_set w.transactions number (Some new) })
  ends : (number : ℕ) → Move w event outputs.Accepted (record w { transactions = slice_set w.transactions number None })
  refuses : (number worker : ℕ) (draft : Transaction) (fault : CommitFault) → open_transaction w.transactions number ≡ Some draft
      → commit_answer w.primary worker draft ≡ Err fault
      → Move w event (of_commit fault) (record w { transactions = slice_set w.transactions number None })
  -- what is pending, what is durable, and the base
  commits : (number worker : ℕ) (draft : Transaction) (ticket : ℕ) → commit_answer w.primary worker draft ≡ Ok ticket
      → Move w event (outputs.Ticket ticket)
      (record w { primary = committed w.primary worker draft.entries; transactions = slice_set w.transactions number None })
  flushes : (count : ℕ) → w.stopped ≡ false
      → Move w event (outputs.Durable (length (flushed w.primary count).durable)) (record w { primary = flushed w.primary count })
  bases : (pieces : ℕ) → Move w event (outputs.Based (length w.primary.durable) pieces) (record w { primary = based w.primary })
  stops : (bytes : ℕ) → w.stopped ≡ false
      → Move w event outputs.Stopped
      (record w { primary = stopped_at w.primary bytes; stopped = true; transactions = closed w.transactions })
  starts : event ≡ events.Start → Move w event (outputs.Durable (length w.primary.durable)) (record w { stopped = false })
  -- datagrams, and one replica
  sends : (output : Output) (more : List (List ℕ)) → IsPlain output → AreSent w more
      → Move w event output (record w { sent = w.sent ++ more })
  asks : (i : ℕ) (m : Member) → slice_get w.members i ≡ Some m → m.protocol.batch ≡ None
      → Move w event (send (with_member w (new_batch w m)) (ask_bytes m (m.protocol.request + 1))).0
      (send (with_member w (new_batch w m)) (ask_bytes m (m.protocol.request + 1))).1
  renews : (i : ℕ) (m : Member) (plans : List Plan) (fetched : Fetched) → event ≡ events.Renew i → slice_get w.members i ≡ Some m
      → m.protocol.batch ≡ Some (record { plans = plans; fetched = Some fetched })
      → Move w event (send (with_member w (renewed_batch m plans)) (ask_bytes m (m.protocol.request + 1))).0
      (send (with_member w (renewed_batch m plans)) (ask_bytes m (m.protocol.request + 1))).1
  becomes : (i : ℕ) (m new : Member) (output : Output) → slice_get w.members i ≡ Some m → Change w event i m output new
      → Move w event output (with_member w new)

-- ---- outputs

change-plain : (fault : TxFault) → IsPlain (of_change fault)
change-plain refusals.Exists = (tt, tt)
change-plain refusals.Missing = (tt, tt)
change-plain refusals.Unfit = (tt, tt)
change-plain refusals.TooManyEntries = (tt, tt)
change-plain refusals.Memory = (tt, tt)

look-plain : (answer : Result Value TxFault) → IsPlain (of_look answer)
look-plain (Ok value) = (tt, tt)
look-plain (Err fault) = change-plain fault

pub commit-silent : (fault : CommitFault) → IsSilent (of_commit fault)
commit-silent (faults.Conflict number) = tt
commit-silent faults.ReadOnly = tt
commit-silent faults.Failed = tt
commit-silent faults.NumbersUsedUp = tt
commit-silent faults.Memory = tt
commit-silent faults.Foreign = tt

answers-plain : (index : ℕ) (outs : List Out) → IsPlain (of_answers index outs)
answers-plain index [] = (tt, tt)
answers-plain index (out ∷ outs) = (tt, tt)

taken-plain : (taken : Taken) → IsPlain (of_got (got_of taken))
taken-plain takens.Repeat = (tt, tt)
taken-plain takens.Ahead = (tt, tt)
taken-plain takens.Stored = (tt, tt)
taken-plain takens.Memory = (tt, tt)

-- ---- a datagram that comes to a replica

module _ (w : World) (event : Event) (i : ℕ) (m : Member) where
  -- what the replica answers and becomes is such a change
  abbrev Changed : Output × Member → Type 0
  Changed answer = Change w event i m answer.0 answer.1

  ignored : Changed (outputs.Ignored, m)
  ignored = hears outputs.Ignored m.known m.pieces (tt, tt)

  head_changes : (head : Head) (batch : Option Batch) → m.protocol.batch ≡ batch
      → WasSent w (Ok (datagrams.Head (own_head m.protocol head)))
      → Changed (head_happens m head.base (takes_head m.protocol head batch))
  head_changes head None has sent = ignored
  head_changes head (Some batch) has sent = by batch.fetched has
    where
      by : (fetched : Option Fetched) → m.protocol.batch ≡ Some (record batch { fetched = fetched })
          → Changed (head_happens m head.base (takes_head m.protocol head (Some (record batch { fetched = fetched }))))
      by (Some fetched) has = ignored
      by None has = fetches batch.plans head (known_pieces (pieces_for head.base (arrived_pieces m.pieces))) has sent

  piece_changes : (piece : Frame) → Changed (piece_happens m piece)
  piece_changes piece = by (wants_piece m.protocol.version (fetched_for m.protocol.batch) piece.commit piece.seq)
    where
      came : Taken × List Arrivals
      came = taken (arrived_pieces m.pieces).arrivals [] piece

      by : (wanted : Bool)
          → Changed (cond wanted (of_got (got_of came.0), record m { pieces = record m.pieces { numbers = known_of came.1 0 } })
          (outputs.Ignored, m))
      by false = ignored
      by true = hears (of_got (got_of came.0)) m.known (record m.pieces { numbers = known_of came.1 0 }) (taken-plain came.0)

  datagram_changes : (read : Result Datagram WireFault) → WasSent w read → Changed (datagram_happens m read)
  datagram_changes (Err fault) sent = ignored
  datagram_changes (Ok (datagrams.Frame worker seq commit last entries)) sent =
      let came =
      taken (arrived m.known) (bases_for m.protocol.version (fetched_for m.protocol.batch))
      (record { worker = worker; seq = seq; commit = commit; last = last; entries = entries }) in
      hears (of_got (got_of came.0)) (known_in came.1) m.pieces (taken-plain came.0)
  datagram_changes (Ok (datagrams.Ask replica boot request)) sent = ignored
  datagram_changes (Ok (datagrams.Head head)) sent = by (is_own m.protocol head) refl
    where
      by : (own : Bool) → is_own m.protocol head ≡ own
          → Changed (cond own (head_happens m head.base (takes_head m.protocol head m.protocol.batch)) (outputs.Ignored, m))
      by false e = ignored
      by true e =
          head_changes head m.protocol.batch refl (subst (λ (h : Head). WasSent w (Ok (datagrams.Head h))) (own-is m.protocol head e) sent)
  datagram_changes (Ok (datagrams.Want replica worker from)) sent = ignored
  datagram_changes (Ok (datagrams.Piece base number last entries)) sent = piece_changes (piece_frame base number last entries)
  datagram_changes (Ok (datagrams.Pull replica base from)) sent = ignored

-- ---- any event

module _ (w : World) (event : Event) where
  -- what the event answers and leaves is a move
  abbrev Moved : Output × World → Type 0
  Moved answer = Move w event answer.0 answer.1

  served : (next : Output × World) → (w.stopped ≡ false → Moved next) → Moved (unless_stopped w next)
  served next moved = by w.stopped refl
    where
      by : (stopped : Bool) → w.stopped ≡ stopped → Moved (cond stopped (outputs.Stopped, w) next)
      by true e = idle outputs.Stopped (tt, tt)
      by false e = moved e

  changing : (number : ℕ) (found : Option Transaction) (answer : Transaction → Result Transaction TxFault)
      → open_transaction w.transactions number ≡ found
      → ((draft new : Transaction) → answer draft ≡ Ok new → IsChanged w draft new)
      → Moved (on_transaction w found (λ draft. change_happens w number (answer draft)))
  changing number None answer here taken = idle outputs.NoTx (tt, tt)
  changing number (Some draft) answer here taken = by (answer draft) (taken draft)
    where
      by : (made : Result Transaction TxFault) → ((new : Transaction) → made ≡ Ok new → IsChanged w draft new)
          → Moved (change_happens w number made)
      by (Ok new) taken = changes number draft new here (taken new refl)
      by (Err fault) taken = idle (of_change fault) (change-plain fault)

  looking : (found : Option Transaction) (answer : Transaction → Result Value TxFault)
      → Moved (on_transaction w found (λ draft. (of_look (answer draft), w)))
  looking None answer = idle outputs.NoTx (tt, tt)
  looking (Some draft) answer = idle (of_look (answer draft)) (look-plain (answer draft))

  committing : (number worker : ℕ) (found : Option Transaction) → open_transaction w.transactions number ≡ found
      → Moved (on_transaction w found (λ draft. commit_happens w number worker draft (commit_answer w.primary worker draft)))
  committing number worker None here = idle outputs.NoTx (tt, tt)
  committing number worker (Some draft) here = by (commit_answer w.primary worker draft) refl
    where
      by : (answer : Result ℕ CommitFault) → commit_answer w.primary worker draft ≡ answer
          → Moved (commit_happens w number worker draft answer)
      by (Ok ticket) e = commits number worker draft ticket e
      by (Err fault) e = refuses number worker draft fault here e

  aborting : (number : ℕ) (found : Option Transaction) → Moved (on_transaction w found (λ draft. abort_happens w number))
  aborting number None = idle outputs.NoTx (tt, tt)
  aborting number (Some draft) = ends number

  flushing : (count : ℕ) (failed : Bool) → w.stopped ≡ false → w.primary.failed ≡ failed
      → Moved (cond failed (outputs.Failed, w)
      (outputs.Durable (length (flushed w.primary count).durable), record w { primary = flushed w.primary count }))
  flushing count true runs e = fails e
  flushing count false runs e = flushes count runs

  starting : (stopped : Bool) → event ≡ events.Start
      → Moved (cond stopped (outputs.Durable (length w.primary.durable), record w { stopped = false }) (outputs.Running, w))
  starting true is = starts is
  starting false is = idle outputs.Running (tt, tt)

  pushing : (below : Bool) (found : Option Frame) → Moved (push_happens w (cond below None (option_map frame_spelling found)))
  pushing true found = idle outputs.NoFrame (tt, tt)
  pushing false None = idle outputs.NoFrame (tt, tt)
  pushing false (Some one) = sends (send w (frame_spelling one)).0 (frame_spelling one ∷ []) (tt, tt) (framed one)

  at_member : (i : ℕ) (found : Option Member) (next : Member → Output × World) → slice_get w.members i ≡ found
      → ((m : Member) → slice_get w.members i ≡ Some m → Moved (next m)) → Moved (on_member w found next)
  at_member i None next here moved = idle outputs.Ignored (tt, tt)
  at_member i (Some m) next here moved = moved m here

  unless_broken : (broken : Bool) (next : Output × World) → Moved next → Moved (cond broken (outputs.Broken, w) next)
  unless_broken true next moved = idle outputs.Broken (tt, tt)
  unless_broken false next moved = moved

  handing : (node : Node) (bytes : List ℕ) → WasSent w (reading bytes) → Moved (delivered w bytes node)
  handing nodes.Primary bytes sent =
      sends (of_answers (length w.sent) (answers w.primary bytes)) (packets_of (answers w.primary bytes))
      (answers-plain (length w.sent) (answers w.primary bytes)) (answered bytes sent)
  handing (nodes.Replica i) bytes sent =
      at_member i (slice_get w.members i) _ refl
      (λ m here. let answer = datagram_happens m (reading bytes) in
      unless_broken m.protocol.broken _ (becomes i m answer.1 answer.0 here (datagram_changes w event i m (reading bytes) sent)))

  delivering : (index : ℕ) (node : Node) (found : Option (List ℕ)) → slice_get w.sent index ≡ found → Moved (deliver_happens w node found)
  delivering index node None there = idle outputs.NeverSent (tt, tt)
  delivering index node (Some bytes) there = handing node bytes (inl (index, bytes, there, refl))

  raw_handing : (node : Node) (bytes : List ℕ) (forged : Bool) → is_forged w.sent bytes ≡ forged
      → Moved (cond forged (outputs.Forged, w) (delivered w bytes node))
  raw_handing node bytes true e = idle outputs.Forged (tt, tt)
  raw_handing node bytes false e =
      handing node bytes
      (unforged (WasSent w) w.sent bytes (λ fault. inr (fault, refl)) (λ index other there. inl (index, other, there, refl)) e)

  showing : (found : Option (List ℕ)) → Moved (shown found, w)
  showing None = idle outputs.NeverSent (tt, tt)
  showing (Some bytes) = idle (outputs.Shown bytes) (tt, tt)

  opening : (i : ℕ) (m : Member) (plan : Plan) (broken full : Bool) (check : Result (Unit {0}) PlanFault) → slice_get w.members i ≡ Some m
      → Moved (open_happens w m
      (cond broken (Err open_faults.Broken) (cond full (Err open_faults.BatchFull) (opens_checked m.protocol plan check))))
  opening i m plan true full check here = idle outputs.Broken (tt, tt)
  opening i m plan false true check here = idle outputs.BatchFull (tt, tt)
  opening i m plan false false (Err fault) here = idle (outputs.BadPlan fault) (tt, tt)
  opening i m plan false false (Ok fits) here = becomes i m _ _ here (opens plan)

  asking : (i : ℕ) (m : Member) (broken : Bool) (batch : Option Batch) → slice_get w.members i ≡ Some m → m.protocol.batch ≡ batch
      → Moved (ask_happens w m (cond broken (Err ask_faults.Broken) (asks_by m.protocol batch)) batch)
  asking i m true batch here has = idle outputs.Broken (tt, tt)
  asking i m false None here has = by (length m.protocol.waiting == 0)
    where
      by : (none : Bool) → Moved (ask_happens w m (cond {A = Result (Out × Protocol) AskFault} none (Err ask_faults.Empty)
          (Ok (ask_for m.protocol.number m.protocol.boot (m.protocol.request + 1), with_batch m.protocol))) None)
      by true = idle outputs.Empty (tt, tt)
      by false = asks i m here has
  asking i m false (Some batch) here has = by batch.fetched
    where
      by : (fetched : Option Fetched)
          → Moved (ask_happens w m (asks_by m.protocol (Some (record batch { fetched = fetched }))) (Some batch))
      by None = sends (send w (ask_bytes m m.protocol.request)).0 (ask_bytes m m.protocol.request ∷ []) (tt, tt) (repeated i m here)
      by (Some fetched) = idle outputs.Busy (tt, tt)

  renewing : (i : ℕ) (m : Member) (broken : Bool) (batch : Option Batch) → event ≡ events.Renew i → slice_get w.members i ≡ Some m
      → m.protocol.batch ≡ batch → Moved (renew_happens w m (cond broken (Err ask_faults.Broken) (renews_by m.protocol batch)))
  renewing i m true batch is here has = idle outputs.Broken (tt, tt)
  renewing i m false None is here has = idle outputs.Empty (tt, tt)
  renewing i m false (Some batch) is here has = by batch.fetched has
    where
      by : (fetched : Option Fetched) → m.protocol.batch ≡ Some (record batch { fetched = fetched })
          → Moved (renew_happens w m (renews_by m.protocol (Some (record batch { fetched = fetched }))))
      by None has = idle outputs.NoHead (tt, tt)
      by (Some fetched) has = renews i m batch.plans fetched is here has

  running : (i : ℕ) (m : Member) (found : Readiness) → slice_get w.members i ≡ Some m → event ≡ events.Run i → Found m.protocol found
      → Moved (run_happens w m found)
  running i m Broken here is has = idle outputs.Broken (tt, tt)
  running i m NoBatch here is has = idle outputs.NoBatch (tt, tt)
  running i m WaitsForHead here is has = idle outputs.WaitingHead (tt, tt)
  running i m (WaitsForPiece base number) here is has =
      sends (run_happens w m (WaitsForPiece base number)).0 ((pull_for m.protocol.number base number).packet ∷ []) (tt, tt)
      (pulled_for m.protocol.number base number)
  running i m (WaitsForFrame worker seq) here is has =
      sends (run_happens w m (WaitsForFrame worker seq)).0 ((want_for m.protocol.number worker seq).packet ∷ []) (tt, tt)
      (asked_for m.protocol.number worker seq)
  running i m (Ready plans fetched) here is has = becomes i m _ _ here (reports plans fetched is has)

  restarting : (i : ℕ) (m : Member) (boot : ℕ) (used : Bool) → slice_get w.members i ≡ Some m → event ≡ events.Restart i boot
      → had_boot m.boots boot ≡ used
      → Moved (cond used (outputs.BootUsed, w) (outputs.Boot boot, with_member w (restarted w.primary.workers m boot)))
  restarting i m boot true here is e = idle outputs.BootUsed (tt, tt)
  restarting i m boot false here is e = becomes i m (restarted w.primary.workers m boot) _ here (restarts boot is e)

  -- a run that is out of memory
  cutting : (i : ℕ) (found : Option Member) (output : Output) (new : World) → slice_get w.members i ≡ found
      → RunIsInterrupted w found output new → Moved (output, new)
  cutting i None output new here cut = absurd cut
  cutting i (Some m) output new here cut = elim cut.2 [
    | inl memory ↦ is outputs.Memory _ memory.0 memory.1 (by (readiness_at m) (found-is m) cut.1)
    | inr broken ↦ is outputs.Broken _ broken.0 broken.1 breaks
  ]
    where
      is : (answer : Output) (after : Member) → output ≡ answer → new ≡ with_member w after → Change w event i m answer after
          → Moved (output, new)
      is answer after told left change =
          subst (λ (x : Output). Move w event x new) (sym told)
          (subst (Move w event answer) (sym left) (becomes i m after answer here change))

      by : (found : Readiness) → Found m.protocol found → fetched_in found ≡ Some cut.0
          → Change w event i m outputs.Memory (caught_up m cut.0 m.protocol.batch)
      by (Ready plans held) has fetched =
          moves plans cut.0 (has ∙ ap (λ (f : Option Fetched). Some (record { plans = plans; fetched = f })) fetched)
      by other has fetched = absurd (none-some cut.0 fetched)

happening : (w : World) (event : Event) → Moved w event (happens w event)
happening w events.Begin = served w _ _ (λ runs. begins)
happening w (events.Insert transaction table row values) =
    served w _ _ (λ runs. changing w _ transaction (open_transaction w.transactions transaction)
    (λ draft. insert_answer (shape_of w.primary.schema) w.primary.durable draft table row.0 values) refl
    (λ draft new e. inl (table, row.0, values, e)))
happening w (events.Set transaction table row column value) =
    served w _ _ (λ runs. changing w _ transaction (open_transaction w.transactions transaction)
    (λ draft. set_answer (shape_of w.primary.schema) w.primary.durable draft table row.0 column value) refl
    (λ draft new e. inr (inl (table, row.0, column, value, e))))
happening w (events.Delete transaction table row) =
    served w _ _ (λ runs. changing w _ transaction (open_transaction w.transactions transaction)
    (λ draft. delete_answer (shape_of w.primary.schema) w.primary.durable draft table row.0) refl
    (λ draft new e. inr (inr (inl (table, row.0, e)))))
happening w (events.AddColumn transaction table default) =
    served w _ _ (λ runs. changing w _ transaction (open_transaction w.transactions transaction)
    (λ draft. add_column_answer (shape_of w.primary.schema) w.primary.durable draft table default) refl
    (λ draft new e. inr (inr (inr (table, default, e)))))
happening w (events.Get transaction table row column) =
    served w _ _ (λ runs. looking w _ (open_transaction w.transactions transaction)
    (λ draft. get_answer (shape_of w.primary.schema) w.primary.durable draft table row.0 column))
happening w (events.Commit transaction worker) =
    served w _ _ (λ runs. committing w _ transaction worker (open_transaction w.transactions transaction) refl)
happening w (events.Abort transaction) = served w _ _ (λ runs. aborting w _ transaction (open_transaction w.transactions transaction))
happening w (events.Flush count) = served w _ _ (λ runs. flushing w _ count w.primary.failed runs refl)
happening w events.Base = served w _ _ (λ runs. bases _)
happening w (events.Stop bytes) = served w _ _ (λ runs. stops bytes runs)
happening w events.Start = starting w _ w.stopped refl
happening w (events.Push worker seq) =
    served w _ _ (λ runs. pushing w _ (nat_lt seq (low_of w.primary worker)) (slice_get (stream_of w.primary.durable worker) seq))
happening w (events.Deliver index nodes.Primary) = served w _ _ (λ runs. delivering w _ index nodes.Primary (slice_get w.sent index) refl)
happening w (events.Deliver index (nodes.Replica number)) = delivering w _ index (nodes.Replica number) (slice_get w.sent index) refl
happening w (events.Show index) = showing w _ (slice_get w.sent index)
happening w (events.Open replica plan) =
    at_member w _ replica (slice_get w.members replica) _ refl
    (λ m here. opening w _ replica m plan m.protocol.broken (nat_le WAITING_QUERIES_MAX (length m.protocol.waiting))
    (checked (shape_in (durable_tables w m.protocol.version)) plan) here)
happening w (events.Ask replica) =
    at_member w _ replica (slice_get w.members replica) _ refl
    (λ m here. asking w _ replica m m.protocol.broken m.protocol.batch here refl)
happening w (events.Renew replica) =
    at_member w _ replica (slice_get w.members replica) _ refl
    (λ m here. renewing w _ replica m m.protocol.broken m.protocol.batch refl here refl)
happening w (events.Run replica) =
    at_member w _ replica (slice_get w.members replica) _ refl
    (λ m here. running w _ replica m (readiness_at m) here refl (found-is m))
happening w (events.Version replica) = at_member w _ replica (slice_get w.members replica) _ refl (λ m here. tells replica m here)
happening w (events.Dump replica) =
    at_member w _ replica (slice_get w.members replica) _ refl
    (λ m here. unless_broken w _ m.protocol.broken _ (dumps replica m refl here))
happening w (events.Restart replica boot) =
    at_member w _ replica (slice_get w.members replica) _ refl
    (λ m here. restarting w _ replica m boot (had_boot m.boots boot) here refl refl)
happening w (events.Raw nodes.Primary bytes) = served w _ _ (λ runs. raw_handing w _ nodes.Primary bytes (is_forged w.sent bytes) refl)
happening w (events.Raw (nodes.Replica number) bytes) = raw_handing w _ (nodes.Replica number) bytes (is_forged w.sent bytes) refl

-- whatever an event may answer and leave is a move
pub step-moves : (w : World) (event : Event) (output : Output) (new : World) → MayHappen w event output new → Move w event output new
step-moves w event output new (inl made) = subst (λ (x : Output × World). Move w event x.0 x.1) made (happening w event)
step-moves w event output new (inr (inl memory)) =
    subst (λ (x : Output). Move w event x new) (sym memory.0)
    (subst (Move w event outputs.Memory) (sym memory.1) (idle outputs.Memory (tt, tt)))
step-moves w (events.Run replica) output new (inr (inr cut)) =
    cutting w (events.Run replica) replica (slice_get w.members replica) output new refl cut
step-moves w other output new (inr (inr cut)) = absurd cut
