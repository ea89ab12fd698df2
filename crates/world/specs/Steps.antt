-- The world: one primary, its open transactions, every datagram that was ever sent, and of each replica what it knows.
-- No replica's tables are held: what a batch answers is specified by the one list of durable commits.
use Rattle.std.specs.Prelude.{ℕ, zero, suc, List, [], ◌∷◌, ◌++◌, length, Bool, true, false, Option, None, Some, Result, Ok, Err}
use Rattle.std.specs.Prelude.{slice_get, slice_set, replicate, map, ◌==◌, ◌&&◌, not, if◌then◌else◌, is_ok}
use Rattle.std.specs.List.{list_any}
use Rattle.std.specs.Option.{option_and_then}
use Rattle.std.specs.Str.{bytes_eq}
use Rattle.rows.specs.declared.commit.Commit.{Commit}
use Rattle.rows.specs.Shape.{shape_of}
use Rattle.rows.specs.Commits.{tables_after}
use Rattle.rows.specs.Tables.{Tables, shape_in}
use Rattle.wire.specs.declared.datagram.Datagram.{Datagram}
use Rattle.wire.specs.declared.datagram.Datagram.TheVariants as datagrams
use Rattle.wire.specs.declared.faults.WireFault.{WireFault}
use Rattle.wire.specs.declared.out.Out.{Out}
use Rattle.wire.specs.Reading.{reading}
use Rattle.mvcc.specs.declared.faults.TxFault.{TxFault}
use Rattle.mvcc.specs.Transaction.{Transaction}
use Rattle.mvcc.specs.Transactions.{insert_answer, set_answer, delete_answer, add_column_answer, get_answer}
use Rattle.intake.specs.declared.taken.Taken.{Taken}
use Rattle.intake.specs.State.{Arrivals, known_of}
use Rattle.intake.specs.Steps.{taken, gained}
use Rattle.update_log.specs.declared.frame.Frame.{Frame}
use Rattle.primary.specs.declared.faults.CommitFault.{CommitFault}
use Rattle.primary.specs.State.{Primary}
use Rattle.primary.specs.Steps.{started_primary, commit_answer, committed, flushed, based}
use Rattle.primary.specs.Sending.{pushed, pieces_of_base, answers}
use Rattle.queries.specs.Checking.{checked}
use Rattle.dispatcher.specs.declared.faults.AskFault.{AskFault}
use Rattle.dispatcher.specs.declared.faults.OpenFault.{OpenFault}
use Rattle.dispatcher.specs.declared.outcome.Got.{Got}
use Rattle.dispatcher.specs.State.{Batch, Fetched, Pieces, Protocol}
use Rattle.dispatcher.specs.Images.{piece_frame}
use Rattle.dispatcher.specs.Protocol.{started_protocol, opens_query, asks_version, renews_version, want_for, pull_for, is_own, takes_head}
use Rattle.dispatcher.specs.Protocol.{bases_at, bases_for, fetched_for, wants_piece, pieces_after, lack_at, readiness}
use Rattle.dispatcher.specs.Protocol.{Readiness, Broken, NoBatch, WaitsForHead, WaitsForPiece, WaitsForFrame, Ready}
use Rattle.dispatcher.specs.Steps.{got_of}
use Rattle.dispatcher.specs.Report.{report_of}
use Rattle.dispatcher.specs.TableText.{names_of, table_text}
use Rattle.script.specs.declared.event.Event.{Event}
use Rattle.script.specs.declared.event.Event.TheVariants as events
use Rattle.script.specs.declared.event.Node.{Node}
use Rattle.script.specs.declared.event.Node.TheVariants as nodes
use Rattle.script.specs.declared.output.Output.{Output}
use Rattle.script.specs.declared.output.Output.TheVariants as outputs
use Rattle.script.specs.declared.setup.Setup.{Setup}
use Rattle.world.specs.Outputs.{of_change, of_look, of_commit, of_answers, packets_of, of_open, of_ask, of_got}
use Rattle.world.specs.Stops.{stopped_at, closed}

-- what is known of an image: its base, and the numbers of the known pieces, each once, in rising order
pub record KnownPieces : Type 0 where
  pub base : ℕ
  pub numbers : List ℕ

-- no piece is known of the image at this base
abbrev pub none_known : ℕ → KnownPieces
none_known base = record { base = base; numbers = [] }

-- a replica as the world has it, without tables
pub record Member : Type 0 where
  -- the boots that it had, in the order of its starts; it is in the newest of those
  pub boots : List ℕ
  -- how many commits were durable when its newest batch asked
  pub asked_at : ℕ
  -- by worker, the seqs of its known frames, each once, in rising order
  pub known : List (List ℕ)
  -- the known pieces of the newest image that it goes by
  pub pieces : KnownPieces
  -- the rest of it
  pub protocol : Protocol

-- the world: the primary, whether it is stopped, the transactions, all datagrams that were ever sent, and the replicas
pub record World : Type 0 where
  pub primary : Primary
  -- whether the primary is stopped; then nothing is pending, and no transaction is open
  pub stopped : Bool
  -- the transactions in the order of their `begin`; none if one is no longer open
  pub transactions : List (Option Transaction)
  -- the bytes of every datagram that was ever sent, in order; the network may deliver any of them, to any node, in any
  -- order and number
  pub sent : List (List ℕ)
  pub members : List Member

-- a replica of so many workers, fresh from its start with boot 1
abbrev pub fresh : ℕ → ℕ → Member
fresh workers number = record {
  boots = 1 ∷ [];
  asked_at = 0;
  known = replicate workers [];
  pieces = none_known 0;
  protocol = started_protocol number 1;
}

-- whether a boot is one of these
abbrev pub had_boot : List ℕ → ℕ → Bool
had_boot boots boot = list_any (λ had. had == boot) boots

-- a replica that starts again in this boot: all that it knew is gone, and its queries and its batch with that
abbrev pub restarted : ℕ → Member → ℕ → Member
restarted workers m boot = record m {
  boots = m.boots ++ boot ∷ [];
  known = replicate workers [];
  pieces = none_known 0;
  protocol = started_protocol m.protocol.number boot;
}

-- so many fresh replicas, the first with this number
abbrev pub fresh_from : ℕ → ℕ → ℕ → List Member
fresh_from workers number zero = []
fresh_from workers number (suc count) = fresh workers number ∷ fresh_from workers (suc number) count

-- the world at its beginning, with what is durable then, and with a primary that is stopped or not
abbrev pub opening_world : Setup → List Commit → Bool → World
opening_world setup durable stopped = record {
  primary = started_primary setup.schema setup.workers durable;
  stopped = stopped;
  transactions = [];
  sent = [];
  members = fresh_from setup.workers 0 setup.replicas;
}

-- ---- stops and starts

-- while the primary is stopped, each of its events but a start answers that, and changes nothing
abbrev pub unless_stopped : World → Output × World → Output × World
unless_stopped w next = if w.stopped then (outputs.Stopped, w) else next

-- the primary stops, its journal with so many bytes of what was not acknowledged
abbrev pub stop_happens : World → ℕ → Output × World
stop_happens w bytes = (
  outputs.Stopped,
  record w { primary = stopped_at w.primary bytes; stopped = true; transactions = closed w.transactions },
)

-- the primary starts on what its journal keeps
abbrev pub start_happens : World → Output × World
start_happens w = if w.stopped then (outputs.Durable (length w.primary.durable), record w { stopped = false }) else (outputs.Running, w)

-- ---- transactions, commits, flushes and bases

-- the open transaction of this number, if there is one
abbrev pub open_transaction : List (Option Transaction) → ℕ → Option Transaction
open_transaction transactions number = option_and_then (λ slot. slot) (slice_get transactions number)

-- a change that is taken stands in the transaction, and a refused one leaves it
abbrev pub change_happens : World → ℕ → Result Transaction TxFault → Output × World
change_happens w number (Ok draft) = (outputs.Accepted, record w { transactions = slice_set w.transactions number (Some draft) })
change_happens w number (Err fault) = (of_change fault, w)

-- what happens to an open transaction; if there is none, that is the answer
abbrev pub on_transaction : World → Option Transaction → (Transaction → Output × World) → Output × World
on_transaction w None next = (outputs.NoTx, w)
on_transaction w (Some draft) next = next draft

-- a commit is answered, with its ticket or a refusal, and the transaction is over
abbrev pub commit_happens : World → ℕ → ℕ → Transaction → Result ℕ CommitFault → Output × World
commit_happens w transaction worker draft (Ok number) = (
  outputs.Ticket number,
  record w {
    primary = committed w.primary worker draft.entries;
    transactions = slice_set w.transactions transaction None;
  },
)
commit_happens w transaction worker draft (Err fault) =
    (of_commit fault, record w { transactions = slice_set w.transactions transaction None })

-- a transaction is given up
abbrev pub abort_happens : World → ℕ → Output × World
abort_happens w transaction = (outputs.Accepted, record w { transactions = slice_set w.transactions transaction None })

-- the first pending commits become durable, this many at the most
abbrev pub flush_happens : World → ℕ → Output × World
flush_happens w count =
    if w.primary.failed then (outputs.Failed, w) else
    (outputs.Durable (length (flushed w.primary count).durable), record w { primary = flushed w.primary count })

-- what is durable becomes the base: its frames are not kept any more, but the tables after it, in so many pieces
abbrev pub base_happens : World → Output × World
base_happens w = (
  outputs.Based (length w.primary.durable)
      (length (pieces_of_base (shape_of w.primary.schema) w.primary.durable (length w.primary.durable))),
  record w { primary = based w.primary },
)

-- ---- datagrams

-- one more datagram is sent
abbrev pub send : World → List ℕ → Output × World
send w bytes = (outputs.Sent (record { index = length w.sent; len = length bytes } ∷ []), record w { sent = w.sent ++ bytes ∷ [] })

-- a frame is pushed, if the stream has it and it is kept
abbrev pub push_happens : World → Option (List ℕ) → Output × World
push_happens w None = (outputs.NoFrame, w)
push_happens w (Some bytes) = send w bytes

-- the world with a replica changed
abbrev pub with_member : World → Member → World
with_member w m = record w { members = slice_set w.members m.protocol.number m }

-- what has come where these seqs are known, by worker, and no frame is kept
abbrev pub arrived : List (List ℕ) → List Arrivals
arrived known = map (λ seqs. record { known = seqs; kept = [] }) known

-- the seqs that are known, by worker
abbrev pub known_in : List Arrivals → List (List ℕ)
known_in arrivals = map (λ (of_worker : Arrivals). of_worker.known) arrivals

-- the pieces that have come where these are known, and none is kept
abbrev pub arrived_pieces : KnownPieces → Pieces
arrived_pieces pieces = record { base = pieces.base; arrivals = arrived (pieces.numbers ∷ []) }

-- the pieces that are known
abbrev pub known_pieces : Pieces → KnownPieces
known_pieces pieces = record { base = pieces.base; numbers = known_of pieces.arrivals 0 }

-- what the intake makes of a frame that comes to a replica, and the replica after it. All that was sent is of the durable list, so
-- its worker is there and its entries fit
abbrev pub frame_happens : Member → Taken × List Arrivals → Output × Member
frame_happens m came = (of_got (got_of came.0), record m { known = known_in came.1 })

-- a piece that comes, as a frame: it is taken if the replica's batch goes by its base and wants its number
abbrev pub piece_happens : Member → Frame → Output × Member
piece_happens m piece =
    if wants_piece m.protocol.version (fetched_for m.protocol.batch) piece.commit piece.seq then (
      of_got (got_of (taken (arrived_pieces m.pieces).arrivals [] piece).0),
      record m { pieces = record m.pieces { numbers = known_of (taken (arrived_pieces m.pieces).arrivals [] piece).1 0 } },
    ) else (outputs.Ignored, m)

-- what the protocol makes of a Head that comes to a replica. It counts the frames at a durable version that is no older than the
-- replica's. Once it is taken, the pieces of another base are forgotten
abbrev pub head_happens : Member → ℕ → Got × Protocol → Output × Member
head_happens m base came =
    (of_got came.0, record m { pieces = known_pieces (pieces_after came.0 base (arrived_pieces m.pieces)); protocol = came.1 })

-- a datagram that comes to a replica. Where its batch goes by image, the window of frames is counted from the bases on
abbrev pub datagram_happens : Member → Result Datagram WireFault → Output × Member
datagram_happens m (Ok (datagrams.Frame worker seq commit last entries)) =
    frame_happens m (taken (arrived m.known) (bases_for m.protocol.version (fetched_for m.protocol.batch))
    (record { worker = worker; seq = seq; commit = commit; last = last; entries = entries }))
datagram_happens m (Ok (datagrams.Head head)) =
    if is_own m.protocol head then head_happens m head.base (takes_head m.protocol head m.protocol.batch) else (outputs.Ignored, m)
datagram_happens m (Ok (datagrams.Piece base number last entries)) = piece_happens m (piece_frame base number last entries)
datagram_happens m other = (outputs.Ignored, m)

-- what happens at a replica that is there
abbrev pub on_member : World → Option Member → (Member → Output × World) → Output × World
on_member w None next = (outputs.Ignored, w)
on_member w (Some member) next = next member

-- what a replica answers, and the world with that replica after it
abbrev pub member_output : World → Output × Member → Output × World
member_output w answer = (answer.0, with_member w answer.1)

-- bytes arrive at a node
abbrev pub delivered : World → List ℕ → Node → Output × World
delivered w bytes nodes.Primary =
    (of_answers (length w.sent) (answers w.primary bytes), record w { sent = w.sent ++ packets_of (answers w.primary bytes) })
delivered w bytes (nodes.Replica number) =
    on_member w (slice_get w.members number)
    (λ m. if m.protocol.broken then (outputs.Broken, w) else member_output w (datagram_happens m (reading bytes)))

-- a datagram of the list of all that was sent arrives at a node
abbrev pub deliver_happens : World → Node → Option (List ℕ) → Output × World
deliver_happens w node None = (outputs.NeverSent, w)
deliver_happens w node (Some bytes) = delivered w bytes node

-- whether bytes are a datagram that was never sent: the network makes none up
abbrev pub is_forged : List (List ℕ) → List ℕ → Bool
is_forged sent bytes = is_ok (reading bytes) && not (list_any (λ other. bytes_eq other bytes) sent)

-- bytes that are handed over as they are, unless they are forged
abbrev pub raw_happens : World → Node → List ℕ → Output × World
raw_happens w node bytes = if is_forged w.sent bytes then (outputs.Forged, w) else delivered w bytes node

-- the bytes of a datagram that was sent
abbrev pub shown : Option (List ℕ) → Output
shown None = outputs.NeverSent
shown (Some bytes) = outputs.Shown bytes

-- ---- batches

-- the tables after exactly the first commits of the durable list, up to a version
abbrev pub durable_tables : World → ℕ → Tables
durable_tables w version = tables_after (shape_of w.primary.schema) w.primary.durable version

-- opening a query, by what the protocol makes of it
abbrev pub open_happens : World → Member → Result (ℕ × Protocol) OpenFault → Output × World
open_happens w m (Ok opened) = (outputs.Opened opened.0, with_member w (record m { protocol = opened.1 }))
open_happens w m (Err fault) = (of_open fault, w)

-- a replica asks, by what the protocol makes of it and by its batch: for a new batch; or again, for a batch without a version
abbrev pub ask_happens : World → Member → Result (Out × Protocol) AskFault → Option Batch → Output × World
ask_happens w m (Err fault) batch = (of_ask fault, w)
ask_happens w m (Ok asked) None =
    send (with_member w (record m { asked_at = length w.primary.durable; protocol = asked.1 })) asked.0.packet
ask_happens w m (Ok asked) (Some batch) = send w asked.0.packet

-- a replica gives up what was fetched for its batch and asks anew, by what the protocol makes of it. How many commits were durable
-- when the batch asked stays
abbrev pub renew_happens : World → Member → Result (Out × Protocol) AskFault → Output × World
renew_happens w m (Err fault) = (of_ask fault, w)
renew_happens w m (Ok renewed) = send (with_member w (record m { protocol = renewed.1 })) renewed.0.packet

-- a run waits for a piece, and sends a Pull
abbrev pub pull_happens : World → ℕ → List ℕ → Output × World
pull_happens w number bytes =
    (outputs.WaitingPiece number (record { index = length w.sent; len = length bytes }), record w { sent = w.sent ++ bytes ∷ [] })

-- a run waits for a frame, and sends a Want
abbrev pub wait_happens : World → ℕ → ℕ → List ℕ → Output × World
wait_happens w worker seq bytes =
    (outputs.Waiting worker seq (record { index = length w.sent; len = length bytes }), record w { sent = w.sent ++ bytes ∷ [] })

-- what a run of a replica finds
abbrev pub readiness_at : Member → Readiness
readiness_at m =
    readiness m.protocol.broken m.protocol.batch (lack_at m.protocol.version (arrived_pieces m.pieces) (arrived m.known))

-- a replica once it has caught up with what was fetched: if that was by image, each frame that the image stands for is known, and no
-- piece any more
abbrev pub caught_up : Member → Fetched → Option Batch → Member
caught_up m fetched batch = record m {
  known = known_in (gained (arrived m.known) (bases_at m.protocol.version fetched));
  pieces = none_known 0;
  protocol = record m.protocol { version = fetched.version; batch = batch };
}

-- a run, by what it finds. A batch for which nothing is missing is answered by its report: the plain answers on the rows after
-- exactly the first commits of the durable list, up to the version that was fetched
abbrev pub run_happens : World → Member → Readiness → Output × World
run_happens w m Broken = (outputs.Broken, w)
run_happens w m NoBatch = (outputs.NoBatch, w)
run_happens w m WaitsForHead = (outputs.WaitingHead, w)
run_happens w m (WaitsForPiece base number) = pull_happens w number (pull_for m.protocol.number base number).packet
run_happens w m (WaitsForFrame worker seq) = wait_happens w worker seq (want_for m.protocol.number worker seq).packet
run_happens w m (Ready plans fetched) = (
  outputs.Report (report_of (durable_tables w fetched.version) fetched.version plans),
  with_member w (caught_up m fetched None),
)

-- ---- looks at a replica

-- the text of the tables at a version
abbrev pub dump_at : World → ℕ → List ℕ
dump_at w version = table_text (names_of w.primary.schema) version (durable_tables w version)

-- ---- restarts

-- a replica starts again, in a boot that it never had
abbrev pub restart_happens : World → Member → ℕ → Output × World
restart_happens w m boot =
    if had_boot m.boots boot then (outputs.BootUsed, w) else (outputs.Boot boot, with_member w (restarted w.primary.workers m boot))

-- ---- the step

-- what an event answers, and the world after it. Being out of memory aside.
abbrev pub happens : World → Event → Output × World
happens w events.Begin = unless_stopped w (
  outputs.Tx (length w.transactions) (length w.primary.durable),
  record w { transactions = w.transactions ++ Some (record { snapshot = length w.primary.durable; entries = [] }) ∷ [] },
)
happens w (events.Insert transaction table row values) =
    unless_stopped w (on_transaction w (open_transaction w.transactions transaction)
    (λ draft. change_happens w transaction (insert_answer (shape_of w.primary.schema) w.primary.durable draft table row.0 values)))
happens w (events.Set transaction table row column value) =
    unless_stopped w (on_transaction w (open_transaction w.transactions transaction)
    (λ draft. change_happens w transaction (set_answer (shape_of w.primary.schema) w.primary.durable draft table row.0 column value)))
happens w (events.Delete transaction table row) =
    unless_stopped w (on_transaction w (open_transaction w.transactions transaction)
    (λ draft. change_happens w transaction (delete_answer (shape_of w.primary.schema) w.primary.durable draft table row.0)))
happens w (events.AddColumn transaction table default) =
    unless_stopped w (on_transaction w (open_transaction w.transactions transaction)
    (λ draft. change_happens w transaction (add_column_answer (shape_of w.primary.schema) w.primary.durable draft table default)))
happens w (events.Get transaction table row column) =
    unless_stopped w (on_transaction w (open_transaction w.transactions transaction)
    (λ draft. (of_look (get_answer (shape_of w.primary.schema) w.primary.durable draft table row.0 column), w)))
happens w (events.Commit transaction worker) =
    unless_stopped w (on_transaction w (open_transaction w.transactions transaction)
    (λ draft. commit_happens w transaction worker draft (commit_answer w.primary worker draft)))
happens w (events.Abort transaction) =
    unless_stopped w (on_transaction w (open_transaction w.transactions transaction) (λ draft. abort_happens w transaction))
happens w (events.Flush count) = unless_stopped w (flush_happens w count)
happens w events.Base = unless_stopped w (base_happens w)
happens w (events.Stop bytes) = unless_stopped w (stop_happens w bytes)
happens w events.Start = start_happens w
happens w (events.Push worker seq) = unless_stopped w (push_happens w (pushed w.primary worker seq))
happens w (events.Deliver index nodes.Primary) = unless_stopped w (deliver_happens w nodes.Primary (slice_get w.sent index))
happens w (events.Deliver index (nodes.Replica number)) = deliver_happens w (nodes.Replica number) (slice_get w.sent index)
happens w (events.Show index) = (shown (slice_get w.sent index), w)
happens w (events.Open replica plan) =
    on_member w (slice_get w.members replica)
    (λ m. open_happens w m (opens_query m.protocol plan (checked (shape_in (durable_tables w m.protocol.version)) plan)))
happens w (events.Ask replica) =
    on_member w (slice_get w.members replica) (λ m. ask_happens w m (asks_version m.protocol) m.protocol.batch)
happens w (events.Renew replica) =
    on_member w (slice_get w.members replica) (λ m. renew_happens w m (renews_version m.protocol))
happens w (events.Run replica) = on_member w (slice_get w.members replica) (λ m. run_happens w m (readiness_at m))
happens w (events.Version replica) = on_member w (slice_get w.members replica) (λ m. (outputs.Version m.protocol.version, w))
happens w (events.Dump replica) =
    on_member w (slice_get w.members replica)
    (λ m. if m.protocol.broken then (outputs.Broken, w) else (outputs.Dump (dump_at w m.protocol.version), w))
happens w (events.Restart replica boot) = on_member w (slice_get w.members replica) (λ m. restart_happens w m boot)
happens w (events.Raw nodes.Primary bytes) = unless_stopped w (raw_happens w nodes.Primary bytes)
happens w (events.Raw (nodes.Replica number) bytes) = raw_happens w (nodes.Replica number) bytes

-- the outputs of a list of events, out of memory aside
abbrev pub outputs_of : World → List Event → List Output
outputs_of w [] = []
outputs_of w (event ∷ events) = (happens w event).0 ∷ outputs_of (happens w event).1 events
