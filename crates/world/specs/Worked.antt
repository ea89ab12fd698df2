-- Events with what they are to answer: three scripts, `examples/first-commit.script`, `examples/lost-frame.script` and
-- `examples/conflict.script`; write skew; each refusal of a transaction's calls; stops and starts; bases; two queries of one batch; a
-- column that is added; two workers; an image; and a renewal. One table of two `int` columns; one worker and one replica but for the
-- last three.
use Rattle.std.specs.Prelude.{ℕ, false, ◌∷◌, [], List, None, Some, pos, negsuc, codes, ◌++◌}
use Rattle.rows.specs.declared.kind.Kind.TheVariants.{Int as IntKind}
use Rattle.rows.specs.declared.row_id.RowId.{RowId}
use Rattle.rows.specs.declared.value.Value.TheVariants.{Int}
use Rattle.queries.specs.declared.aggregate.Aggregate.TheVariants.{Count, Sum}
use Rattle.queries.specs.declared.column.Column.TheVariants.{Own, Joined}
use Rattle.queries.specs.declared.faults.PlanFault.TheVariants.{NoColumn}
use Rattle.queries.specs.declared.plan.Plan.{Plan}
use Rattle.script.specs.declared.event.Event.{Event}
use Rattle.script.specs.declared.event.Event.TheVariants.{Begin, Insert, Set, Delete, Get, Commit, Abort, Flush, Stop, Start}
use Rattle.script.specs.declared.event.Event.TheVariants.{AddColumn, Base, Push, Deliver, Show, Open, Ask, Renew, Run, Dump}
use Rattle.script.specs.declared.event.Node.TheVariants.{Primary, Replica}
use Rattle.script.specs.declared.output.Output.{Output}
use Rattle.script.specs.declared.output.Output.TheVariants as outputs
use Rattle.world.specs.Steps.{World, opening_world}

-- the world of the scripts: one worker, one replica, `table acct int int`
abbrev pub worked_world : World
worked_world = opening_world (record { schema = (codes "acct", IntKind ∷ IntKind ∷ []) ∷ []; workers = 1; replicas = 1 }) [] false

-- row 7 with the values 5 and -1 is committed, made durable, and pushed
abbrev pub commit_and_push : List Event
commit_and_push =
    Begin ∷ Insert 0 0 (record { 0 = 7 }) (Int (pos 5) ∷ Int (negsuc 0) ∷ []) ∷ Commit 0 0 ∷ Flush 1 ∷ Push 0 0 ∷ []

abbrev pub commit_and_push_outputs : List Output
commit_and_push_outputs =
    outputs.Tx 0 0 ∷ outputs.Accepted ∷ outputs.Ticket 1 ∷ outputs.Durable 1 ∷ outputs.Sent (record { index = 0; len = 54 } ∷ []) ∷ []

-- the plan of a query that counts the rows of the table
abbrev pub count_rows : Plan
count_rows = record { table = 0; join = None; conditions = []; groups = []; aggregates = Count ∷ [] }

-- such a query is opened, and the newest durable version asked for and fetched
abbrev pub open_and_fetch : List Event
open_and_fetch = Open 0 count_rows ∷ Ask 0 ∷ Deliver 1 Primary ∷ Deliver 2 (Replica 0) ∷ []

abbrev pub open_and_fetch_outputs : List Output
open_and_fetch_outputs =
    outputs.Opened 1 ∷ outputs.Sent (record { index = 1; len = 23 } ∷ []) ∷ outputs.Sent (record { index = 2; len = 64 } ∷ [])
    ∷ outputs.Head 1 ∷ []

-- the text of the report: one row
abbrev pub report : List ℕ
report = codes "version 1 queries 1\nquery 0 rows 1\n1\n"

-- the bytes of the frame
abbrev pub frame_bytes : List ℕ
frame_bytes =
    0x42 ∷ 0x44 ∷ 3 ∷ 1 ∷ 0 ∷ 0x36 ∷ 0 ∷ 0 ∷ 0 ∷ 0 ∷ 0 ∷ 0 ∷ 0 ∷ 0 ∷ 0 ∷ 0 ∷ 0 ∷ 0 ∷ 0 ∷ 0 ∷ 0 ∷ 0 ∷ 1 ∷ 1 ∷ 0 ∷ 1 ∷ 1 ∷ 0
    ∷ 0 ∷ 0 ∷ 0 ∷ 0 ∷ 0 ∷ 0 ∷ 0 ∷ 7 ∷ 0 ∷ 0x10 ∷ 0 ∷ 0 ∷ 0 ∷ 0 ∷ 0 ∷ 0 ∷ 0 ∷ 5 ∷ 0xff ∷ 0xff ∷ 0xff ∷ 0xff ∷ 0xff ∷ 0xff ∷ 0xff ∷ 0xff ∷ []

-- the frame arrives, and the batch is answered
abbrev pub first_commit : List Event
first_commit = commit_and_push ++ Deliver 0 (Replica 0) ∷ open_and_fetch ++ Run 0 ∷ Show 0 ∷ []

abbrev pub first_commit_outputs : List Output
first_commit_outputs =
    commit_and_push_outputs ++ outputs.Stored ∷ open_and_fetch_outputs ++ outputs.Report report ∷ outputs.Shown frame_bytes ∷ []

-- the frame is late: the batch waits for it and asks for it, and is answered once it came
abbrev pub lost_frame : List Event
lost_frame = commit_and_push ++ open_and_fetch ++ Run 0 ∷ Deliver 0 (Replica 0) ∷ Run 0 ∷ []

abbrev pub lost_frame_outputs : List Output
lost_frame_outputs =
    commit_and_push_outputs ++ open_and_fetch_outputs
    ++ outputs.Waiting 0 0 (record { index = 3; len = 16 }) ∷ outputs.Stored ∷ outputs.Report report ∷ []

-- the row that the scripts change
abbrev pub account : RowId
account = record { 0 = 7 }

-- two clerks change one account, and the first committer wins; the other one begins anew, and a third one gives up
abbrev pub conflict : List Event
conflict =
    Begin ∷ Insert 0 0 account (Int (pos 100) ∷ Int (pos 50) ∷ []) ∷ Commit 0 0 ∷ Flush 1
    ∷ Begin ∷ Begin ∷ Get 1 0 account 0 ∷ Get 2 0 account 0 ∷ Set 1 0 account 0 (Int (pos 120)) ∷ Set 2 0 account 0 (Int (pos 130))
    ∷ Get 1 0 account 0 ∷ Get 2 0 account 0 ∷ Commit 1 0 ∷ Commit 2 0 ∷ Get 2 0 account 0
    ∷ Flush 1 ∷ Begin ∷ Get 3 0 account 0 ∷ Set 3 0 account 0 (Int (pos 150)) ∷ Commit 3 0 ∷ Flush 1
    ∷ Begin ∷ Get 4 0 account 0 ∷ Set 4 0 account 1 (Int (pos 0)) ∷ Abort 4 ∷ Commit 4 0 ∷ []

abbrev pub conflict_outputs : List Output
conflict_outputs =
    outputs.Tx 0 0 ∷ outputs.Accepted ∷ outputs.Ticket 1 ∷ outputs.Durable 1
    ∷ outputs.Tx 1 1 ∷ outputs.Tx 2 1 ∷ outputs.Value (Int (pos 100)) ∷ outputs.Value (Int (pos 100)) ∷ outputs.Accepted ∷ outputs.Accepted
    ∷ outputs.Value (Int (pos 120)) ∷ outputs.Value (Int (pos 130)) ∷ outputs.Ticket 2 ∷ outputs.Conflict 2 ∷ outputs.NoTx
    ∷ outputs.Durable 2 ∷ outputs.Tx 3 2 ∷ outputs.Value (Int (pos 120)) ∷ outputs.Accepted ∷ outputs.Ticket 3 ∷ outputs.Durable 3
    ∷ outputs.Tx 4 3 ∷ outputs.Value (Int (pos 150)) ∷ outputs.Accepted ∷ outputs.Accepted ∷ outputs.NoTx ∷ []

-- a second row
abbrev pub other_account : RowId
other_account = record { 0 = 8 }

-- each of two transactions sets the row that the other one looked at, and both are committed: write skew
abbrev pub write_skew : List Event
write_skew =
    Begin ∷ Insert 0 0 account (Int (pos 5) ∷ Int (negsuc 0) ∷ []) ∷ Insert 0 0 other_account (Int (pos 9) ∷ Int (pos 0) ∷ []) ∷ Commit 0 0
    ∷ Flush 1
    ∷ Begin ∷ Begin ∷ Get 1 0 other_account 0 ∷ Get 2 0 account 0 ∷ Set 1 0 account 0 (Int (pos 0)) ∷ Set 2 0 other_account 0 (Int (pos 0))
    ∷ Commit 1 0 ∷ Commit 2 0 ∷ []

abbrev pub write_skew_outputs : List Output
write_skew_outputs =
    outputs.Tx 0 0 ∷ outputs.Accepted ∷ outputs.Accepted ∷ outputs.Ticket 1 ∷ outputs.Durable 1
    ∷ outputs.Tx 1 1 ∷ outputs.Tx 2 1 ∷ outputs.Value (Int (pos 9)) ∷ outputs.Value (Int (pos 5)) ∷ outputs.Accepted ∷ outputs.Accepted
    ∷ outputs.Ticket 2 ∷ outputs.Ticket 3 ∷ []

-- what does not fit is refused first, then what is there or missing; a commit without entries takes no
-- number, and a pending commit is one to conflict with
abbrev pub refusals : List Event
refusals =
    Begin ∷ Commit 0 0 ∷ Commit 0 0
    ∷ Begin ∷ Set 1 0 account 2 (Int (pos 6)) ∷ Set 1 0 account 0 (Int (pos 6)) ∷ Get 1 0 account 2 ∷ Get 1 0 account 0
    ∷ Delete 1 1 account ∷ Delete 1 0 account ∷ Insert 1 0 account (Int (pos 5) ∷ [])
    ∷ Insert 1 0 account (Int (pos 5) ∷ Int (negsuc 0) ∷ [])
    ∷ Insert 1 0 account (Int (pos 5) ∷ []) ∷ Insert 1 0 account (Int (pos 5) ∷ Int (negsuc 0) ∷ []) ∷ Delete 1 0 account
    ∷ Get 1 0 account 0
    ∷ Set 1 0 account 0 (Int (pos 6)) ∷ Insert 1 0 account (Int (pos 5) ∷ []) ∷ Insert 1 0 account (Int (pos 5) ∷ Int (negsuc 0) ∷ [])
    ∷ Begin ∷ Insert 2 0 account (Int (pos 5) ∷ Int (negsuc 0) ∷ []) ∷ Commit 1 0 ∷ Commit 2 0 ∷ Abort 2 ∷ []

abbrev pub refusals_outputs : List Output
refusals_outputs =
    outputs.Tx 0 0 ∷ outputs.ReadOnly ∷ outputs.NoTx
    ∷ outputs.Tx 1 0 ∷ outputs.Unfit ∷ outputs.Missing ∷ outputs.Unfit ∷ outputs.Missing
    ∷ outputs.Unfit ∷ outputs.Missing ∷ outputs.Unfit ∷ outputs.Accepted
    ∷ outputs.Unfit ∷ outputs.Exists ∷ outputs.Accepted ∷ outputs.Missing
    ∷ outputs.Missing ∷ outputs.Unfit ∷ outputs.Accepted
    ∷ outputs.Tx 2 0 ∷ outputs.Accepted ∷ outputs.Ticket 1 ∷ outputs.Conflict 1 ∷ outputs.NoTx ∷ []

-- a row with the values 5 and -1 is put in by the transaction of this number, and committed for a worker
abbrev pub commit_of : ℕ → RowId → ℕ → List Event
commit_of number row worker =
    Begin ∷ Insert number 0 row (Int (pos 5) ∷ Int (negsuc 0) ∷ []) ∷ Commit number worker ∷ []

-- a stop keeps a commit of whose record each byte stands, and no other; its number is given again. It keeps what is durable,
-- and no transaction, and while the primary is stopped nothing but a start is served
abbrev pub stops : List Event
stops =
    commit_of 0 account 0 ++ Stop 42 ∷ Start ∷ commit_of 1 account 0 ++ Begin ∷ Stop 43 ∷ Begin ∷ Get 2 0 account 0 ∷ Stop 0 ∷ Push 0 0
    ∷ Deliver 0 Primary ∷ Start ∷ Get 2 0 account 0 ∷ Start ∷ Push 0 0 ∷ commit_of 3 other_account 0 ++ Stop 0 ∷ Start ∷ []

abbrev pub stops_outputs : List Output
stops_outputs =
    outputs.Tx 0 0 ∷ outputs.Accepted ∷ outputs.Ticket 1 ∷ outputs.Stopped ∷ outputs.Durable 0
    ∷ outputs.Tx 1 0 ∷ outputs.Accepted ∷ outputs.Ticket 1 ∷ outputs.Tx 2 0 ∷ outputs.Stopped
    ∷ outputs.Stopped ∷ outputs.Stopped ∷ outputs.Stopped ∷ outputs.Stopped ∷ outputs.Stopped ∷ outputs.Durable 1
    ∷ outputs.NoTx ∷ outputs.Running ∷ outputs.Sent (record { index = 0; len = 54 } ∷ [])
    ∷ outputs.Tx 3 1 ∷ outputs.Accepted ∷ outputs.Ticket 2 ∷ outputs.Stopped ∷ outputs.Durable 1 ∷ []

-- a base holds the tables after what is durable, here in one piece; the frames of these commits are gone. A batch whose Head has a base
-- above the replica's version waits for a piece. After a stop and a start all frames are there, but no piece, so the batch has to
-- renew. It then goes by frames
abbrev pub bases : List Event
bases =
    Base ∷ commit_and_push ++ Base ∷ Push 0 0 ∷ commit_of 1 other_account 0 ++ Base ∷ Flush 1 ∷ Push 0 1
    ∷ Open 0 count_rows ∷ Ask 0 ∷ Deliver 2 Primary ∷ Deliver 3 (Replica 0) ∷ Run 0
    ∷ Stop 0 ∷ Base ∷ Start ∷ Push 0 0 ∷ Deliver 4 Primary ∷ Renew 0 ∷ Deliver 6 Primary ∷ Deliver 3 (Replica 0) ∷ Deliver 7 (Replica 0)
    ∷ Deliver 1 (Replica 0) ∷ Deliver 5 (Replica 0) ∷ Run 0
    ∷ Base ∷ Open 0 count_rows ∷ Ask 0 ∷ Deliver 8 Primary ∷ Deliver 9 (Replica 0) ∷ Run 0 ∷ []

abbrev pub bases_outputs : List Output
bases_outputs =
    outputs.Based 0 0 ∷ commit_and_push_outputs ++ outputs.Based 1 1 ∷ outputs.NoFrame
    ∷ outputs.Tx 1 1 ∷ outputs.Accepted ∷ outputs.Ticket 2
    ∷ outputs.Based 1 1 ∷ outputs.Durable 2 ∷ outputs.Sent (record { index = 1; len = 54 } ∷ [])
    ∷ outputs.Opened 1 ∷ outputs.Sent (record { index = 2; len = 23 } ∷ []) ∷ outputs.Sent (record { index = 3; len = 64 } ∷ [])
    ∷ outputs.Head 2 ∷ outputs.WaitingPiece 0 (record { index = 4; len = 23 })
    ∷ outputs.Stopped ∷ outputs.Stopped ∷ outputs.Durable 2 ∷ outputs.Sent (record { index = 5; len = 54 } ∷ []) ∷ outputs.Ignored
    ∷ outputs.Sent (record { index = 6; len = 23 } ∷ []) ∷ outputs.Sent (record { index = 7; len = 64 } ∷ []) ∷ outputs.Ignored
    ∷ outputs.Head 2 ∷ outputs.Stored ∷ outputs.Stored ∷ outputs.Report (codes "version 2 queries 1\nquery 0 rows 1\n2\n")
    ∷ outputs.Based 2 1 ∷ outputs.Opened 1 ∷ outputs.Sent (record { index = 8; len = 23 } ∷ [])
    ∷ outputs.Sent (record { index = 9; len = 64 } ∷ []) ∷ outputs.Head 2
    ∷ outputs.Report (codes "version 2 queries 1\nquery 0 rows 1\n2\n") ∷ []

-- of each row with the row that its first column names: how many there are, and the sum of their second columns, for each
-- value of their first
abbrev pub count_and_sum_named : Plan
count_and_sum_named = record {
  table = 0;
  join = Some (record { column = 0; table = 0 });
  conditions = [];
  groups = Joined 0 ∷ [];
  aggregates = Count ∷ Sum (Joined 1) ∷ [];
}

-- a row that names another
abbrev pub named_account : RowId
named_account = record { 0 = 5 }

-- two queries are answered in one batch; one that groups by a column of a table that it does not join is refused
abbrev pub two_queries : List Event
two_queries =
    commit_of 0 account 0 ++ commit_of 1 named_account 0 ++ Flush 2 ∷ Push 0 0 ∷ Push 0 1 ∷ Deliver 0 (Replica 0) ∷ Deliver 1 (Replica 0)
    ∷ Open 0 count_rows ∷ Open 0 (record count_and_sum_named { join = None }) ∷ Open 0 count_and_sum_named
    ∷ Ask 0 ∷ Deliver 2 Primary ∷ Deliver 3 (Replica 0) ∷ Run 0 ∷ []

abbrev pub two_queries_outputs : List Output
two_queries_outputs =
    outputs.Tx 0 0 ∷ outputs.Accepted ∷ outputs.Ticket 1 ∷ outputs.Tx 1 0 ∷ outputs.Accepted ∷ outputs.Ticket 2 ∷ outputs.Durable 2
    ∷ outputs.Sent (record { index = 0; len = 54 } ∷ []) ∷ outputs.Sent (record { index = 1; len = 54 } ∷ [])
    ∷ outputs.Stored ∷ outputs.Stored ∷ outputs.Opened 1 ∷ outputs.BadPlan NoColumn ∷ outputs.Opened 2
    ∷ outputs.Sent (record { index = 2; len = 23 } ∷ []) ∷ outputs.Sent (record { index = 3; len = 64 } ∷ []) ∷ outputs.Head 2
    ∷ outputs.Report (codes "version 2 queries 2\nquery 0 rows 1\n2\nquery 1 rows 1\n5 2 -2\n") ∷ []

-- a query that sums the third column
abbrev pub sum_third : Plan
sum_third = record { table = 0; join = None; conditions = []; groups = []; aggregates = Sum (Own 2) ∷ [] }

-- a column is added beside a transaction that changes a row of its table, and the two are in conflict. From then on the row has the
-- column's value, and a row that is put in has one more. A replica refuses a query on the column until its own tables have it
abbrev pub added_column : List Event
added_column =
    commit_and_push ++ Deliver 0 (Replica 0) ∷ open_and_fetch ++ Run 0
    ∷ Begin ∷ Begin ∷ AddColumn 1 0 (Int (pos 3)) ∷ Set 2 0 account 0 (Int (pos 9)) ∷ Commit 1 0 ∷ Commit 2 0 ∷ Flush 1
    ∷ Begin ∷ Get 3 0 account 2 ∷ Insert 3 0 other_account (Int (pos 1) ∷ Int (pos 2) ∷ [])
    ∷ Insert 3 0 other_account (Int (pos 1) ∷ Int (pos 2) ∷ Int (pos 4) ∷ [])
    ∷ Push 0 1 ∷ Deliver 3 (Replica 0) ∷ Open 0 sum_third ∷ Open 0 count_rows ∷ Ask 0 ∷ Deliver 4 Primary ∷ Deliver 5 (Replica 0) ∷ Run 0
    ∷ Open 0 sum_third ∷ Ask 0 ∷ Deliver 6 Primary ∷ Deliver 7 (Replica 0) ∷ Run 0 ∷ Dump 0 ∷ []

abbrev pub added_column_outputs : List Output
added_column_outputs =
    commit_and_push_outputs ++ outputs.Stored ∷ open_and_fetch_outputs ++ outputs.Report report
    ∷ outputs.Tx 1 1 ∷ outputs.Tx 2 1 ∷ outputs.Accepted ∷ outputs.Accepted ∷ outputs.Ticket 2 ∷ outputs.Conflict 2 ∷ outputs.Durable 2
    ∷ outputs.Tx 3 2 ∷ outputs.Value (Int (pos 3)) ∷ outputs.Unfit ∷ outputs.Accepted
    ∷ outputs.Sent (record { index = 3; len = 37 } ∷ []) ∷ outputs.Stored ∷ outputs.BadPlan NoColumn ∷ outputs.Opened 1
    ∷ outputs.Sent (record { index = 4; len = 23 } ∷ []) ∷ outputs.Sent (record { index = 5; len = 64 } ∷ []) ∷ outputs.Head 2
    ∷ outputs.Report (codes "version 2 queries 1\nquery 0 rows 1\n1\n")
    ∷ outputs.Opened 1 ∷ outputs.Sent (record { index = 6; len = 23 } ∷ []) ∷ outputs.Sent (record { index = 7; len = 64 } ∷ [])
    ∷ outputs.Head 2 ∷ outputs.Report (codes "version 2 queries 1\nquery 0 rows 1\n3\n")
    ∷ outputs.Dump (codes "version 2 rows 1\nacct 7 5 -1 3\n") ∷ []

-- the world of two workers and two replicas
abbrev pub wide_world : World
wide_world = opening_world (record { schema = (codes "acct", IntKind ∷ IntKind ∷ []) ∷ []; workers = 2; replicas = 2 }) [] false

-- each worker commits, and their frames come in the other order: the batch waits for the one that is missing, asks for it,
-- and counts both
abbrev pub two_workers : List Event
two_workers =
    commit_of 0 account 0 ++ commit_of 1 other_account 1 ++ Flush 2 ∷ Push 0 0 ∷ Push 1 0
    ∷ Deliver 1 (Replica 0) ∷ Deliver 1 (Replica 0) ∷ Open 0 count_rows ∷ Ask 0 ∷ Deliver 2 Primary ∷ Deliver 3 (Replica 1)
    ∷ Deliver 3 (Replica 0) ∷ Run 0 ∷ Deliver 4 Primary ∷ Deliver 5 (Replica 0) ∷ Deliver 0 (Replica 0) ∷ Run 0 ∷ []

abbrev pub two_workers_outputs : List Output
two_workers_outputs =
    outputs.Tx 0 0 ∷ outputs.Accepted ∷ outputs.Ticket 1 ∷ outputs.Tx 1 0 ∷ outputs.Accepted ∷ outputs.Ticket 2 ∷ outputs.Durable 2
    ∷ outputs.Sent (record { index = 0; len = 54 } ∷ []) ∷ outputs.Sent (record { index = 1; len = 54 } ∷ [])
    ∷ outputs.Stored ∷ outputs.Repeat ∷ outputs.Opened 1 ∷ outputs.Sent (record { index = 2; len = 23 } ∷ [])
    ∷ outputs.Sent (record { index = 3; len = 80 } ∷ []) ∷ outputs.Ignored ∷ outputs.Head 2
    ∷ outputs.Waiting 0 0 (record { index = 4; len = 16 }) ∷ outputs.Sent (record { index = 5; len = 54 } ∷ [])
    ∷ outputs.Stored ∷ outputs.Repeat ∷ outputs.Report (codes "version 2 queries 1\nquery 0 rows 1\n2\n") ∷ []

-- a batch goes by image: it waits for the piece first and then for the frame behind the base, and a piece that is known is not taken
-- again. After the report it is ignored
abbrev pub image : List Event
image =
    commit_of 0 account 0 ++ Flush 1 ∷ Base ∷ Push 0 0 ∷ commit_of 1 other_account 1 ++ Flush 1 ∷ Open 0 count_rows ∷ Ask 0
    ∷ Deliver 0 Primary ∷ Deliver 1 (Replica 0) ∷ Run 0 ∷ Deliver 2 Primary ∷ Deliver 3 (Replica 0) ∷ Deliver 3 (Replica 0) ∷ Run 0
    ∷ Deliver 4 Primary ∷ Deliver 5 (Replica 0) ∷ Run 0 ∷ Deliver 3 (Replica 0) ∷ Dump 0 ∷ []

abbrev pub image_outputs : List Output
image_outputs =
    outputs.Tx 0 0 ∷ outputs.Accepted ∷ outputs.Ticket 1 ∷ outputs.Durable 1 ∷ outputs.Based 1 1 ∷ outputs.NoFrame
    ∷ outputs.Tx 1 1 ∷ outputs.Accepted ∷ outputs.Ticket 2 ∷ outputs.Durable 2
    ∷ outputs.Opened 1 ∷ outputs.Sent (record { index = 0; len = 23 } ∷ []) ∷ outputs.Sent (record { index = 1; len = 80 } ∷ [])
    ∷ outputs.Head 2 ∷ outputs.WaitingPiece 0 (record { index = 2; len = 23 }) ∷ outputs.Sent (record { index = 3; len = 53 } ∷ [])
    ∷ outputs.Stored ∷ outputs.Repeat ∷ outputs.Waiting 1 0 (record { index = 4; len = 16 })
    ∷ outputs.Sent (record { index = 5; len = 54 } ∷ []) ∷ outputs.Stored
    ∷ outputs.Report (codes "version 2 queries 1\nquery 0 rows 1\n2\n")
    ∷ outputs.Ignored ∷ outputs.Dump (codes "version 2 rows 2\nacct 7 5 -1\nacct 8 5 -1\n") ∷ []

-- a base is taken while a batch waits for a frame, which is then not sent any more. The replica gives up the version that was fetched,
-- and asks with the next request; the Head of the one before is not taken. There has to be a batch, and its version
abbrev pub renewal : List Event
renewal =
    commit_of 0 account 0 ++ Flush 1 ∷ Open 0 count_rows ∷ Renew 0 ∷ Ask 0 ∷ Renew 0 ∷ Deliver 0 Primary ∷ Deliver 1 (Replica 0) ∷ Base
    ∷ Run 0 ∷ Deliver 2 Primary ∷ Renew 0 ∷ Deliver 1 (Replica 0) ∷ Deliver 3 Primary ∷ Deliver 4 (Replica 0) ∷ Run 0
    ∷ Deliver 5 Primary ∷ Deliver 6 (Replica 0) ∷ Run 0 ∷ []

abbrev pub renewal_outputs : List Output
renewal_outputs =
    outputs.Tx 0 0 ∷ outputs.Accepted ∷ outputs.Ticket 1 ∷ outputs.Durable 1 ∷ outputs.Opened 1 ∷ outputs.Empty
    ∷ outputs.Sent (record { index = 0; len = 23 } ∷ []) ∷ outputs.NoHead ∷ outputs.Sent (record { index = 1; len = 80 } ∷ [])
    ∷ outputs.Head 1 ∷ outputs.Based 1 1 ∷ outputs.Waiting 0 0 (record { index = 2; len = 16 }) ∷ outputs.Ignored
    ∷ outputs.Sent (record { index = 3; len = 23 } ∷ []) ∷ outputs.Ignored ∷ outputs.Sent (record { index = 4; len = 80 } ∷ [])
    ∷ outputs.Head 1 ∷ outputs.WaitingPiece 0 (record { index = 5; len = 23 }) ∷ outputs.Sent (record { index = 6; len = 53 } ∷ [])
    ∷ outputs.Stored ∷ outputs.Report report ∷ []
