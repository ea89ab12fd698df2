-- The rows of each block come behind those before it.
use Rattle.std.proofs.Common.{◌≡◌, ℕ, List, ◌+◌, ◌≤◌, ◌++◌, length, take, sym, ◌∙◌, subst, arith}
use Rattle.std.proofs.lemmas.List.{take_all}
use Rattle.rows.specs.Tables.{Rows, Tables, rows_of}
use Rattle.store.specs.Lent.{rows_in}
use Rattle.queries.specs.declared.plan.Plan.{Plan}
use Rattle.plans.specs.declared.block.Block.{Block}
use Rattle.plans.specs.declared.scan.Scan.{Scan}
use Rattle.plans.specs.Inner.BlockRows.{IsFrom, rows_of_block}
use Rattle.plans.specs.Inner.Scans.{IsScan, AreKeptFor}
use Rattle.plans.proofs.Pieces.{no-ids}
use Rattle.plans.proofs.ScannedRows.{piece-within, rows-behind}
use Rattle.plans.proofs.piecewise.scan_piece.Goals as goal

-- a scan of a table's rows before an index is one of those of the block's table before the block's index
at-block : (tables : Tables) (plans : List Plan) (classes : List ℕ) (block : Block) (table pieces piece from : ℕ) (rows : Rows)
    (scan : Scan) → IsFrom block table pieces piece from → IsScan tables plans classes table rows from scan
    → IsScan tables plans classes block.table rows block.from scan
at-block tables plans classes block table pieces piece from rows scan place is =
    subst (λ count. IsScan tables plans classes block.table rows count scan) (sym place.4)
    (subst (λ table. IsScan tables plans classes table rows from scan) (sym place.0) is)

pub loop-block-init : goal.loop-block-init
loop-block-init g c = record {
  within = omega arith;
  most = λ j lt. absurd (omega (arith, lt));
  scan = c.in_ok-scan.ensures (g.S.Store.tables c.args.store.now) c.args.classes.now c.args.table c.requires.classes;
}

pub groups-requires-clause-scan : goal.groups-requires-clause-scan
groups-requires-clause-scan g c =
    let tables = g.S.Store.tables c.args.store.now in
    let here = rows_in (rows_of tables c.args.table) c.args.pieces c.args.piece in
    (tables, take c.loop-block.from here, c.loop-block.from, c.loop-block.invariant.scan)

pub add-requires-clause-block : goal.add-requires-clause-block
add-requires-clause-block g c = λ _ _. c.in-Some.ensures.block

pub add-requires-clause-scan : goal.add-requires-clause-scan
add-requires-clause-scan g c = λ _ _.
    let tables = g.S.Store.tables c.args.store.now in
    let here = rows_in (rows_of tables c.args.table) c.args.pieces c.args.piece in (
      take c.loop-block.from here,
      at-block tables c.args.plans.now c.args.classes.now c.in-Some.block c.args.table c.args.pieces c.args.piece c.loop-block.from
          (take c.loop-block.from here) c.loop-block.scan c.in-Some.ensures.place c.loop-block.invariant.scan,
    )

pub add-requires-clause-few : goal.add-requires-clause-few
add-requires-clause-few g c =
    let rows = rows_of (g.S.Store.tables c.args.store.now) c.args.table in
    let all = piece-within rows c.args.pieces c.args.piece in
    let from = c.in-Some.ensures.place.4 in
    omega (arith, all, from, c.in-Some.ensures.within, c.len-len.ensures, c.len-len.type_inv)

pub loop-block-preserved : goal.loop-block-preserved
loop-block-preserved g c =
    let tables = g.S.Store.tables c.args.store.now in
    let here = rows_in (rows_of tables c.args.table) c.args.pieces c.args.piece in
    let from = c.loop-block.from in
    let block = c.in-Some.block in
    let place = c.in-Some.ensures.place in
    let given =
    at-block tables c.args.plans.now c.args.classes.now block c.args.table c.args.pieces c.args.piece from (take from here)
    c.loop-block.scan place c.loop-block.invariant.scan in
    let next =
    subst
    (λ count. IsScan tables c.args.plans.now c.args.classes.now block.table (take from here ++ rows_of_block tables block)
    (count + length block.ids.now) c.add.new.self)
    place.4 (c.in_ok-add.ensures (take from here) given) in
    let here_next =
    subst
    (λ table. IsScan tables c.args.plans.now c.args.classes.now table (take from here ++ rows_of_block tables block)
    (from + length block.ids.now) c.add.new.self)
    place.0 next in
    record {
      within = c.in-Some.ensures.within;
      most = c.in-Some.ensures.last;
      scan =
          subst
          (λ rows. IsScan tables c.args.plans.now c.args.classes.now c.args.table rows (from + length block.ids.now) c.add.new.self)
          (rows-behind tables block c.args.table c.args.pieces c.args.piece from c.in-Some.ensures.block place) here_next;
    }

pub overflow_add-from : goal.overflow_add-from
overflow_add-from g c =
    let rows = rows_of (g.S.Store.tables c.args.store.now) c.args.table in
    let all = piece-within rows c.args.pieces c.args.piece in
    omega (arith, all, c.in-Some.ensures.within, c.len-len.ensures, c.len-len.type_inv)

pub returns-then-is_empty : goal.returns-then-is_empty
returns-then-is_empty g c =
    let tables = g.S.Store.tables c.args.store.now in
    let here = rows_in (rows_of tables c.args.table) c.args.pieces c.args.piece in
    let from = c.loop-block.from in
    let end : length here ≤ from =
    c.in-Some.ensures.all (no-ids c.in-Some.block.ids.now (sym c.is_empty.ensures ∙ c.if-is_empty.true)) in
    let all : from ≡ length here = omega (arith, end, c.loop-block.invariant.within) in
    record {
      sizes = c.in_ok-groups.ensures.sizes;
      rows = all;
      kept =
          subst (λ rows. AreKeptFor tables c.args.plans.now c.args.table rows from c.in_ok-groups.groups.items)
          (take_all from here end)
          (c.in_ok-groups.ensures.kept tables (take from here) from c.loop-block.invariant.scan);
    }
