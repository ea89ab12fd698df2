-- Each plan on the table looks at one row more; at the end no row of the range is left.
use Rattle.std.proofs.Common.{◌≡◌, ◌≤◌, ◌⊎◌, inl, inr, length, get_or, ⊎_elim, arith}
use Rattle.std.proofs.lemmas.Bool.{cases_lt}
use Rattle.rows.specs.Tables.{rows_of}
use Rattle.plans.proofs.Ranged.{looks-init, looks-within, looks-next, looks-end}
use Rattle.plans.proofs.ranging.scan_table.Goals as goal

pub loop-i-init : goal.loop-i-init
loop-i-init g c = record {
  within = c.requires.order;
  looks = λ k d e lt.
      looks-init (g.S.Store.tables c.args.store.now) (get_or c.args.plans.now k d) c.args.table c.args.from (get_or c.args.groups.now k e);
}

pub take_row_each-requires-clause-within : goal.take_row_each-requires-clause-within
take_row_each-requires-clause-within g c = λ _ _ k d e lt on.
    looks-within (g.S.Store.tables c.args.store.now) (get_or c.args.plans.now k d) c.args.table c.args.from c.loop-i.i
    (get_or c.args.groups.now k e) (get_or c.loop-i.groups k e) (c.loop-i.invariant.looks k d e lt) (c.requires.opening k d e lt on) on

pub loop-i-preserved : goal.loop-i-preserved
loop-i-preserved g c =
    let tables = g.S.Store.tables c.args.store.now in
    let is =
    c.rows_stand_in_order.ensures (rows_of tables c.args.table) c.loop-i.i c.id_at-id.result.0 c.id_at-id.ensures.value
    c.id_at-id.ensures.rises in
    record {
      within = omega (arith, c.min-end.ensures, c.loop-i-test.true);
      looks = λ k d e lt.
          looks-next tables (get_or c.args.plans.now k d) c.args.table c.args.from c.loop-i.i c.id_at-id.result.0 is.0
          (get_or c.args.groups.now k e) (get_or c.loop-i.groups k e) (get_or c.take_row_each.new.groups k e) c.loop-i.auto.i is.1 is.2
          (c.loop-i.invariant.looks k d e lt) (c.in_ok-take_row_each.ensures k d e lt);
    }

pub returns : goal.returns
returns g c = λ k d e lt.
    let tables = g.S.Store.tables c.args.store.now in
    let high = c.loop-i.invariant.within in
    let len = c.len.ensures c.requires.whole in
    let end : (c.loop-i.i ≡ c.args.to) ⊎ (length (rows_of tables c.args.table) ≤ c.loop-i.i) =
    ⊎_elim (λ less. inr (omega (arith, c.min-end.ensures, len, c.loop-i-test.false, less))) (λ le. inl (omega (arith, high, le)))
    (cases_lt c.loop-i.i c.args.to) in
    looks-end tables (get_or c.args.plans.now k d) c.args.table c.args.from c.loop-i.i c.args.to
    (get_or c.args.groups.now k e) (get_or c.loop-i.groups k e) c.loop-i.auto.i high end (c.loop-i.invariant.looks k d e lt)
