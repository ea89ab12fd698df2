-- A column that is there has its place; one more is filled behind the others.
use Rattle.std.proofs.Common.{◌≡◌, length, rules}
use Rattle.queries.specs.Answers.{values_in}
use Rattle.plans.specs.Inner.Partnered.{joined_rows}
use Rattle.plans.proofs.Fills.{filled-place, filled-more, filled-last}
use Rattle.plans.proofs.filled.Filled.place.Goals as goal

pub returns-in-Some-clause-place : goal.returns-in-Some-clause-place
returns-in-Some-clause-place g c =
    let rows =
    joined_rows (g.S.Store.tables c.args.store.now) (g.S.Store.values_at c.args.store.now) c.args.block.now c.args.partners.now in
    filled-place rows c.args.self.now c.as_slice.result.now c.in-Some.place c.args.column c.requires.filled c.as_slice.ensures.value
    c.in-Some.ensures

pub returns-clause-filled : goal.returns-clause-filled
returns-clause-filled g c =
    let rows =
    joined_rows (g.S.Store.tables c.args.store.now) (g.S.Store.values_at c.args.store.now) c.args.block.now c.args.partners.now in
    filled-more rows c.args.self.now (record { columns = c.push.new.self; cells = c.push-2.new.self }) c.args.column c.in_ok-cells.cells
    c.requires.filled c.in_ok-push.ensures.items
    c.in_ok-push-2.ensures.items c.in_ok-cells.ensures

pub returns-clause-place : goal.returns-clause-place
returns-clause-place g c =
    let rows =
    joined_rows (g.S.Store.tables c.args.store.now) (g.S.Store.values_at c.args.store.now) c.args.block.now c.args.partners.now in
    let before = c.args.self.now.cells.items in
    let at : c.len-place.result ≡ length before = search rules in
    filled-last before c.push-2.new.self.items c.in_ok-cells.cells c.len-place.result (values_in c.args.column rows)
    c.in_ok-push-2.ensures.items at c.in_ok-cells.ensures
