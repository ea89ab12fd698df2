-- One place more.
use Rattle.std.proofs.Common.{◌+◌, ℕ, List, length, take, sym, subst}
use Rattle.plans.specs.Inner.Cells.{HaveColumns, AreColumnsOf}
use Rattle.plans.specs.Inner.Partnered.{joined_rows}
use Rattle.plans.proofs.Fills.{grows-more, have-grown, columns-grown, have-more, columns-more}
use Rattle.plans.proofs.filled.Filled.places.Goals as goal

pub loop-column-preserved : goal.loop-column-preserved
loop-column-preserved g c =
    let rows =
    joined_rows (g.S.Store.tables c.args.store.now) (g.S.Store.values_at c.args.store.now) c.args.block.now c.args.partners.now in
    let before = c.loop-column.self.cells.items in
    let after = c.place.new.self.cells.items in
    let kept = c.loop-column.invariant in
    let places = c.loop-column.places.items in
    let place = c.in_ok-place.place in
    let named = c.args.columns.now in
    let i = c.loop-column.column-index in
    let grows = c.in_ok-place.ensures.grows in
    let there = have-grown before after places (length rows) grows kept.there in
    let columns = columns-grown before after places (length rows) (take i named) rows grows kept.there kept.columns in
    record {
      filled = c.in_ok-place.ensures.filled;
      grows = grows-more c.args.self.now.cells.items before after kept.grows grows;
      there =
          subst (λ (list : List ℕ). HaveColumns after list (length rows)) (sym c.in_ok-push.ensures.items)
          (have-more after places place _ rows there c.in_ok-place.ensures.place);
      columns =
          subst (λ (list : List ℕ). AreColumnsOf after list (take (i + 1) named) rows) (sym c.in_ok-push.ensures.items)
          (columns-more after places place named rows i _ c.loop-column-test.true columns c.in_ok-place.ensures.place);
    }
