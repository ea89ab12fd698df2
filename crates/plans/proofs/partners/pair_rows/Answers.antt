-- One row more is joined, or is not.
use Rattle.std.proofs.Common.{◌≡◌, ℕ, ◌+◌, ◌<◌, List, [], ◌∷◌, ◌++◌, length, Some, slice_get, refl, sym, ap, ◌∙◌, subst, arith}
use Rattle.std.specs.List.{filter_map, All}
use Rattle.std.proofs.lemmas.List.{take_all, length_push, length-map}
use Rattle.std.proofs.lemmas.List.Elements.{All-push}
use Rattle.queries.specs.declared.column.Column.TheVariants.{Own}
use Rattle.queries.specs.Answers.{joined_value, joined_with}
use Rattle.plans.specs.Inner.BlockRows.{rows_of_block, own_rows}
use Rattle.plans.specs.Inner.Cells.{values_of}
use Rattle.plans.specs.Inner.Partnered.{paired, row_in, IsOfTable}
use Rattle.plans.specs.Inner.Picked.{ArePlaces}
use Rattle.plans.proofs.Blocks.{block-size, own-size}
use Rattle.plans.proofs.Pairs.{link-at, named-of-table, join-skip, join-next, places-more, places-wider}
use Rattle.plans.proofs.partners.pair_rows.Goals as goal
use Rattle.plans.proofs.partners.pair_rows.Goals.{in-Some+in_ok-push+in_ok-push-2, in_default}

pub value-requires : goal.value-requires
value-requires g c =
    let tables = g.S.Store.tables c.args.store.now in
    let block = c.args.block.now in
    let size =
    ap length c.requires.links ∙ length-map (own_rows tables block) (λ row. joined_value row (Own c.args.join.now.column))
    ∙ own-size tables block in
    omega (arith, size, c.loop-i-test.true)

pub loop-i-preserved : goal.loop-i-preserved
loop-i-preserved g c =
    let tables = g.S.Store.tables c.args.store.now in
    let block = c.args.block.now in
    let join = c.args.join.now in
    let values = g.S.Store.values_at c.args.store.now join.table in
    let rows = rows_of_block tables block in
    let kinds = c.keeps_kinds.ensures c.requires.whole in
    let i = c.loop-i.i in
    let value = c.value.result in
    let kept = c.loop-i.invariant in
    let size = block-size tables block in
    let lt : i < length rows = omega (arith, size, c.loop-i-test.true) in
    let at : slice_get (row_in rows i) join.column ≡ Some value =
    link-at tables block join.column (values_of c.args.links.now) kinds c.requires.block c.requires.column c.requires.links i
    c.loop-i-test.true
    ∙ ap Some (sym c.value.ensures) in
    let there = λ (place : g.row.S-Place.Denot). IsOfTable tables join.table (values place) in
    elim c.match-partner_of.branch [
      | in-Some+in_ok-push+in_ok-push-2 w ↦
          let place = w.in-Some.place in
          let positions = ap (λ v. v.items) w.positions-is ∙ w.in_ok-push.ensures.items in
          let places = ap (λ v. v.items) w.places-is ∙ w.in_ok-push-2.ensures.items in
          let is = w.in-Some.ensures.some in
          let named = w.in-Some.ensures.there in
          record {
            sizes = ap length places ∙ length_push c.loop-i.places.items place ∙ ap (λ (n : ℕ). n + 1) kept.sizes
                ∙ sym (ap length positions ∙ length_push c.loop-i.positions.items i);
            few = omega (arith, kept.few, ap length positions, length_push c.loop-i.positions.items i);
            within = subst (ArePlaces (i + 1)) (sym positions) (places-more i c.loop-i.positions.items kept.within);
            there = subst (All there) (sym places) (All-push there c.loop-i.places.items place kept.there
                (subst (IsOfTable tables join.table) (sym is) (named-of-table tables join.table value kinds named)));
            joined = ap (λ (list : List ℕ). paired values rows list c.match-partner_of.places.items) positions
                ∙ ap (λ (list : List g.row.S-Place.Denot). paired values rows (c.loop-i.positions.items ++ i ∷ []) list) places
                ∙ join-next tables join rows values c.loop-i.positions.items c.loop-i.places.items i place value kept.sizes lt at is named
                kept.joined;
          }
      | in_default w ↦
          let positions = ap (λ v. v.items) w.positions-is in
          let places = ap (λ v. v.items) w.places-is in
          record {
            sizes = ap length places ∙ kept.sizes ∙ sym (ap length positions);
            few = omega (arith, kept.few, ap length positions);
            within = subst (ArePlaces (i + 1)) (sym positions) (places-wider i c.loop-i.positions.items kept.within);
            there = subst (All there) (sym places) kept.there;
            joined = ap (λ (list : List ℕ). paired values rows list c.match-partner_of.places.items) positions
                ∙ ap (λ (list : List g.row.S-Place.Denot). paired values rows c.loop-i.positions.items list) places
                ∙ join-skip tables join rows (paired values rows c.loop-i.positions.items c.loop-i.places.items) i value lt at
                (w.in_default.ensures.none refl) kept.joined;
          }
    ]

pub returns-clause-joined : goal.returns-clause-joined
returns-clause-joined g c =
    let tables = g.S.Store.tables c.args.store.now in
    let rows = rows_of_block tables c.args.block.now in
    let size = block-size tables c.args.block.now in
    c.loop-i.invariant.joined
    ∙ ap (filter_map (λ row. joined_with tables (Some c.args.join.now) row.1))
    (take_all c.loop-i.i rows (omega (arith, size, c.loop-i-test.false)))
