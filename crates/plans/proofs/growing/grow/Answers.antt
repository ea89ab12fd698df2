-- One field more has grown.
use Rattle.std.proofs.Common.{◌+◌, ◌<◌, ◌++◌, length, take, drop, get_or, set, sym, subst, ◌∙◌, arith}
use Rattle.std.proofs.lemmas.List.Elements.{All-same, All-set}
use Rattle.plans.specs.Inner.Kept.{IsWithin, grown_all}
use Rattle.plans.specs.Inner.Places.{row_at_place}
use Rattle.plans.proofs.Aggregates.{grow-more, grow-past, inputs-left, rest-left}
use Rattle.plans.proofs.growing.grow.Goals as goal
use Rattle.plans.proofs.growing.grow.Goals.{in-Some, in_default}

pub loop-index-preserved : goal.loop-index-preserved
loop-index-preserved g c =
    let row = row_at_place (g.S.Store.values_at c.args.store.now) c.args.row.now in
    let aggregates = c.args.aggregates.now in
    let fields = c.loop-index.fields in
    let i = c.loop-index.index in
    let before = c.loop-index.invariant in
    let left = inputs-left row aggregates i c.loop-index-test.true before.there in
    elim c.match-get.branch [
      | in-Some w ↦
          (let puts = w.fields-is ∙ w.set.ensures in
          record {
            there = left;
            whole =
                grow-more row aggregates fields c.match-get.fields i _ w.in-Some.field w.grown.result c.input_of-value.result
                c.loop-index-test.true (sym c.get.ensures ∙ w.in-Some.is) c.input_of-value.ensures w.grown.ensures.value puts
                ∙ before.whole;
            rest = rest-left c.args.rows fields c.match-get.fields i w.grown.result puts before.rest;
            all =
                All-same (IsWithin (c.args.rows + 1)) c.match-get.fields (set fields i w.grown.result) puts
                (All-set (IsWithin (c.args.rows + 1)) fields i w.grown.result w.grown.ensures.within before.all);
          })
      | in_default w ↦
          (let none = sym c.get.ensures ∙ w.in_default.is in
          record {
            there = left;
            whole =
                (λ j. take (i + 1) (w.fields-is j) ++ grown_all row (drop (i + 1) aggregates) (drop (i + 1) (w.fields-is j)))
                ∙ grow-past row aggregates fields i none
                ∙ before.whole;
            rest = λ k d le lt.
                subst (λ list. IsWithin c.args.rows (get_or list k d)) (sym w.fields-is)
                (before.rest k d (omega arith) (subst (λ list. k < length list) w.fields-is lt));
            all = All-same (IsWithin (c.args.rows + 1)) c.match-get.fields fields w.fields-is before.all;
          })
    ]
