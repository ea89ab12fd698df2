-- One field more is merged; past the aggregates and the fields nothing is.
use Rattle.std.proofs.Common.{◌≡◌, ◌+◌, Some, slice_get, set, get_or, sym, ap, subst, ◌∙◌, arith}
use Rattle.std.proofs.lemmas.List.Elements.{All-same, All-set}
use Rattle.std.proofs.lemmas.Option.{slice_get_within, get_or_from_slice_get}
use Rattle.queries.specs.declared.aggregate.Aggregate.TheVariants.{Count}
use Rattle.plans.specs.Inner.Merged.{merged}
use Rattle.plans.specs.Inner.Kept.{IsWithin}
use Rattle.plans.proofs.Aggregates.{past, rest-left}
use Rattle.plans.proofs.Parts.{merge-more, merge-past, merge-none}
use Rattle.plans.proofs.field_merging.merged_all.Goals as goal

pub returns-then-index-fields-clause-fields : goal.returns-then-index-fields-clause-fields
returns-then-index-fields-clause-fields c =
    merge-past c.args.aggregates.now c.args.fields.now c.loop-index.others c.loop-index.index (omega (arith, c.if-index-fields.true))
    ∙ c.loop-index.invariant.whole

pub returns-in_default-clause-fields : goal.returns-in_default-clause-fields
returns-in_default-clause-fields c =
    merge-none c.args.aggregates.now c.args.fields.now c.loop-index.others c.loop-index.index
    (past c.loop-index.others c.loop-index.index (sym c.get.ensures ∙ c.in_default.is))
    ∙ c.loop-index.invariant.whole

pub merged-field-requires-clause-other : goal.merged-field-requires-clause-other
merged-field-requires-clause-other c =
    let others = c.loop-index.others in
    let i = c.loop-index.index in
    let other = c.in-Some.other in
    let there : slice_get others i ≡ Some other = sym c.get.ensures ∙ c.in-Some.is in
    subst (IsWithin c.args.other_rows) (get_or_from_slice_get others i other other there)
    (c.loop-index.invariant.rest i other (omega arith) (slice_get_within others i other there))

pub loop-index-preserved : goal.loop-index-preserved
loop-index-preserved c =
    let others = c.loop-index.others in
    let i = c.loop-index.index in
    let other = c.in-Some.other in
    let new = c.merged-field.result in
    let before = c.loop-index.invariant in
    let there : slice_get others i ≡ Some other = sym c.get.ensures ∙ c.in-Some.is in
    let puts = c.set.ensures in
    record {
      whole =
          merge-more c.args.aggregates.now c.args.fields.now others c.set.new.self i Count c.index-fields-index.result other new
          c.loop-index-test.true (omega (arith, c.if-index-fields.false)) there
          (c.merged-field.ensures.value
          ∙ ap (λ field. merged (get_or c.args.aggregates.now i Count) field other) c.index-fields-index.is) puts
          ∙ before.whole;
      rest = rest-left c.args.other_rows others c.set.new.self i new puts before.rest;
      all =
          All-same (IsWithin (c.args.rows + c.args.other_rows)) c.set.new.self (set others i new) puts
          (All-set (IsWithin (c.args.rows + c.args.other_rows)) others i new c.merged-field.ensures.within before.all);
    }
