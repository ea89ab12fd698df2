-- One group more is merged.
use Rattle.std.proofs.Common.{◌≡◌, sym, ap, subst, ◌∙◌, Some, IfSome}
use Rattle.std.proofs.lemmas.Map.Iter.{rest_more}
use Rattle.std.specs.BTreeMap.{is_at}
use Rattle.std.specs.List.{All}
use Rattle.std.specs.Map.{lookup}
use Rattle.std.specs.Option.{option_copied}
use Rattle.queries.specs.Order.{group_cmp}
use Rattle.plans.specs.Inner.Merged.{merged_at}
use Rattle.plans.specs.Inner.Kept.{IsWithin}
use Rattle.plans.proofs.Parts.{at, IsMerging, held-within, fields-within, merging-next}
use Rattle.plans.proofs.groups.Groups.merge.Goals as goal

pub merged_with-merged-requires-clause-held : goal.merged_with-merged-requires-clause-held
merged_with-merged-requires-clause-held c =
    let aggregates = c.args.aggregates.now in
    let key = c.in-Some.key in
    let fields = c.in-Some.fields in
    let step =
    rest_more (λ x. x) c.loop-key.key-iterator c.next.new.self c.next.result (key, fields) c.in-Some.is c.next.ensures.steps in
    let state =
    subst (λ rest. IsMerging aggregates c.args.self.now c.args.others c.loop-key.self rest c.args.rows c.args.other_rows) step
    c.loop-key.invariant in
    let found : option_copied c.get-held.result ≡ at c.loop-key.self key =
    c.get-held.ensures.value ∙ ap (λ entries. lookup (is_at (group_cmp key)) entries) c.self.view_is in
    subst (λ found. IfSome found (λ held. All (IsWithin c.args.rows) held)) (sym found)
    (held-within aggregates c.args.self.now c.args.others c.loop-key.self c.next.new.self c.args.rows c.args.other_rows key fields state)

pub merged_with-merged-requires-clause-others : goal.merged_with-merged-requires-clause-others
merged_with-merged-requires-clause-others c =
    let aggregates = c.args.aggregates.now in
    let key = c.in-Some.key in
    let fields = c.in-Some.fields in
    let step =
    rest_more (λ x. x) c.loop-key.key-iterator c.next.new.self c.next.result (key, fields) c.in-Some.is c.next.ensures.steps in
    let state =
    subst (λ rest. IsMerging aggregates c.args.self.now c.args.others c.loop-key.self rest c.args.rows c.args.other_rows) step
    c.loop-key.invariant in
    fields-within aggregates c.args.self.now c.args.others c.loop-key.self c.next.new.self c.args.rows c.args.other_rows key fields state

pub loop-key-preserved : goal.loop-key-preserved
loop-key-preserved c =
    let aggregates = c.args.aggregates.now in
    let key = c.in-Some.key in
    let fields = c.in-Some.fields in
    let step =
    rest_more (λ x. x) c.loop-key.key-iterator c.next.new.self c.next.result (key, fields) c.in-Some.is c.next.ensures.steps in
    let state =
    subst (λ rest. IsMerging aggregates c.args.self.now c.args.others c.loop-key.self rest c.args.rows c.args.other_rows) step
    c.loop-key.invariant in
    let found : option_copied c.get-held.result ≡ at c.loop-key.self key =
    c.get-held.ensures.value ∙ ap (λ entries. lookup (is_at (group_cmp key)) entries) c.self.view_is in
    merging-next aggregates c.args.self.now c.args.others c.loop-key.self c.next.new.self c.args.rows c.args.other_rows key fields state
    c.merged_with-merged.result c.put.new.self
    (c.merged_with-merged.ensures.fields ∙ ap (λ found. merged_at aggregates found (Some fields)) found)
    c.merged_with-merged.ensures.within c.in_ok-put.ensures
