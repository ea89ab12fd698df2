-- What is kept of each plan is what the plan computes of the range.
use Rattle.std.proofs.Common.{◌≡◌, ◌-◌, ◌++◌, length, take, drop, refl, sym, ap, subst, ◌∙◌}
use Rattle.std.specs.List.{All}
use Rattle.std.proofs.lemmas.List.{length-map}
use Rattle.plans.specs.Partials.{rows_between}
use Rattle.plans.specs.Inner.Kept.{AreWithin, GroupsAreKept, opening_groups}
use Rattle.plans.proofs.Ranged.{AreSorted, both-if-ok, partial-made, zip-from_index, zip-second, written_over}
use Rattle.plans.proofs.ranging.partial.Goals as goal

pub of-requires : goal.of-requires
of-requires g c =
    let tables = g.S.Store.tables c.args.store.now in
    let plans = c.args.plans.now in
    let from = c.args.from in
    let to = c.args.to in
    let olds = c.in_ok-groups.groups in
    let news = c.scan.new.groups in
    let same : length news ≡ length olds.items = c.scan.auto.groups ∙ ap length c.as_mut_slice.ensures.value in
    let size : length news ≡ length plans = same ∙ ap length c.in_ok-groups.ensures ∙ length-map plans opening_groups in
    let whole : take olds.len (news ++ drop (length news) olds.items) ≡ news =
    written_over olds.len olds.items news (sym (ap length c.as_mut_slice.ensures.value) ∙ c.as_mut_slice.ensures.len) same in
    let kept =
    zip-from_index (λ plan groups. GroupsAreKept plan (rows_between tables from to plan) (to - from) groups) plans news size
    c.in_ok-scan.ensures in
    subst (All (AreWithin (to - from))) (sym whole)
    (zip-second (λ plan groups. GroupsAreKept plan (rows_between tables from to plan) (to - from) groups) (AreWithin (to - from))
    (λ plan groups kept. kept.within) plans news kept)

pub returns : goal.returns
returns g c =
    let tables = g.S.Store.tables c.args.store.now in
    let plans = c.args.plans.now in
    let from = c.args.from in
    let to = c.args.to in
    let olds = c.in_ok-groups.groups in
    let news = c.scan.new.groups in
    let lists = c.in_ok-aggregates_of.field-0.items in
    let same : length news ≡ length olds.items = c.scan.auto.groups ∙ ap length c.as_mut_slice.ensures.value in
    let size : length news ≡ length plans = same ∙ ap length c.in_ok-groups.ensures ∙ length-map plans opening_groups in
    let whole : take olds.len (news ++ drop (length news) olds.items) ≡ news =
    written_over olds.len olds.items news (sym (ap length c.as_mut_slice.ensures.value) ∙ c.as_mut_slice.ensures.len) same in
    let kept =
    zip-from_index (λ plan groups. GroupsAreKept plan (rows_between tables from to plan) (to - from) groups) plans news size
    c.in_ok-scan.ensures in
    both-if-ok _ _ _ c.of.result
    (λ parts made sorted.
    partial-made tables plans from to lists news (to - from) parts refl c.in_ok-aggregates_of.ensures kept
    (subst (All AreSorted) whole sorted)
    (made
    ∙ (λ j. record { positions = to - from; aggregates = lists; groups = whole j })))
    c.of.ensures.parts c.of.ensures.ordered
