-- What is kept of each plan is what the plan computes of the rows of its table.
use Rattle.std.proofs.Common.{◌≡◌, ◌-◌, ◌++◌, get_or, length, take, drop, sym, ap, subst, ◌∙◌, arith}
use Rattle.std.specs.List.{All}
use Rattle.std.proofs.lemmas.List.{length-map}
use Rattle.plans.specs.Partials.{rows_between}
use Rattle.plans.specs.Inner.Kept.{AreWithin, GroupsAreKept, opening_groups}
use Rattle.plans.proofs.Ranged.{AreSorted, partial-made, zip-from_index, zip-second, written_over}
use Rattle.plans.proofs.together.lent_partial.Goals as goal

pub of-requires : goal.of-requires
of-requires g c =
    let tables = g.S.Store.tables c.args.store.now in
    let plans = c.args.plans.now in
    let most = c.args.most in
    let olds = c.in_ok-groups.groups in
    let news = c.scan_tables.new.groups in
    let same : length news ≡ length olds.items = c.scan_tables.auto.groups ∙ ap length c.as_mut_slice.ensures.value in
    let size : length news ≡ length plans = same ∙ ap length c.in_ok-groups.ensures ∙ length-map plans opening_groups in
    let whole : take olds.len (news ++ drop (length news) olds.items) ≡ news =
    written_over olds.len olds.items news (sym (ap length c.as_mut_slice.ensures.value) ∙ c.as_mut_slice.ensures.len) same in
    let kept =
    zip-from_index (λ plan groups. GroupsAreKept plan (rows_between tables 0 most plan) most groups) plans news size
    (c.in_ok-scan_tables.ensures c.if-not-branch.false) in
    subst (All (AreWithin most)) (sym whole)
    (zip-second (λ plan groups. GroupsAreKept plan (rows_between tables 0 most plan) most groups) (AreWithin most)
    (λ plan groups kept. kept.within) plans news kept)

pub returns : goal.returns
returns g c =
    let tables = g.S.Store.tables c.args.store.now in
    let plans = c.args.plans.now in
    let most = c.args.most in
    let olds = c.in_ok-groups.groups in
    let news = c.scan_tables.new.groups in
    let lists = c.in_ok-aggregates_of.field-0.items in
    let same : length news ≡ length olds.items = c.scan_tables.auto.groups ∙ ap length c.as_mut_slice.ensures.value in
    let size : length news ≡ length plans = same ∙ ap length c.in_ok-groups.ensures ∙ length-map plans opening_groups in
    let whole : take olds.len (news ++ drop (length news) olds.items) ≡ news =
    written_over olds.len olds.items news (sym (ap length c.as_mut_slice.ensures.value) ∙ c.as_mut_slice.ensures.len) same in
    let counts : most ≡ most - 0 = omega arith in
    let kept =
    zip-from_index (λ plan groups. GroupsAreKept plan (rows_between tables 0 most plan) (most - 0) groups) plans news size
    (λ k d e lt.
    subst (λ n. GroupsAreKept (get_or plans k d) (rows_between tables 0 most (get_or plans k d)) n (get_or news k e)) counts
    (c.in_ok-scan_tables.ensures c.if-not-branch.false k d e lt)) in
    partial-made tables plans 0 most lists news most c.in_ok-partial.partial counts c.in_ok-aggregates_of.ensures kept
    (subst (All AreSorted) whole c.in_ok-partial.ensures.ordered)
    (c.in_ok-partial.ensures.parts
    ∙ (λ j. record { positions = most; aggregates = lists; groups = whole j }))
