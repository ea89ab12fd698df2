-- The groups of each plan are those of both ranges.
use Rattle.std.proofs.Common.{◌≡◌, ◌+◌, ◌++◌, length, take, drop, sym, ap, subst, ◌∙◌}
use Rattle.std.specs.List.{All}
use Rattle.plans.specs.Partials.{Parts, IsPartial}
use Rattle.plans.proofs.Ranged.{AreSorted, both-if-ok, partial-merged, through-merged, written_over}
use Rattle.plans.proofs.partials.merge.Goals as goal

pub returns-clause-parts : goal.returns-clause-parts
returns-clause-parts c =
    let one = c.first.inside in
    let other = c.second.inside in
    let first : Parts =
    record { positions = one.positions; aggregates = one.aggregates.items; groups = one.groups.items } in
    let second : Parts =
    record { positions = other.positions; aggregates = other.aggregates.items; groups = other.groups.items } in
    let news = c.merge_each.new.groups in
    let size : length news ≡ length one.groups.items = c.merge_each.auto.groups ∙ ap length c.as_mut_slice.ensures.value in
    let whole : take one.groups.len (news ++ drop (length news) one.groups.items) ≡ news =
    written_over one.groups.len one.groups.items news (sym (ap length c.as_mut_slice.ensures.value) ∙ c.as_mut_slice.ensures.len) size in
    both-if-ok _ _ _ c.of.result
    (λ partial made sorted tables plans a b c' le more front behind.
    partial-merged tables plans a b c' le more first second
    (subst (IsPartial tables plans a b) (sym c.first.view_is) front)
    (subst (IsPartial tables plans b c') (sym c.second.view_is) behind) news size
    (through-merged one.aggregates.items c.as_slice.result.now one.groups.items c.as_mut_slice.result.now other.groups.items news
    c.as_slice.ensures.value c.as_mut_slice.ensures.value c.in_ok-merge_each.ensures.merged)
    c.in_ok-merge_each.ensures.within c.first.invariant.0 c.second.invariant.0 partial (subst (All AreSorted) whole sorted)
    (made ∙ (λ j. record { positions = one.positions + other.positions; aggregates = one.aggregates.items; groups = whole j })))
    c.of.ensures.parts c.of.ensures.ordered
