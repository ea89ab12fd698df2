-- One answer more.
use Rattle.std.proofs.Common.{[], ◌∷◌, ◌++◌, sym, ap, subst, ◌∙◌}
use Rattle.std.proofs.lemmas.List.{map_more}
use Rattle.std.proofs.lemmas.List.Elements.{All-more}
use Rattle.std.specs.List.Sorted.{IsStrictlySortedBy}
use Rattle.std.specs.Map.{keys_of}
use Rattle.queries.specs.Order.{group_cmp}
use Rattle.plans.specs.Inner.Ranges.{lines_of}
use Rattle.plans.proofs.partials.answers_of.Goals as goal

pub loop-list-preserved : goal.loop-list-preserved
loop-list-preserved c =
    let groups = c.args.groups.now in
    let i = c.loop-list.list-index in
    let list = c.list-item.result in
    let before = c.loop-list.invariant in
    let line = c.in_ok-answer.ensures.lines ∙ ap lines_of c.list-item.is in
    record {
      lines =
          c.in_ok-push.ensures.items
          ∙ (λ j. before.lines j ++ line j ∷ [])
          ∙ sym (map_more lines_of groups i list c.loop-list-test.true);
      ordered =
          All-more (λ list. IsStrictlySortedBy group_cmp (keys_of list)) groups i list c.loop-list-test.true before.ordered
          (subst (λ list. IsStrictlySortedBy group_cmp (keys_of list)) c.list-item.is c.in_ok-answer.ensures.ordered);
    }
