-- The closure gives each aggregate of no rows.
use Rattle.std.proofs.Common.{◌≡◌, [], map, ◌∙◌, rules}
use Rattle.std.proofs.lemmas.Iterator.{items_from_collect, YieldsList-from_map, YieldsList-from_slice}
use Rattle.std.proofs.lemmas.Iterator.Consumers.{YieldsList-at}
use Rattle.std.proofs.lemmas.Result.{IfOk-at_ok}
use borrow.Author.Tests.{tests}
use Rattle.queries.specs.Answers.{aggregate_of}
use Rattle.plans.proofs.groups.empty_fields.Goals as goal

pub returns : goal.returns
returns c =
    let all =
    items_from_collect c.collect.result c.collect.ensures.ran
    (YieldsList-from_map _ (aggregate_of []) (YieldsList-at c.map.ensures.source (YieldsList-from_slice c.args.aggregates.now cc))
    c.map.ensures.closure (λ x r q k. search (rules, tests))) in
    c.from_vec.ensures ∙ IfOk-at_ok (λ fields. fields.items ≡ map (aggregate_of []) c.args.aggregates.now) c.in_ok-fields.was all
