-- The closure gives the field of each tally.
use Rattle.std.proofs.Common.{◌≡◌, map, ◌∙◌, rules}
use Rattle.std.proofs.lemmas.Iterator.{items_from_collect, YieldsList-from_map, YieldsList-from_slice}
use Rattle.std.proofs.lemmas.Iterator.Consumers.{YieldsList-at}
use Rattle.std.proofs.lemmas.Result.{IfOk-at_ok}
use borrow.Author.Tests.{tests}
use Rattle.plans.specs.Inner.Numbered.{field_at}
use Rattle.plans.proofs.tallies.fields_at.Goals as goal

pub returns : goal.returns
returns c =
    let each = field_at c.args.count c.args.number in
    let all =
    items_from_collect c.collect.result c.collect.ensures.ran
    (YieldsList-from_map _ each (YieldsList-at c.map.ensures.source (YieldsList-from_slice c.args.columns.now cc))
    c.map.ensures.closure (λ x r q k. search (rules, tests))) in
    c.from_vec.ensures ∙ IfOk-at_ok (λ fields. fields.items ≡ map each c.args.columns.now) c.in_ok-fields.was all
