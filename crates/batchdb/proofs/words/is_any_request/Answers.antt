-- `any` over the words given is the test over their texts.
use Rattle.std.proofs.Common.{rules, sym, ◌∙◌}
use Rattle.std.proofs.lemmas.Iterator.{YieldsList-from_slice}
use Rattle.std.proofs.lemmas.Iterator.Search.{any_from_yields_List}
use borrow.Author.Tests.{tests}
use Rattle.batchdb.specs.Words.{is_request}
use Rattle.batchdb.proofs.Tests.{list_any-map}
use Rattle.batchdb.proofs.words.is_any_request.Goals as goal

pub returns : goal.returns
returns c =
    any_from_yields_List (λ word. is_request word.now) _ _ _ c.any.ensures.ran
    (YieldsList-from_slice c.args.words.now cc) (λ x b q k. search (rules, tests))
    ∙ sym (list_any-map is_request (λ word. word.now) c.args.words.now)
