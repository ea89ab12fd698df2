-- `any` over the datagrams that were sent is the test over their bytes.
use Rattle.std.proofs.Common.{rules, ◌≡◌, true, refl, sym, ◌∙◌}
use Rattle.std.specs.Result.{is_ok}
use Rattle.std.specs.Str.{bytes_eq}
use Rattle.std.proofs.lemmas.Iterator.{YieldsList-from_slice}
use Rattle.std.proofs.lemmas.Iterator.Search.{any_from_yields_List}
use borrow.Author.Tests.{tests}
use Rattle.wire.specs.Reading.{reading}
use Rattle.world.proofs.sending.is_forged.Goals as goal

pub returns-then-is_ok : goal.returns-then-is_ok
returns-then-is_ok c =
    let any =
    any_from_yields_List (λ other. bytes_eq other c.args.bytes.now) _ _ _ c.any.ensures.ran
    (YieldsList-from_slice c.args.sent.now cc) (λ x b q k. search (rules, tests)) in
    let ok : is_ok (reading c.args.bytes.now) ≡ true = rw (← c.read.ensures.exact) (sym c.is_ok.ensures.value ∙ c.if-is_ok.true) in
    rw (any, ok) refl
