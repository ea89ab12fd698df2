-- The number behind `bytes` is none that a column has, and no other number has its text.
use Rattle.std.proofs.Common.{Some, codes, sym, ◌∙◌}
use Rattle.std.proofs.lemmas.Bool.Decides.{Decides-eqb}
use Rattle.std.proofs.lemmas.Slice.Eq.{strip_prefix_is}
use Rattle.script.proofs.KindReading.{bad-width}
use Rattle.script.proofs.settings.kind_of.Goals as goal

pub returns-else-is_good : goal.returns-else-is_good
returns-else-is_good c =
    let is = strip_prefix_is Decides-eqb c.args.word.now (codes "bytes") (Some c.in_ok-width.width) c.in_ok-width.ensures.cases in
    let number = c.in_ok-small_number.ensures.exact in
    bad-width c.args.word.now c.in_ok-small_number.field-0 c.in_ok-width.width.now is number.1 number.0
    (sym c.is_good.ensures ∙ c.if-is_good.false)
