-- The spans that are counted are those that are seen.
use Rattle.std.proofs.Common.{List, sym, ap, subst, ◌∙◌}
use Rattle.update_log.specs.declared.span.Span.{Span}
use Rattle.update_log.specs.Inner.Kept.{Kept}
use Rattle.update_log.specs.Inner.Splitting.{IsSplitAt}
use Rattle.update_log.proofs.stream.Stream.count.Goals as goal

pub returns : goal.returns
returns c front back split =
    c.count_upto.ensures front back
    (subst (λ (spans : List Span). IsSplitAt c.args.version spans front back)
    (sym (c.as_slice.ensures.value ∙ ap (λ (kept : Kept). kept.spans) c.self.view_is)) split)
