-- The lines of the groups are the answers.
use Rattle.std.proofs.Common.{map, ap, ◌∙◌}
use Rattle.plans.specs.Partials.{Parts}
use Rattle.plans.specs.Inner.Ranges.{lines_of}
use Rattle.plans.proofs.Ranged.{lines-between}
use Rattle.plans.proofs.partials.Partial.answers.Goals as goal

pub returns : goal.returns
returns c = λ tables plans from to is.
    c.as_slice.ensures.value ∙ c.self.invariant.1
    ∙ ap (map lines_of) (ap (λ (parts : Parts). parts.groups) c.self.view_is ∙ is.groups)
    ∙ lines-between tables from to plans
