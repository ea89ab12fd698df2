-- What is left is what is not below.
use Rattle.std.proofs.Common.{ℕ, List, sym, ap, ◌∙◌}
use Rattle.intake.specs.State.{Arrivals}
use Rattle.intake.specs.Steps.{without_below}
use Rattle.intake.specs.Inner.Collecting.{arrivals_in}
use Rattle.intake.proofs.Keeping.{from_on-all}
use Rattle.intake.proofs.collector.Collector.drop_below.Goals as goal

pub returns : goal.returns
returns c =
    let known = c.self.inside.known in
    let left = c.loop-self.self-inside.kept.entries in
    let count = c.args.count in
    let none = c.first_is_below.ensures.none c.loop-self-test.false in
    ap (λ (seqs : List ℕ). arrivals_in seqs left) c.loop-self.invariant.known
    ∙ ap (arrivals_in known) (sym (from_on-all count left none) ∙ c.loop-self.invariant.same)
    ∙ ap (λ (arrivals : Arrivals). without_below arrivals count) c.self.view_is
