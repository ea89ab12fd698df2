-- The words of the plan stand behind the first ones, each behind a space.
use Rattle.std.proofs.Common.{◌∷◌, [], codes, decimal, arith}
use Rattle.std.proofs.lemmas.Grind.{common_steps}
use Rattle.script.specs.PlanText.{plan_words}
use Rattle.script.specs.Tables.{name_in}
use Rattle.script.proofs.Joining.{words-more}
use Rattle.script.proofs.event_text.push_open.Goals as goal

pub returns : goal.returns
returns c =
    let e = words-more (codes "open") (decimal c.args.replica ∷ []) (plan_words (name_in c.args.schema.now) c.args.plan.now) in
    grind (arith, common_steps)
