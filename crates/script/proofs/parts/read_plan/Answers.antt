-- The plan of the words is that of their text.
use Rattle.std.proofs.Common.{◌≡◌, ◌∙◌, Ok, Err, sym, ap}
use Rattle.queries.specs.declared.plan.Plan.{Plan}
use Rattle.script.specs.declared.faults.Reason.{Reason}
use Rattle.script.specs.Inner.PlanReading.{plan_of}
use Rattle.script.proofs.WordSplitting.{line_words}
use Rattle.script.proofs.Arity.{shown}
use Rattle.script.proofs.PlanText.{text-read, text-written}
use Rattle.script.proofs.parts.read_plan.Goals as goal

apart : (plan : Plan) (reason : Reason) → Ok plan ≡ Err reason → ⊥
apart plan reason h = cc

pub returns-in-Ok : goal.returns-in-Ok
returns-in-Ok c =
    let schema = c.args.setup.now.schema in
    let parts : shown c.as_slice.result.now ≡ line_words c.args.text.now = ap shown c.as_slice.ensures.value ∙ c.in_ok-words.ensures in
    text-written schema c.args.text.now c.in-Ok.plan (ap (plan_of schema) (sym parts) ∙ c.in-Ok.ensures)

pub returns-in-Err-Because : goal.returns-in-Err-Because
returns-in-Err-Because c plan is =
    let schema = c.args.setup.now.schema in
    let parts : shown c.as_slice.result.now ≡ line_words c.args.text.now = ap shown c.as_slice.ensures.value ∙ c.in_ok-words.ensures in
    let refused = rw c.in-Err-Because.field-0-is at c.in-Err-Because.ensures in
    apart plan _ (sym (ap (plan_of schema) parts ∙ text-read schema c.args.text.now plan is) ∙ refused)
