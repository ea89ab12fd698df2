-- The text of a plan, and the words that are it.
use Rattle.std.proofs.Common.{◌≡◌, ℕ, List, Result, Ok, sym, ap, ◌∙◌, subst}
use Rattle.std.proofs.lemmas.List.Splits.{join_with_byte-slice_split}
use Rattle.rows.specs.declared.kind.Kind.{Kind}
use Rattle.rows.specs.Text.{words_text}
use Rattle.queries.specs.declared.plan.Plan.{Plan}
use Rattle.script.specs.declared.faults.Reason.{Reason}
use Rattle.script.specs.Inner.PlanReading.{plan_of}
use Rattle.script.specs.PlanText.{plan_words}
use Rattle.script.specs.Tables.{name_in}
use Rattle.script.proofs.PlanLaws.{IsPlanSound, plan-sound, plan-read, plan-plain, plan-some}
use Rattle.script.proofs.WordSplitting.{line_words, split-words}
use Rattle.script.specs.EventLines.{IsPlanText}

-- the plan of a text that is it
pub text-read : (schema : List (List ℕ × List Kind)) (text : List ℕ) (plan : Plan) → IsPlanText schema text plan
    → plan_of schema (line_words text) ≡ Ok plan
text-read schema text plan is =
    let parts : line_words text ≡ plan_words (name_in schema) plan =
    ap line_words (sym is.written)
    ∙ split-words (plan_words (name_in schema) plan) (plan-some (name_in schema) plan)
    (plan-plain (name_in schema) plan is.form is.named) in
    ap (plan_of schema) parts ∙ plan-read schema plan is.form is.named is.found

pub text-written : (schema : List (List ℕ × List Kind)) (text : List ℕ) (plan : Plan) → plan_of schema (line_words text) ≡ Ok plan
    → IsPlanText schema text plan
text-written schema text plan h =
    let P : Result Plan Reason → Type 0 = λ it. IsPlanSound schema (line_words text) it in
    let s : IsPlanSound schema (line_words text) (Ok plan) = subst P h (plan-sound schema (line_words text)) in
    record {
      named = s.1;
      found = s.2;
      form = s.0;
      written = ap words_text s.3 ∙ join_with_byte-slice_split 32 text;
    }
