-- Which lines are events, and why a line is none.
use Rattle.std.specs.Prelude.{◌≡◌, ℕ, List, [], ◌∷◌, Bool, true, false, ◌==◌, codes}
use Rattle.std.specs.List.{list_any, before_first}
use Rattle.std.specs.Str.{bytes_eq}
use Rattle.rows.specs.declared.kind.Kind.{Kind}
use Rattle.rows.specs.Text.{words_text}
use Rattle.queries.specs.declared.plan.Plan.{Plan}
use Rattle.script.specs.declared.faults.Reason.{Reason}
use Rattle.script.specs.declared.faults.Reason.TheVariants.{NotText, BadSetting, UnknownEvent, BadWords, NoTable}
use Rattle.script.specs.PlanText.{plan_words, plan_tables, HasPlanWords}
use Rattle.script.specs.Tables.{name_in, AreNamed, AreFound, IsOneMissing}
use Rattle.script.specs.declared.event.Event.{Event}
use Rattle.script.specs.declared.setup.Setup.{Setup}
use Rattle.script.specs.EventText.{event_words, event_text, tables_in}
use Rattle.script.specs.Events.{IsPossible, HasLine}

-- a line is that of an event whose tables have these names
pub record IsSpelled (setup : Setup) (naming : ℕ → List ℕ) (event : Event) (line : List ℕ) : Type 0 where
  pub named : AreNamed naming (tables_in event)
  pub form : HasLine event
  pub possible : IsPossible setup.workers setup.replicas event
  pub text : words_text (event_words naming event) ≡ line

-- a line is that of an event on the tables of a setup. A table that is not there has no name, so there is none in an event
-- that has a line
pub record IsEventLine (setup : Setup) (line : List ℕ) (event : Event) : Type 0 where
  pub named : AreNamed (name_in setup.schema) (tables_in event)
  pub found : AreFound setup.schema (tables_in event)
  pub form : HasLine event
  pub possible : IsPossible setup.workers setup.replicas event
  pub text : event_text setup.schema event ≡ line

-- a text is that of a plan on the tables of a setup
pub record IsPlanText (schema : List (List ℕ × List Kind)) (text : List ℕ) (plan : Plan) : Type 0 where
  pub named : AreNamed (name_in schema) (plan_tables plan)
  pub found : AreFound schema (plan_tables plan)
  pub form : HasPlanWords plan
  pub written : words_text (plan_words (name_in schema) plan) ≡ text

-- what lines of events begin with
abbrev pub event_names : List (List ℕ)
event_names =
    codes "begin" ∷ codes "insert" ∷ codes "set" ∷ codes "delete" ∷ codes "column" ∷ codes "get" ∷ codes "commit" ∷ codes "abort"
    ∷ codes "flush" ∷ codes "base" ∷ codes "stop" ∷ codes "start" ∷ codes "push" ∷ codes "deliver" ∷ codes "show" ∷ codes "open"
    ∷ codes "ask" ∷ codes "renew" ∷ codes "run" ∷ codes "version" ∷ codes "dump" ∷ codes "restart" ∷ codes "raw" ∷ []

-- what lines of settings begin with
abbrev pub setting_names : List (List ℕ)
setting_names = codes "workers" ∷ codes "replicas" ∷ codes "table" ∷ []

-- the first word of a line: what stands before its first space
abbrev pub first_word : List ℕ → List ℕ
first_word line = before_first (λ byte. byte == 32) line

-- whether the first word of a line is one of these
abbrev pub begins_with : List (List ℕ) → List ℕ → Bool
begins_with names line = list_any (λ name. bytes_eq (first_word line) name) names

-- why a line of text is no event, once the tables are set: each such line is an event, or has one of these faults
abbrev pub IsEventFault : Setup → List ℕ → Reason → Type 0
IsEventFault setup line NotText = ⊥
IsEventFault setup line BadSetting = begins_with setting_names line ≡ true
IsEventFault setup line UnknownEvent = (begins_with setting_names line ≡ false) × (begins_with event_names line ≡ false)
IsEventFault setup line BadWords =
    (begins_with event_names line ≡ true) × ((naming : ℕ → List ℕ) (event : Event) → ¬ IsSpelled setup naming event line)
IsEventFault setup line NoTable =
    (naming : ℕ → List ℕ) × (event : Event) × IsSpelled setup naming event line
    × IsOneMissing setup.schema naming (tables_in event)
