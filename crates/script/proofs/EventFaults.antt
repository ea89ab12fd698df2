-- The line of an event has no fault, and a line that is no event has one fault.
use Rattle.std.proofs.Common.{◌≡◌, ℕ, zero, suc, ◌<◌, ◌^◌, Bool, true, false, List, [], ◌∷◌, length, Option, None, Some, Result, Ok, Err}
use Rattle.std.proofs.Common.{refl, sym, ap, ◌∙◌, arith, codes}
use Rattle.std.specs.List.{slice_index_or}
use Rattle.std.specs.Str.{bytes_eq}
use Rattle.rows.specs.declared.kind.Kind.{Kind}
use Rattle.queries.specs.declared.plan.Join.{Join}
use Rattle.queries.specs.declared.plan.Plan.{Plan}
use Rattle.script.specs.declared.event.Event.{Event}
use Rattle.script.specs.declared.event.Event.TheVariants.{Begin, Insert, Set, Delete, Get, Commit, Abort, Flush, Push, Deliver, Show, Open}
use Rattle.script.specs.declared.event.Event.TheVariants.{Ask, Renew, Run, Stop, Start, Version, Dump, Restart, Raw, AddColumn, Base}
use Rattle.script.specs.declared.faults.Reason.{Reason}
use Rattle.script.specs.declared.faults.Reason.TheVariants.{NotText, BadSetting, UnknownEvent, BadWords, NoTable}
use Rattle.script.specs.declared.setup.Setup.{Setup}
use Rattle.script.specs.Events.{HasLine}
use Rattle.script.specs.EventText.{event_words, tables_in}
use Rattle.script.specs.EventLines.{IsSpelled, IsEventLine, IsEventFault, first_word, begins_with, event_names, setting_names}
use Rattle.script.specs.PlanText.{plan_words, plan_tables, joined_table, HasPlanWords}
use Rattle.script.specs.Tables.{name_in, table_called, AreNamed, IsOneMissing}
use Rattle.script.specs.Inner.WordReading.{table_of}
use Rattle.script.specs.Inner.PlanReading.{join_on, join_table, plan_on, plan_of}
use Rattle.script.specs.Inner.Reading.{open_event}
use Rattle.script.proofs.Complete.{at_tables, tabled}
use Rattle.script.proofs.Numbers.{words_same}
use Rattle.script.proofs.PlanLaws.{named_join, plan-words-read}
use Rattle.script.proofs.ReadLines.{event-read, first_word-is, given-line, line-parts}
use Rattle.script.proofs.Sound.{is_known, sets}
use Rattle.script.proofs.Tables.{table_of-some}

-- where one of one table is missing, it is that table
missing-one : (schema : List (List ℕ × List Kind)) (naming : ℕ → List ℕ) (table : ℕ) → IsOneMissing schema naming (table ∷ [])
    → table_called schema (naming table) ≡ None
missing-one schema naming table missing = by missing.0 missing.1.0 missing.1.1 missing.1.2 missing.2
  where
    by : (other at : ℕ) → at < 1 → slice_index_or (table ∷ []) at other ≡ other → table_called schema (naming other) ≡ None
        → table_called schema (naming table) ≡ None
    by other zero few is none = rw is none
    by other (suc at) few is none = absurd (omega arith)

none-missing : (schema : List (List ℕ × List Kind)) (naming : ℕ → List ℕ) → IsOneMissing schema naming [] → ⊥
none-missing schema naming missing = let few = missing.1.1 in omega (arith, few)

joined-found : (column : ℕ) (found : Result ℕ Reason) (join : Option Join) → join_on column found ≡ Ok join
    → (table : ℕ) × (found ≡ Ok table)
joined-found column (Ok table) join h = (table, refl)
joined-found column (Err reason) join h = absurd (let no : ⊥ = cc in no)

-- a plan with a table that is missing is not read
plan-missing : (schema : List (List ℕ × List Kind)) (naming : ℕ → List ℕ) (plan other : Plan) → HasPlanWords plan
    → AreNamed naming (plan_tables plan) → IsOneMissing schema naming (plan_tables plan)
    → plan_of schema (plan_words naming plan) ≡ Ok other → ⊥
plan-missing schema naming plan other form named missing is =
    by (table_of schema (naming plan.table)) refl (join_table schema (named_join naming plan.join)) refl
    (sym (plan-words-read schema naming plan form named) ∙ is)
  where
    absent : (one table : ℕ) → table_called schema (naming one) ≡ Some table → table_called schema (naming one) ≡ None → ⊥
    absent one table some none = cc

    among : (join : Option Join) (one at found : ℕ) (joined : Option Join) → at < length (plan.table ∷ joined_table join)
        → slice_index_or (plan.table ∷ joined_table join) at one ≡ one → table_called schema (naming one) ≡ None
        → table_called schema (naming plan.table) ≡ Some found → join_table schema (named_join naming join) ≡ Ok joined → ⊥
    among join one zero found joined few at none some joins = absent plan.table found some (rw at none)
    among None one (suc at) found joined few is none some joins = omega (arith, few)
    among (Some join) one (suc zero) found joined few is none some joins =
        let p = joined-found join.column (table_of schema (naming join.table)) joined joins in
        absent join.table p.0 (table_of-some schema (naming join.table) p.0 p.1).1 (rw is none)
    among (Some join) one (suc (suc at)) found joined few is none some joins = omega (arith, few)

    by : (table : Result ℕ Reason) → table_of schema (naming plan.table) ≡ table → (join : Result (Option Join) Reason)
        → join_table schema (named_join naming plan.join) ≡ join
        → plan_on table join plan.conditions plan.groups plan.aggregates ≡ Ok other → ⊥
    by (Err reason) e join f h = cc
    by (Ok table) e (Err reason) f h = cc
    by (Ok table) e (Ok join) f h =
        among plan.join missing.0 missing.1.0 table join missing.1.1 missing.1.2 missing.2
        (table_of-some schema (naming plan.table) table e).1 f

not-tabled : (found : Option ℕ) (make : ℕ → Event) (other : Event) → found ≡ None → tabled found make ≡ Ok other → ⊥
not-tabled None make other none h = cc
not-tabled (Some table) make other none h = cc

opened : (replica : ℕ) (plan : Result Plan Reason) (other : Event) → open_event (Some replica) plan ≡ Ok other
    → (read : Plan) × (plan ≡ Ok read)
opened replica (Ok plan) other h = (plan, refl)
opened replica (Err reason) other h = absurd (let no : ⊥ = cc in no)

-- an event with a table that is missing is not read
event-missing : (setup : Setup) (naming : ℕ → List ℕ) (event other : Event) → HasLine event → AreNamed naming (tables_in event)
    → IsOneMissing setup.schema naming (tables_in event) → at_tables setup naming event ≡ Ok other → ⊥
event-missing setup naming Begin other form named missing h = none-missing setup.schema naming missing
event-missing setup naming (Insert transaction table row values) other form named missing h =
    not-tabled _ _ other (missing-one setup.schema naming table missing) h
event-missing setup naming (Set transaction table row column value) other form named missing h =
    not-tabled _ _ other (missing-one setup.schema naming table missing) h
event-missing setup naming (Delete transaction table row) other form named missing h =
    not-tabled _ _ other (missing-one setup.schema naming table missing) h
event-missing setup naming (AddColumn transaction table default) other form named missing h =
    not-tabled _ _ other (missing-one setup.schema naming table missing) h
event-missing setup naming (Get transaction table row column) other form named missing h =
    not-tabled _ _ other (missing-one setup.schema naming table missing) h
event-missing setup naming (Commit transaction worker) other form named missing h = none-missing setup.schema naming missing
event-missing setup naming (Abort transaction) other form named missing h = none-missing setup.schema naming missing
event-missing setup naming (Flush count) other form named missing h = none-missing setup.schema naming missing
event-missing setup naming Base other form named missing h = none-missing setup.schema naming missing
event-missing setup naming (Stop bytes) other form named missing h = none-missing setup.schema naming missing
event-missing setup naming Start other form named missing h = none-missing setup.schema naming missing
event-missing setup naming (Push worker seq) other form named missing h = none-missing setup.schema naming missing
event-missing setup naming (Deliver index node) other form named missing h = none-missing setup.schema naming missing
event-missing setup naming (Show index) other form named missing h = none-missing setup.schema naming missing
event-missing setup naming (Open replica plan) other form named missing h =
    let read = opened replica (plan_of setup.schema (plan_words naming plan)) other h in
    plan-missing setup.schema naming plan read.0 form named missing read.1
event-missing setup naming (Ask replica) other form named missing h = none-missing setup.schema naming missing
event-missing setup naming (Renew replica) other form named missing h = none-missing setup.schema naming missing
event-missing setup naming (Run replica) other form named missing h = none-missing setup.schema naming missing
event-missing setup naming (Version replica) other form named missing h = none-missing setup.schema naming missing
event-missing setup naming (Dump replica) other form named missing h = none-missing setup.schema naming missing
event-missing setup naming (Restart replica boot) other form named missing h = none-missing setup.schema naming missing
event-missing setup naming (Raw node bytes) other form named missing h = none-missing setup.schema naming missing

-- the first word of an event, which is no setting's
record FirstWord (words : List (List ℕ)) : Type 0 where
  pub first : List ℕ
  pub rest : List (List ℕ)
  pub words_are : words ≡ first ∷ rest
  pub known : is_known first ≡ true
  pub sets_none : sets first ≡ false

first-of : (first : List ℕ) (rest : List (List ℕ)) → is_known first ≡ true → sets first ≡ false → FirstWord (first ∷ rest)
first-of first rest known none = record { first = first; rest = rest; words_are = refl; known = known; sets_none = none }

first-event-word : (naming : ℕ → List ℕ) (event : Event) → FirstWord (event_words naming event)
first-event-word naming Begin = first-of (codes "begin") _ refl refl
first-event-word naming (Insert transaction table row values) = first-of (codes "insert") _ refl refl
first-event-word naming (Set transaction table row column value) = first-of (codes "set") _ refl refl
first-event-word naming (Delete transaction table row) = first-of (codes "delete") _ refl refl
first-event-word naming (AddColumn transaction table default) = first-of (codes "column") _ refl refl
first-event-word naming (Get transaction table row column) = first-of (codes "get") _ refl refl
first-event-word naming (Commit transaction worker) = first-of (codes "commit") _ refl refl
first-event-word naming (Abort transaction) = first-of (codes "abort") _ refl refl
first-event-word naming (Flush count) = first-of (codes "flush") _ refl refl
first-event-word naming Base = first-of (codes "base") _ refl refl
first-event-word naming (Stop bytes) = first-of (codes "stop") _ refl refl
first-event-word naming Start = first-of (codes "start") _ refl refl
first-event-word naming (Push worker seq) = first-of (codes "push") _ refl refl
first-event-word naming (Deliver index node) = first-of (codes "deliver") _ refl refl
first-event-word naming (Show index) = first-of (codes "show") _ refl refl
first-event-word naming (Open replica plan) = first-of (codes "open") _ refl refl
first-event-word naming (Ask replica) = first-of (codes "ask") _ refl refl
first-event-word naming (Renew replica) = first-of (codes "renew") _ refl refl
first-event-word naming (Run replica) = first-of (codes "run") _ refl refl
first-event-word naming (Version replica) = first-of (codes "version") _ refl refl
first-event-word naming (Dump replica) = first-of (codes "dump") _ refl refl
first-event-word naming (Restart replica boot) = first-of (codes "restart") _ refl refl
first-event-word naming (Raw node bytes) = first-of (codes "raw") _ refl refl

pub event-begins : (setup : Setup) (naming : ℕ → List ℕ) (event : Event) (line : List ℕ) → setup.workers < 2 ^ 64
    → setup.replicas < 2 ^ 64 → IsSpelled setup naming event line
    → (begins_with event_names line ≡ true) × (begins_with setting_names line ≡ false)
event-begins setup naming event line w r is =
    let begins = first-event-word naming event in
    let first : first_word line ≡ begins.first =
    first_word-is line begins.first begins.rest (line-parts setup naming event line w r is ∙ begins.words_are) in
    (ap is_known first ∙ begins.known, ap sets first ∙ begins.sets_none)

-- a setting's name is no event's
pub setting-begins : (line : List ℕ) → begins_with setting_names line ≡ true → begins_with event_names line ≡ false
setting-begins line begins =
    let first = first_word line in
    by first (bytes_eq first (codes "workers")) refl (bytes_eq first (codes "replicas")) refl (bytes_eq first (codes "table")) refl begins
  where
    by : (first : List ℕ) (one : Bool) → bytes_eq first (codes "workers") ≡ one → (two : Bool) → bytes_eq first (codes "replicas") ≡ two
        → (three : Bool) → bytes_eq first (codes "table") ≡ three → sets first ≡ true → is_known first ≡ false
    by first true e two f three g h = rw (words_same first (codes "workers") e) refl
    by first false e true f three g h = rw (words_same first (codes "replicas") f) refl
    by first false e false f true g h = rw (words_same first (codes "table") g) refl
    by first false e false f false g h =
        let none : sets first ≡ false = rw (e, f, g) refl in
        absurd (let no : ⊥ = cc in no)

as-spelled : (setup : Setup) (line : List ℕ) (event : Event) → IsEventLine setup line event
    → IsSpelled setup (name_in setup.schema) event line
as-spelled setup line event is = record { named = is.named; form = is.form; possible = is.possible; text = is.text }

module _ (setup : Setup) (line : List ℕ) (w : setup.workers < 2 ^ 64) (r : setup.replicas < 2 ^ 64) where
  -- the line of an event begins so
  pub line-begins : (event : Event) → IsEventLine setup line event → begins_with setting_names line ≡ false
  line-begins event is = (event-begins setup (name_in setup.schema) event line w r (as-spelled setup line event is)).1

  -- the line of an event has no fault
  pub event-faultless : (event : Event) (reason : Reason) → IsEventLine setup line event → IsEventFault setup line reason → ⊥
  event-faultless event NotText is bad = bad
  event-faultless event BadSetting is bad = let none = line-begins event is in cc
  event-faultless event UnknownEvent is bad =
      let begins = (event-begins setup (name_in setup.schema) event line w r (as-spelled setup line event is)).0 in
      let none = bad.1 in
      cc
  event-faultless event BadWords is bad = bad.1 (name_in setup.schema) event (as-spelled setup line event is)
  event-faultless event NoTable is bad =
      event-missing setup bad.0 bad.1 event bad.2.form bad.2.named bad.3
      (sym (given-line setup bad.0 bad.1 line w r bad.2) ∙ event-read setup line event w r is)

  setting-unknown : IsEventFault setup line BadSetting → IsEventFault setup line UnknownEvent → ⊥
  setting-unknown one other = let none = other.0 in cc

  setting-words : IsEventFault setup line BadSetting → IsEventFault setup line BadWords → ⊥
  setting-words one other =
      let none = setting-begins line one in
      let begins = other.0 in
      cc

  setting-table : IsEventFault setup line BadSetting → IsEventFault setup line NoTable → ⊥
  setting-table one other = let none = (event-begins setup other.0 other.1 line w r other.2).1 in cc

  unknown-words : IsEventFault setup line UnknownEvent → IsEventFault setup line BadWords → ⊥
  unknown-words one other =
      let none = one.1 in
      let begins = other.0 in
      cc

  unknown-table : IsEventFault setup line UnknownEvent → IsEventFault setup line NoTable → ⊥
  unknown-table one other =
      let none = one.1 in
      let begins = (event-begins setup other.0 other.1 line w r other.2).0 in
      cc

  words-table : IsEventFault setup line BadWords → IsEventFault setup line NoTable → ⊥
  words-table one other = one.1 other.0 other.1 other.2

  -- a line has one fault as an event
  pub one-event-fault : (one other : Reason) → IsEventFault setup line one → IsEventFault setup line other → one ≡ other
  one-event-fault NotText other a b = absurd a
  one-event-fault BadSetting NotText a b = absurd b
  one-event-fault BadSetting BadSetting a b = refl
  one-event-fault BadSetting UnknownEvent a b = absurd (setting-unknown a b)
  one-event-fault BadSetting BadWords a b = absurd (setting-words a b)
  one-event-fault BadSetting NoTable a b = absurd (setting-table a b)
  one-event-fault UnknownEvent NotText a b = absurd b
  one-event-fault UnknownEvent BadSetting a b = absurd (setting-unknown b a)
  one-event-fault UnknownEvent UnknownEvent a b = refl
  one-event-fault UnknownEvent BadWords a b = absurd (unknown-words a b)
  one-event-fault UnknownEvent NoTable a b = absurd (unknown-table a b)
  one-event-fault BadWords NotText a b = absurd b
  one-event-fault BadWords BadSetting a b = absurd (setting-words b a)
  one-event-fault BadWords UnknownEvent a b = absurd (unknown-words b a)
  one-event-fault BadWords BadWords a b = refl
  one-event-fault BadWords NoTable a b = absurd (words-table a b)
  one-event-fault NoTable NotText a b = absurd b
  one-event-fault NoTable BadSetting a b = absurd (setting-table b a)
  one-event-fault NoTable UnknownEvent a b = absurd (unknown-table b a)
  one-event-fault NoTable BadWords a b = absurd (words-table b a)
  one-event-fault NoTable NoTable a b = refl
