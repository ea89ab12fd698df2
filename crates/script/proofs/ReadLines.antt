-- What the words of a line give is what is said of the line.
use Rattle.std.proofs.Common.{◌≡◌, ℕ, ◌<◌, ◌^◌, List, ◌∷◌, length, true, Option, None}
use Rattle.std.proofs.Common.{Some, Result, Ok, Err}
use Rattle.std.proofs.Common.{refl, sym, ap, ◌∙◌, subst, arith, MatchResult}
use Rattle.std.proofs.lemmas.List.Splits.{join_with_byte-slice_split}
use Rattle.rows.specs.Text.{words_text}
use Rattle.script.specs.declared.event.Event.{Event}
use Rattle.script.specs.declared.event.Event.TheVariants.{Begin, Insert, Set, Delete, Get, Commit, Abort, Flush, Push, Deliver, Show, Open}
use Rattle.script.specs.declared.event.Event.TheVariants.{Ask, Renew, Run, Stop, Start, Version, Dump, Restart, Raw, AddColumn, Base}
use Rattle.script.specs.declared.setup.Setup.{Setup}
use Rattle.script.specs.declared.faults.Reason.{Reason}
use Rattle.script.specs.declared.faults.Reason.TheVariants.{NotText, BadSetting, UnknownEvent, BadWords, NoTable}
use Rattle.script.specs.declared.faults.LineFault.{LineFault}
use Rattle.script.specs.declared.faults.LineFault.TheVariants.{Because, Memory}
use Rattle.script.specs.EventText.{event_words, tables_in}
use Rattle.script.specs.Tables.{name_in}
use Rattle.script.specs.EventLines.{IsSpelled, IsEventLine, IsEventFault, first_word, begins_with, event_names}
use Rattle.script.specs.Tables.{table_called}
use Rattle.script.specs.Inner.LineFaults.{OrMemory, Gives}
use Rattle.script.specs.Inner.Reading.{event_of}
use Rattle.queries.specs.declared.plan.Plan.{Plan}
use Rattle.script.specs.Tables.{AreNamed}
use Rattle.script.proofs.PlanLaws.{plan-read, plan-not-bad}
use Rattle.script.specs.Events.{HasLine}
use Rattle.script.specs.Inner.Reading.{open_event}
use Rattle.script.proofs.Complete.{words_event, at_tables, tabled, complete}
use Rattle.script.proofs.Sound.{IsOf, IsSound, event-sound}
use Rattle.script.proofs.Spaces.{event-plain}
use Rattle.script.proofs.WordSplitting.{line_words, split-words, split-first}

-- words of an event are words of its line
spelled : (setup : Setup) (naming : ℕ → List ℕ) (event : Event) (line : List ℕ) → IsOf setup naming event (line_words line)
    → IsSpelled setup naming event line
spelled setup naming event line is = record {
  named = is.named;
  form = is.form;
  possible = is.possible;
  text = ap words_text is.spelled ∙ join_with_byte-slice_split 32 line;
}

-- an event has words
some_words : (naming : ℕ → List ℕ) (event : Event) → 0 < length (event_words naming event)
some_words naming Begin = omega arith
some_words naming (Insert transaction table row values) = omega arith
some_words naming (Set transaction table row column value) = omega arith
some_words naming (Delete transaction table row) = omega arith
some_words naming (AddColumn transaction table default) = omega arith
some_words naming (Get transaction table row column) = omega arith
some_words naming (Commit transaction worker) = omega arith
some_words naming (Abort transaction) = omega arith
some_words naming (Flush count) = omega arith
some_words naming Base = omega arith
some_words naming (Stop bytes) = omega arith
some_words naming Start = omega arith
some_words naming (Push worker seq) = omega arith
some_words naming (Deliver index node) = omega arith
some_words naming (Show index) = omega arith
some_words naming (Open replica plan) = omega arith
some_words naming (Ask replica) = omega arith
some_words naming (Renew replica) = omega arith
some_words naming (Run replica) = omega arith
some_words naming (Version replica) = omega arith
some_words naming (Dump replica) = omega arith
some_words naming (Restart replica boot) = omega arith
some_words naming (Raw node bytes) = omega arith

-- the line of an event falls into its words
pub line-parts : (setup : Setup) (naming : ℕ → List ℕ) (event : Event) (line : List ℕ) → setup.workers < 2 ^ 64 → setup.replicas < 2 ^ 64
    → IsSpelled setup naming event line → line_words line ≡ event_words naming event
line-parts setup naming event line w r s =
    let are = event-plain setup.workers setup.replicas naming event w r s.named s.form s.possible in
    ap line_words (sym s.text) ∙ split-words (event_words naming event) (some_words naming event) are

-- what the words of a line give, where it is that of an event
pub given-line : (setup : Setup) (naming : ℕ → List ℕ) (event : Event) (line : List ℕ) → setup.workers < 2 ^ 64 → setup.replicas < 2 ^ 64
    → IsSpelled setup naming event line → words_event setup (line_words line) ≡ at_tables setup naming event
given-line setup naming event line w r s =
    ap (words_event setup) (line-parts setup naming event line w r s) ∙ complete setup naming event w r s.named s.form s.possible

tabled-fine : (found : Option ℕ) (make : ℕ → Event) → tabled found make ≡ Err BadWords → ⊥
tabled-fine None make h = cc
tabled-fine (Some table) make h = cc

opened-bad : (replica : ℕ) (plan : Result Plan Reason) → open_event (Some replica) plan ≡ Err BadWords → plan ≡ Err BadWords
opened-bad replica (Ok plan) h = cc
opened-bad replica (Err reason) h = cc

at_tables-fine : (setup : Setup) (naming : ℕ → List ℕ) (event : Event) → AreNamed naming (tables_in event) → HasLine event
    → at_tables setup naming event ≡ Err BadWords → ⊥
at_tables-fine setup naming Begin named form h = cc
at_tables-fine setup naming (Insert transaction table row values) named form h = tabled-fine (table_called setup.schema (naming table)) _ h
at_tables-fine setup naming (Set transaction table row column value) named form h =
    tabled-fine (table_called setup.schema (naming table)) _ h
at_tables-fine setup naming (Delete transaction table row) named form h = tabled-fine (table_called setup.schema (naming table)) _ h
at_tables-fine setup naming (AddColumn transaction table default) named form h =
    tabled-fine (table_called setup.schema (naming table)) _ h
at_tables-fine setup naming (Get transaction table row column) named form h = tabled-fine (table_called setup.schema (naming table)) _ h
at_tables-fine setup naming (Commit transaction worker) named form h = cc
at_tables-fine setup naming (Abort transaction) named form h = cc
at_tables-fine setup naming (Flush count) named form h = cc
at_tables-fine setup naming Base named form h = cc
at_tables-fine setup naming (Stop bytes) named form h = cc
at_tables-fine setup naming Start named form h = cc
at_tables-fine setup naming (Push worker seq) named form h = cc
at_tables-fine setup naming (Deliver index node) named form h = cc
at_tables-fine setup naming (Show index) named form h = cc
at_tables-fine setup naming (Open replica plan) named form h = plan-not-bad setup.schema naming plan form named (opened-bad replica _ h)
at_tables-fine setup naming (Ask replica) named form h = cc
at_tables-fine setup naming (Renew replica) named form h = cc
at_tables-fine setup naming (Run replica) named form h = cc
at_tables-fine setup naming (Version replica) named form h = cc
at_tables-fine setup naming (Dump replica) named form h = cc
at_tables-fine setup naming (Restart replica boot) named form h = cc
at_tables-fine setup naming (Raw node bytes) named form h = cc

-- the first word
pub first_word-is : (line first : List ℕ) (words : List (List ℕ)) → line_words line ≡ first ∷ words → first_word line ≡ first
first_word-is line first words h =
    let p = split-first line in
    let e : first_word line ∷ p.0 ≡ first ∷ words = sym p.1 ∙ h in
    cc

-- an answer that the words give says of the line what it has to
pub answered : (setup : Setup) (line first : List ℕ) (words : List (List ℕ)) (result : Result Event LineFault) → setup.workers < 2 ^ 64
    → setup.replicas < 2 ^ 64 → line_words line ≡ first ∷ words → Gives (event_of setup first words) result
    → MatchResult result (IsEventLine setup line) (OrMemory (IsEventFault setup line))
answered setup line first words (Ok event) w r parts gives =
    let P : Result Event Reason → Type 0 = λ it. IsSound setup first words it in
    let s : IsSound setup first words (Ok event) = subst P gives (event-sound setup first words) in
    let Q : List (List ℕ) → Type 0 = λ it. IsOf setup (name_in setup.schema) event it in
    let is = spelled setup (name_in setup.schema) event line (subst Q (sym parts) s.0) in
    record { named = is.named; found = s.1; form = is.form; possible = is.possible; text = is.text }
answered setup line first words (Err Memory) w r parts gives = tt
answered setup line first words (Err (Because NotText)) w r parts gives =
    let P : Result Event Reason → Type 0 = λ it. IsSound setup first words it in
    subst P gives (event-sound setup first words)
answered setup line first words (Err (Because BadSetting)) w r parts gives =
    let P : Result Event Reason → Type 0 = λ it. IsSound setup first words it in
    rw (first_word-is line first words parts) (subst P gives (event-sound setup first words))
answered setup line first words (Err (Because UnknownEvent)) w r parts gives =
    let P : Result Event Reason → Type 0 = λ it. IsSound setup first words it in
    rw (first_word-is line first words parts) (subst P gives (event-sound setup first words))
answered setup line first words (Err (Because BadWords)) w r parts gives =
    let P : Result Event Reason → Type 0 = λ it. IsSound setup first words it in
    let known : IsSound setup first words (Err BadWords) = subst P gives (event-sound setup first words) in
    let begins : begins_with event_names line ≡ true = rw (first_word-is line first words parts) known in (
      begins,
      λ naming event s. at_tables-fine setup naming event s.named s.form
          (sym (given-line setup naming event line w r s) ∙ ap (words_event setup) parts ∙ gives),
    )
answered setup line first words (Err (Because NoTable)) w r parts gives =
    let P : Result Event Reason → Type 0 = λ it. IsSound setup first words it in
    let s : IsSound setup first words (Err NoTable) = subst P gives (event-sound setup first words) in
    let Q : List (List ℕ) → Type 0 = λ it. IsOf setup s.0 s.1 it in
    (s.0, s.1, spelled setup s.0 s.1 line (subst Q (sym parts) s.2), s.3)

-- a line is that of one event alone
kept_tables : (setup : Setup) (line : List ℕ) (event : Event) → IsEventLine setup line event
    → at_tables setup (name_in setup.schema) event ≡ Ok event
kept_tables setup line Begin s = refl
kept_tables setup line (Insert transaction table row values) s = rw s.found.0 refl
kept_tables setup line (Set transaction table row column value) s = rw s.found.0 refl
kept_tables setup line (Delete transaction table row) s = rw s.found.0 refl
kept_tables setup line (AddColumn transaction table default) s = rw s.found.0 refl
kept_tables setup line (Get transaction table row column) s = rw s.found.0 refl
kept_tables setup line (Commit transaction worker) s = refl
kept_tables setup line (Abort transaction) s = refl
kept_tables setup line (Flush count) s = refl
kept_tables setup line Base s = refl
kept_tables setup line (Stop bytes) s = refl
kept_tables setup line Start s = refl
kept_tables setup line (Push worker seq) s = refl
kept_tables setup line (Deliver index node) s = refl
kept_tables setup line (Show index) s = refl
kept_tables setup line (Open replica plan) s = ap (open_event (Some replica)) (plan-read setup.schema plan s.form s.named s.found)
kept_tables setup line (Ask replica) s = refl
kept_tables setup line (Renew replica) s = refl
kept_tables setup line (Run replica) s = refl
kept_tables setup line (Version replica) s = refl
kept_tables setup line (Dump replica) s = refl
kept_tables setup line (Restart replica boot) s = refl
kept_tables setup line (Raw node bytes) s = refl

-- the line of an event gives it
pub event-read : (setup : Setup) (line : List ℕ) (event : Event) → setup.workers < 2 ^ 64 → setup.replicas < 2 ^ 64
    → IsEventLine setup line event → words_event setup (line_words line) ≡ Ok event
event-read setup line event w r s =
    given-line setup (name_in setup.schema) event line w r
    (record { named = s.named; form = s.form; possible = s.possible; text = s.text })
    ∙ kept_tables setup line event s

pub event-once : (setup : Setup) (line : List ℕ) (one other : Event) → setup.workers < 2 ^ 64 → setup.replicas < 2 ^ 64
    → IsEventLine setup line one → IsEventLine setup line other → one ≡ other
event-once setup line one other w r a b =
    let first = event-read setup line one w r a in
    let second = event-read setup line other w r b in
    cc
