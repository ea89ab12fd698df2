-- A text is that of one script alone.
use Rattle.std.proofs.Common.{◌≡◌, ℕ, ◌<◌, ◌^◌, List, [], ◌∷◌, ◌++◌, map, codes, decimal, refl, sym, ap, ◌∙◌, subst, arith, get_or}
use Rattle.std.specs.List.{AllByRecursion}
use Rattle.std.proofs.lemmas.List.{append_cancel_left}
use Rattle.rows.specs.declared.kind.Kind.{Kind}
use Rattle.rows.specs.Limits.{workers_max, replicas_max}
use Rattle.rows.specs.Text.{words_text}
use Rattle.script.specs.declared.event.Event.{Event}
use Rattle.script.specs.declared.event.Event.TheVariants.{Begin, Insert, Set, Delete, Get, Commit, Abort, Flush, Push, Deliver, Show, Open}
use Rattle.script.specs.declared.event.Event.TheVariants.{Ask, Renew, Run, Stop, Start, Version, Dump, Restart, Raw, AddColumn, Base}
use Rattle.script.specs.declared.setup.Setup.{Setup}
use Rattle.script.specs.declared.settings.Settings.TheVariants.{Ready}
use Rattle.script.specs.Tables.{name_in}
use Rattle.script.specs.EventText.{event_words, event_text}
use Rattle.script.specs.EventLines.{IsEventLine}
use Rattle.script.specs.Settings.{IsCount, IsSetup, settings_lines, table_line, workers_line, replicas_line}
use Rattle.script.specs.Scripts.{AreEvents, events_lines}
use Rattle.script.specs.Laws.{TextsDetermineScripts}
use Rattle.script.proofs.Plain.{decimal-same}
use Rattle.script.proofs.TableLines.{HasTableLine, table-same, schema-has-lines}
use Rattle.script.proofs.ReadLines.{event-once}

abbrev first_byte : List ℕ → ℕ
first_byte line = get_or line 0 0

-- no event has a table's line, since none begins with its first letter
pub event-no-table : (naming : ℕ → List ℕ) (event : Event) (table : List ℕ × List Kind)
    → words_text (event_words naming event) ≡ table_line table → ⊥
event-no-table naming Begin table same = let heads : 98 ≡ 116 = ap first_byte same in omega (arith, heads)
event-no-table naming (Insert transaction at row values) table same = let heads : 105 ≡ 116 = ap first_byte same in omega (arith, heads)
event-no-table naming (Set transaction at row column value) table same = let heads : 115 ≡ 116 = ap first_byte same in omega (arith, heads)
event-no-table naming (Delete transaction at row) table same = let heads : 100 ≡ 116 = ap first_byte same in omega (arith, heads)
event-no-table naming (AddColumn transaction at default) table same = let heads : 99 ≡ 116 = ap first_byte same in omega (arith, heads)
event-no-table naming (Get transaction at row column) table same = let heads : 103 ≡ 116 = ap first_byte same in omega (arith, heads)
event-no-table naming (Commit transaction worker) table same = let heads : 99 ≡ 116 = ap first_byte same in omega (arith, heads)
event-no-table naming (Abort transaction) table same = let heads : 97 ≡ 116 = ap first_byte same in omega (arith, heads)
event-no-table naming (Flush count) table same = let heads : 102 ≡ 116 = ap first_byte same in omega (arith, heads)
event-no-table naming Base table same = let heads : 98 ≡ 116 = ap first_byte same in omega (arith, heads)
event-no-table naming (Stop bytes) table same = let heads : 115 ≡ 116 = ap first_byte same in omega (arith, heads)
event-no-table naming Start table same = let heads : 115 ≡ 116 = ap first_byte same in omega (arith, heads)
event-no-table naming (Push worker seq) table same = let heads : 112 ≡ 116 = ap first_byte same in omega (arith, heads)
event-no-table naming (Deliver index node) table same = let heads : 100 ≡ 116 = ap first_byte same in omega (arith, heads)
event-no-table naming (Show index) table same = let heads : 115 ≡ 116 = ap first_byte same in omega (arith, heads)
event-no-table naming (Open replica plan) table same = let heads : 111 ≡ 116 = ap first_byte same in omega (arith, heads)
event-no-table naming (Ask replica) table same = let heads : 97 ≡ 116 = ap first_byte same in omega (arith, heads)
event-no-table naming (Renew replica) table same = let heads : 114 ≡ 116 = ap first_byte same in omega (arith, heads)
event-no-table naming (Run replica) table same = let heads : 114 ≡ 116 = ap first_byte same in omega (arith, heads)
event-no-table naming (Version replica) table same = let heads : 118 ≡ 116 = ap first_byte same in omega (arith, heads)
event-no-table naming (Dump replica) table same = let heads : 100 ≡ 116 = ap first_byte same in omega (arith, heads)
event-no-table naming (Restart replica boot) table same = let heads : 114 ≡ 116 = ap first_byte same in omega (arith, heads)
event-no-table naming (Raw node bytes) table same = let heads : 114 ≡ 116 = ap first_byte same in omega (arith, heads)

-- lines of tables and then of events are those of the same tables, and then of events with the same lines
tables-same : (schema other : List (List ℕ × List Kind)) (ones others : List (List ℕ × List Kind)) (events more : List Event)
    → AllByRecursion HasTableLine ones → AllByRecursion HasTableLine others
    → map table_line ones ++ map (event_text schema) events ≡ map table_line others ++ map (event_text other) more
    → (ones ≡ others) × (map (event_text schema) events ≡ map (event_text other) more)
tables-same schema other [] [] events more one_good other_good same = (refl, same)
tables-same schema other [] (table ∷ others) [] more one_good other_good same = absurd (let no : ⊥ = cc in no)
tables-same schema other [] (table ∷ others) (event ∷ events) more one_good other_good same =
    let heads : event_text schema event ≡ table_line table = cc in
    absurd (event-no-table (name_in schema) event table heads)
tables-same schema other (table ∷ ones) [] events [] one_good other_good same = absurd (let no : ⊥ = cc in no)
tables-same schema other (table ∷ ones) [] events (event ∷ more) one_good other_good same =
    let heads : event_text other event ≡ table_line table = cc in
    absurd (event-no-table (name_in other) event table heads)
tables-same schema other (one ∷ ones) (two ∷ others) events more one_good other_good same =
    let heads : table_line one ≡ table_line two = cc in
    let tails : map table_line ones ++ map (event_text schema) events ≡ map table_line others ++ map (event_text other) more = cc in
    let first : one ≡ two = table-same one two one_good.0 other_good.0 heads in
    let rest = tables-same schema other ones others events more one_good.1 other_good.1 tails in
    let tables : ones ≡ others = rest.0 in
    (cc, rest.1)

-- events with the same lines are the same
events-same : (setup : Setup) (events more : List Event) → setup.workers < 2 ^ 64 → setup.replicas < 2 ^ 64
    → AllByRecursion (λ event. IsEventLine setup (event_text setup.schema event) event) events
    → AllByRecursion (λ event. IsEventLine setup (event_text setup.schema event) event) more
    → map (event_text setup.schema) events ≡ map (event_text setup.schema) more → events ≡ more
events-same setup [] [] w r good more_good same = refl
events-same setup [] (event ∷ more) w r good more_good same = cc
events-same setup (event ∷ events) [] w r good more_good same = cc
events-same setup (one ∷ events) (two ∷ more) w r good more_good same =
    let heads : event_text setup.schema one ≡ event_text setup.schema two = cc in
    let tails : map (event_text setup.schema) events ≡ map (event_text setup.schema) more = cc in
    let P : List ℕ → Type 0 = λ line. IsEventLine setup line two in
    let first : one ≡ two = event-once setup (event_text setup.schema one) one two w r good.0 (subst P (sym heads) more_good.0) in
    let rest : events ≡ more = events-same setup events more w r good.1 more_good.1 tails in
    cc

pub workers-same : (one other : ℕ) → IsCount workers_max one → IsCount workers_max other → workers_line one ≡ workers_line other
    → one ≡ other
workers-same one other one_is other_is same =
    decimal-same one other (omega (arith, one_is.1)) (omega (arith, other_is.1))
    (append_cancel_left (codes "workers" ++ 32 ∷ []) (decimal one) (decimal other) same)

pub replicas-same : (one other : ℕ) → IsCount replicas_max one → IsCount replicas_max other → replicas_line one ≡ replicas_line other
    → one ≡ other
replicas-same one other one_is other_is same =
    decimal-same one other (omega (arith, one_is.1)) (omega (arith, other_is.1))
    (append_cancel_left (codes "replicas" ++ 32 ∷ []) (decimal one) (decimal other) same)

pub setup-same : (one other : Setup) → one.schema ≡ other.schema → one.workers ≡ other.workers → one.replicas ≡ other.replicas → one ≡ other
setup-same one other schemas workers replicas =
    ap (λ schema. record { schema = schema; workers = one.workers; replicas = one.replicas }) schemas
    ∙ ap (λ count. record { schema = other.schema; workers = count; replicas = one.replicas }) workers
    ∙ ap (λ count. record { schema = other.schema; workers = other.workers; replicas = count }) replicas

-- settings and events with one list of lines are one
pub same-script : (one other : Setup) (events more : List Event) → IsSetup one → IsSetup other → AreEvents (Ready one) events
    → AreEvents (Ready other) more
    → settings_lines (Ready one) ++ events_lines (Ready one) events ≡ settings_lines (Ready other) ++ events_lines (Ready other) more
    → (one ≡ other) × (events ≡ more)
same-script one other events more one_is other_is good also lines =
    let first : workers_line one.workers ≡ workers_line other.workers = cc in
    let second : replicas_line one.replicas ≡ replicas_line other.replicas = cc in
    let rest : map table_line one.schema ++ map (event_text one.schema) events
    ≡ map table_line other.schema ++ map (event_text other.schema) more = cc in
    let tables = tables-same one.schema other.schema one.schema other.schema events more
    (schema-has-lines one.schema one_is.names one_is.tables) (schema-has-lines other.schema other_is.names other_is.tables) rest in
    let setups : one ≡ other =
    setup-same one other tables.0 (workers-same one.workers other.workers one_is.workers other_is.workers first)
    (replicas-same one.replicas other.replicas one_is.replicas other_is.replicas second) in
    let P : Setup → Type 0 = λ setup. AreEvents (Ready setup) more in
    let Q : List (List ℕ × List Kind) → Type 0 = λ schema. map (event_text one.schema) events ≡ map (event_text schema) more in (
      setups,
      events-same one events more (omega (arith, one_is.workers.1)) (omega (arith, one_is.replicas.1)) good
          (subst P (sym setups) also) (subst Q (sym tables.0) tables.1),
    )

pub script-once : TextsDetermineScripts
script-once text one other events more is also =
    same-script one other events more is.good_settings also.good_settings is.good_events also.good_events (sym is.kept ∙ also.kept)
