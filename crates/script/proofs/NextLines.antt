-- What a line is that goes on with settings and events: the next setting, or an event.
use Rattle.std.proofs.Common.{◌≡◌, ℕ, ◌<◌, ◌+◌, ◌==◌, nat_lt, cond, Bool, true, false, List, [], ◌∷◌, ◌++◌, length, map}
use Rattle.std.proofs.Common.{Option, None, Some, ◌⊎◌}
use Rattle.std.proofs.Common.{refl, sym, ap, ◌∙◌, subst, arith, inl, inr, append_assoc, length-append}
use Rattle.std.specs.List.{AllByRecursion, list_all}
use Rattle.std.proofs.lemmas.Bool.{and_parts}
use Rattle.std.proofs.lemmas.Bool.Decides.{nat_tests}
use Rattle.std.proofs.lemmas.List.{map-append}
use Rattle.std.proofs.lemmas.List.Folds.{list_all-append}
use Rattle.rows.specs.declared.kind.Kind.{Kind}
use Rattle.rows.specs.declared.faults.SchemaFault.TheVariants.{Empty, TooManyTables}
use Rattle.rows.specs.Limits.{tables_max, workers_max, replicas_max}
use Rattle.rows.specs.SchemaFaults.{schema_fault, table_fault, tables_fault}
use Rattle.script.specs.declared.event.Event.{Event}
use Rattle.script.specs.declared.settings.Settings.{Settings}
use Rattle.script.specs.declared.settings.Settings.TheVariants.{Nothing, Workers, Replicas, Ready}
use Rattle.script.specs.declared.setup.Setup.{Setup}
use Rattle.script.specs.Text.{is_name}
use Rattle.script.specs.Tables.{name_in}
use Rattle.script.specs.EventText.{event_text}
use Rattle.script.specs.EventLines.{IsEventLine, begins_with, setting_names}
use Rattle.script.specs.Settings.{AreSettings, IsCount, IsNextSetting, IsSetup, is_ready, settings_lines}
use Rattle.script.specs.Settings.{table_line, workers_line, replicas_line}
use Rattle.script.specs.Scripts.{AreEvents, events_lines}
use Rattle.script.proofs.TableLines.{HasTableLine, table-same, schema-has-lines, no_fault, neither}
use Rattle.script.proofs.WholeTexts.{event-no-table, same-script, setup-same, workers-same, replicas-same}

-- the line is the next setting; a setting's name begins it, where a table was set before
abbrev pub IsSettingNext : Settings → List Event → List ℕ → Type 0
IsSettingNext settings events line =
    (next : Settings) × IsNextSetting settings line next × (events ≡ [])
    × (is_ready settings ≡ true → begins_with setting_names line ≡ true)

-- the line is that of an event, and so there are events in the end
abbrev pub IsEventNext : Settings → List Event → List ℕ → Type 0
IsEventNext (Ready setup) later line = (event : Event) × IsEventLine setup line event × (later ≡ [] → ⊥)
IsEventNext settings later line = ⊥

abbrev pub GoesOn : Settings → List Event → List Event → List ℕ → Type 0
GoesOn settings events later line = IsSettingNext settings events line ⊎ IsEventNext settings later line

-- the first tables of a schema are one
test-failed : {X : Type 0} (test : Bool) (x : X) (rest : Option X) → cond test (Some x) rest ≡ None → test ≡ false
test-failed true x rest none = cc
test-failed false x rest none = refl

tables-front : (before tables more : List (List ℕ × List Kind)) → tables_fault before (tables ++ more) ≡ None
    → tables_fault before tables ≡ None
tables-front before [] more none = refl
tables-front before (table ∷ tables) more none =
    let both = neither (table_fault before table) (tables_fault (before ++ table ∷ []) (tables ++ more)) none in
    rw both.0 (tables-front (before ++ table ∷ []) tables more both.1)

few-front : (count more : ℕ) → nat_lt tables_max (count + more) ≡ false → nat_lt tables_max count ≡ false
few-front count more few = grind (arith, nat_tests)

schema-front : (tables more : List (List ℕ × List Kind)) → 0 < length tables → schema_fault (tables ++ more) ≡ None
    → schema_fault tables ≡ None
schema-front tables more some none =
    let all = tables ++ more in
    let not_empty = no_fault (length all == 0) Empty _ none in
    let few = test-failed (nat_lt tables_max (length all)) TooManyTables _ not_empty in
    let faultless = no_fault (nat_lt tables_max (length all)) TooManyTables _ not_empty in
    let lengths : length all ≡ length tables + length more = length-append tables more in
    let fewer : nat_lt tables_max (length tables) ≡ false =
    few-front (length tables) (length more) (ap (nat_lt tables_max) (sym lengths) ∙ few) in
    let not_none : (length tables == 0) ≡ false = grind (arith, nat_tests) in
    rw (not_none, fewer) (tables-front [] tables more faultless)

setup-front : (workers replicas : ℕ) (tables more : List (List ℕ × List Kind)) → 0 < length tables → IsCount workers_max workers
    → IsCount replicas_max replicas → list_all (λ table. is_name table.0) (tables ++ more) ≡ true → schema_fault (tables ++ more) ≡ None
    → IsSetup (record { schema = tables; workers = workers; replicas = replicas })
setup-front workers replicas tables more some some_workers some_replicas names sound =
    let is_named : List ℕ × List Kind → Bool = λ table. is_name table.0 in
    let both = and_parts (list_all is_named tables) (list_all is_named more) (sym (list_all-append is_named tables more) ∙ names) in
    record { workers = some_workers; replicas = some_replicas; names = both.0; tables = schema-front tables more some sound }

-- the line of a table begins so
table-begins : (table : List ℕ × List Kind) (line : List ℕ) → table_line table ≡ line → begins_with setting_names line ≡ true
table-begins table line is =
    let begins : begins_with setting_names (table_line table) ≡ true = refl in
    ap (begins_with setting_names) (sym is) ∙ begins

-- behind tables and events stands a line, where tables and then events stand in the end
abbrev IsTableBehind : List (List ℕ × List Kind) → List (List ℕ × List Kind) → List Event → List ℕ → Type 0
IsTableBehind ones others events line =
    (table : List ℕ × List Kind) × (rest : List (List ℕ × List Kind)) × (others ≡ ones ++ table ∷ rest) × (table_line table ≡ line)
    × (events ≡ [])

abbrev AreTablesSame : List (List ℕ × List Kind) → List (List ℕ × List Kind) → List (List ℕ) → List (List ℕ) → Type 0
AreTablesSame ones others lines later = (ones ≡ others) × (lines ≡ later)

tables-meet : (schema other ones others : List (List ℕ × List Kind)) (events later : List Event) (line : List ℕ) (more : List (List ℕ))
    → AllByRecursion HasTableLine ones → AllByRecursion HasTableLine others
    → map table_line ones ++ (map (event_text schema) events ++ line ∷ more) ≡ map table_line others ++ map (event_text other) later
    → AreTablesSame ones others (map (event_text schema) events ++ line ∷ more) (map (event_text other) later)
    ⊎ IsTableBehind ones others events line
tables-meet schema other [] [] events later line more good goods same = inl (refl, same)
tables-meet schema other [] (table ∷ others) [] later line more good goods same =
    let heads : line ≡ table_line table = cc in inr (table, others, refl, sym heads, refl)
tables-meet schema other [] (table ∷ others) (event ∷ events) later line more good goods same =
    let heads : event_text schema event ≡ table_line table = cc in
    absurd (event-no-table (name_in schema) event table heads)
tables-meet schema other (table ∷ ones) [] events [] line more good goods same = absurd (let no : ⊥ = cc in no)
tables-meet schema other (table ∷ ones) [] events (event ∷ later) line more good goods same =
    let heads : event_text other event ≡ table_line table = cc in
    absurd (event-no-table (name_in other) event table heads)
tables-meet schema other (one ∷ ones) (two ∷ others) events later line more good goods same =
    let heads : table_line one ≡ table_line two = cc in
    let tails : map table_line ones ++ (map (event_text schema) events ++ line ∷ more)
    ≡ map table_line others ++ map (event_text other) later = cc in
    let first : one ≡ two = table-same one two good.0 goods.0 heads in
    elim (tables-meet schema other ones others events later line more good.1 goods.1 tails) [
      | inl all ↦ let tables : ones ≡ others = all.0 in inl (cc, all.1)
      | inr last ↦ let tables : others ≡ ones ++ last.0 ∷ last.1 = last.2 in inr (last.0, last.1, cc, last.3, last.4)
    ]

-- the line behind events is that of an event, where more events stand in the end
events-reach : (setup : Setup) (events later : List Event) (line : List ℕ) (more : List (List ℕ))
    → AllByRecursion (λ event. IsEventLine setup (event_text setup.schema event) event) later
    → map (event_text setup.schema) events ++ line ∷ more ≡ map (event_text setup.schema) later
    → (event : Event) × IsEventLine setup line event × (later ≡ [] → ⊥)
events-reach setup [] [] line more good same = absurd (let no : ⊥ = cc in no)
events-reach setup [] (event ∷ later) line more good same =
    let heads : event_text setup.schema event ≡ line = cc in
    let P : List ℕ → Type 0 = λ text. IsEventLine setup text event in
    (event, subst P heads good.0, λ none. let no : ⊥ = cc in no)
events-reach setup (one ∷ events) [] line more good same = absurd (let no : ⊥ = cc in no)
events-reach setup (one ∷ events) (two ∷ later) line more good same =
    let tails : map (event_text setup.schema) events ++ line ∷ more ≡ map (event_text setup.schema) later = cc in
    let found = events-reach setup events later line more good.1 tails in
    (found.0, found.1, λ none. let no : ⊥ = cc in no)

no-more : (front : List (List ℕ)) (line : List ℕ) (more : List (List ℕ)) → front ++ line ∷ more ≡ [] → ⊥
no-more [] line more none = cc
no-more (first ∷ front) line more none = cc

-- the first table
first-behind : (workers replicas : ℕ) (setup : Setup) (later : List Event) (line : List ℕ) (more : List (List ℕ))
    (tables : List (List ℕ × List Kind)) → tables ≡ setup.schema → IsCount workers_max workers → IsCount replicas_max replicas
    → IsSetup setup
    → line ∷ more ≡ map table_line tables ++ map (event_text setup.schema) later
    → (next : Settings) × IsNextSetting (Replicas workers replicas) line next
first-behind workers replicas setup later line more [] is w r good same =
    let none : schema_fault setup.schema ≡ Some Empty = ap schema_fault (sym is) in
    let sound = good.tables in
    absurd (let no : ⊥ = cc in no)
first-behind workers replicas setup later line more (table ∷ tables) is w r good same =
    let heads : table_line table ≡ line = cc in
    let names : list_all (λ table. is_name table.0) (table ∷ tables) ≡ true = ap (list_all (λ table. is_name table.0)) is ∙ good.names in (
      Ready (record { schema = table ∷ []; workers = workers; replicas = replicas }),
      (
        setup-front workers replicas (table ∷ []) tables (omega arith) w r names (ap schema_fault is ∙ good.tables),
        ap (λ (last : List ℕ). workers_line workers ∷ replicas_line replicas ∷ last ∷ []) heads,
      ),
    )

-- a further table
table-behind : (setup other : Setup) (events : List Event) (line : List ℕ) → IsSetup setup → IsSetup other
    → IsTableBehind setup.schema other.schema events line → IsSettingNext (Ready setup) events line
table-behind setup other events line good goods behind =
    let table = behind.0 in
    let longer : other.schema ≡ (setup.schema ++ table ∷ []) ++ behind.1 =
    behind.2 ∙ sym (append_assoc setup.schema (table ∷ []) behind.1) in
    let some : length (setup.schema ++ table ∷ []) ≡ length setup.schema + 1 = length-append setup.schema (table ∷ []) in
    let lines : map table_line (setup.schema ++ table ∷ []) ≡ map table_line setup.schema ++ line ∷ [] =
    map-append table_line setup.schema (table ∷ []) ∙ ap (λ (last : List ℕ). map table_line setup.schema ++ last ∷ []) behind.3 in (
      Ready (record { schema = setup.schema ++ table ∷ []; workers = setup.workers; replicas = setup.replicas }),
      (
        setup-front setup.workers setup.replicas (setup.schema ++ table ∷ []) behind.1 (omega (arith, some)) good.workers good.replicas
            (ap (list_all (λ table. is_name table.0)) (sym longer) ∙ goods.names) (ap schema_fault (sym longer) ∙ goods.tables),
        ap (λ (tables : List (List ℕ)). workers_line setup.workers ∷ replicas_line setup.replicas ∷ tables) lines,
      ),
      behind.4,
      λ ready. table-begins table line behind.3,
    )

-- behind a table
ready-on : (setup other : Setup) (events later : List Event) (line : List ℕ) (more : List (List ℕ)) → IsSetup setup → IsSetup other
    → AreEvents (Ready other) later
    → (settings_lines (Ready setup) ++ map (event_text setup.schema) events) ++ line ∷ more
    ≡ settings_lines (Ready other) ++ map (event_text other.schema) later
    → GoesOn (Ready setup) events later line
ready-on setup other events later line more good goods are same =
    let tables : map table_line setup.schema ++ (map (event_text setup.schema) events ++ line ∷ more)
    ≡ map table_line other.schema ++ map (event_text other.schema) later =
    sym (append_assoc (map table_line setup.schema) (map (event_text setup.schema) events) (line ∷ more)) ∙ tails same in
    elim (tables-meet setup.schema other.schema setup.schema other.schema events later line more
    (schema-has-lines setup.schema good.names good.tables) (schema-has-lines other.schema goods.names goods.tables) tables) [
      | inl all ↦ inr (through all)
      | inr behind ↦ inl (table-behind setup other events line good goods behind)
    ]
  where
    tails : workers_line setup.workers ∷ replicas_line setup.replicas
        ∷ (map table_line setup.schema ++ map (event_text setup.schema) events) ++ line ∷ more
        ≡ workers_line other.workers ∷ replicas_line other.replicas ∷ map table_line other.schema ++ map (event_text other.schema) later
        → (map table_line setup.schema ++ map (event_text setup.schema) events) ++ line ∷ more
        ≡ map table_line other.schema ++ map (event_text other.schema) later
    tails h = cc

    through : AreTablesSame setup.schema other.schema (map (event_text setup.schema) events ++ line ∷ more)
        (map (event_text other.schema) later) → IsEventNext (Ready setup) later line
    through all =
        let first : workers_line setup.workers ≡ workers_line other.workers = cc in
        let second : replicas_line setup.replicas ≡ replicas_line other.replicas = cc in
        let setups : setup ≡ other =
        setup-same setup other all.0 (workers-same setup.workers other.workers good.workers goods.workers first)
        (replicas-same setup.replicas other.replicas good.replicas goods.replicas second) in
        let P : Setup → Type 0 = λ it. AreEvents (Ready it) later in
        let Q : List (List ℕ × List Kind) → Type 0 = λ schema.
        map (event_text setup.schema) events ++ line ∷ more ≡ map (event_text schema) later in
        events-reach setup events later line more (subst P (sym setups) are) (subst Q (sym all.0) all.1)

-- a line that goes on with settings and events, where what is read in the end has it
pub goes-on : (settings after : Settings) (events later : List Event) (line : List ℕ) (more : List (List ℕ)) → AreSettings settings
    → AreEvents settings events → AreSettings after → AreEvents after later
    → (settings_lines settings ++ events_lines settings events) ++ line ∷ more ≡ settings_lines after ++ events_lines after later
    → GoesOn settings events later line
goes-on Nothing Nothing events later line more good are goods others same = absurd (let no : ⊥ = cc in no)
goes-on Nothing (Workers workers) events later line more good are goods others same =
    let heads : workers_line workers ≡ line = cc in
    inl (Workers workers, (goods, ap (λ (last : List ℕ). last ∷ []) heads), are, λ ready. absurd (let no : ⊥ = cc in no))
goes-on Nothing (Replicas workers replicas) events later line more good are goods others same =
    let heads : workers_line workers ≡ line = cc in
    inl (Workers workers, (goods.0, ap (λ (last : List ℕ). last ∷ []) heads), are, λ ready. absurd (let no : ⊥ = cc in no))
goes-on Nothing (Ready setup) events later line more good are goods others same =
    let heads : workers_line setup.workers ≡ line = cc in
    let is : IsSetup setup = goods in
    inl (Workers setup.workers, (is.workers, ap (λ (last : List ℕ). last ∷ []) heads), are, λ ready. absurd (let no : ⊥ = cc in no))
goes-on (Workers one) Nothing events later line more good are goods others same = absurd (let no : ⊥ = cc in no)
goes-on (Workers one) (Workers workers) events later line more good are goods others same = absurd (let no : ⊥ = cc in no)
goes-on (Workers one) (Replicas workers replicas) events later line more good are goods others same =
    let heads : replicas_line replicas ≡ line = cc in
    inl (
      Replicas one replicas,
      ((good, goods.1), ap (λ (last : List ℕ). workers_line one ∷ last ∷ []) heads),
      are,
      λ ready. absurd (let no : ⊥ = cc in no),
    )
goes-on (Workers one) (Ready setup) events later line more good are goods others same =
    let heads : replicas_line setup.replicas ≡ line = cc in
    let is : IsSetup setup = goods in
    inl (
      Replicas one setup.replicas,
      ((good, is.replicas), ap (λ (last : List ℕ). workers_line one ∷ last ∷ []) heads),
      are,
      λ ready. absurd (let no : ⊥ = cc in no),
    )
goes-on (Replicas one two) Nothing events later line more good are goods others same = absurd (let no : ⊥ = cc in no)
goes-on (Replicas one two) (Workers workers) events later line more good are goods others same = absurd (let no : ⊥ = cc in no)
goes-on (Replicas one two) (Replicas workers replicas) events later line more good are goods others same = absurd (let no : ⊥ = cc in no)
goes-on (Replicas one two) (Ready setup) events later line more good are goods others same =
    let tails : line ∷ more ≡ map table_line setup.schema ++ map (event_text setup.schema) later = cc in
    let first = first-behind one two setup later line more setup.schema refl good.0 good.1 goods tails in
    inl (first.0, first.1, are, λ ready. absurd (let no : ⊥ = cc in no))
goes-on (Ready setup) Nothing events later line more good are goods others same = absurd (let no : ⊥ = cc in no)
goes-on (Ready setup) (Workers workers) events later line more good are goods others same = absurd (let no : ⊥ = cc in no)
goes-on (Ready setup) (Replicas workers replicas) events later line more good are goods others same =
    let tails : (map table_line setup.schema ++ map (event_text setup.schema) events) ++ line ∷ more ≡ [] = cc in
    absurd (no-more (map table_line setup.schema ++ map (event_text setup.schema) events) line more tails)
goes-on (Ready setup) (Ready other) events later line more good are goods others same =
    ready-on setup other events later line more good goods others same

none-set : (setup : Setup) (rest : List (List ℕ)) → IsSetup setup → map table_line setup.schema ++ rest ≡ [] → ⊥
none-set setup rest is none = by setup.schema is.tables none
  where
    by : (schema : List (List ℕ × List Kind)) → schema_fault schema ≡ None → map table_line schema ++ rest ≡ [] → ⊥
    by [] sound none = cc
    by (table ∷ schema) sound none = cc

-- lines begin a script in one way
pub begins-once : (settings after : Settings) (events later : List Event) → AreSettings settings → AreEvents settings events
    → AreSettings after → AreEvents after later
    → settings_lines settings ++ events_lines settings events ≡ settings_lines after ++ events_lines after later
    → (settings ≡ after) × (events ≡ later)
begins-once Nothing Nothing events later good are goods others same = (refl, are ∙ sym others)
begins-once Nothing (Workers workers) events later good are goods others same = absurd (let no : ⊥ = cc in no)
begins-once Nothing (Replicas workers replicas) events later good are goods others same = absurd (let no : ⊥ = cc in no)
begins-once Nothing (Ready setup) events later good are goods others same = absurd (let no : ⊥ = cc in no)
begins-once (Workers one) Nothing events later good are goods others same = absurd (let no : ⊥ = cc in no)
begins-once (Workers one) (Workers workers) events later good are goods others same =
    let first : workers_line one ≡ workers_line workers = cc in
    (ap Workers (workers-same one workers good goods first), are ∙ sym others)
begins-once (Workers one) (Replicas workers replicas) events later good are goods others same = absurd (let no : ⊥ = cc in no)
begins-once (Workers one) (Ready setup) events later good are goods others same = absurd (let no : ⊥ = cc in no)
begins-once (Replicas one two) Nothing events later good are goods others same = absurd (let no : ⊥ = cc in no)
begins-once (Replicas one two) (Workers workers) events later good are goods others same = absurd (let no : ⊥ = cc in no)
begins-once (Replicas one two) (Replicas workers replicas) events later good are goods others same =
    let first : workers_line one ≡ workers_line workers = cc in
    let second : replicas_line two ≡ replicas_line replicas = cc in
    let left : one ≡ workers = workers-same one workers good.0 goods.0 first in
    let right : two ≡ replicas = replicas-same two replicas good.1 goods.1 second in
    (ap (λ (it : ℕ). Replicas it two) left ∙ ap (λ (it : ℕ). Replicas workers it) right, are ∙ sym others)
begins-once (Replicas one two) (Ready setup) events later good are goods others same =
    let rest : map table_line setup.schema ++ map (event_text setup.schema) later ≡ [] = cc in
    absurd (none-set setup (map (event_text setup.schema) later) goods rest)
begins-once (Ready setup) Nothing events later good are goods others same = absurd (let no : ⊥ = cc in no)
begins-once (Ready setup) (Workers workers) events later good are goods others same = absurd (let no : ⊥ = cc in no)
begins-once (Ready setup) (Replicas workers replicas) events later good are goods others same =
    let rest : map table_line setup.schema ++ map (event_text setup.schema) events ≡ [] = cc in
    absurd (none-set setup (map (event_text setup.schema) events) good rest)
begins-once (Ready setup) (Ready other) events later good are goods others same =
    let both = same-script setup other events later good goods are others same in
    (ap Ready both.0, both.1)
