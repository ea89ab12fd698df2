-- What is read is spelled so: an event that words give has these words, and what is no event begins as it is said.
use Rattle.std.proofs.Common.{◌≡◌, ℕ, ◌<◌, ◌^◌, List, [], ◌∷◌, map, length, drop, Bool, true, false, cond, Option}
use Rattle.std.proofs.Common.{None, Some, Result, Ok, Err}
use Rattle.std.proofs.Common.{refl, sym, ap, ◌∙◌, subst, arith, slice_index, ◌==◌, codes, decimal}
use Rattle.std.specs.List.{AllByRecursion, list_any}
use Rattle.std.specs.Str.{bytes_eq}
use Rattle.rows.specs.declared.row_id.RowId.{RowId}
use Rattle.rows.specs.declared.value.Value.{Value}
use Rattle.rows.specs.declared.value.Value.TheVariants.{Int, Octets}
use Rattle.std.proofs.Math.ListN.{length-map}
use Rattle.rows.specs.Spelling.{AreBytes}
use Rattle.rows.specs.Text.{value_text}
use Rattle.script.specs.declared.event.Event.{Event}
use Rattle.script.specs.declared.event.Event.TheVariants.{Begin, Insert, Set, Delete, Get, Commit, Abort, Flush, Push, Deliver, Show, Open}
use Rattle.script.specs.declared.event.Event.TheVariants.{Ask, Renew, Run, Stop, Start, Version, Dump, Restart, Raw, AddColumn, Base}
use Rattle.script.specs.declared.event.Node.{Node}
use Rattle.script.specs.declared.event.Node.TheVariants.{Primary, Replica}
use Rattle.script.specs.declared.setup.Setup.{Setup}
use Rattle.script.specs.declared.faults.Reason.{Reason}
use Rattle.script.specs.declared.faults.Reason.TheVariants.{NotText, BadSetting, UnknownEvent, BadWords, NoTable}
use Rattle.script.specs.Text.{is_name}
use Rattle.script.specs.EventText.{event_words, tables_in, node_text, bytes_text}
use Rattle.script.specs.Events.{HasLine, IsPossible, IsThere, IsValue}
use Rattle.script.specs.Values.{HasWord}
use Rattle.script.specs.Tables.{name_in, table_called, AreNamed, AreFound, IsOneMissing}
use Rattle.script.specs.EventLines.{event_names, setting_names}
use Rattle.script.specs.Inner.WordReading.{both, two, made, number_of, below_of, value_of, values_in_words, hex_of, or_no_table, table_of}
use Rattle.script.specs.Inner.PlanReading.{plan_of}
use Rattle.script.specs.Inner.Reading.{given_as_wanted, on_table, or_bad_words, row_id, row_of, node_of, pair_of, replica_of}
use Rattle.script.specs.Inner.Reading.{one_of, two_of, three_of, four_of, five_of, three_and_more}
use Rattle.script.specs.Inner.Reading.{begin_of, commit_of, abort_of, flush_of, base_of, stop_of, start_of, deliver_of, show_of, raw_of}
use Rattle.script.specs.Inner.Reading.{insert_of, set_of, delete_of, add_column_of, get_of, open_event, open_of}
use Rattle.script.specs.Inner.Reading.{replica_event, network_event, primary_event, event_of}
use Rattle.queries.specs.declared.plan.Plan.{Plan}
use Rattle.script.proofs.Tables.{named_so}
use Rattle.script.proofs.PlanLaws.{IsPlanSound, plan-sound}
use Rattle.script.proofs.Numbers.{number_of-some, below_of-some, first-is, words_same}
use Rattle.script.proofs.Hex.{two-some, made-some, hex_of-some}
use Rattle.script.proofs.Values.{value_of-some, values_of-some}

-- words are those of an event that a line can have, whose tables have these names
pub record IsOf (setup : Setup) (naming : ℕ → List ℕ) (event : Event) (words : List (List ℕ)) : Type 0 where
  pub named : AreNamed naming (tables_in event)
  pub form : HasLine event
  pub possible : IsPossible setup.workers setup.replicas event
  pub spelled : event_words naming event ≡ words

abbrev pub is_known : List ℕ → Bool
is_known first = list_any (λ name. bytes_eq first name) event_names

abbrev pub sets : List ℕ → Bool
sets first = list_any (λ name. bytes_eq first name) setting_names

-- what an answer on these words says of them
abbrev pub IsSound : Setup → List ℕ → List (List ℕ) → Result Event Reason → Type 0
IsSound setup first words (Ok event) =
    IsOf setup (name_in setup.schema) event (first ∷ words) × AreFound setup.schema (tables_in event)
IsSound setup first words (Err NotText) = ⊥
IsSound setup first words (Err BadSetting) = sets first ≡ true
IsSound setup first words (Err UnknownEvent) = (sets first ≡ false) × (is_known first ≡ false)
IsSound setup first words (Err BadWords) = is_known first ≡ true
IsSound setup first words (Err NoTable) =
    (naming : ℕ → List ℕ) × (event : Event) × IsOf setup naming event (first ∷ words)
    × IsOneMissing setup.schema naming (tables_in event)

-- the same as a record: its type tells the setup, the words and the answer, so that a call need not name them
record Sound (setup : Setup) (first : List ℕ) (words : List (List ℕ)) (answer : Result Event Reason) : Type 0 where
  pub holds : IsSound setup first words answer

bad : {setup : Setup} {first : List ℕ} {words : List (List ℕ)} → is_known first ≡ true → Sound setup first words (Err BadWords)
bad known = record { holds = known }

row_of-some : (transaction row : List ℕ) (at : ℕ × RowId) → row_of transaction row ≡ Some at
    → (at.0 < 2 ^ 64) × (at.1.0 < 2 ^ 64) × (decimal at.0 ≡ transaction) × (decimal at.1.0 ≡ row)
unfolding row_of
row_of-some transaction row at h =
    let p = two-some (number_of transaction) (made row_id (number_of row)) at h in
    let q = made-some row_id (number_of row) at.1 p.1 in
    let t = number_of-some transaction at.0 p.0 in
    let r = number_of-some row q.0 q.1 in
    let same : q.0 ≡ at.1.0 = ap (λ (id : RowId). id.0) q.2 in
    (t.0, omega arith, t.1, ap decimal (sym same) ∙ r.1)

node_of-some : (replicas : ℕ) (word : List ℕ) (node : Node) → node_of replicas word ≡ Some node
    → IsThere replicas node × (node_text node ≡ word)
unfolding node_of
node_of-some replicas word node h = by (bytes_eq word (codes "p")) refl (slice_index word 0 == 114) refl h
  where
    by : (is : Bool) → bytes_eq word (codes "p") ≡ is → (r : Bool) → (slice_index word 0 == 114) ≡ r
        → cond is (Some Primary) (cond r (made Replica (below_of replicas (drop 1 word))) None) ≡ Some node
        → IsThere replicas node × (node_text node ≡ word)
    by true e r f k =
        let same : Primary ≡ node = cc in rw (sym same) (tt, sym (words_same word (codes "p") e))
    by false e true f k =
        let p = made-some Replica (below_of replicas (drop 1 word)) node k in
        let s = below_of-some replicas (drop 1 word) p.0 p.1 in
        rw (sym p.2) (s.0, ap (λ (rest : List ℕ). 114 ∷ rest) s.1 ∙ first-is 114 word (omega arith) f)
    by false e false f k = absurd (cc)

-- a part of a line: how a word is read, and what a word that is read is
record Part (A : Type 0) : Type 1 where
  pub read : List ℕ → Option A
  pub text : A → List ℕ
  pub IsFine : A → Type 0
  pub told : (word : List ℕ) (a : A) → read word ≡ Some a → IsFine a × (text a ≡ word)

abbrev number : Part ℕ
number = record { read = number_of; text = decimal; IsFine = λ n. n < 2 ^ 64; told = number_of-some }

abbrev below : ℕ → Part ℕ
below limit = record { read = below_of limit; text = decimal; IsFine = λ n. n < limit; told = below_of-some limit }

abbrev hex : Part (List ℕ)
hex = record { read = hex_of; text = bytes_text; IsFine = AreBytes; told = hex_of-some }

abbrev node : ℕ → Part Node
node replicas = record { read = node_of replicas; text = node_text; IsFine = IsThere replicas; told = node_of-some replicas }

-- an event that a line can have, on these tables and of these words
abbrev Fits : Setup → (ℕ → List ℕ) → Event → List ℕ → List (List ℕ) → Type 0
Fits setup naming event tables words =
    (tables_in event ≡ tables) × HasLine event × IsPossible setup.workers setup.replicas event × (event_words naming event ≡ words)

fits-is : {setup : Setup} {naming : ℕ → List ℕ} {event : Event} {tables : List ℕ} {words : List (List ℕ)}
    → Fits setup naming event tables words → AreNamed naming tables → IsOf setup naming event words
fits-is {naming = naming} fits named =
    record { named = subst (AreNamed naming) (sym fits.0) named; form = fits.1; possible = fits.2; spelled = fits.3 }

-- an event on no table
abbrev Alone : Setup → List ℕ → Event → List (List ℕ) → Type 0
Alone setup first event words = Fits setup (name_in setup.schema) event [] (first ∷ words)

plain : {setup : Setup} {first : List ℕ} {event : Event} {words : List (List ℕ)} → Alone setup first event words
    → Sound setup first words (Ok event)
plain {setup = setup} fits = record { holds = (fits-is fits tt, subst (AreFound setup.schema) (sym fits.0) tt) }

-- a line of its first word alone, of one part behind it, and of two
none-sound : {setup : Setup} {first : List ℕ} (words : List (List ℕ)) (found : List (List ℕ) → Option Event) (event : Event)
    → is_known first ≡ true → found [] ≡ Some event → ((word : List ℕ) (more : List (List ℕ)) → found (word ∷ more) ≡ None)
    → Alone setup first event [] → Sound setup first words (or_bad_words (found words))
none-sound [] found event known is none fits = rw is (plain fits)
none-sound (word ∷ more) found event known is none fits = rw (none word more) (bad known)

one-sound : {A : Type 0} {setup : Setup} {first : List ℕ} (words : List (List ℕ)) (part : Part A) (make : A → Event)
    → is_known first ≡ true → ((a : A) → part.IsFine a → Alone setup first (make a) (part.text a ∷ []))
    → Sound setup first words (or_bad_words (given_as_wanted (one_of words) (λ it. made make (part.read it))))
unfolding one_of
one-sound {A = A} {setup = setup} {first = first} (word ∷ []) part make known fits = by (part.read word) refl
  where
    by : (found : Option A) → part.read word ≡ found → Sound setup first (word ∷ []) (or_bad_words (made make found))
    by None e = bad known
    by (Some a) e = let t = part.told word a e in rw (sym t.1) (plain (fits a t.0))
one-sound words part make known fits = bad known

two-sound : {A B : Type 0} {setup : Setup} {first : List ℕ} (words : List (List ℕ)) (one : Part A) (second : Part B) (make : A → B → Event)
    → is_known first ≡ true
    → ((a : A) (b : B) → one.IsFine a → second.IsFine b → Alone setup first (make a b) (one.text a ∷ second.text b ∷ []))
    → Sound setup first words (or_bad_words (given_as_wanted (two_of words) (λ it. both (one.read it.0) (second.read it.1) make)))
unfolding two_of
two-sound {A = A} {B = B} {setup = setup} {first = first} (word ∷ other ∷ []) one second make known fits =
    by (one.read word) refl (second.read other) refl
  where
    by : (a : Option A) → one.read word ≡ a → (b : Option B) → second.read other ≡ b
        → Sound setup first (word ∷ other ∷ []) (or_bad_words (both a b make))
    by (Some a) e (Some b) f =
        let t = one.told word a e in
        let u = second.told other b f in
        rw (sym t.1, sym u.1) (plain (fits a b t.0 u.0))
    by a e b f = bad known
two-sound words one second make known fits = bad known

-- a number below a limit alone, and one with another number
replica-sound : {setup : Setup} {first : List ℕ} (words : List (List ℕ)) (limit : ℕ) (make : ℕ → Event) → is_known first ≡ true
    → ((n : ℕ) → n < limit → Alone setup first (make n) (decimal n ∷ []))
    → Sound setup first words (or_bad_words (made make (replica_of limit words)))
unfolding replica_of one_of
replica-sound (word ∷ []) limit make known fits = one-sound (word ∷ []) (below limit) make known fits
replica-sound words limit make known fits = bad known

made-two : {A B C : Type 0} (a : Option A) (b : Option B) (make : A → B → C) → made (λ it. make it.0 it.1) (two a b) ≡ both a b make
made-two (Some a) (Some b) make = refl
made-two a b make = refl

pair-sound : {setup : Setup} {first : List ℕ} (words : List (List ℕ)) (limit : ℕ) (make : ℕ → ℕ → Event) → is_known first ≡ true
    → ((n other : ℕ) → n < limit → other < 2 ^ 64 → Alone setup first (make n other) (decimal n ∷ decimal other ∷ []))
    → Sound setup first words (or_bad_words (made (λ it. make it.0 it.1) (pair_of limit words)))
unfolding pair_of two_of
pair-sound (word ∷ other ∷ []) limit make known fits =
    rw (made-two (below_of limit word) (number_of other) make) (two-sound (word ∷ other ∷ []) (below limit) number make known fits)
pair-sound words limit make known fits = bad known

-- an event on a table, of parts that words give
located : {A : Type 0} {setup : Setup} {first : List ℕ} {words : List (List ℕ)} (parts : Option A) (name : List ℕ) (make : A → ℕ → Event)
    → is_known first ≡ true
    → ((a : A) (table : ℕ) (naming : ℕ → List ℕ) → parts ≡ Some a → naming table ≡ name
    → Fits setup naming (make a table) (table ∷ []) (first ∷ words))
    → Sound setup first words (on_table parts (table_of setup.schema name) make)
unfolding table_of
located None name make known fits = bad known
located {setup = setup} {first = first} {words = words} (Some a) name make known fits =
    by (is_name name) refl (table_called setup.schema name) refl
  where
    by : (is : Bool) → is_name name ≡ is → (found : Option ℕ) → table_called setup.schema name ≡ found
        → Sound setup first words (on_table (Some a) (cond is (or_no_table found) (Err BadWords)) make)
    by false e found f = bad known
    by true e None f =
        let it = fits a 0 (λ table. name) refl refl in
        let missing = subst (IsOneMissing setup.schema (λ table. name)) (sym it.0) (0, (0, omega arith, refl), f) in
        record { holds = ((λ table. name), make a 0, fits-is it (e, tt), missing) }
    by true e (Some table) f =
        let same : name_in setup.schema table ≡ name = named_so setup.schema name table f in
        let it = fits a table (name_in setup.schema) refl same in
        let found = subst (AreFound setup.schema) (sym it.0) (ap (table_called setup.schema) same ∙ f, tt) in
        record { holds = (fits-is it (ap is_name same ∙ e, tt), found) }

-- an event on a row of a table, with what else its words give
on-row : {A : Type 0} {setup : Setup} {first transaction name row : List ℕ} {words : List (List ℕ)} (rest : Option A)
    (make : ℕ → ℕ → RowId → A → Event) → is_known first ≡ true
    → ((t table : ℕ) (id : RowId) (a : A) (naming : ℕ → List ℕ) → t < 2 ^ 64 → id.0 < 2 ^ 64 → rest ≡ Some a
    → Fits setup naming (make t table id a) (table ∷ []) (first ∷ decimal t ∷ naming table ∷ decimal id.0 ∷ words))
    → Sound setup first (transaction ∷ name ∷ row ∷ words)
    (on_table (two (row_of transaction row) rest) (table_of setup.schema name) (λ it table. make it.0.0 table it.0.1 it.1))
on-row {transaction = transaction} {name = name} {row = row} rest make known fits =
    located (two (row_of transaction row) rest) name (λ it table. make it.0.0 table it.0.1 it.1) known
    (λ it table naming e same.
    let p = two-some (row_of transaction row) rest it e in
    let r = row_of-some transaction row it.0 p.0 in
    rw (sym r.2, sym same, sym r.3) (fits it.0.0 table it.0.1 it.1 naming r.0 r.1 p.1))

-- no two events share a form of three words or more, so each has its own lemma
delete-sound : (setup : Setup) (words : List (List ℕ)) → Sound setup (codes "delete") words (delete_of setup.schema words)
unfolding delete_of three_of
delete-sound setup (transaction ∷ name ∷ row ∷ []) =
    located (row_of transaction row) name (λ at table. Delete at.0 table at.1) refl
    (λ at table naming e same. let r = row_of-some transaction row at e in (refl, (r.0, r.1), r.1, rw (same, r.2, r.3) refl))
delete-sound setup words = bad refl

get-sound : (setup : Setup) (words : List (List ℕ)) → Sound setup (codes "get") words (get_of setup.schema words)
unfolding get_of four_of
get-sound setup (transaction ∷ name ∷ row ∷ column ∷ []) =
    on-row (below_of (2 ^ 8) column) Get refl
    (λ t table id a naming small fits e. let c = below_of-some (2 ^ 8) column a e in (refl, (small, fits, c.0), tt, rw c.1 refl))
get-sound setup words = bad refl

value-possible : (value : Value) → HasWord value → IsValue value
value-possible (Int integer) good = tt
value-possible (Octets bytes) good = good.2

values-possible : (values : List Value) → AllByRecursion HasWord values → AllByRecursion IsValue values
values-possible [] good = tt
values-possible (value ∷ values) good = (value-possible value good.0, values-possible values good.1)

set-sound : (setup : Setup) (words : List (List ℕ)) → Sound setup (codes "set") words (set_of setup.schema words)
unfolding set_of five_of
set-sound setup (transaction ∷ name ∷ row ∷ column ∷ value ∷ []) =
    on-row (two (below_of (2 ^ 8) column) (value_of value)) (λ t table id it. Set t table id it.0 it.1) refl
    (λ t table id it naming small fits e.
    let p = two-some (below_of (2 ^ 8) column) (value_of value) it e in
    let c = below_of-some (2 ^ 8) column it.0 p.0 in
    let v = value_of-some value it.1 p.1 in
    (refl, (small, fits, c.0, v.0), (fits, value-possible it.1 v.0), rw (c.1, v.1) refl))
set-sound setup words = bad refl

add_column-sound : (setup : Setup) (words : List (List ℕ)) → Sound setup (codes "column") words (add_column_of setup.schema words)
unfolding add_column_of three_of
add_column-sound setup (transaction ∷ name ∷ value ∷ []) =
    located (two (number_of transaction) (value_of value)) name (λ it table. AddColumn it.0 table it.1) refl
    (λ it table naming e same.
    let p = two-some (number_of transaction) (value_of value) it e in
    let t = number_of-some transaction it.0 p.0 in
    let v = value_of-some value it.1 p.1 in
    (refl, (t.0, v.0), value-possible it.1 v.0, rw (t.1, same, v.1) refl))
add_column-sound setup words = bad refl

insert-sound : (setup : Setup) (words : List (List ℕ)) → Sound setup (codes "insert") words (insert_of setup.schema words)
unfolding insert_of three_and_more
insert-sound setup (transaction ∷ name ∷ row ∷ first ∷ more) =
    on-row (values_in_words (first ∷ more)) Insert refl
    (λ t table id values naming small fits e.
    let v = values_of-some (first ∷ more) values e in
    let count : length (map value_text values) ≡ length (first ∷ more) = ap (λ (words : List (List ℕ)). length words) v.1 in
    (refl, (small, fits, omega (arith, length-map values value_text), v.0), (fits, values-possible values v.0), rw v.1 refl))
insert-sound setup words = bad refl

open-sound : (setup : Setup) (words : List (List ℕ)) → Sound setup (codes "open") words (open_of setup.schema setup.replicas words)
unfolding open_of
open-sound setup [] = bad refl
open-sound setup (replica ∷ words) =
    by (below_of setup.replicas replica) refl (plan_of setup.schema words) (plan-sound setup.schema words)
  where
    by : (number : Option ℕ) → below_of setup.replicas replica ≡ number → (plan : Result Plan Reason)
        → IsPlanSound setup.schema words plan
        → Sound setup (codes "open") (replica ∷ words) (open_event number plan)
    by (Some number) e (Err NoTable) sound =
        let r = below_of-some setup.replicas replica number e in
        let is : IsOf setup sound.0 (Open number sound.1) (codes "open" ∷ replica ∷ words) =
        record { named = sound.3; form = sound.2; possible = r.0; spelled = rw (r.1, sound.4) refl } in
        record { holds = (sound.0, Open number sound.1, is, sound.5) }
    by (Some number) e (Ok plan) sound =
        let r = below_of-some setup.replicas replica number e in
        record { holds = (record { named = sound.1; form = sound.0; possible = r.0; spelled = rw (r.1, sound.3) refl }, sound.2) }
    by (Some number) e (Err NotText) sound = absurd sound
    by (Some number) e (Err BadSetting) sound = absurd sound
    by (Some number) e (Err UnknownEvent) sound = absurd sound
    by found e plan sound = bad refl

-- where the first word is this one
chosen : {setup : Setup} {first : List ℕ} {words : List (List ℕ)} {ours other : Result Event Reason} (name : List ℕ)
    → Sound setup name words ours → (bytes_eq first name ≡ false → Sound setup first words other)
    → Sound setup first words (cond (bytes_eq first name) ours other)
chosen {setup = setup} {first = first} {words = words} {ours = ours} {other = other} name sound rest = by (bytes_eq first name) refl
  where
    by : (is : Bool) → bytes_eq first name ≡ is → Sound setup first words (cond is ours other)
    by true e = rw (words_same first name e) sound
    by false e = rest e

no_event : {setup : Setup} {first : List ℕ} {words : List (List ℕ)} (is : Bool) → sets first ≡ is → is_known first ≡ false
    → Sound setup first words (cond is (Err BadSetting) (Err UnknownEvent))
no_event true e unknown = record { holds = e }
no_event false e unknown = record { holds = (e, unknown) }

-- the fact named for an event says that the first word is another
of-first : (setup : Setup) (first : List ℕ) (words : List (List ℕ)) → Sound setup first words (event_of setup first words)
unfolding event_of primary_event network_event replica_event begin_of commit_of abort_of flush_of base_of stop_of start_of deliver_of
    show_of raw_of
of-first setup first words =
    chosen (codes "insert") (insert-sound setup words) (λ insert.
    chosen (codes "set") (set-sound setup words) (λ set.
    chosen (codes "delete") (delete-sound setup words) (λ delete.
    chosen (codes "column") (add_column-sound setup words) (λ column.
    chosen (codes "get") (get-sound setup words) (λ get.
    chosen (codes "open") (open-sound setup words) (λ opens.
    chosen (codes "raw") (two-sound words (node setup.replicas) hex Raw refl (λ n bytes is are. (refl, are, (is, are), refl))) (λ raw.
    chosen (codes "begin") (none-sound words begin_of Begin refl refl (λ word more. refl) (refl, tt, tt, refl)) (λ begin.
    chosen (codes "commit") (two-sound words number (below setup.workers) Commit refl (λ t w low is. (refl, low, is, refl))) (λ commit.
    chosen (codes "abort") (one-sound words number Abort refl (λ t low. (refl, low, tt, refl))) (λ abort.
    chosen (codes "flush") (one-sound words (below (2 ^ 32)) Flush refl (λ count low. (refl, low, tt, refl))) (λ flush.
    chosen (codes "base") (none-sound words base_of Base refl refl (λ word more. refl) (refl, tt, tt, refl)) (λ base.
    chosen (codes "stop") (one-sound words number Stop refl (λ bytes low. (refl, low, tt, refl))) (λ stop.
    chosen (codes "start") (none-sound words start_of Start refl refl (λ word more. refl) (refl, tt, tt, refl)) (λ start.
    chosen (codes "push") (pair-sound words setup.workers Push refl (λ w seq is low. (refl, low, is, refl))) (λ push.
    chosen (codes "deliver") (two-sound words number (node setup.replicas) Deliver refl (λ i n low is. (refl, low, is, refl))) (λ deliver.
    chosen (codes "show") (one-sound words number Show refl (λ i low. (refl, low, tt, refl))) (λ show.
    chosen (codes "ask") (replica-sound words setup.replicas Ask refl (λ r is. (refl, tt, is, refl))) (λ ask.
    chosen (codes "renew") (replica-sound words setup.replicas Renew refl (λ r is. (refl, tt, is, refl))) (λ renew.
    chosen (codes "run") (replica-sound words setup.replicas Run refl (λ r is. (refl, tt, is, refl))) (λ run.
    chosen (codes "version") (replica-sound words setup.replicas Version refl (λ r is. (refl, tt, is, refl))) (λ version.
    chosen (codes "dump") (replica-sound words setup.replicas Dump refl (λ r is. (refl, tt, is, refl))) (λ dump.
    chosen (codes "restart") (pair-sound words setup.replicas Restart refl (λ r boot is low. (refl, low, (is, low), refl))) (λ restart.
    no_event (sets first) refl (cc))))))))))))))))))))))))

-- what the words of a line give says of them what it has to
pub event-sound : (setup : Setup) (first : List ℕ) (words : List (List ℕ)) → IsSound setup first words (event_of setup first words)
event-sound setup first words = (of-first setup first words).holds
