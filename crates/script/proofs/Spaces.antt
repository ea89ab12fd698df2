-- No word of an event has a space.
use Rattle.std.proofs.Common.{◌≡◌, ℕ, ◌<◌, ◌^◌, true, List, [], ◌∷◌, map, refl, arith}
use Rattle.std.proofs.Common.{codes, decimal}
use Rattle.std.specs.List.{AllByRecursion}
use Rattle.std.proofs.lemmas.List.Elements.{All-cons}
use Rattle.rows.specs.Text.{value_text}
use Rattle.script.specs.declared.event.Event.{Event}
use Rattle.script.specs.declared.event.Event.TheVariants.{Begin, Insert, Set, Delete, Get, Commit, Abort, Flush, Push, Deliver, Show, Open}
use Rattle.script.specs.declared.event.Event.TheVariants.{Ask, Renew, Run, Stop, Start, Version, Dump, Restart, Raw, AddColumn, Base}
use Rattle.script.specs.declared.event.Node.{Node}
use Rattle.script.specs.declared.event.Node.TheVariants.{Primary, Replica}
use Rattle.script.specs.Text.{is_name}
use Rattle.script.specs.EventText.{event_words, tables_in, node_text}
use Rattle.script.specs.Events.{HasLine, IsPossible, IsThere}
use Rattle.script.specs.Tables.{AreNamed}
use Rattle.script.proofs.PlanLaws.{plan-plain}
use Rattle.script.proofs.WordSpaces.{bytes-plain, value-plain, values-plain}
use Rattle.script.proofs.Plain.{IsNoSpace, plain-by-test, decimal-plain, name-plain}
use Rattle.script.proofs.WordSplitting.{IsPlain}

node-plain : (replicas : ℕ) (node : Node) → replicas < 2 ^ 64 → IsThere replicas node → IsPlain (node_text node)
node-plain replicas Primary h there = plain-by-test (codes "p") refl
node-plain replicas (Replica number) h there =
    All-cons IsNoSpace 114 (decimal number) refl (decimal-plain number (omega arith))

-- the words that say where a transaction changes or looks at a row
located-plain : (transaction row : ℕ) (name : List ℕ) (rest : List (List ℕ)) → transaction < 2 ^ 64 → row < 2 ^ 64
    → is_name name ≡ true → AllByRecursion IsPlain rest
    → AllByRecursion IsPlain (decimal transaction ∷ name ∷ decimal row ∷ rest)
located-plain transaction row name rest number place named are =
    (decimal-plain transaction number, (name-plain name named, (decimal-plain row place, are)))

-- no word of an event has a space
pub event-plain : (workers replicas : ℕ) (naming : ℕ → List ℕ) (event : Event) → workers < 2 ^ 64 → replicas < 2 ^ 64
    → AreNamed naming (tables_in event) → HasLine event → IsPossible workers replicas event
    → AllByRecursion IsPlain (event_words naming event)
event-plain workers replicas naming Begin w r named form possible =
    (plain-by-test (codes "begin") refl, tt)
event-plain workers replicas naming (Insert transaction table row values) w r named form possible =
    let rest = values-plain values form.3 in
    (plain-by-test (codes "insert") refl, located-plain transaction row.0 (naming table) (map value_text values) form.0 form.1 named.0 rest)
event-plain workers replicas naming (Set transaction table row column value) w r named form possible = (
  plain-by-test (codes "set") refl,
  located-plain transaction row.0 (naming table) (decimal column ∷ value_text value ∷ []) form.0 form.1 named.0
      (decimal-plain column (omega arith), (value-plain value form.3, tt)),
)
event-plain workers replicas naming (Delete transaction table row) w r named form possible =
    (plain-by-test (codes "delete") refl, located-plain transaction row.0 (naming table) [] form.0 form.1 named.0 tt)
event-plain workers replicas naming (AddColumn transaction table default) w r named form possible = (
  plain-by-test (codes "column") refl,
  (decimal-plain transaction form.0, (name-plain (naming table) named.0, (value-plain default form.1, tt))),
)
event-plain workers replicas naming (Get transaction table row column) w r named form possible = (
  plain-by-test (codes "get") refl,
  located-plain transaction row.0 (naming table) (decimal column ∷ []) form.0 form.1 named.0
      (decimal-plain column (omega arith), tt),
)
event-plain workers replicas naming (Commit transaction worker) w r named form possible =
    (plain-by-test (codes "commit") refl, (decimal-plain transaction form, (decimal-plain worker (omega arith), tt)))
event-plain workers replicas naming (Abort transaction) w r named form possible =
    (plain-by-test (codes "abort") refl, (decimal-plain transaction form, tt))
event-plain workers replicas naming (Flush count) w r named form possible =
    (plain-by-test (codes "flush") refl, (decimal-plain count (omega arith), tt))
event-plain workers replicas naming Base w r named form possible =
    (plain-by-test (codes "base") refl, tt)
event-plain workers replicas naming (Stop bytes) w r named form possible =
    (plain-by-test (codes "stop") refl, (decimal-plain bytes form, tt))
event-plain workers replicas naming Start w r named form possible =
    (plain-by-test (codes "start") refl, tt)
event-plain workers replicas naming (Push worker seq) w r named form possible =
    (plain-by-test (codes "push") refl, (decimal-plain worker (omega arith), (decimal-plain seq form, tt)))
event-plain workers replicas naming (Deliver index node) w r named form possible =
    (plain-by-test (codes "deliver") refl, (decimal-plain index form, (node-plain replicas node r possible, tt)))
event-plain workers replicas naming (Show index) w r named form possible =
    (plain-by-test (codes "show") refl, (decimal-plain index form, tt))
event-plain workers replicas naming (Open replica plan) w r named form possible =
    (plain-by-test (codes "open") refl, (decimal-plain replica (omega arith), plan-plain naming plan form named))
event-plain workers replicas naming (Ask replica) w r named form possible =
    (plain-by-test (codes "ask") refl, (decimal-plain replica (omega arith), tt))
event-plain workers replicas naming (Renew replica) w r named form possible =
    (plain-by-test (codes "renew") refl, (decimal-plain replica (omega arith), tt))
event-plain workers replicas naming (Run replica) w r named form possible =
    (plain-by-test (codes "run") refl, (decimal-plain replica (omega arith), tt))
event-plain workers replicas naming (Version replica) w r named form possible =
    (plain-by-test (codes "version") refl, (decimal-plain replica (omega arith), tt))
event-plain workers replicas naming (Dump replica) w r named form possible =
    (plain-by-test (codes "dump") refl, (decimal-plain replica (omega arith), tt))
event-plain workers replicas naming (Restart replica boot) w r named form possible =
    let there = possible.0 in
    (plain-by-test (codes "restart") refl, (decimal-plain replica (omega arith), (decimal-plain boot form, tt)))
event-plain workers replicas naming (Raw node bytes) w r named form possible =
    (plain-by-test (codes "raw") refl, (node-plain replicas node r possible.0, (bytes-plain bytes form, tt)))
