-- Two dumps of a run that tell one version are equal.
use Rattle.std.proofs.Common.{Bool, ◌≡◌, ℕ, ◌^◌, ◌<◌, List, [], ◌∷◌, ◌++◌, codes, decimal, refl, sym, ap, subst, ◌∙◌, arith}
use Rattle.std.specs.List.{AllByRecursion}
use Rattle.std.specs.Str.Parse.{AllDigits}
use Rattle.std.proofs.lemmas.Fmt.{decimal_is_IsNumeral, decimal_injective}
use Rattle.std.proofs.lemmas.Str.Parse.{digit_from_value}
use Rattle.std.proofs.lemmas.List.{append_assoc}
use Rattle.rows.specs.declared.commit.Commit.{Commit}
use Rattle.rows.specs.declared.kind.Kind.{Kind}
use Rattle.rows.specs.Shape.{shape_of}
use Rattle.rows.specs.Commits.{tables_after}
use Rattle.dispatcher.specs.TableText.{names_of, row_count, rows_text, table_text}
use Rattle.script.specs.declared.event.Event.{Event}
use Rattle.script.specs.declared.output.Output.{Output}
use Rattle.script.specs.declared.output.Output.TheVariants as outputs
use Rattle.script.specs.declared.setup.Setup.{Setup}
use Rattle.world.specs.Steps.{World, opening_world}
use Rattle.world.specs.Allowed.{Step, LeadsTo, outputs_in, IsAllowed, Runs}
use Rattle.world.specs.Theorem.{SaysRows, TellsVersion, HasOneDumpOfVersion}
use Rattle.world.proofs.Lists.{All-get}
use Rattle.world.proofs.Requested.{step-counts}

-- ---- the version that a text tells

-- digits before a space
digits-end : (one other rest more : List ℕ) → AllDigits 10 one → AllDigits 10 other → one ++ 32 ∷ rest ≡ other ++ 32 ∷ more → one ≡ other
digits-end [] [] rest more a b same = refl
digits-end [] (digit ∷ other) rest more a b same = absurd (let first : 32 ≡ digit = cc in omega (arith, digit_from_value digit b.0))
digits-end (digit ∷ one) [] rest more a b same = absurd (let first : digit ≡ 32 = cc in omega (arith, digit_from_value digit a.0))
digits-end (digit ∷ one) (next ∷ other) rest more a b same =
    let first : digit ≡ next = cc in
    let behind : one ++ 32 ∷ rest ≡ other ++ 32 ∷ more = cc in
    ap (λ (x : ℕ × List ℕ). x.0 ∷ x.1) (cc (first, digits-end one other rest more a.1 b.1 behind))

-- a dump tells its own version, and no other
tells-own : (schema : List (List ℕ × List Kind)) (commits : List Commit) (own version : ℕ) (text : List ℕ) → own < 2 ^ 64 → version < 2 ^ 64
    → text ≡ table_text (names_of schema) own (tables_after (shape_of schema) commits own) → TellsVersion version text → own ≡ version
tells-own schema commits own version text small fits is tells =
    let tables = tables_after (shape_of schema) commits own in
    let words = codes "rows" ++ 32 ∷ decimal (row_count tables) in
    let rows = rows_text (names_of schema) tables in
    let apart = append_assoc (decimal own ++ 32 ∷ words) (10 ∷ []) rows ∙ append_assoc (decimal own) (32 ∷ words) (10 ∷ rows) in
    decimal_injective own version small fits
    (digits-end (decimal own) (decimal version) (words ++ 10 ∷ rows) tells.0 (decimal_is_IsNumeral own small).0.1
    (decimal_is_IsNumeral version fits).0.1 (sym apart ∙ behind (sym is ∙ tells.1)))
  where
    behind : {rest more : List ℕ} → codes "version" ++ 32 ∷ rest ≡ codes "version " ++ more → rest ≡ more
    behind same = cc

-- ---- the dumps of a run

-- what a dump is by the one list
abbrev IsDumpBy : List (List ℕ × List Kind) → List Commit → Output → Type 0
IsDumpBy schema commits (outputs.Dump text) =
    (version : ℕ) × (version < 2 ^ 64) × (text ≡ table_text (names_of schema) version (tables_after (shape_of schema) commits version))
IsDumpBy schema commits other = Unit {0}

says-dump : (schema : List (List ℕ × List Kind)) (commits : List Commit) (w : World) (event : Event) (output : Output)
    → w.primary.schema ≡ schema → SaysRows commits w event output → IsDumpBy schema commits output
says-dump schema commits w event (outputs.Dump text) same h =
    let version = h.1.protocol.version in (
      version,
      h.4.0,
      subst (λ (s : List (List ℕ × List Kind)). text ≡ table_text (names_of s) version (tables_after (shape_of s) commits version)) same
          h.4.2,
    )
says-dump schema commits w event other same h = tt

dumps-by : (schema : List (List ℕ × List Kind)) (commits : List Commit) (old end : World) (steps : List (Step World))
    → old.primary.schema ≡ schema → LeadsTo old steps end → AllByRecursion IsAllowed steps
    → AllByRecursion (λ (step : Step World). SaysRows commits step.old step.event step.output) steps
    → AllByRecursion (IsDumpBy schema commits) (outputs_in steps)
dumps-by schema commits old end [] same leads allowed says = tt
dumps-by schema commits old end (step ∷ steps) same leads allowed says =
    let here = ap (λ (w : World). w.primary.schema) leads.0 ∙ same in
    let stays = step-counts step.old step.event step.output step.new allowed.0 in (
      says-dump schema commits step.old step.event step.output here says.0,
      dumps-by schema commits step.new end steps (stays.schema ∙ here) leads.1 allowed.1 says.1,
    )

pub run-dumps : (setup : Setup) (durable : List Commit) (stopped : Bool) (steps : List (Step World)) (end : World) (commits : List Commit)
    → Runs (opening_world setup durable stopped) steps end
    → AllByRecursion (λ (step : Step World). SaysRows commits step.old step.event step.output) steps
    → HasOneDumpOfVersion (outputs_in steps)
run-dumps setup durable stopped steps end commits run says version i j text other fits here there one two =
    let schema = setup.schema in
    let done = outputs_in steps in
    let all = dumps-by schema commits (opening_world setup durable stopped) end steps refl run.leads run.allowed says in
    let first = All-get (IsDumpBy schema commits) done all i (outputs.Dump text) here in
    let second = All-get (IsDumpBy schema commits) done all j (outputs.Dump other) there in
    let same =
    tells-own schema commits first.0 version text first.1 fits first.2 one
    ∙ sym (tells-own schema commits second.0 version other second.1 fits second.2 two) in
    first.2 ∙ ap (λ (v : ℕ). table_text (names_of schema) v (tables_after (shape_of schema) commits v)) same ∙ sym second.2
