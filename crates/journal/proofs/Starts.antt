-- What is recovered where a start was cut short while it wrote.
use Rattle.std.proofs.Common.{◌≡◌, ◌⊎◌, ℕ, ◌+◌, ◌-◌, ◌<◌, ◌≤◌, inl, inr, true, List, [], ◌∷◌, ◌++◌, length, drop, Result, Ok, Err}
use Rattle.std.proofs.Common.{refl, sym, ap, subst, ◌∙◌, append_assoc, length-append, arith}
use Rattle.std.specs.Prelude.{IsOk}
use Rattle.std.proofs.lemmas.Bool.{cases_lt, lt-ltb, or_left}
use Rattle.std.proofs.lemmas.List.{append-nil, nil_from_length}
use Rattle.rows.specs.declared.commit.Commit.{Commit}
use Rattle.rows.specs.Commits.{apply_commits}
use Rattle.rows.specs.Laws.{SpelledAreFound}
use Rattle.rows.specs.Shape.{Shape}
use Rattle.rows.specs.Tables.{Tables, Refusal, opening}
use Rattle.journal.specs.declared.form.Form.{Form}
use Rattle.journal.specs.declared.form.Form.TheVariants.{New, Old, Marked}
use Rattle.journal.specs.Inner.Progress.{RecordsWereRead}
use Rattle.journal.specs.Laws.{StartsAgain, HeaderStartsAgain}
use Rattle.journal.specs.Recovery.{IsBeginning, HasForm, IsJournaled, is_torn, IsRecovered}
use Rattle.journal.specs.Text.{header, mark, journal_text, started, start_writes}
use Rattle.journal.proofs.Recovering.{recovered}
use Rattle.journal.proofs.Stops.{tables_of_ok}
use Rattle.journal.proofs.Texts.{start-marks, started-goes_on}

-- a text, and what is torn behind it
torn-behind : (law : SpelledAreFound) (form : Form) (workers : ℕ) (shape : Shape) (commits : List Commit) (rest : List ℕ)
    → IsJournaled workers shape commits → HasForm form commits → is_torn form rest ≡ true
    → (bytes_kept : ℕ) × IsRecovered workers shape (journal_text form workers shape commits ++ rest) form commits bytes_kept
torn-behind law form workers shape commits rest journaled formed torn =
    let bytes = journal_text form workers shape commits ++ rest in
    let tables = tables_of_ok (apply_commits (opening shape) commits) journaled.legal.defined in
    let read : RecordsWereRead form workers shape bytes commits tables.0 rest = record {
      text = refl;
      formed = formed;
      each = journaled.legal.each;
      records = journaled.records;
      defined = tables.1;
    } in
    (length bytes - length rest, recovered law form workers shape bytes commits tables.0 rest (length bytes - length rest) read refl torn)

-- a text with nothing behind it
whole-text : (law : SpelledAreFound) (form : Form) (workers : ℕ) (shape : Shape) (commits : List Commit) (bytes : List ℕ)
    → IsJournaled workers shape commits → HasForm form commits → bytes ≡ journal_text form workers shape commits
    → (bytes_kept : ℕ) × IsRecovered workers shape bytes form commits bytes_kept
whole-text law form workers shape commits bytes journaled formed e =
    let text = journal_text form workers shape commits in
    let found = torn-behind law form workers shape commits [] journaled formed refl in
    (found.0, subst (λ (b : List ℕ). IsRecovered workers shape b form commits found.0) (append-nil text ∙ sym e) found.1)

-- the mark, or what stands of it
marked-again : (law : SpelledAreFound) (workers : ℕ) (shape : Shape) (commits : List Commit) (front more : List ℕ)
    → IsJournaled workers shape commits → HasForm Old commits → mark ≡ front ++ more
    → (kept : Form) × (bytes_kept : ℕ)
    × IsRecovered workers shape (journal_text Old workers shape commits ++ front) kept commits bytes_kept
    × (started kept (length commits) ≡ Marked (length commits))
marked-again law workers shape commits front more journaled formed e =
    let text = journal_text Old workers shape commits in
    elim (cases_lt (length front) 4) [
      | inl few ↦
          let found = torn-behind law Old workers shape commits front journaled formed (or_left _ _ (lt-ltb _ _ few)) in
          (Old, found.0, found.1, refl)
      | inr enough ↦
          let none : more ≡ [] = nil_from_length more (omega (arith, ap length e, length-append front more)) in
          let whole : front ≡ mark = sym (append-nil front) ∙ ap (λ (t : List ℕ). front ++ t) (sym none) ∙ sym e in
          let marked : HasForm (Marked (length commits)) commits =
          subst (HasForm (Marked (length commits))) (append-nil commits) (started-goes_on Old commits [] formed) in
          let found =
          whole-text law (Marked (length commits)) workers shape commits (text ++ front) journaled marked
          (ap (λ (t : List ℕ). text ++ t) whole ∙ start-marks Old workers shape commits) in
          (Marked (length commits), found.0, found.1, refl)
    ]

-- nothing is written behind a text of version 2
plain-again : (law : SpelledAreFound) (form : Form) (workers : ℕ) (shape : Shape) (commits : List Commit) (front more : List ℕ)
    → IsJournaled workers shape commits → HasForm form commits → [] ≡ front ++ more
    → (bytes_kept : ℕ) × IsRecovered workers shape (journal_text form workers shape commits ++ front) form commits bytes_kept
plain-again law form workers shape commits [] more journaled formed e = torn-behind law form workers shape commits [] journaled formed refl
plain-again law form workers shape commits (byte ∷ front) more journaled formed e = absurd cc

pub starts-again : SpelledAreFound → StartsAgain
starts-again law New workers shape commits front journaled formed begins =
    let found = plain-again law New workers shape commits front begins.0 journaled formed begins.1 in (New, found.0, found.1, refl)
starts-again law Old workers shape commits front journaled formed begins =
    marked-again law workers shape commits front begins.0 journaled formed begins.1
starts-again law (Marked count) workers shape commits front journaled formed begins =
    let found = plain-again law (Marked count) workers shape commits front begins.0 journaled formed begins.1 in
    (Marked count, found.0, found.1, refl)

pub header-again : SpelledAreFound → HeaderStartsAgain
header-again law workers shape bytes begins =
    let head = header New workers shape in
    elim (cases_lt (length bytes) (length head)) [
      | inl short ↦ (0, inl ((New, begins, short), refl, refl, refl))
      | inr long ↦
          let none : begins.0 ≡ [] = nil_from_length begins.0 (omega (arith, ap length begins.1, length-append bytes begins.0)) in
          let whole : bytes ≡ head = sym (append-nil bytes) ∙ ap (λ (t : List ℕ). bytes ++ t) (sym none) ∙ sym begins.1 in
          whole-text law New workers shape [] bytes (record { legal = record { each = tt; defined = refl }; records = tt }) tt
          (whole ∙ sym (append-nil head))
    ]
