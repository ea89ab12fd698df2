-- What a journal keeps once it was repaired, or partly.
use Rattle.std.proofs.Common.{◌≡◌, ◌+◌, ◌^◌, ◌<◌, ◌≤◌, ℕ, Bool, true, false, List, [], ◌++◌, length, take, drop, nat_lt, cond}
use Rattle.std.proofs.Common.{◌||◌, ◌&&◌}
use Rattle.std.proofs.Common.{refl, sym, ap, subst, ◌∙◌, inl, inr, arith, append_assoc, append-nil, length-append}
use Rattle.std.specs.Prelude.{◌==◌}
use Rattle.std.proofs.lemmas.Bool.{cases_lt, lt-ltb, ltb-true, le-ltb, or_left, or_right, and_from, and_parts, ne_eqb}
use Rattle.std.proofs.lemmas.List.{take-append-drop, take-append-le, drop-append-le, take_at, length-take-le}
use Rattle.byteorder.specs.Endian.{big_number}
use Rattle.byteorder.specs.Numbers.{big_from-append}
use Rattle.rows.specs.declared.commit.Commit.{Commit}
use Rattle.rows.specs.Shape.{Shape}
use Rattle.update_log.specs.Laws.{CutIsShort}
use Rattle.journal.specs.declared.faults.JournalFault.{JournalFault}
use Rattle.journal.specs.declared.faults.JournalFault.TheVariants.{OtherHeader, Damaged, OutOfOrder, Illegal, Memory}
use Rattle.journal.specs.declared.form.Form.{Form}
use Rattle.journal.specs.declared.form.Form.TheVariants.{New, Old, Marked}
use Rattle.journal.specs.Laws.{IsRecoveredOnce, IsNotRefused, IsRefusedOnce, StartMarks, StartedGoesOn, StartsAgain, HeaderStartsAgain}
use Rattle.journal.specs.Recovery.{IsBeginning, HasForm, IsKept, IsKeptUpTo, IsRecovered, IsRefusal, HasHeader, is_torn, is_record_len}
use Rattle.journal.specs.Text.{header, mark, records_from, marked_records, journal_text, started, start_writes, missing_text}
use Rattle.primary.specs.declared.faults.StartFault.{StartFault}
use Rattle.primary.specs.declared.faults.StartFault.TheVariants as starts
use Rattle.primary.specs.Inner.Opening.{IsPartlyRepaired}
use Rattle.primary.specs.Journaling.{IsFormOf, IsStartRefusal, TellsFault, KeepsSame, AreNumbered}
use Rattle.primary.proofs.Flushing.{records_from_append}
use Rattle.primary.proofs.Streams.{numbered-short}

-- the records alone are no longer than with the mark
records-within : (form : Form) (commits : List Commit) → HasForm form commits
    → length (records_from 0 commits) ≤ length (marked_records form commits)
records-within New commits formed = omega arith
records-within Old commits formed = omega arith
records-within (Marked count) commits formed =
    let front = take count commits in
    let back = drop count commits in
    let counted : 0 + length front ≡ count = omega (arith, length-take-le count commits formed.0) in
    let records : records_from 0 commits ≡ records_from 0 front ++ records_from count back =
    ap (records_from 0) (sym (take-append-drop count commits)) ∙ records_from_append 0 front back
    ∙ ap (λ n. records_from 0 front ++ records_from n back) counted in
    omega (
      arith,
      ap length records,
      length-append (records_from 0 front) (records_from count back),
      length-append (records_from 0 front) (mark ++ records_from count back),
      length-append mark (records_from count back),
    )

-- what is recovered of bytes is numbered within 64 bits, as there are no more bytes
pub numbered-recovered : (law : CutIsShort) (workers : ℕ) (shape : Shape) (bytes : List ℕ) (form : Form) (commits : List Commit)
    (bytes_kept : ℕ) → IsRecovered workers shape bytes form commits bytes_kept → length bytes < 2 ^ 64 → AreNumbered commits
numbered-recovered law workers shape bytes form commits bytes_kept recovered short = elim recovered [
  | inl ends ↦ subst AreNumbered (sym ends.2) (numbered-short law [] (omega arith))
  | inr kept ↦
      let begins = kept.0.0.is.text in
      numbered-short law commits
      (omega (
        arith,
        ap length begins.1,
        length-append (journal_text form workers shape commits) begins.0,
        length-append (header form workers shape) (marked_records form commits),
        records-within form commits kept.0.0.is.formed,
      ))
]

-- ---- two beginnings of the same list

-- the shorter one begins the longer one
shorter-front : {X : Type 0} (front list all : List X) → IsBeginning front all → IsBeginning list all → length front ≤ length list
    → IsBeginning front list
shorter-front front list all begins begins' short =
    let same : take (length front) list ≡ front =
    sym (take-append-le (length front) list begins'.0 short)
    ∙ ap (take (length front)) (sym begins'.1 ∙ begins.1) ∙ take_at front begins.0 (length front) refl in
    (drop (length front) list, sym (ap (λ t. t ++ drop (length front) list) (sym same) ∙ take-append-drop (length front) list))

-- what begins a beginning begins all
longer-front : {X : Type 0} (front list all : List X) → IsBeginning front list → IsBeginning list all → IsBeginning front all
longer-front front list all begins begins' =
    (begins.0 ++ begins'.0, begins'.1 ∙ ap (λ xs. xs ++ begins'.0) begins.1 ∙ append_assoc front begins.0 begins'.0)

front-length : {X : Type 0} (front list : List X) → IsBeginning front list → length front ≤ length list
front-length front list begins = omega (arith, ap length begins.1, length-append front begins.0)

-- ---- a torn end that was truncated, or truncated in part

torn-front : (form : Form) (front bytes : List ℕ) → IsBeginning front bytes → is_torn form bytes ≡ true → is_torn form front ≡ true
torn-front form front bytes begins torn =
    elim (cases_lt (length front) 4) [
      | inl few ↦ or_left _ _ (lt-ltb _ _ few)
      | inr enough ↦
          let same : big_number 4 bytes ≡ big_number 4 front =
          ap (big_number 4) begins.1 ∙ big_from-append 4 front begins.0 enough in
          let long : nat_lt (length bytes) 4 ≡ false =
          le-ltb (length bytes) 4 (omega (arith, front-length front bytes begins)) in
          let parts =
          and_parts (is_record_len form (big_number 4 bytes)) (nat_lt (length bytes) (4 + big_number 4 bytes))
          (ap (λ b. b || (is_record_len form (big_number 4 bytes) && nat_lt (length bytes) (4 + big_number 4 bytes))) (sym long) ∙ torn) in
          let below = ltb-true (length bytes) (4 + big_number 4 bytes) parts.1 in
          or_right (nat_lt (length front) 4) _
          (and_from _ _ (ap (is_record_len form) (sym same) ∙ parts.0)
          (lt-ltb (length front) (4 + big_number 4 front) (omega (arith, front-length front bytes begins))))
    ]

-- where bytes keep commits, so do their beginnings that hold the text
kept-truncated : (form : Form) (workers : ℕ) (shape : Shape) (old new : List ℕ) (commits : List Commit)
    → IsKept form workers shape old commits
    → IsBeginning new old → length (journal_text form workers shape commits) ≤ length new → IsKept form workers shape new commits
kept-truncated form workers shape old new commits kept begins long = record {
  is =
      record {
        journaled = kept.is.journaled;
        formed = kept.is.formed;
        text = shorter-front (journal_text form workers shape commits) new old kept.is.text begins long;
      };
  longest = λ other others is.
      kept.longest other others (record {
        journaled = is.journaled;
        formed = is.formed;
        text = longer-front (journal_text other workers shape others) new old is.text begins;
      });
}

-- what stands behind as many bytes
drop-front : (n : ℕ) (new old : List ℕ) → IsBeginning new old → n ≤ length new → IsBeginning (drop n new) (drop n old)
drop-front n new old begins within = (begins.0, ap (drop n) begins.1 ∙ drop-append-le n new begins.0 within)

truncated-recovered : (workers : ℕ) (shape : Shape) (old new : List ℕ) (form : Form) (commits : List Commit) (bytes_kept : ℕ)
    → IsRecovered workers shape old form commits bytes_kept → IsBeginning new old → bytes_kept ≤ length new
    → IsRecovered workers shape new form commits bytes_kept
truncated-recovered workers shape old new form commits bytes_kept recovered begins enough = elim recovered [
  | inl ends ↦
      let one = ends.0.0 in
      inl (
        (
          one,
          longer-front new old (header one workers shape) begins ends.0.1,
          omega (arith, ends.0.2, front-length new old begins),
        ),
        ends.1,
        ends.2,
        ends.3,
      )
  | inr kept ↦
      inr (
        (kept-truncated form workers shape old new commits kept.0.0 begins (omega (arith, kept.0.1)), kept.0.1),
        torn-front form (drop bytes_kept new) (drop bytes_kept old) (drop-front bytes_kept new old begins enough) kept.1,
      )
]

-- bytes that are recovered are refused only out of memory, where they begin with a header
only-memory : (workers : ℕ) (shape : Shape) (old new : List ℕ) (form : Form) (commits : List Commit) (bytes_kept : ℕ) → IsNotRefused
    → IsRecovered workers shape old form commits bytes_kept → (HasHeader workers shape old → HasHeader workers shape new)
    → (fault : JournalFault) → IsRefusal workers shape old fault → IsRefusal workers shape new fault
only-memory workers shape old new form commits bytes_kept law recovered front Memory refused = front refused
only-memory workers shape old new form commits bytes_kept law recovered front OtherHeader refused =
    absurd (law form workers shape old commits bytes_kept OtherHeader recovered (λ e. cc) refused)
only-memory workers shape old new form commits bytes_kept law recovered front (Damaged at) refused =
    absurd (law form workers shape old commits bytes_kept (Damaged at) recovered (λ e. cc) refused)
only-memory workers shape old new form commits bytes_kept law recovered front (OutOfOrder at) refused =
    absurd (law form workers shape old commits bytes_kept (OutOfOrder at) recovered (λ e. cc) refused)
only-memory workers shape old new form commits bytes_kept law recovered front (Illegal at) refused =
    absurd (law form workers shape old commits bytes_kept (Illegal at) recovered (λ e. cc) refused)

-- bytes of which the commits of others are recovered, and of which a start makes the same form, keep the same
same-recovered : (workers : ℕ) (shape : Shape) (old new : List ℕ) (form kept : Form) (commits : List Commit) (bytes_kept new_kept : ℕ)
    → IsRecoveredOnce → IsNotRefused → IsRecovered workers shape old form commits bytes_kept
    → IsRecovered workers shape new kept commits new_kept → started kept (length commits) ≡ started form (length commits)
    → (HasHeader workers shape old → HasHeader workers shape new) → KeepsSame workers shape old new
same-recovered workers shape old new form kept commits bytes_kept new_kept once law recovered recovered' starts front = record {
  kept = λ others left found.
      let same = once form found.0 workers shape old commits others bytes_kept found.1 recovered found.2 in (
        kept,
        new_kept,
        subst (λ cs. IsRecovered workers shape new kept cs new_kept) same.1 recovered',
        found.3 ∙ ap (λ f. started f (length others)) (sym same.0)
            ∙ ap (λ (cs : List Commit). started form (length cs)) (sym same.1) ∙ sym starts
            ∙ ap (λ (cs : List Commit). started kept (length cs)) same.1,
      );
  refused = only-memory workers shape old new form commits bytes_kept law recovered front;
}

pub same-bytes : (workers : ℕ) (shape : Shape) (bytes new : List ℕ) → new ≡ bytes → KeepsSame workers shape bytes new
same-bytes workers shape bytes new e = record {
  kept = λ commits form kept. rw e kept;
  refused = λ fault refused. rw e refused;
}

-- ---- repairing

pub kept-within : (workers : ℕ) (shape : Shape) (bytes : List ℕ) (form : Form) (commits : List Commit) (bytes_kept : ℕ)
    → IsRecovered workers shape bytes form commits bytes_kept → bytes_kept ≤ length bytes
kept-within workers shape bytes form commits bytes_kept recovered = elim recovered [
  | inl ends ↦ omega (arith, ends.3)
  | inr kept ↦ omega (arith, kept.0.1, front-length (journal_text form workers shape commits) bytes kept.0.0.is.text)
]

-- the text that is kept, and what a start writes behind it
record TextIsKept (workers : ℕ) (shape : Shape) (bytes : List ℕ) (form : Form) (commits : List Commit) (bytes_kept : ℕ) : Type 0 where
  text : take bytes_kept bytes ≡ journal_text form workers shape commits
  missing : missing_text workers shape form bytes_kept ≡ start_writes form

text-kept : (workers : ℕ) (shape : Shape) (bytes : List ℕ) (form : Form) (commits : List Commit) (bytes_kept : ℕ)
    → IsKeptUpTo form workers shape bytes commits bytes_kept → TextIsKept workers shape bytes form commits bytes_kept
text-kept workers shape bytes form commits bytes_kept kept =
    let text = journal_text form workers shape commits in
    let begins = kept.0.is.text in
    let some : (bytes_kept == 0) ≡ false =
    ne_eqb _ _ (λ none. absurd (omega (arith, none, kept.1, length-append (header form workers shape) (marked_records form commits)))) in
    record {
      text = ap (take bytes_kept) begins.1 ∙ take_at text begins.0 bytes_kept (sym kept.1);
      missing = ap (λ b. cond b (header New workers shape) (start_writes form)) some;
    }

-- what was repaired is the text of what is kept, in the form that a start makes
pub repaired-is_text : (workers : ℕ) (shape : Shape) (bytes missing new : List ℕ) (form : Form) (commits : List Commit) (bytes_kept : ℕ)
    → StartMarks → IsRecovered workers shape bytes form commits bytes_kept → missing ≡ missing_text workers shape form bytes_kept
    → new ≡ take bytes_kept bytes ++ missing → new ≡ journal_text (started form (length commits)) workers shape commits
repaired-is_text workers shape bytes missing new form commits bytes_kept marks recovered is done = elim recovered [
  | inl ends ↦
      done ∙ ap (λ m. take bytes_kept bytes ++ m) is
      ∙ ap (λ n. take n bytes ++ missing_text workers shape form n) ends.3
      ∙ sym (append-nil (header New workers shape))
      ∙ new-text form commits ends.1 ends.2
  | inr kept ↦
      let parts = text-kept workers shape bytes form commits bytes_kept kept.0 in
      done ∙ ap (λ m. take bytes_kept bytes ++ m) (is ∙ parts.missing)
      ∙ ap (λ t. t ++ start_writes form) parts.text ∙ marks form workers shape commits
]
  where
    new-text : (one : Form) (cs : List Commit) → one ≡ New → cs ≡ []
        → header New workers shape ++ [] ≡ journal_text (started one (length cs)) workers shape cs
    new-text one cs e e' = rw (e, e') refl

-- and of that form the text of what is kept may be
pub started-form : (workers : ℕ) (shape : Shape) (bytes : List ℕ) (form : Form) (commits : List Commit) (bytes_kept : ℕ) → StartedGoesOn
    → IsRecovered workers shape bytes form commits bytes_kept → IsFormOf (started form (length commits)) commits
started-form workers shape bytes form commits bytes_kept goes_on recovered = record { new = new form; has = has }
  where
    new : (one : Form) → ¬ (started one (length commits) ≡ Old)
    new New e = absurd cc
    new Old e = absurd cc
    new (Marked count) e = absurd cc

    formed : HasForm form commits
    formed = elim recovered [
      | inl ends ↦ subst (λ f. HasForm f commits) (sym ends.1) tt
      | inr kept ↦ kept.0.0.is.formed
    ]

    has : HasForm (started form (length commits)) commits
    has = subst (HasForm (started form (length commits))) (append-nil commits) (goes_on form commits [] formed)

-- what was repaired in part keeps the same
pub partly-keeps_same : (workers : ℕ) (shape : Shape) (bytes missing new : List ℕ) (form : Form) (commits : List Commit) (bytes_kept : ℕ)
    → IsRecoveredOnce → IsNotRefused → StartsAgain → HeaderStartsAgain → IsRecovered workers shape bytes form commits bytes_kept
    → missing ≡ missing_text workers shape form bytes_kept → IsPartlyRepaired missing bytes bytes_kept new
    → KeepsSame workers shape bytes new
partly-keeps_same workers shape bytes missing new form commits bytes_kept once law again header-again recovered is (inl cut) =
    same-recovered workers shape bytes new form form commits bytes_kept bytes_kept once law recovered
    (truncated-recovered workers shape bytes new form commits bytes_kept recovered cut.0 cut.1) refl (by recovered)
  where
    by : IsRecovered workers shape bytes form commits bytes_kept → HasHeader workers shape bytes → HasHeader workers shape new
    by (inl ends) found =
        absurd (omega (arith, ends.0.2, front-length (header found.0 workers shape) bytes found.1))
    by (inr kept) found = (
      form,
      longer-front (header form workers shape) (journal_text form workers shape commits) new (marked_records form commits, refl)
          (shorter-front (journal_text form workers shape commits) new bytes kept.0.0.is.text cut.0 (omega (arith, kept.0.1, cut.1))),
    )
partly-keeps_same workers shape bytes missing new form commits bytes_kept once law again header-again recovered is (inr part) =
    by recovered
  where
    by : IsRecovered workers shape bytes form commits bytes_kept → KeepsSame workers shape bytes new
    by (inl ends) =
        let none : take bytes_kept bytes ≡ [] = ap (λ n. take n bytes) ends.3 in
        let stands : new ≡ part.0 = part.2 ∙ ap (λ t. t ++ part.0) none in
        let head : missing ≡ header New workers shape = is ∙ ap (missing_text workers shape form) ends.3 in
        let begins : IsBeginning new (header New workers shape) =
        (part.1.0, sym head ∙ part.1.1 ∙ ap (λ t. t ++ part.1.0) (sym stands)) in
        let found = header-again workers shape new begins in
        same-recovered workers shape bytes new form New commits bytes_kept found.0 once law recovered
        (subst (λ cs. IsRecovered workers shape new New cs found.0) (sym ends.2) found.1)
        (ap (λ f. started f (length commits)) (sym ends.1))
        (λ front. absurd (omega (arith, ends.0.2, front-length (header front.0 workers shape) bytes front.1)))
    by (inr kept) =
        let parts = text-kept workers shape bytes form commits bytes_kept kept.0 in
        let text = journal_text form workers shape commits in
        let stands : new ≡ text ++ part.0 = part.2 ∙ ap (λ t. t ++ part.0) parts.text in
        let begins : IsBeginning part.0 (start_writes form) = (part.1.0, sym (is ∙ parts.missing) ∙ part.1.1) in
        let found = again form workers shape commits part.0 kept.0.0.is.journaled kept.0.0.is.formed begins in
        same-recovered workers shape bytes new form found.0 commits bytes_kept found.1 once law recovered
        (subst (λ b. IsRecovered workers shape b found.0 commits found.1) (sym stands) found.2) found.3
        (λ front. (
          form,
          (
            marked_records form commits ++ part.0,
            stands ∙ append_assoc (header form workers shape) (marked_records form commits) part.0,
          ),
        ))

-- bytes that are refused with a fault are refused with no other, so a start tells it
pub tells-fault : {F : Type 0} (workers : ℕ) (shape : Shape) (is_honest : Bool) (bytes : List ℕ) (fault : JournalFault)
    (refusal : StartFault F) → IsRefusedOnce → is_honest ≡ true → IsStartRefusal workers shape is_honest bytes refusal
    → IsRefusal workers shape bytes fault → ¬ (fault ≡ Memory) → TellsFault fault refusal
tells-fault workers shape is_honest bytes fault (starts.Store failure) once honest refused is other = tt
tells-fault workers shape is_honest bytes fault (starts.Journal told) once honest refused is other =
    once workers shape bytes told fault (refused.1 honest) is refused.0 other
tells-fault workers shape is_honest bytes fault starts.Memory once honest refused is other = tt
