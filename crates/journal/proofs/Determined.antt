-- Bytes are recovered in one way, and bytes that are recovered are not refused; others are refused in one way.
use Rattle.std.proofs.Common.{◌≡◌, ℕ, ◌+◌, ◌≤◌, inl, inr, true, false, List, [], ◌∷◌, ◌++◌, length, drop, refl, sym, ap, subst, ◌∙◌}
use Rattle.std.proofs.Common.{length-append, arith}
use Rattle.std.proofs.lemmas.List.{append-nil}
use Rattle.rows.specs.declared.commit.Commit.{Commit}
use Rattle.rows.specs.Laws.{SpelledAreFound}
use Rattle.rows.specs.Shape.{Shape}
use Rattle.journal.specs.declared.form.Form.{Form}
use Rattle.journal.specs.declared.form.Form.TheVariants.{New, Old, Marked}
use Rattle.journal.specs.declared.faults.JournalFault.TheVariants.{OtherHeader, Damaged, OutOfOrder, Illegal, Memory}
use Rattle.journal.specs.Laws.{IsRecoveredOnce, IsNotRefused, IsRefusedOnce, FormStays}
use Rattle.journal.specs.Recovery.{IsBeginning, IsKept, IsKeptUpTo, is_torn, IsRecordAt, HasHeader, EndsInHeader, IsRecovered}
use Rattle.journal.specs.Text.{header, marked_records, journal_text}
use Rattle.journal.proofs.Items.{Item, items_of, same-form, same-items}
use Rattle.journal.proofs.Nesting.{behind_header, one_kept, are_nested, items-length}
use Rattle.journal.proofs.RecordLaws.{record_whole, same_record}

-- bytes that keep a text begin with a header, and do not end in one: all headers have one length
text_header : (form : Form) (workers : ℕ) (shape : Shape) (bytes : List ℕ) (commits : List Commit)
    → IsBeginning (journal_text form workers shape commits) bytes → IsBeginning (header form workers shape) bytes
text_header form workers shape bytes commits text =
    (marked_records form commits ++ text.0, behind_header form workers shape bytes (marked_records form commits) text.0 text.1)

pub header-length : (form other : Form) (workers : ℕ) (shape : Shape)
    → length (header form workers shape) ≡ length (header other workers shape)
header-length form other workers shape = refl

not_within : (form : Form) (workers : ℕ) (shape : Shape) (bytes : List ℕ) (commits : List Commit) → EndsInHeader workers shape bytes
    → ¬ IsBeginning (journal_text form workers shape commits) bytes
not_within form workers shape bytes commits ends text =
    let front = text_header form workers shape bytes commits text in
    let short = ends.2 in
    absurd (omega (
      arith,
      ap length front.1,
      length-append (header form workers shape) front.0,
      header-length form ends.0 workers shape,
      short,
    ))

-- the form, the commits and the offset that two texts which are kept have in common
one_offset : (law : SpelledAreFound) (form other : Form) (workers : ℕ) (shape : Shape) (bytes : List ℕ) (commits others : List Commit)
    (offset behind : ℕ) → IsKeptUpTo form workers shape bytes commits offset → IsKeptUpTo other workers shape bytes others behind
    → (form ≡ other) × (commits ≡ others) × (offset ≡ behind)
one_offset law form other workers shape bytes commits others offset behind one two =
    let same = one_kept law form other workers shape bytes commits others one.0 two.0 in (
      same.0,
      same.1,
      one.1 ∙ lengths same.0 same.1 ∙ sym two.1,
    )
  where
    lengths : form ≡ other → commits ≡ others
        → length (journal_text form workers shape commits) ≡ length (journal_text other workers shape others)
    lengths e e' = rw (e, e') refl

pub is_recovered_once : SpelledAreFound → IsRecoveredOnce
is_recovered_once law form other workers shape bytes commits others kept kept' (inl one) (inl two) =
    (one.1 ∙ sym two.1, one.2 ∙ sym two.2, one.3 ∙ sym two.3)
is_recovered_once law form other workers shape bytes commits others kept kept' (inl one) (inr two) =
    absurd (not_within other workers shape bytes others one.0 two.0.0.is.text)
is_recovered_once law form other workers shape bytes commits others kept kept' (inr one) (inl two) =
    absurd (not_within form workers shape bytes commits two.0 one.0.0.is.text)
is_recovered_once law form other workers shape bytes commits others kept kept' (inr one) (inr two) =
    one_offset law form other workers shape bytes commits others kept kept' one.0 two.0

-- a text of version 2 that begins bytes is recovered as one of its form
pub form_stays : SpelledAreFound → FormStays
form_stays law form kept workers shape bytes commits others bytes_kept runs is (inl ends) =
    absurd (not_within form workers shape bytes commits ends.0 is.text)
form_stays law form kept workers shape bytes commits others bytes_kept runs is (inr recovered) =
    let found = recovered.0.0 in
    let both =
    are_nested law form kept workers shape bytes commits others is.journaled.records found.is.journaled.records is.formed found.is.formed
    is.text found.is.text in
    elim both.items [
      | inl front ↦ same-form form kept commits others front.0 runs is.formed found.is.formed both.code front.1
      | inr front ↦
          let same =
          same-items (items_of kept others) (items_of form commits) front
          (items-length form kept workers shape commits others is.formed found.is.formed both.code (found.longest form commits is)) in
          same-form form kept commits others [] runs is.formed found.is.formed both.code (same ∙ sym (append-nil (items_of form commits)))
    ]

-- a record stands at the front of no bytes that are torn
not_torn : (form : Form) (bytes : List ℕ) (number : ℕ) (commit : Commit) → IsRecordAt form bytes number commit
    → is_torn form bytes ≡ false
not_torn form bytes number commit there =
    ap (is_torn form) there.front.1 ∙ record_whole form number commit there.front.0 there.held

-- what stands behind the kept commits is not torn where bytes are refused
refused_behind : (law : SpelledAreFound) (form other : Form) (workers : ℕ) (shape : Shape) (bytes : List ℕ) (commits others : List Commit)
    (bytes_kept offset : ℕ) → IsRecovered workers shape bytes form commits bytes_kept → IsKeptUpTo other workers shape bytes others offset
    → is_torn other (drop offset bytes) ≡ false → ⊥
refused_behind law form other workers shape bytes commits others kept offset (inl one) two whole =
    absurd (not_within other workers shape bytes others one.0 two.0.is.text)
refused_behind law form other workers shape bytes commits others kept offset (inr one) two whole =
    let same = one_offset law form other workers shape bytes commits others kept offset one.0 two in
    let wrong : true ≡ false =
    sym one.1 ∙ ap (λ (n : ℕ). is_torn form (drop n bytes)) same.2
    ∙ ap (λ (f : Form). is_torn f (drop offset bytes)) same.0 ∙ whole in
    absurd cc

pub is_not_refused : SpelledAreFound → IsNotRefused
is_not_refused law form workers shape bytes commits kept OtherHeader (inl one) other refusal = refusal.1 one.0
is_not_refused law form workers shape bytes commits kept OtherHeader (inr one) other refusal =
    refusal.0 (form, text_header form workers shape bytes commits one.0.0.is.text)
is_not_refused law form workers shape bytes commits kept (Damaged offset) recovered other refusal =
    refused_behind law form refusal.0 workers shape bytes commits refusal.1 kept offset recovered refusal.2 refusal.3.whole
is_not_refused law form workers shape bytes commits kept (OutOfOrder offset) recovered other refusal =
    refused_behind law form refusal.0 workers shape bytes commits refusal.1 kept offset recovered refusal.2
    (not_torn refusal.0 (drop offset bytes) refusal.3.number refusal.3.commit refusal.3.there)
is_not_refused law form workers shape bytes commits kept (Illegal offset) recovered other refusal =
    refused_behind law form refusal.0 workers shape bytes commits refusal.1 kept offset recovered refusal.2
    (not_torn refusal.0 (drop offset bytes) (length refusal.1 + 1) refusal.3.commit refusal.3.there)
is_not_refused law form workers shape bytes commits kept Memory recovered other refusal = other refl

-- bytes that keep commits are not those of another journal
no_other : (form : Form) (workers : ℕ) (shape : Shape) (bytes : List ℕ) (commits : List Commit) → IsKept form workers shape bytes commits
    → ¬ HasHeader workers shape bytes → ⊥
no_other form workers shape bytes commits kept none = none (form, text_header form workers shape bytes commits kept.is.text)

-- a record of one refusal, where another one speaks of it
as_other : (form other : Form) (bytes : List ℕ) (offset behind number : ℕ) (commit : Commit) → form ≡ other → offset ≡ behind
    → IsRecordAt form (drop offset bytes) number commit → IsRecordAt other (drop behind bytes) number commit
as_other form other bytes offset behind number commit same at there = rw (sym same, sym at) there

pub is_refused_once : SpelledAreFound → IsRefusedOnce
is_refused_once law workers shape bytes OtherHeader OtherHeader one two m m' = refl
is_refused_once law workers shape bytes OtherHeader (Damaged o) one two m m' =
    absurd (no_other two.0 workers shape bytes two.1 two.2.0 one.0)
is_refused_once law workers shape bytes OtherHeader (OutOfOrder o) one two m m' =
    absurd (no_other two.0 workers shape bytes two.1 two.2.0 one.0)
is_refused_once law workers shape bytes OtherHeader (Illegal o) one two m m' =
    absurd (no_other two.0 workers shape bytes two.1 two.2.0 one.0)
is_refused_once law workers shape bytes (Damaged o) OtherHeader one two m m' =
    absurd (no_other one.0 workers shape bytes one.1 one.2.0 two.0)
is_refused_once law workers shape bytes (OutOfOrder o) OtherHeader one two m m' =
    absurd (no_other one.0 workers shape bytes one.1 one.2.0 two.0)
is_refused_once law workers shape bytes (Illegal o) OtherHeader one two m m' =
    absurd (no_other one.0 workers shape bytes one.1 one.2.0 two.0)
is_refused_once law workers shape bytes (Damaged o) (Damaged p) one two m m' =
    ap Damaged (one_offset law one.0 two.0 workers shape bytes one.1 two.1 o p one.2 two.2).2
is_refused_once law workers shape bytes (Damaged o) (OutOfOrder p) one two m m' =
    let same = one_offset law one.0 two.0 workers shape bytes one.1 two.1 o p one.2 two.2 in
    absurd (one.3.none two.3.number two.3.commit
    (as_other two.0 one.0 bytes p o two.3.number two.3.commit (sym same.0) (sym same.2) two.3.there))
is_refused_once law workers shape bytes (Damaged o) (Illegal p) one two m m' =
    let same = one_offset law one.0 two.0 workers shape bytes one.1 two.1 o p one.2 two.2 in
    absurd (one.3.none (length two.1 + 1) two.3.commit
    (as_other two.0 one.0 bytes p o (length two.1 + 1) two.3.commit (sym same.0) (sym same.2) two.3.there))
is_refused_once law workers shape bytes (OutOfOrder o) (Damaged p) one two m m' =
    let same = one_offset law one.0 two.0 workers shape bytes one.1 two.1 o p one.2 two.2 in
    absurd (two.3.none one.3.number one.3.commit
    (as_other one.0 two.0 bytes o p one.3.number one.3.commit same.0 same.2 one.3.there))
is_refused_once law workers shape bytes (OutOfOrder o) (OutOfOrder p) one two m m' =
    ap OutOfOrder (one_offset law one.0 two.0 workers shape bytes one.1 two.1 o p one.2 two.2).2
is_refused_once law workers shape bytes (OutOfOrder o) (Illegal p) one two m m' =
    let same = one_offset law one.0 two.0 workers shape bytes one.1 two.1 o p one.2 two.2 in
    let number =
    same_record law two.0 (drop p bytes) one.3.number (length two.1 + 1) one.3.commit two.3.commit
    (as_other one.0 two.0 bytes o p one.3.number one.3.commit same.0 same.2 one.3.there) two.3.there in
    absurd (one.3.other (number.0 ∙ ap (λ (cs : List Commit). length cs + 1) (sym same.1)))
is_refused_once law workers shape bytes (Illegal o) (Damaged p) one two m m' =
    let same = one_offset law one.0 two.0 workers shape bytes one.1 two.1 o p one.2 two.2 in
    absurd (two.3.none (length one.1 + 1) one.3.commit
    (as_other one.0 two.0 bytes o p (length one.1 + 1) one.3.commit same.0 same.2 one.3.there))
is_refused_once law workers shape bytes (Illegal o) (OutOfOrder p) one two m m' =
    let same = one_offset law one.0 two.0 workers shape bytes one.1 two.1 o p one.2 two.2 in
    let number =
    same_record law two.0 (drop p bytes) (length one.1 + 1) two.3.number one.3.commit two.3.commit
    (as_other one.0 two.0 bytes o p (length one.1 + 1) one.3.commit same.0 same.2 one.3.there) two.3.there in
    absurd (two.3.other (sym number.0 ∙ ap (λ (cs : List Commit). length cs + 1) same.1))
is_refused_once law workers shape bytes (Illegal o) (Illegal p) one two m m' =
    ap Illegal (one_offset law one.0 two.0 workers shape bytes one.1 two.1 o p one.2 two.2).2
is_refused_once law workers shape bytes Memory other one two m m' = absurd (m refl)
is_refused_once law workers shape bytes OtherHeader Memory one two m m' = absurd (m' refl)
is_refused_once law workers shape bytes (Damaged o) Memory one two m m' = absurd (m' refl)
is_refused_once law workers shape bytes (OutOfOrder o) Memory one two m m' = absurd (m' refl)
is_refused_once law workers shape bytes (Illegal o) Memory one two m m' = absurd (m' refl)
