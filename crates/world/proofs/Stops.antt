-- What a stop of the primary leaves: what the journal keeps of the bytes that stand, and no transaction open.
use Rattle.std.proofs.Common.{◌≡◌, ℕ, zero, suc, ◌+◌, ◌-◌, ◌<◌, ◌≤◌, List, [], ◌∷◌, ◌++◌, length, take, drop, inl, inr}
use Rattle.std.proofs.Common.{refl, sym, ap, subst, ◌∙◌, append_assoc, arith}
use Rattle.std.specs.List.{AllByRecursion}
use Rattle.std.proofs.lemmas.Bool.{cases_lt}
use Rattle.std.proofs.lemmas.List.{length-append, length-take, length-drop, take-append-drop, take-append-le}
use Rattle.rows.specs.declared.commit.Commit.{Commit}
use Rattle.rows.specs.Commits.{IsLegal}
use Rattle.rows.specs.Shape.{Shape}
use Rattle.journal.specs.declared.form.Form.{Form}
use Rattle.journal.specs.declared.form.Form.TheVariants.{New, Old, Marked}
use Rattle.journal.specs.Laws.{StopsAreRecovered, FormStays, TextGrows, StartedGoesOn}
use Rattle.journal.specs.Recovery.{IsBeginning, HasRecord, HasForm, IsJournaled, IsTextIn, IsKept, IsRecovered, EndsInHeader}
use Rattle.journal.specs.Text.{header, record_of, records_from, marked_records, journal_text}
use Rattle.primary.specs.Journaling.{IsFormOf}
use Rattle.world.specs.Stops.{whole_in, stopped_at, StopIsRecovered, StopKeepsDurable, StopEndsTransactions}
use Rattle.world.proofs.Durable.{legal-front}
use Rattle.world.proofs.Lists.{All-left}
use Rattle.world.proofs.StopTexts.{take-past, take-same, whole-front, whole-most}

-- the beginning of a list that a journal may be of is such a list
journaled-front : (workers : ℕ) (shape : Shape) (commits front back : List Commit) → commits ≡ front ++ back
    → IsJournaled workers shape commits → IsJournaled workers shape front
journaled-front workers shape commits front back joined journaled = record {
  legal = legal-front shape workers front back (subst (IsLegal shape workers) joined journaled.legal);
  records = All-left HasRecord front back (subst (AllByRecursion HasRecord) joined journaled.records);
}

take-its_length : {A : Type 0} (count : ℕ) (xs : List A) → take (length (take count xs)) xs ≡ take count xs
take-its_length zero xs = refl
take-its_length (suc count) [] = refl
take-its_length (suc count) (x ∷ xs) = ap (λ (t : List _). x ∷ t) (take-its_length count xs)

-- fewer commits have shorter records
fewer-shorter : (before : ℕ) (commits : List Commit) (count number : ℕ) → count < number → number ≤ length commits
    → length (records_from before (take count commits)) < length (records_from before (take number commits))
fewer-shorter before [] count number fewer within = absurd (omega (arith, fewer, within))
fewer-shorter before (commit ∷ commits) count zero fewer within = absurd (omega (arith, fewer))
fewer-shorter before (commit ∷ commits) zero (suc number) fewer within =
    omega (arith, length-append (record_of (before + 1) commit) (records_from (before + 1) (take number commits)))
fewer-shorter before (commit ∷ commits) (suc count) (suc number) fewer within =
    omega (
      arith,
      fewer-shorter (before + 1) commits count number (omega (arith, fewer)) (omega (arith, within)),
      length-append (record_of (before + 1) commit) (records_from (before + 1) (take count commits)),
      length-append (record_of (before + 1) commit) (records_from (before + 1) (take number commits)),
    )

some-records : (before : ℕ) (commits : List Commit) → 0 < length commits → 0 < length (records_from before commits)
some-records before [] some = absurd (omega (arith, some))
some-records before (commit ∷ commits) some =
    omega (arith, length-append (record_of (before + 1) commit) (records_from (before + 1) commits))

module _ (grows : TextGrows) (goes_on : StartedGoesOn) (form : Form) (workers : ℕ) (shape : Shape) (durable pending : List Commit)
    (bytes : ℕ)
    (formed : IsFormOf form durable) where
  -- the form may be that of more commits too
  form-more : (more : List Commit) → HasForm form (durable ++ more)
  form-more more = by form formed.new formed.has
    where
      by : (one : Form) → ¬ (one ≡ Old) → HasForm one durable → HasForm one (durable ++ more)
      by New new has = goes_on New durable more has
      by Old new has = absurd (new refl)
      by (Marked count) new has = goes_on (Marked count) durable more has

  -- the bytes that stand after a stop: the text of what was durable, and the first of the pending commits' records
  abbrev stands : List ℕ
  stands = journal_text form workers shape durable ++ take bytes (records_from (length durable) pending)

  abbrev number : ℕ
  number = whole_in (length durable) pending bytes

  text-of : (count : ℕ)
      → journal_text form workers shape (durable ++ take count pending)
      ≡ journal_text form workers shape durable ++ records_from (length durable) (take count pending)
  text-of count = grows form workers shape durable (take count pending) formed.has

  -- a text that is no shorter has what was durable
  no-fewer : (count : ℕ) → HasForm form (take count (durable ++ pending))
      → length (journal_text form workers shape durable) ≤ length (journal_text form workers shape (take count (durable ++ pending)))
      → length durable ≤ count
  no-fewer count has longest =
      elim (cases_lt count (length durable)) [
        | inl fewer ↦
            let front = take count durable in
            let back = drop count durable in
            let first : take count (durable ++ pending) ≡ front = take-append-le count durable pending (omega arith) in
            let formed_front : HasForm form front = subst (HasForm form) first has in
            let whole : journal_text form workers shape durable
            ≡ journal_text form workers shape front ++ records_from (length front) back =
            ap (journal_text form workers shape) (sym (take-append-drop count durable)) ∙ grows form workers shape front back
            formed_front in
            absurd (omega (
              arith,
              longest,
              ap (λ (cs : List Commit). length (journal_text form workers shape cs)) first,
              ap length whole,
              length-append (journal_text form workers shape front) (records_from (length front) back),
              some-records (length front) back (omega (arith, length-drop count durable)),
            ))
        | inr past ↦ past
      ]

  -- those with whole records begin what stands
  stands-front : IsBeginning (journal_text form workers shape (durable ++ take number pending)) stands
  stands-front =
      let text = journal_text form workers shape durable in
      let front = whole-front (length durable) pending bytes in (
        front.0,
        ap (λ (t : List ℕ). text ++ t) front.1
            ∙ sym (append_assoc text (records_from (length durable) (take number pending)) front.0)
            ∙ ap (λ (t : List ℕ). t ++ front.0) (sym (text-of number)),
      )

  -- a list whose text begins what stands has no more of the pending commits
  stands-most : (count : ℕ) → IsBeginning (journal_text form workers shape (durable ++ take count pending)) stands
      → length (take count pending) ≤ number
  stands-most count front =
      whole-most (length durable) pending bytes count
      (sizes (journal_text form workers shape durable) (records_from (length durable) pending)
      (records_from (length durable) (take count pending)) front.0 (front.1 ∙ ap (λ (t : List ℕ). t ++ front.0) (text-of count)))
    where
      sizes : (text records kept more : List ℕ) → text ++ take bytes records ≡ (text ++ kept) ++ more → length kept ≤ bytes
      sizes text records kept more e =
          omega (
            arith,
            ap length e,
            length-append text (take bytes records),
            length-append (text ++ kept) more,
            length-append text kept,
            length-take bytes records,
          )

  -- what is kept of what stands: what was durable, and those with whole records
  kept-whole : (count : ℕ) → IsJournaled workers shape (durable ++ pending)
      → IsKept form workers shape stands (take count (durable ++ pending)) → length durable ≤ count
      → take count (durable ++ pending) ≡ durable ++ take number pending
  kept-whole count journaled kept past =
      let joined : durable ++ pending ≡ (durable ++ take number pending) ++ drop number pending =
      ap (λ (cs : List Commit). durable ++ cs) (sym (take-append-drop number pending))
      ∙ sym (append_assoc durable (take number pending) (drop number pending)) in
      let longest : length (journal_text form workers shape (durable ++ take number pending))
      ≤ length (journal_text form workers shape (take count (durable ++ pending))) =
      kept.longest form (durable ++ take number pending) (record {
        journaled = journaled-front workers shape (durable ++ pending) (durable ++ take number pending) (drop number pending) joined
            journaled;
        formed = form-more (take number pending);
        text = stands-front;
      }) in
      let split = take-past durable pending count past in
      let most =
      stands-most (count - length durable)
      (subst (λ (cs : List Commit). IsBeginning (journal_text form workers shape cs) stands) split kept.is.text) in
      split
      ∙ ap (λ (cs : List Commit). durable ++ cs)
      (take-same pending (count - length durable) number
      (sizes (count - length durable) most (rw split at longest)))
    where
      sizes : (more : ℕ) → length (take more pending) ≤ number
          → length (journal_text form workers shape (durable ++ take number pending))
          ≤ length (journal_text form workers shape (durable ++ take more pending))
          → length (take more pending) ≡ length (take number pending)
      sizes more most longest =
          elim (cases_lt (length (take more pending)) (length (take number pending))) [
            | inl fewer ↦
                let here = ap (λ (cs : List Commit). length (records_from (length durable) cs)) (take-its_length more pending) in
                let there = ap (λ (cs : List Commit). length (records_from (length durable) cs)) (take-its_length number pending) in
                let short =
                fewer-shorter (length durable) pending (length (take more pending)) (length (take number pending)) fewer
                (omega (arith, length-take number pending)) in
                absurd (omega (
                  arith,
                  longest,
                  short,
                  here,
                  there,
                  ap length (text-of number),
                  ap length (text-of more),
                  length-append (journal_text form workers shape durable) (records_from (length durable) (take number pending)),
                  length-append (journal_text form workers shape durable) (records_from (length durable) (take more pending)),
                ))
            | inr enough ↦ omega (arith, enough, most, length-take number pending, length-take more pending)
          ]

pub stop-recovered : StopsAreRecovered → FormStays → TextGrows → StartedGoesOn → StopIsRecovered
stop-recovered stops stays grows goes_on form shape p bytes journaled formed =
    let text = journal_text form p.workers shape p.durable in
    let records = records_from (length p.durable) p.pending in
    let left = text ++ take bytes records in
    let cut : journal_text form p.workers shape (p.durable ++ p.pending) ≡ left ++ drop bytes records =
    grows form p.workers shape p.durable p.pending formed.has
    ∙ ap (λ (t : List ℕ). text ++ t) (sym (take-append-drop bytes records))
    ∙ sym (append_assoc text (take bytes records) (drop bytes records)) in
    let has = form-more grows goes_on form p.workers shape p.durable p.pending bytes formed p.pending in
    let found = stops form p.workers shape (p.durable ++ p.pending) left journaled has (drop bytes records, cut) in
    let first : IsTextIn form p.workers shape left p.durable = record {
      journaled = journaled-front p.workers shape (p.durable ++ p.pending) p.durable p.pending refl journaled;
      formed = formed.has;
      text = (take bytes records, refl);
    } in
    let same =
    stays form found.0 p.workers shape left p.durable (take found.1 (p.durable ++ p.pending)) found.2 formed.new first found.3 in
    let recovered = subst (λ (f : Form). IsRecovered p.workers shape left f (take found.1 (p.durable ++ p.pending)) found.2) same
    found.3 in (
      found.2,
      subst (λ (cs : List Commit). IsRecovered p.workers shape left form cs found.2) (by first found.1 found.2 recovered) recovered,
    )
  where
    left : List ℕ
    left = journal_text form p.workers shape p.durable ++ take bytes (records_from (length p.durable) p.pending)

    by : IsTextIn form p.workers shape left p.durable → (count bytes_kept : ℕ)
        → IsRecovered p.workers shape left form (take count (p.durable ++ p.pending)) bytes_kept
        → take count (p.durable ++ p.pending) ≡ (stopped_at p bytes).durable
    by first count bytes_kept (inl ends) = absurd (within ends.0)
      where
        within : EndsInHeader p.workers shape left → ⊥
        within (one, front, short) =
            omega (
              arith,
              short,
              length-append (journal_text form p.workers shape p.durable) (take bytes (records_from (length p.durable) p.pending)),
              length-append (header form p.workers shape) (marked_records form p.durable),
              headers one,
            )
          where
            headers : (other : Form) → length (header other p.workers shape) ≡ length (header form p.workers shape)
            headers other = refl
    by first count bytes_kept (inr kept) =
        kept-whole grows goes_on form p.workers shape p.durable p.pending bytes formed count journaled kept.0.0
        (no-fewer grows goes_on form p.workers shape p.durable p.pending bytes formed count kept.0.0.is.formed
        (kept.0.0.longest form p.durable first))

pub stop-durable : StopKeepsDurable
stop-durable p bytes = (take (whole_in (length p.durable) p.pending bytes) p.pending, refl)

pub stop-transactions : StopEndsTransactions
stop-transactions [] number = refl
stop-transactions (transaction ∷ transactions) zero = refl
stop-transactions (transaction ∷ transactions) (suc number) = stop-transactions transactions number
