-- A flush that ends with what its own write left: the journal has the text of what is durable then.
use Rattle.std.proofs.Common.{◌≡◌, ℕ, zero, suc, Bool, true, false, List, [], ◌∷◌, ◌++◌, length, take, refl, sym, ap, subst, ◌∙◌}
use Rattle.std.proofs.Math.Seq.{take-append_seam}
use Rattle.std.proofs.lemmas.List.{append_assoc, append-nil}
use Rattle.rows.specs.declared.commit.Commit.{Commit}
use Rattle.rows.specs.Shape.{shape_of}
use Rattle.journal.specs.declared.form.Form.{Form}
use Rattle.journal.specs.Laws.{TextGrows}
use Rattle.journal.specs.Recovery.{IsBeginning, HasForm}
use Rattle.journal.specs.Text.{journal_text, records_from}
use Rattle.primary.specs.Journaling.{IsWritten}
use Rattle.primary.specs.Lending.{Lent, Returned, IsLentBy, IsWriteOf, HasMorePending, IsLeftByStop, StopsAreAllowed}
use Rattle.primary.specs.State.{Primary, Core, is_honest_in}
use Rattle.primary.proofs.Flushing.{moved_text, offered-begin}

-- as many of a longer list as its beginning had
take-front : {A : Type 0} (count : ℕ) (xs more : List A) → take (length (take count xs)) (xs ++ more) ≡ take count xs
take-front zero xs more = refl
take-front (suc count) [] more = refl
take-front (suc count) (x ∷ xs) more = ap (λ rest. x ∷ rest) (take-front count xs more)

pub ends-written : {J : Type 0} (is_honest : J → Bool) (standing : J → List ℕ) (fault_count : J → ℕ) (grows : TextGrows)
    (begun : Core J) (count : ℕ) (lent : Lent J) (done : Returned J) (now : Core J)
    → IsLentBy is_honest standing fault_count begun count lent → IsWriteOf is_honest standing fault_count lent done
    → HasMorePending begun.primary now.primary → begun.form ≡ now.form → HasForm now.form now.primary.durable
    → IsWritten is_honest standing begun → done.taken ≡ true → is_honest done.journal ≡ true
    → standing done.journal
    ≡ journal_text now.form now.primary.workers (shape_of now.primary.schema) (now.primary.durable ++ take done.count now.primary.pending)
ends-written is_honest standing fault_count grows begun count lent done now by write more form formed written taken honest =
    let p = begun.primary in
    let was : is_honest lent.journal ≡ true = sym write.honest ∙ honest in
    let before : is_honest_in is_honest begun.journal ≡ true = sym by.honest ∙ was in
    let moved : take done.count (p.pending ++ more.0) ≡ take count p.pending =
    ap (λ n. take n (p.pending ++ more.0)) (write.count ∙ by.offers) ∙ take-front count p.pending more.0 in
    let has : HasForm begun.form p.durable =
    subst (λ f. HasForm f p.durable) (sym form) (subst (λ (q : Primary). HasForm now.form q.durable) more.1 formed) in
    let text : standing done.journal ≡ journal_text begun.form p.workers (shape_of p.schema) (p.durable ++ take count p.pending) =
    moved_text grows begun.form p.workers (shape_of p.schema) p.durable (take count p.pending) (standing lent.journal)
    (standing done.journal) has
    (by.stands was ∙ written before by.runs)
    (write.taken was taken ∙ ap (λ records. standing lent.journal ++ records) by.records) in
    subst
    (λ (q : Primary). standing done.journal
    ≡ journal_text now.form q.workers (shape_of q.schema) (q.durable ++ take done.count q.pending))
    (sym more.1)
    (text ∙ ap (λ f. journal_text f p.workers (shape_of p.schema) (p.durable ++ take count p.pending)) form
    ∙ ap (λ (commits : List Commit). journal_text now.form p.workers (shape_of p.schema) (p.durable ++ commits)) (sym moved))

-- the text of what is durable, with some beginning of the pending commits' records behind it
left_by_stop : (form : Form) (p : Primary) (old new front : List ℕ) → old ≡ journal_text form p.workers (shape_of p.schema) p.durable
    → IsBeginning front (records_from (length p.durable) p.pending) → new ≡ old ++ front → IsLeftByStop form p new
left_by_stop form p old new front text begins stands =
    let records = records_from (length p.durable) p.pending in
    let first : front ≡ take (length front) records =
    sym (take-append_seam front begins.0) ∙ ap (λ bytes. take (length front) bytes) (sym begins.1) in
    let text_then : List ℕ → List ℕ = λ bytes. journal_text form p.workers (shape_of p.schema) p.durable ++ bytes in
    (length front, stands ∙ ap (λ bytes. bytes ++ front) text ∙ ap text_then first)

-- a beginning of a beginning
begins-within : {A : Type 0} (xs ys zs : List A) → IsBeginning xs ys → IsBeginning ys zs → IsBeginning xs zs
begins-within xs ys zs one two = (one.0 ++ two.0, two.1 ∙ ap (λ l. l ++ two.0) one.1 ∙ append_assoc xs one.0 two.0)

-- what a write leaves, where the records that were offered to it begin those of what is pending
left_by_write : {J : Type 0} (is_honest : J → Bool) (standing : J → List ℕ) (fault_count : J → ℕ) (lent : Lent J) (done : Returned J)
    (form : Form) (p : Primary) → IsWriteOf is_honest standing fault_count lent done → is_honest lent.journal ≡ true
    → standing lent.journal ≡ journal_text form p.workers (shape_of p.schema) p.durable
    → IsBeginning lent.records (records_from (length p.durable) p.pending) → (taken : Bool) → done.taken ≡ taken
    → IsLeftByStop form p (standing done.journal)
left_by_write is_honest standing fault_count lent done form p write honest text begins true is =
    left_by_stop form p (standing lent.journal) (standing done.journal) lent.records text begins (write.taken honest is)
left_by_write is_honest standing fault_count lent done form p write honest text begins false is =
    let partly = write.partly honest is in
    left_by_stop form p (standing lent.journal) (standing done.journal) partly.0 text
    (begins-within partly.0 lent.records (records_from (length p.durable) p.pending) partly.1 begins) partly.2

pub stops-allowed : {J : Type 0} (is_honest : J → Bool) (standing : J → List ℕ) (fault_count : J → ℕ) (lent : Lent J)
    (done : Returned J) → IsWriteOf is_honest standing fault_count lent done → StopsAreAllowed is_honest standing fault_count lent done
stops-allowed is_honest standing fault_count lent done write begun count now by written more honest =
    let p = begun.primary in
    let longer : Primary = record p { pending = p.pending ++ more.0 } in
    let records = records_from (length p.durable) (p.pending ++ more.0) in
    let text : standing lent.journal ≡ journal_text begun.form p.workers (shape_of p.schema) p.durable =
    by.stands honest ∙ written (sym by.honest ∙ honest) by.runs in
    let begins : IsBeginning lent.records records =
    subst (λ (bytes : List ℕ). IsBeginning bytes records) (sym by.records) (offered-begin p count more.0) in
    subst (λ (q : Primary). IsLeftByStop begun.form q (standing lent.journal)
    × ((front : List ℕ) → IsBeginning front lent.records → IsLeftByStop begun.form q (standing lent.journal ++ front))
    × IsLeftByStop begun.form q (standing done.journal)) (sym more.1) (
      left_by_stop begun.form longer (standing lent.journal) (standing lent.journal) [] text (records, refl)
          (sym (append-nil (standing lent.journal))),
      λ front within.
          left_by_stop begun.form longer (standing lent.journal) (standing lent.journal ++ front) front text
          (begins-within front lent.records records within begins) refl,
      left_by_write is_honest standing fault_count lent done begun.form longer write honest text begins done.taken refl,
    )
