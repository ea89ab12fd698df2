-- Whatever a stop leaves of a journal's text, the first commits of its list are recovered.
use Rattle.std.proofs.Common.{◌≡◌, ℕ, suc, ◌+◌, ◌-◌, ◌<◌, ◌≤◌, inl, inr, true, ltb, List, [], ◌∷◌, ◌++◌, length, take, drop}
use Rattle.std.proofs.Common.{Result, Ok, Err, refl, sym, ap, subst, ◌∙◌, append_assoc, arith}
use Rattle.std.specs.Prelude.{IsOk}
use Rattle.std.specs.List.{AllByRecursion, list_all}
use Rattle.std.proofs.Common.{◌⊎◌, zero, length-append}
use Rattle.std.proofs.lemmas.Bool.{cases_lt, lt-ltb, or_left, or_right, and_from, and_parts}
use Rattle.std.proofs.lemmas.List.{append-nil, append_cancel_left, take-append-drop, take-append-le, take_at}
use Rattle.std.proofs.lemmas.List.{take_all, drop_at, length-take-le}
use Rattle.byteorder.specs.Endian.{big_number}
use Rattle.byteorder.specs.Numbers.{big_from-append}
use Rattle.rows.specs.declared.commit.Commit.{Commit}
use Rattle.rows.specs.Commits.{IsCommit, apply_commits}
use Rattle.rows.specs.Laws.{SpelledAreFound}
use Rattle.rows.specs.Shape.{Shape}
use Rattle.rows.specs.Tables.{Tables, Refusal, opening}
use Rattle.journal.specs.declared.form.Form.{Form}
use Rattle.journal.specs.declared.form.Form.TheVariants.{New, Old, Marked}
use Rattle.journal.specs.Inner.Progress.{RecordsWereRead}
use Rattle.journal.specs.Laws.{StopsAreRecovered}
use Rattle.journal.specs.Recovery.{HasRecord, is_old, HasForm, IsJournaled, IsBeginning, is_record_len, is_torn, may_follow, IsRecovered}
use Rattle.journal.specs.Text.{header, mark, record_body, record_of, records_from, marked_records, journal_text}
use Rattle.journal.proofs.RecordLaws.{front_len, is_record_len-body, record_of-length}
use Rattle.journal.proofs.Recovering.{all-front, defined-front, recovered}

-- ---- two beginnings of the same list

shorter_front : {X : Type 0} (front list more rest : List X) → front ++ more ≡ list ++ rest → length front ≤ length list
    → list ≡ front ++ drop (length front) list
shorter_front front list more rest e short =
    let same : take (length front) list ≡ front =
    sym (take-append-le (length front) list rest short) ∙ ap (take (length front)) (sym e) ∙ take_at front more (length front) refl in
    sym (ap (λ t. t ++ drop (length front) list) (sym same) ∙ take-append-drop (length front) list)

-- what is left of the longer one stands before the same
longer_rest : {X : Type 0} (front list more rest : List X) → front ++ more ≡ list ++ rest → length list ≤ length front
    → drop (length list) front ++ more ≡ rest
longer_rest front list more rest e long =
    let split = shorter_front list front rest more (sym e) long in
    append_cancel_left list (drop (length list) front ++ more) rest
    (sym (append_assoc list (drop (length list) front) more) ∙ ap (λ t. t ++ more) (sym split) ∙ e)

-- ---- a record that was cut

cut_record : (form : Form) (number : ℕ) (commit : Commit) (front more rest : List ℕ) → HasRecord commit → may_follow form commit ≡ true
    → front ++ more ≡ record_of number commit ++ rest → length front < length (record_of number commit) → is_torn form front ≡ true
cut_record form number commit front more rest held follows e short =
    elim (cases_lt (length front) 4) [
      | inl few ↦ or_left _ _ (lt-ltb _ _ few)
      | inr enough ↦
          let len : big_number 4 front ≡ length (record_body number commit) =
          sym (big_from-append 4 front more enough) ∙ ap (big_number 4) e ∙ front_len number commit rest held in
          let size = record_of-length number commit in
          let fits : is_record_len form (big_number 4 front) ≡ true =
          ap (is_record_len form) len ∙ is_record_len-body form number commit held follows in
          or_right (ltb (length front) 4) _ (and_from _ _ fits (lt-ltb _ _ (omega arith)))
    ]

-- the first of records, and what a stop left of the next, if it stopped before the tail behind them
record CutAt (form : Form) (before : ℕ) (commits : List Commit) (front : List ℕ) : Type 0 where
  pub count : ℕ
  pub rest : List ℕ
  pub text : front ≡ records_from before (take count commits) ++ rest
  pub torn : is_torn form rest ≡ true

-- all records, and what stands of the tail
record CutBehind (before : ℕ) (commits : List Commit) (front more tail : List ℕ) : Type 0 where
  pub rest : List ℕ
  pub text : front ≡ records_from before commits ++ rest
  pub begins : rest ++ more ≡ tail

cut_at : (form : Form) (before : ℕ) (commits : List Commit) (front more tail : List ℕ) → AllByRecursion HasRecord commits
    → AllByRecursion (λ commit. may_follow form commit ≡ true) commits → front ++ more ≡ records_from before commits ++ tail
    → CutAt form before commits front ⊎ CutBehind before commits front more tail
cut_at form before [] front more tail held follow e = inr (record { rest = front; text = refl; begins = e })
cut_at form before (commit ∷ commits) front more tail held follow e =
    let one = record_of (before + 1) commit in
    let others = records_from (before + 1) commits in
    let split : front ++ more ≡ one ++ (others ++ tail) = e ∙ append_assoc one others tail in
    elim (cases_lt (length front) (length one)) [
      | inl short ↦ inl (record {
        count = 0;
        rest = front;
        text = refl;
        torn = cut_record form (before + 1) commit front more (others ++ tail) held.0 follow.0 split short;
      })
      | inr long ↦
          let rest = drop (length one) front in
          let whole = shorter_front one front (others ++ tail) more (sym split) long in
          elim
          (cut_at form (before + 1) commits rest more tail held.1 follow.1 (longer_rest front one more (others ++ tail) split long)) [
            | inl behind ↦ inl (record {
              count = suc behind.count;
              rest = behind.rest;
              text =
                  whole ∙ ap (λ (t : List ℕ). one ++ t) behind.text
                  ∙ sym (append_assoc one (records_from (before + 1) (take behind.count commits)) behind.rest);
              torn = behind.torn;
            })
            | inr behind ↦ inr (record {
              rest = behind.rest;
              text = whole ∙ ap (λ (t : List ℕ). one ++ t) behind.text ∙ sym (append_assoc one others behind.rest);
              begins = behind.begins;
            })
          ]
    ]

-- whatever stands of no tail is nothing, which is torn
no-tail : (form : Form) (before : ℕ) (commits : List Commit) (front more : List ℕ) → CutBehind before commits front more []
    → CutAt form before commits front
no-tail form before commits front more behind = by behind.rest behind.text behind.begins
  where
    by : (rest : List ℕ) → front ≡ records_from before commits ++ rest → rest ++ more ≡ [] → CutAt form before commits front
    by [] text begins = record {
      count = length commits;
      rest = [];
      text = text ∙ ap (λ (cs : List Commit). records_from before cs ++ []) (sym (take_all (length commits) commits (omega arith)));
      torn = refl;
    }
    by (byte ∷ rest) text begins = absurd cc

cut_last : (form : Form) (before : ℕ) (commits : List Commit) (front more : List ℕ) → AllByRecursion HasRecord commits
    → AllByRecursion (λ commit. may_follow form commit ≡ true) commits → front ++ more ≡ records_from before commits
    → CutAt form before commits front
cut_last form before commits front more held follow e =
    elim (cut_at form before commits front more [] held follow (e ∙ sym (append-nil (records_from before commits)))) [
      | inl cut ↦ cut
      | inr behind ↦ no-tail form before commits front more behind
    ]

-- ---- a journal that was cut

-- the text of a form that keeps the first commits, before a rest that is torn
record CutText (form : Form) (workers : ℕ) (shape : Shape) (commits : List Commit) (bytes : List ℕ) : Type 0 where
  pub kept : Form
  pub count : ℕ
  pub rest : List ℕ
  pub formed : HasForm kept (take count commits)
  pub text : bytes ≡ header form workers shape ++ (marked_records kept (take count commits) ++ rest)
  pub same : header kept workers shape ≡ header form workers shape
  pub torn : is_torn kept rest ≡ true

new-follow : (commits : List Commit) → AllByRecursion (λ commit. may_follow New commit ≡ true) commits
new-follow [] = tt
new-follow (commit ∷ commits) = (refl, new-follow commits)

old-follow : (commits : List Commit) → list_all is_old commits ≡ true → AllByRecursion (λ commit. may_follow Old commit ≡ true) commits
old-follow [] old = tt
old-follow (commit ∷ commits) old = let parts = and_parts (is_old commit) _ old in (parts.0, old-follow commits parts.1)

old-front : (count : ℕ) (commits : List Commit) → list_all is_old commits ≡ true → list_all is_old (take count commits) ≡ true
old-front zero commits old = refl
old-front (suc count) [] old = refl
old-front (suc count) (commit ∷ commits) old =
    let parts = and_parts (is_old commit) _ old in and_from _ _ parts.0 (old-front count commits parts.1)

records-behind : (count : ℕ) (commits : List Commit) → AllByRecursion HasRecord commits → AllByRecursion HasRecord (drop count commits)
records-behind zero commits held = held
records-behind (suc count) [] held = tt
records-behind (suc count) (commit ∷ commits) held = records-behind count commits held.1

-- a beginning of a beginning
take-twice : {X : Type 0} (n m : ℕ) (xs : List X) → (count : ℕ) × (take n (take m xs) ≡ take count xs)
take-twice zero m xs = (0, refl)
take-twice (suc n) zero xs = (0, refl)
take-twice (suc n) (suc m) [] = (0, refl)
take-twice {X = X} (suc n) (suc m) (x ∷ xs) =
    let rest = take-twice n m xs in (suc rest.0, ap (λ (ys : List X). x ∷ ys) rest.1)

-- the first commits of those behind the mark are the first of all
take-behind : {X : Type 0} (count n : ℕ) (xs : List X) → count ≤ length xs → take (count + n) xs ≡ take count xs ++ take n (drop count xs)
take-behind {X = X} zero n xs h = let same : 0 + n ≡ n = omega arith in ap (λ (k : ℕ). take k xs) same
take-behind (suc count) n [] h = absurd (omega (arith, h))
take-behind {X = X} (suc count) n (x ∷ xs) h =
    let same : suc count + n ≡ suc (count + n) = omega arith in
    ap (λ (k : ℕ). take k (x ∷ xs)) same ∙ ap (λ (ys : List X). x ∷ ys) (take-behind count n xs (omega (arith, h)))

taken-whole : {X : Type 0} (count : ℕ) (xs ys : List X) → length xs ≡ count → take count (xs ++ ys) ≡ xs
taken-whole count xs ys e = take_at xs ys count e

-- a text of version 2 from the beginning, or of version 1
cut-plain : (form : Form) (workers : ℕ) (shape : Shape) (commits : List Commit) (bytes more : List ℕ)
    → ((cs : List Commit) → marked_records form cs ≡ records_from 0 cs) → ((count : ℕ) → HasForm form (take count commits))
    → AllByRecursion (λ commit. may_follow form commit ≡ true) commits → AllByRecursion HasRecord commits
    → length (header form workers shape) ≤ length bytes → bytes ++ more ≡ header form workers shape ++ records_from 0 commits
    → CutText form workers shape commits bytes
cut-plain form workers shape commits bytes more plain formed follow held long e =
    let head = header form workers shape in
    let records = records_from 0 commits in
    let rest = drop (length head) bytes in
    let cut = cut_last form 0 commits rest more held follow (longer_rest bytes head more records e long) in
    record {
      kept = form;
      count = cut.count;
      rest = cut.rest;
      formed = formed cut.count;
      text =
          shorter_front head bytes records more (sym e) long
          ∙ ap (λ (t : List ℕ). head ++ t) (cut.text ∙ ap (λ (t : List ℕ). t ++ cut.rest) (sym (plain (take cut.count commits))));
      same = refl;
      torn = cut.torn;
    }

-- a text that goes on behind the mark, cut before the end of the mark
cut-before : (count workers : ℕ) (shape : Shape) (commits : List Commit) (bytes : List ℕ) → HasForm (Marked count) commits
    → CutAt Old 0 (take count commits) (drop (length (header Old workers shape)) bytes)
    → bytes ≡ header Old workers shape ++ drop (length (header Old workers shape)) bytes
    → CutText (Marked count) workers shape commits bytes
cut-before count workers shape commits bytes formed cut split =
    let head = header Old workers shape in
    let first = take-twice cut.count count commits in
    let text : drop (length head) bytes ≡ records_from 0 (take first.0 commits) ++ cut.rest =
    cut.text ∙ ap (λ (cs : List Commit). records_from 0 cs ++ cut.rest) first.1 in
    record {
      kept = Old;
      count = first.0;
      rest = cut.rest;
      formed = subst (λ (cs : List Commit). list_all is_old cs ≡ true) first.1 (old-front cut.count (take count commits) formed.1);
      text = split ∙ ap (λ (t : List ℕ). head ++ t) text;
      same = refl;
      torn = cut.torn;
    }

-- and cut behind it
cut-after : (count workers : ℕ) (shape : Shape) (commits : List Commit) (bytes rest more : List ℕ) → HasForm (Marked count) commits
    → AllByRecursion HasRecord commits
    → bytes ≡ header Old workers shape ++ (records_from 0 (take count commits) ++ (mark ++ rest))
    → rest ++ more ≡ records_from count (drop count commits) → CutText (Marked count) workers shape commits bytes
cut-after count workers shape commits bytes rest more formed held text begins =
    let head = header Old workers shape in
    let front = take count commits in
    let back = drop count commits in
    let cut = cut_last New count back rest more (records-behind count commits held) (new-follow back) begins in
    let size : length front ≡ count = omega (arith, length-take-le count commits formed.0) in
    let joined : take (count + cut.count) commits ≡ front ++ take cut.count back = take-behind count cut.count commits formed.0 in
    let front_is : take count (take (count + cut.count) commits) ≡ front =
    ap (take count) joined ∙ taken-whole count front (take cut.count back) size in
    let back_is : drop count (take (count + cut.count) commits) ≡ take cut.count back =
    ap (drop count) joined ∙ drop_at front (take cut.count back) count size in
    let records : marked_records (Marked count) (take (count + cut.count) commits)
    ≡ records_from 0 front ++ (mark ++ records_from count (take cut.count back)) =
    ap (λ (cs : List Commit). records_from 0 cs ++ (mark ++ records_from count (drop count (take (count + cut.count) commits)))) front_is
    ∙ ap (λ (cs : List Commit). records_from 0 front ++ (mark ++ records_from count cs)) back_is in
    let kept = records_from count (take cut.count back) in
    record {
      kept = Marked count;
      count = count + cut.count;
      rest = cut.rest;
      formed = (
        omega (arith, ap length joined, length-append front (take cut.count back), size),
        ap (list_all is_old) front_is ∙ formed.1,
      );
      text =
          text
          ∙ ap (λ (t : List ℕ). head ++ t)
          (ap (λ (t : List ℕ). records_from 0 front ++ (mark ++ t)) cut.text
          ∙ ap (λ (t : List ℕ). records_from 0 front ++ t) (sym (append_assoc mark kept cut.rest))
          ∙ sym (append_assoc (records_from 0 front) (mark ++ kept) cut.rest)
          ∙ ap (λ (t : List ℕ). t ++ cut.rest) (sym records));
      same = refl;
      torn = cut.torn;
    }

-- what stands of the mark, or the mark and what stands behind it
within-mark : (rest more tail : List ℕ) → rest ++ more ≡ mark ++ tail
    → (is_torn Old rest ≡ true) ⊎ ((behind : List ℕ) × (rest ≡ mark ++ behind) × (behind ++ more ≡ tail))
within-mark rest more tail e =
    elim (cases_lt (length rest) 4) [
      | inl few ↦ inl (or_left _ _ (lt-ltb _ _ few))
      | inr enough ↦ inr (
        drop 4 rest,
        shorter_front mark rest tail more (sym e) enough,
        longer_rest rest mark more tail e enough,
      )
    ]

cut-marked : (count workers : ℕ) (shape : Shape) (commits : List Commit) (bytes more : List ℕ) → HasForm (Marked count) commits
    → AllByRecursion HasRecord commits → length (header Old workers shape) ≤ length bytes
    → bytes ++ more ≡ header Old workers shape ++ marked_records (Marked count) commits → CutText (Marked count) workers shape commits bytes
cut-marked count workers shape commits bytes more formed held long e =
    let head = header Old workers shape in
    let records = marked_records (Marked count) commits in
    let front = take count commits in
    let tail = mark ++ records_from count (drop count commits) in
    let rest = drop (length head) bytes in
    let split = shorter_front head bytes records more (sym e) long in
    let held_front = all-front HasRecord front (drop count commits)
    (subst (AllByRecursion HasRecord) (sym (take-append-drop count commits)) held) in
    elim (cut_at Old 0 front rest more tail held_front (old-follow front formed.1) (longer_rest bytes head more records e long)) [
      | inl cut ↦ cut-before count workers shape commits bytes formed cut split
      | inr behind ↦ elim (within-mark behind.rest more (records_from count (drop count commits)) behind.begins) [
        | inl torn ↦
            cut-before count workers shape commits bytes formed
            (record {
              count = length front;
              rest = behind.rest;
              text =
                  behind.text
                  ∙ ap (λ (cs : List Commit). records_from 0 cs ++ behind.rest) (sym (take_all (length front) front (omega arith)));
              torn = torn;
            }) split
        | inr there ↦
            cut-after count workers shape commits bytes there.0 more formed held
            (split
            ∙ ap (λ (t : List ℕ). head ++ t) (behind.text ∙ ap (λ (t : List ℕ). records_from 0 front ++ t) there.1)) there.2
      ]
    ]

cut-text : (form : Form) (workers : ℕ) (shape : Shape) (commits : List Commit) (bytes more : List ℕ) → HasForm form commits
    → AllByRecursion HasRecord commits → length (header form workers shape) ≤ length bytes
    → bytes ++ more ≡ header form workers shape ++ marked_records form commits → CutText form workers shape commits bytes
cut-text New workers shape commits bytes more formed held long e =
    cut-plain New workers shape commits bytes more (λ cs. refl) (λ count. tt) (new-follow commits) held long e
cut-text Old workers shape commits bytes more formed held long e =
    cut-plain Old workers shape commits bytes more (λ cs. refl) (λ count. old-front count commits formed) (old-follow commits formed) held
    long e
cut-text (Marked count) workers shape commits bytes more formed held long e =
    cut-marked count workers shape commits bytes more formed held long e

pub tables_of_ok : (r : Result Tables Refusal) → IsOk r → (tables : Tables) × (r ≡ Ok tables)
tables_of_ok (Ok tables) ok = (tables, refl)
tables_of_ok (Err refusal) ok = absurd cc

first_come : (form : Form) (workers : ℕ) (shape : Shape) (commits : List Commit) (bytes : List ℕ) → IsJournaled workers shape commits
    → (cut : CutText form workers shape commits bytes)
    → (tables : Tables) × RecordsWereRead cut.kept workers shape bytes (take cut.count commits) tables cut.rest
first_come form workers shape commits bytes journaled cut =
    let first = take cut.count commits in
    let joined : first ++ drop cut.count commits ≡ commits = take-append-drop cut.count commits in
    let records = marked_records cut.kept first in
    let tables =
    tables_of_ok (apply_commits (opening shape) first)
    (defined-front (opening shape) first (drop cut.count commits)
    (subst (λ (cs : List Commit). IsOk (apply_commits (opening shape) cs)) (sym joined) journaled.legal.defined)) in (
      tables.0,
      record {
        text =
            cut.text ∙ ap (λ (t : List ℕ). t ++ (records ++ cut.rest)) (sym cut.same)
            ∙ sym (append_assoc (header cut.kept workers shape) records cut.rest);
        formed = cut.formed;
        each =
            all-front (IsCommit workers) first (drop cut.count commits)
            (subst (AllByRecursion (IsCommit workers)) (sym joined) journaled.legal.each);
        records =
            all-front HasRecord first (drop cut.count commits) (subst (AllByRecursion HasRecord) (sym joined) journaled.records);
        defined = tables.1;
      },
    )

pub stops_are_recovered : SpelledAreFound → StopsAreRecovered
stops_are_recovered law form workers shape commits bytes journaled formed front =
    let head = header form workers shape in
    let records = marked_records form commits in
    let e : bytes ++ front.0 ≡ head ++ records = sym front.1 in
    elim (cases_lt (length bytes) (length head)) [
      | inl short ↦ (
        New,
        0,
        0,
        inl (
          (form, (drop (length bytes) head, shorter_front bytes head front.0 records e (omega arith)), short),
          refl,
          refl,
          refl,
        ),
      )
      | inr long ↦
          let cut = cut-text form workers shape commits bytes front.0 formed journaled.records long e in
          let come = first_come form workers shape commits bytes journaled cut in (
            cut.kept,
            cut.count,
            length bytes - length cut.rest,
            recovered law cut.kept workers shape bytes (take cut.count commits) come.0 cut.rest (length bytes - length cut.rest) come.1 refl
                cut.torn,
          )
    ]
