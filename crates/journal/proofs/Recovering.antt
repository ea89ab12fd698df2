-- Recovery: what has been read is a list that a journal may be of, and where it stops no longer one begins the bytes.
use Rattle.std.proofs.Common.{◌≡◌, ℕ, ◌+◌, ◌*◌, ◌-◌, ◌^◌, ◌<◌, ◌≤◌, inl, inr, true, false, List, [], ◌∷◌, ◌++◌, length, take, drop}
use Rattle.std.proofs.Common.{Result, Ok, Err, refl, sym, ap, subst, ◌∙◌, append_assoc, length-append, arith}
use Rattle.std.specs.Prelude.{IsOk}
use Rattle.std.specs.List.{AllByRecursion, list_all}
use Rattle.std.proofs.lemmas.Bool.{and_from, and_parts, or_from, le-ltb}
use Rattle.std.proofs.lemmas.List.{append-nil, append_cancel_left, drop_at, length-take-le, length-drop}
use Rattle.rows.specs.declared.commit.Commit.{Commit}
use Rattle.rows.specs.Commits.{IsCommit, IsLegal, apply_commits}
use Rattle.rows.specs.Laws.{SpelledAreFound}
use Rattle.rows.specs.Shape.{Shape}
use Rattle.rows.specs.Tables.{Tables, Refusal, opening, apply_entries, and_then}
use Rattle.journal.specs.declared.form.Form.{Form}
use Rattle.journal.specs.declared.form.Form.TheVariants.{New, Old, Marked}
use Rattle.journal.specs.declared.faults.JournalFault.{JournalFault}
use Rattle.journal.specs.declared.faults.JournalFault.TheVariants.{OtherHeader, Damaged, OutOfOrder, Illegal, Memory}
use Rattle.journal.specs.Recovery.{IsBeginning, HasRecord, is_old, HasForm, IsJournaled, IsTextIn, IsKept, is_torn, may_follow, IsRecordAt}
use Rattle.journal.specs.Recovery.{IsDamaged, IsOutOfOrder, IsIllegal}
use Rattle.journal.specs.Recovery.{IsRecovered, IsRefusal}
use Rattle.journal.specs.Inner.Presence.{PresenceState, IsPresenceOf}
use Rattle.journal.specs.Inner.Progress.{IsHeaderForm, RecordsWereRead, HasCome, IsDefinedOn, IsNextCommit, IsStop}
use Rattle.journal.specs.Text.{version_code, header, mark, record_of, records_from, marked_records, journal_text}
use Rattle.journal.proofs.Items.{Item, One, Mark, items_of, items_text, commits_of}
use Rattle.journal.proofs.Items.{text-append, text-of_items, commits-of_items, text-longer}
use Rattle.journal.proofs.Items.{mark-goes_on, old-goes_on, commits-go_on}
use Rattle.journal.proofs.Nesting.{behind_header, are_nested, same-header, text_length}
use Rattle.journal.proofs.RecordLaws.{record_of-length, record_whole, same_record}
use Rattle.journal.proofs.Texts.{text-grows, start-marks, started-goes_on, marked-grow}

-- ---- of lists

module _ {X : Type 0} (P : X → Type 0) where
  all-push : (xs : List X) (x : X) → AllByRecursion P xs → P x → AllByRecursion P (xs ++ x ∷ [])
  all-push [] x all one = (one, tt)
  all-push (y ∷ xs) x all one = (all.0, all-push xs x all.1 one)

  pub all-front : (xs ys : List X) → AllByRecursion P (xs ++ ys) → AllByRecursion P xs
  all-front [] ys all = tt
  all-front (x ∷ xs) ys all = (all.0, all-front xs ys all.1)

  all-next : (xs : List X) (x : X) (ys : List X) → AllByRecursion P (xs ++ x ∷ ys) → P x
  all-next [] x ys all = all.0
  all-next (y ∷ xs) x ys all = all-next xs x ys all.1

-- ---- of commits that are defined

and_then-front : (f : Tables → Result Tables Refusal) (g : Tables → Result Tables Refusal) (first : Result Tables Refusal)
    → ((tables : Tables) → IsOk (f tables) → IsOk (g tables)) → IsOk (and_then f first) → IsOk (and_then g first)
and_then-front f g (Ok tables) h ok = h tables ok
and_then-front f g (Err refusal) h ok = ok

pub defined-front : (tables : Tables) (commits others : List Commit) → IsOk (apply_commits tables (commits ++ others))
    → IsOk (apply_commits tables commits)
defined-front tables [] others ok = refl
defined-front tables (commit ∷ commits) others ok =
    and_then-front (λ after. apply_commits after (commits ++ others)) (λ after. apply_commits after commits)
    (apply_entries tables commit.entries)
    (λ after. defined-front after commits others) ok

and_then-behind : (f g : Tables → Result Tables Refusal) (first : Result Tables Refusal) (between : Tables) (last : Result Tables Refusal)
    → ((tables : Tables) → f tables ≡ Ok between → g tables ≡ last) → and_then f first ≡ Ok between → and_then g first ≡ last
and_then-behind f g (Ok tables) between last h e = h tables e
and_then-behind f g (Err refusal) between last h e = absurd cc

-- one more commit behind those that were made
defined-push : (tables between : Tables) (commits : List Commit) (commit : Commit) → apply_commits tables commits ≡ Ok between
    → apply_commits tables (commits ++ commit ∷ []) ≡ apply_commits between (commit ∷ [])
defined-push tables between [] commit e =
    let same : tables ≡ between = cc in ap (λ (t : Tables). apply_commits t (commit ∷ [])) same
defined-push tables between (first ∷ commits) commit e =
    and_then-behind (λ after. apply_commits after commits) (λ after. apply_commits after (commits ++ commit ∷ []))
    (apply_entries tables first.entries) between (apply_commits between (commit ∷ []))
    (λ after h. defined-push after between commits commit h) e

alone : (first : Result Tables Refusal) → and_then (λ after. Ok after) first ≡ first
alone (Ok after) = refl
alone (Err refusal) = refl

-- ---- how far recovery has come

pub has_come-first : (form : Form) (workers : ℕ) (shape : Shape) (bytes rest : List ℕ) (present : PresenceState) → IsHeaderForm form
    → bytes ≡ header form workers shape ++ rest → IsPresenceOf (opening shape) present → HasCome form workers shape bytes [] present rest
has_come-first form workers shape bytes rest present is e rows = record {
  tables = opening shape;
  read =
      record {
        text = e ∙ ap (λ (t : List ℕ). t ++ rest) (sym (nothing form is));
        formed = formed form is;
        each = tt;
        records = tt;
        defined = refl;
      };
  rows = rows;
}
  where
    nothing : (one : Form) → IsHeaderForm one → journal_text one workers shape [] ≡ header one workers shape
    nothing New is = append-nil (header New workers shape)
    nothing Old is = append-nil (header Old workers shape)
    nothing (Marked count) is = absurd is

    formed : (one : Form) → IsHeaderForm one → HasForm one []
    formed New is = tt
    formed Old is = refl
    formed (Marked count) is = absurd is

-- the text of one commit more
text-push : (form : Form) (workers : ℕ) (shape : Shape) (commits : List Commit) (commit : Commit) (behind : List ℕ) → HasForm form commits
    → journal_text form workers shape commits ++ (record_of (length commits + 1) commit ++ behind)
    ≡ journal_text form workers shape (commits ++ commit ∷ []) ++ behind
text-push form workers shape commits commit behind formed =
    let text = journal_text form workers shape commits in
    let last = record_of (length commits + 1) commit in
    sym (append_assoc text last behind)
    ∙ ap (λ (t : List ℕ). t ++ behind)
    (ap (λ (t : List ℕ). text ++ t) (sym (append-nil last)) ∙ sym (text-grows form workers shape commits (commit ∷ []) formed))

-- one commit more that may follow
form-push : (form : Form) (commits : List Commit) (commit : Commit) → HasForm form commits → may_follow form commit ≡ true
    → HasForm form (commits ++ commit ∷ [])
form-push New commits commit formed follows = tt
form-push Old commits commit formed follows = old-push commits formed
  where
    old-push : (cs : List Commit) → list_all is_old cs ≡ true → list_all is_old (cs ++ commit ∷ []) ≡ true
    old-push [] old = and_from _ _ follows refl
    old-push (first ∷ cs) old =
        let parts = and_parts (is_old first) _ old in
        and_from _ _ parts.0 (old-push cs parts.1)
form-push (Marked count) commits commit formed follows = started-goes_on (Marked count) commits (commit ∷ []) formed

pub has_come-more : (form : Form) (workers : ℕ) (shape : Shape) (bytes : List ℕ) (commits : List Commit) (old new : PresenceState)
    (rest : List ℕ) (commit : Commit) (behind : List ℕ) → (so_far : HasCome form workers shape bytes commits old rest)
    → IsNextCommit form workers (length commits + 1) so_far.tables new rest commit behind
    → HasCome form workers shape bytes (commits ++ commit ∷ []) new behind
has_come-more form workers shape bytes commits old new rest commit behind so_far next = record {
  tables = next.accepted.1.0;
  read =
      record {
        text =
            so_far.read.text ∙ ap (λ (t : List ℕ). journal_text form workers shape commits ++ t) next.front
            ∙ text-push form workers shape commits commit behind so_far.read.formed;
        formed = form-push form commits commit so_far.read.formed next.follows;
        each =
            all-push (IsCommit workers) commits commit so_far.read.each
            (record { worker = next.accepted.0; some = next.held.some; few = next.held.few });
        records = all-push HasRecord commits commit so_far.read.records next.held;
        defined =
            defined-push (opening shape) so_far.tables commits commit so_far.read.defined
            ∙ alone (apply_entries so_far.tables commit.entries) ∙ next.accepted.1.1;
      };
  rows = next.accepted.1.2;
}

-- behind a text of version 1 the mark was read
pub has_come-marked : (workers : ℕ) (shape : Shape) (bytes : List ℕ) (commits : List Commit) (present : PresenceState)
    (rest behind : List ℕ) → HasCome Old workers shape bytes commits present rest → rest ≡ mark ++ behind
    → HasCome (Marked (length commits)) workers shape bytes commits present behind
has_come-marked workers shape bytes commits present rest behind so_far front = record {
  tables = so_far.tables;
  read =
      record {
        text =
            so_far.read.text ∙ ap (λ (t : List ℕ). journal_text Old workers shape commits ++ t) front
            ∙ sym (append_assoc (journal_text Old workers shape commits) mark behind)
            ∙ ap (λ (t : List ℕ). t ++ behind) (start-marks Old workers shape commits);
        formed = subst (HasForm (Marked (length commits))) (append-nil commits) (started-goes_on Old commits [] so_far.read.formed);
        each = so_far.read.each;
        records = so_far.read.records;
        defined = so_far.read.defined;
      };
  rows = so_far.rows;
}

-- each commit takes some bytes
records-length : (before : ℕ) (commits : List Commit) → 4 * length commits ≤ length (records_from before commits)
records-length before [] = omega arith
records-length before (commit ∷ commits) =
    omega (
      arith,
      records-length (before + 1) commits,
      record_of-length (before + 1) commit,
      length-append (record_of (before + 1) commit) (records_from (before + 1) commits),
    )

marked-length : (form : Form) (commits : List Commit) → HasForm form commits → 4 * length commits ≤ length (marked_records form commits)
marked-length New commits formed = records-length 0 commits
marked-length Old commits formed = records-length 0 commits
marked-length (Marked count) commits formed =
    omega (
      arith,
      records-length 0 (take count commits),
      records-length count (drop count commits),
      length-append (records_from 0 (take count commits)) (mark ++ records_from count (drop count commits)),
      length-append mark (records_from count (drop count commits)),
      length-take-le count commits formed.0,
      length-drop count commits,
    )

pub come-length : (form : Form) (workers : ℕ) (shape : Shape) (bytes : List ℕ) (commits : List Commit) (tables : Tables) (rest : List ℕ)
    → RecordsWereRead form workers shape bytes commits tables rest → 6 + 4 * length commits + length rest ≤ length bytes
come-length form workers shape bytes commits tables rest so_far =
    omega (
      arith,
      ap length so_far.text,
      length-append (journal_text form workers shape commits) rest,
      length-append (header form workers shape) (marked_records form commits),
      marked-length form commits so_far.formed,
    )

-- ---- where it stops

-- what a list that goes on beyond the commits so far has next
record GoesOn (form : Form) (workers : ℕ) (shape : Shape) (commits : List Commit) (rest : List ℕ) (commit : Commit) : Type 0 where
  pub held : HasRecord commit
  pub follows : may_follow form commit ≡ true
  pub legal : IsLegal shape workers (commits ++ commit ∷ [])
  pub front : IsBeginning (record_of (length commits + 1) commit) rest

-- what stands behind the commits so far, if the items of another text go on
item-behind : (form other : Form) (workers : ℕ) (shape : Shape) (bytes : List ℕ) (commits others : List Commit) (tables : Tables)
    (rest : List ℕ) (items : List Item) → RecordsWereRead form workers shape bytes commits tables rest
    → HasForm other others → version_code form ≡ version_code other
    → (text : IsBeginning (journal_text other workers shape others) bytes)
    → items_of other others ≡ items_of form commits ++ items → rest ≡ items_text (length commits) items ++ text.0
item-behind form other workers shape bytes commits others tables rest items so_far formed code text e =
    let head = header form workers shape in
    let head' = header other workers shape in
    let front = items_text 0 (items_of form commits) in
    let counted : 0 + length (commits_of (items_of form commits)) ≡ length commits =
    omega (arith, ap length (commits-of_items form commits)) in
    let back = items_text (length commits) items in
    let records : marked_records other others ≡ front ++ back =
    text-of_items other others formed ∙ ap (items_text 0) e ∙ text-append 0 (items_of form commits) items
    ∙ ap (λ (n : ℕ). front ++ items_text n items) counted in
    let here : bytes ≡ (head ++ front) ++ rest =
    so_far.text ∙ ap (λ (t : List ℕ). (head ++ t) ++ rest) (text-of_items form commits so_far.formed) in
    let there : bytes ≡ (head ++ front) ++ (back ++ text.0) =
    text.1 ∙ ap (λ (t : List ℕ). (head' ++ t) ++ text.0) records
    ∙ ap (λ (t : List ℕ). (t ++ (front ++ back)) ++ text.0) (sym (same-header form other workers shape code))
    ∙ ap (λ (t : List ℕ). t ++ text.0) (sym (append_assoc head front back))
    ∙ append_assoc (head ++ front) back text.0 in
    append_cancel_left (head ++ front) rest (back ++ text.0) (sym here ∙ there)

goes_on : (form other : Form) (workers : ℕ) (shape : Shape) (bytes : List ℕ) (commits others : List Commit) (tables : Tables)
    (rest : List ℕ)
    (commit : Commit) (items : List Item) → RecordsWereRead form workers shape bytes commits tables rest
    → IsTextIn other workers shape bytes others → version_code form ≡ version_code other
    → items_of other others ≡ items_of form commits ++ One commit ∷ items → GoesOn form workers shape commits rest commit
goes_on form other workers shape bytes commits others tables rest commit items so_far is code e =
    let last = record_of (length commits + 1) commit in
    let behind = items_text (length commits + 1) items in
    let split = commits-go_on form other commits others commit items e in
    let joined : others ≡ (commits ++ commit ∷ []) ++ commits_of items =
    split ∙ sym (append_assoc commits (commit ∷ []) (commits_of items)) in
    record {
      held = all-next HasRecord commits commit (commits_of items) (subst (AllByRecursion HasRecord) split is.journaled.records);
      follows = by form code e;
      legal =
          record {
            each =
                all-front (IsCommit workers) (commits ++ commit ∷ []) (commits_of items)
                (subst (AllByRecursion (IsCommit workers)) joined is.journaled.legal.each);
            defined =
                defined-front (opening shape) (commits ++ commit ∷ []) (commits_of items)
                (subst (λ (cs : List Commit). IsOk (apply_commits (opening shape) cs)) joined is.journaled.legal.defined);
          };
      front = (
        behind ++ is.text.0,
        item-behind form other workers shape bytes commits others tables rest (One commit ∷ items) so_far is.formed code is.text e
            ∙ append_assoc last behind is.text.0,
      );
    }
  where
    by : (one : Form) → version_code one ≡ version_code other → items_of other others ≡ items_of one commits ++ One commit ∷ items
        → may_follow one commit ≡ true
    by New c same = refl
    by Old c same = old-goes_on other commits others commit items c is.formed same
    by (Marked count) c same = refl

pub is_legal : (form : Form) (workers : ℕ) (shape : Shape) (bytes : List ℕ) (commits : List Commit) (tables : Tables) (rest : List ℕ)
    → RecordsWereRead form workers shape bytes commits tables rest → IsLegal shape workers commits
is_legal form workers shape bytes commits tables rest so_far = record {
  each = so_far.each;
  defined = subst (λ (r : Result Tables Refusal). IsOk r) (sym so_far.defined) refl;
}

-- where nothing goes on, neither a commit nor the mark, the commits so far are the kept ones
kept-here : (law : SpelledAreFound) (form : Form) (workers : ℕ) (shape : Shape) (bytes : List ℕ) (commits : List Commit) (tables : Tables)
    (rest : List ℕ)
    → RecordsWereRead form workers shape bytes commits tables rest → (form ≡ Old → ¬ IsBeginning mark rest)
    → ((commit : Commit) → ¬ GoesOn form workers shape commits rest commit) → IsKept form workers shape bytes commits
kept-here law form workers shape bytes commits tables rest so_far unmarked stuck = record {
  is =
      record {
        journaled = record { legal = is_legal form workers shape bytes commits tables rest so_far; records = so_far.records };
        formed = so_far.formed;
        text = (rest, so_far.text);
      };
  longest = λ other others is.
      let both =
      are_nested law form other workers shape bytes commits others so_far.records is.journaled.records so_far.formed is.formed
      (rest, so_far.text) is.text in
      no_longer other others is both.code (elim both.items [
        | inl front ↦ nothing_behind other others is both.code front.0 front.1
        | inr front ↦ text-longer (items_of other others) (items_of form commits) front
      ]);
}
  where
    no_longer : (other : Form) (others : List Commit) → IsTextIn other workers shape bytes others → version_code form ≡ version_code other
        → length (items_text 0 (items_of other others)) ≤ length (items_text 0 (items_of form commits))
        → length (journal_text other workers shape others) ≤ length (journal_text form workers shape commits)
    no_longer other others is code few =
        omega (
          arith,
          few,
          text_length form workers shape commits so_far.formed,
          text_length other workers shape others is.formed,
          ap length (same-header form other workers shape code),
        )

    nothing_behind : (other : Form) (others : List Commit) → IsTextIn other workers shape bytes others
        → version_code form ≡ version_code other → (items : List Item) → items_of other others ≡ items_of form commits ++ items
        → length (items_text 0 (items_of other others)) ≤ length (items_text 0 (items_of form commits))
    nothing_behind other others is code [] e =
        omega (arith, ap (λ (xs : List Item). length (items_text 0 xs)) (e ∙ append-nil (items_of form commits)))
    nothing_behind other others is code (Mark ∷ items) e =
        let behind = item-behind form other workers shape bytes commits others tables rest (Mark ∷ items) so_far is.formed code is.text e in
        let old = mark-goes_on form other commits others items code e in
        absurd (unmarked old
        (items_text (length commits) items ++ is.text.0, behind ∙ append_assoc mark (items_text (length commits) items) is.text.0))
    nothing_behind other others is code (One commit ∷ items) e =
        absurd (stuck commit (goes_on form other workers shape bytes commits others tables rest commit items so_far is code e))

-- the offset behind the commits so far
behind-text : (form : Form) (workers : ℕ) (shape : Shape) (bytes : List ℕ) (commits : List Commit) (tables : Tables) (rest : List ℕ)
    (offset : ℕ)
    → RecordsWereRead form workers shape bytes commits tables rest → offset ≡ length bytes - length rest
    → (offset ≡ length (journal_text form workers shape commits)) × (drop offset bytes ≡ rest)
behind-text form workers shape bytes commits tables rest offset so_far is =
    let text = journal_text form workers shape commits in
    let size : offset ≡ length text = omega (arith, is, ap length so_far.text, length-append text rest) in
    (size, ap (drop offset) so_far.text ∙ drop_at text rest offset (sym size))

-- the mark is not torn
mark-not_torn : (behind : List ℕ) → is_torn Old (mark ++ behind) ≡ false
mark-not_torn behind = or_from _ _ (le-ltb _ _ (omega (arith, length-append mark behind))) refl

mark-whole : (form : Form) (rest : List ℕ) → is_torn form rest ≡ true → form ≡ Old → ¬ IsBeginning mark rest
mark-whole form rest torn old front =
    let here = mark-not_torn front.0 in
    let wrong : true ≡ false = sym torn ∙ ap (λ (one : Form). is_torn one rest) old ∙ ap (is_torn Old) front.1 ∙ here in
    absurd cc

pub recovered : (law : SpelledAreFound) (form : Form) (workers : ℕ) (shape : Shape) (bytes : List ℕ) (commits : List Commit)
    (tables : Tables)
    (rest : List ℕ) (offset : ℕ) → RecordsWereRead form workers shape bytes commits tables rest → offset ≡ length bytes - length rest
    → is_torn form rest ≡ true → IsRecovered workers shape bytes form commits offset
recovered law form workers shape bytes commits tables rest offset so_far is torn =
    let behind = behind-text form workers shape bytes commits tables rest offset so_far is in
    let kept = kept-here law form workers shape bytes commits tables rest so_far (mark-whole form rest torn) (λ commit on.
    let whole = ap (is_torn form) on.front.1 ∙ record_whole form (length commits + 1) commit on.front.0 on.held in
    let wrong : true ≡ false = sym torn ∙ whole in
    absurd cc) in
    inr ((kept, behind.0), ap (is_torn form) behind.1 ∙ torn)

-- a commit that goes on has a record by the next number
goes_on-there : (form : Form) (workers : ℕ) (shape : Shape) (commits : List Commit) (rest : List ℕ) (commit : Commit)
    → length commits + 1 < 2 ^ 64 → GoesOn form workers shape commits rest commit → IsRecordAt form rest (length commits + 1) commit
goes_on-there form workers shape commits rest commit few on =
    record { numbered = few; held = on.held; follows = on.follows; front = on.front }

-- a commit that is legal behind the others is defined on the tables that they make
legal-defined : (form : Form) (workers : ℕ) (shape : Shape) (bytes : List ℕ) (commits : List Commit) (tables : Tables) (rest : List ℕ)
    (commit : Commit)
    → RecordsWereRead form workers shape bytes commits tables rest → IsLegal shape workers (commits ++ commit ∷ [])
    → IsDefinedOn workers tables commit
legal-defined form workers shape bytes commits tables rest commit so_far legal =
    let is_commit = all-next (IsCommit workers) commits commit [] legal.each in
    let same = defined-push (opening shape) tables commits commit so_far.defined
    ∙ alone (apply_entries tables commit.entries) in
    (is_commit.worker, subst (λ (r : Result Tables Refusal). IsOk r) same legal.defined)

pub refused : (law : SpelledAreFound) (form : Form) (workers : ℕ) (shape : Shape) (bytes : List ℕ) (commits : List Commit)
    (tables : Tables) (rest : List ℕ) (offset : ℕ) (fault : JournalFault) → RecordsWereRead form workers shape bytes commits tables rest
    → (form ≡ Old → ¬ IsBeginning mark rest) → offset ≡ length bytes - length rest → length bytes < 2 ^ 64
    → IsStop form workers (length commits + 1) tables offset rest fault → IsRefusal workers shape bytes fault
refused law form workers shape bytes commits tables rest offset OtherHeader so_far unmarked is few stop = absurd stop
refused law form workers shape bytes commits tables rest offset (Damaged at) so_far unmarked is few stop =
    let behind = behind-text form workers shape bytes commits tables rest offset so_far is in
    let size = come-length form workers shape bytes commits tables rest so_far in
    let kept = kept-here law form workers shape bytes commits tables rest so_far unmarked (λ commit on.
    stop.1.none (length commits + 1) commit (goes_on-there form workers shape commits rest commit (omega arith) on)) in (
      form,
      commits,
      (kept, stop.0 ∙ behind.0),
      subst (IsDamaged form) (sym (ap (λ (n : ℕ). drop n bytes) stop.0 ∙ behind.1)) stop.1,
    )
refused law form workers shape bytes commits tables rest offset (OutOfOrder at) so_far unmarked is few stop =
    let behind = behind-text form workers shape bytes commits tables rest offset so_far is in
    let size = come-length form workers shape bytes commits tables rest so_far in
    let kept = kept-here law form workers shape bytes commits tables rest so_far unmarked (λ commit on.
    stop.1.other (same_record law form rest stop.1.number (length commits + 1) stop.1.commit commit stop.1.there
    (goes_on-there form workers shape commits rest commit (omega arith) on)).0) in (
      form,
      commits,
      (kept, stop.0 ∙ behind.0),
      subst (IsOutOfOrder form (length commits + 1)) (sym (ap (λ (n : ℕ). drop n bytes) stop.0 ∙ behind.1)) stop.1,
    )
refused law form workers shape bytes commits tables rest offset (Illegal at) so_far unmarked is few stop =
    let behind = behind-text form workers shape bytes commits tables rest offset so_far is in
    let size = come-length form workers shape bytes commits tables rest so_far in
    let illegal : ¬ IsLegal shape workers (commits ++ stop.1.commit ∷ []) =
    λ legal. stop.1.undefined (legal-defined form workers shape bytes commits tables rest stop.1.commit so_far legal) in
    let kept = kept-here law form workers shape bytes commits tables rest so_far unmarked (λ commit on.
    let same = (same_record law form rest (length commits + 1) (length commits + 1) commit stop.1.commit
    (goes_on-there form workers shape commits rest commit (omega arith) on) stop.1.there).1 in
    illegal (subst (λ (c : Commit). IsLegal shape workers (commits ++ c ∷ [])) same on.legal)) in (
      form,
      commits,
      (kept, stop.0 ∙ behind.0),
      subst (IsIllegal form workers shape commits) (sym (ap (λ (n : ℕ). drop n bytes) stop.0 ∙ behind.1)) (record {
        commit = stop.1.commit;
        there = stop.1.there;
        illegal = illegal;
      }),
    )
refused law form workers shape bytes commits tables rest offset Memory so_far unmarked is few stop =
    (form, (marked_records form commits ++ rest, behind_header form workers shape bytes (marked_records form commits) rest so_far.text))
