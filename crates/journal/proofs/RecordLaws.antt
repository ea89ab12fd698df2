-- Records at the front of bytes: what is read is spelled so, and what is spelled so is read.
use Rattle.std.proofs.Common.{◌≡◌, ℕ, ◌+◌, ◌*◌, ◌%◌, ◌^◌, ◌<◌, ◌≤◌, Bool, true, false, cond, eqb, ltb, ◌||◌, ◌&&◌, List, [], ◌∷◌, ◌++◌}
use Rattle.std.proofs.Common.{length, get_or, take, drop, Option, Some, None, refl, sym, ap, subst, ◌∙◌, inl, inr, arith, append_assoc}
use Rattle.std.proofs.Common.{length-append}
use Rattle.std.specs.Option.{option_map}
use Rattle.std.specs.Prelude.{is_some}
use Rattle.std.specs.List.{flat_map, list_all, AllByRecursion}
use Rattle.std.proofs.Math.Nat.{mod-eq_of_lt}
use Rattle.std.proofs.lemmas.Bool.{cases_lt, ltb-false, le-ltb, not-true, not_from_false, and_from, and_parts, or_from}
use Rattle.std.proofs.lemmas.Bool.{or_parts, ne_eqb}
use Rattle.std.proofs.lemmas.Bool.Decides.{nat_tests}
use Rattle.std.proofs.lemmas.List.{length-take, length-drop, take-append-drop, take_at, drop-drop, drop_more}
use Rattle.std.proofs.lemmas.List.{get_or-take, get_or-drop, get_or_past}
use Rattle.byteorder.specs.Endian.{big_bytes, big_number}
use Rattle.byteorder.specs.Numbers.{big_number-reads_back, big_from-bytes}
use Rattle.rows.specs.declared.commit.Commit.{Commit}
use Rattle.rows.specs.declared.entry.Entry.{Entry}
use Rattle.rows.specs.declared.entry.Entry.TheVariants.{Insert, Patch, Delete, AddColumn}
use Rattle.rows.specs.Entries.{row_of}
use Rattle.rows.specs.Limits.{commit_entries_max}
use Rattle.rows.specs.Laws.{FoundAreSpelled, SpelledAreFound, NumbersAreSpelled, NumbersAreBelow}
use Rattle.rows.specs.Reading.{entries_filling}
use Rattle.rows.specs.declared.value.Value.TheVariants.{Int, Octets}
use Rattle.rows.specs.Spelling.{AreBytes, HasSpelling, entry_spelling}
use Rattle.journal.specs.declared.numbered_commit.NumberedCommit.{NumberedCommit}
use Rattle.journal.specs.declared.form.Form.{Form}
use Rattle.journal.specs.declared.form.Form.TheVariants.{New, Old, Marked}
use Rattle.journal.specs.Inner.Reading.{commit_in, following, record_at}
use Rattle.journal.specs.Recovery.{IsBeginning, HasRecord, entry_len_min, entry_len_max, record_front_len, record_len_min, record_len_max}
use Rattle.journal.specs.Recovery.{is_old, is_record_len, is_torn, may_follow, IsRecordAt, IsDamaged}
use Rattle.journal.specs.Text.{record_body, record_of}

-- ---- how long records are

entry_least : (entry : Entry) → HasSpelling entry → entry_len_min New ≤ length (entry_spelling entry)
entry_least (Insert table row content) fits = omega arith
entry_least (Patch table row offset content) fits = omega arith
entry_least (Delete table row) fits = omega arith
entry_least (AddColumn table (Int number)) fits = omega arith
entry_least (AddColumn table (Octets bytes)) fits = omega (arith, fits.value.0)

pub entry_most : (entry : Entry) → HasSpelling entry → length (entry_spelling entry) ≤ entry_len_max
entry_most (Insert table row content) fits = omega (arith, fits.few)
entry_most (Patch table row offset content) fits = omega (arith, fits.few)
entry_most (Delete table row) fits = omega arith
entry_most (AddColumn table (Int number)) fits = omega arith
entry_most (AddColumn table (Octets bytes)) fits = omega (arith, fits.value.1)

old-entry_least : (entry : Entry) → is_some (row_of entry) ≡ true → entry_len_min Old ≤ length (entry_spelling entry)
old-entry_least (Insert table row content) old = omega arith
old-entry_least (Patch table row offset content) old = omega arith
old-entry_least (Delete table row) old = omega arith
old-entry_least (AddColumn table default) old = absurd cc

entries_least : (entries : List Entry) → AllByRecursion HasSpelling entries
    → entry_len_min New * length entries ≤ length (flat_map entry_spelling entries)
entries_least [] fits = omega arith
entries_least (entry ∷ entries) fits =
    omega (
      arith,
      entry_least entry fits.0,
      entries_least entries fits.1,
      length-append (entry_spelling entry) (flat_map entry_spelling entries),
    )

old-entries_least : (entries : List Entry) → list_all (λ entry. is_some (row_of entry)) entries ≡ true
    → entry_len_min Old * length entries ≤ length (flat_map entry_spelling entries)
old-entries_least [] old = omega arith
old-entries_least (entry ∷ entries) old =
    let parts = and_parts (is_some (row_of entry)) _ old in
    omega (
      arith,
      old-entry_least entry parts.0,
      old-entries_least entries parts.1,
      length-append (entry_spelling entry) (flat_map entry_spelling entries),
    )

entries_most : (entries : List Entry) → AllByRecursion HasSpelling entries
    → length (flat_map entry_spelling entries) ≤ entry_len_max * length entries
entries_most [] fits = omega arith
entries_most (entry ∷ entries) fits =
    omega (
      arith,
      entry_most entry fits.0,
      entries_most entries fits.1,
      length-append (entry_spelling entry) (flat_map entry_spelling entries),
    )

-- a record's length is one that a record may have
record IsLong (form : Form) (len : ℕ) : Type 0 where
  least : record_len_min form ≤ len
  most : len ≤ record_len_max

new-long : (number : ℕ) (commit : Commit) → HasRecord commit → IsLong New (length (record_body number commit))
new-long number commit held =
    let least = entries_least commit.entries held.spelled in
    let most = entries_most commit.entries held.spelled in
    let size : length (record_body number commit) ≡ record_front_len + length (flat_map entry_spelling commit.entries) = omega arith in
    record { least = omega (arith, held.some); most = omega (arith, held.few) }

body_long : (form : Form) (number : ℕ) (commit : Commit) → HasRecord commit → may_follow form commit ≡ true
    → IsLong form (length (record_body number commit))
body_long New number commit held follows = new-long number commit held
body_long Old number commit held follows =
    let least = old-entries_least commit.entries follows in
    let size : length (record_body number commit) ≡ record_front_len + length (flat_map entry_spelling commit.entries) = omega arith in
    record { least = omega (arith, held.some); most = (new-long number commit held).most }
body_long (Marked count) number commit held follows =
    let long = new-long number commit held in record { least = long.least; most = long.most }

is_record_len-long : (form : Form) (len : ℕ) → IsLong form len → is_record_len form len ≡ true
is_record_len-long form len long =
    and_from _ _ (not_from_false _ (le-ltb _ _ long.least)) (not_from_false _ (le-ltb _ _ long.most))

pub is_record_len-body : (form : Form) (number : ℕ) (commit : Commit) → HasRecord commit → may_follow form commit ≡ true
    → is_record_len form (length (record_body number commit)) ≡ true
is_record_len-body form number commit held follows =
    is_record_len-long form (length (record_body number commit)) (body_long form number commit held follows)

long_from : (form : Form) (len : ℕ) → is_record_len form len ≡ true → IsLong form len
long_from form len h =
    let parts = and_parts _ _ h in
    record { least = ltb-false _ _ (not-true _ parts.0); most = ltb-false _ _ (not-true _ parts.1) }

-- a record has a body
pub body-some : (number : ℕ) (commit : Commit) → HasRecord commit → 0 < length (record_body number commit)
body-some number commit held = omega (arith, (new-long number commit held).least)

-- no record is shorter than what stands before its entries
pub front-within : (form : Form) → record_front_len ≤ record_len_min form
front-within New = omega arith
front-within Old = omega arith
front-within (Marked count) = omega arith

-- ---- what is spelled so is read

-- the length stands in front
pub front_len : (number : ℕ) (commit : Commit) (more : List ℕ) → HasRecord commit
    → big_number 4 (record_of number commit ++ more) ≡ length (record_body number commit)
front_len number commit more held =
    let long = new-long number commit held in
    big_number-reads_back 4 (length (record_body number commit)) (record_body number commit ++ more) (omega (arith, long.most))

pub record_of-length : (number : ℕ) (commit : Commit) → length (record_of number commit) ≡ 4 + length (record_body number commit)
record_of-length number commit = omega arith

commit_in-is : (body : List ℕ) (entries : List Entry) → 0 < big_number 2 (drop 9 body) → big_number 2 (drop 9 body) ≤ commit_entries_max
    → entries_filling (big_number 2 (drop 9 body)) (drop 11 body) ≡ Some entries
    → commit_in body ≡ Some
    (record { number = big_number 8 (drop 1 body); commit = record { worker = get_or body 0 0; entries = entries } })
commit_in-is body entries some few filled =
    let count = big_number 2 (drop 9 body) in
    let counted : (eqb count 0 || ltb commit_entries_max count) ≡ false =
    or_from _ _ (ne_eqb _ _ (λ none. absurd (omega arith))) (le-ltb _ _ few) in
    rw (counted, filled) refl

commit_in-again : (law : SpelledAreFound) (number : ℕ) (commit : Commit) → HasRecord commit
    → commit_in (record_body number commit) ≡ Some (record { number = number % 256 ^ 8; commit = commit })
commit_in-again law number commit held =
    let joined = flat_map entry_spelling commit.entries in
    let body : List ℕ = record_body number commit in
    let count_is : big_number 2 (drop 9 body) ≡ length commit.entries =
    big_number-reads_back 2 (length commit.entries) joined (omega (arith, held.few)) in
    let number_is : big_number 8 (drop 1 body) ≡ number % 256 ^ 8 = big_from-bytes 8 number (drop 9 body) in
    let filled : entries_filling (big_number 2 (drop 9 body)) joined ≡ Some commit.entries =
    ap (λ (n : ℕ). entries_filling n joined) count_is ∙ law commit.entries held.spelled in
    commit_in-is body commit.entries (omega (arith, held.some)) (omega (arith, held.few)) filled
    ∙ ap (λ (n : ℕ). Some (record { number = n; commit = commit })) number_is

record_at-is : (form : Form) (bytes : List ℕ) → IsLong form (big_number 4 bytes)
    → record_at form bytes ≡ following form (commit_in (take (big_number 4 bytes) (drop 4 bytes)))
record_at-is form bytes long = rw (is_record_len-long form _ long) refl

pub record_at-again : (law : SpelledAreFound) (form : Form) (number : ℕ) (commit : Commit) (more : List ℕ) → HasRecord commit
    → may_follow form commit ≡ true
    → record_at form (record_of number commit ++ more) ≡ Some (record { number = number % 256 ^ 8; commit = commit })
record_at-again law form number commit more held follows =
    let bytes : List ℕ = record_of number commit ++ more in
    let len_is = front_len number commit more held in
    let long : IsLong form (big_number 4 bytes) = subst (IsLong form) (sym len_is) (body_long form number commit held follows) in
    record_at-is form bytes long
    ∙ ap (λ (n : ℕ). following form (commit_in (take n (record_body number commit ++ more)))) len_is
    ∙ ap (λ (t : List ℕ). following form (commit_in t)) (take_at (record_body number commit) more (length (record_body number commit)) refl)
    ∙ ap (following form) (commit_in-again law number commit held)
    ∙ ap (λ (b : Bool). cond b (Some (record { number = number % 256 ^ 8; commit = commit })) None) follows

-- a record that is whole is not torn
pub record_whole : (form : Form) (number : ℕ) (commit : Commit) (more : List ℕ) → HasRecord commit
    → is_torn form (record_of number commit ++ more) ≡ false
record_whole form number commit more held =
    let len_is = front_len number commit more held in
    let size = record_of-length number commit in
    let joined = length-append (record_of number commit) more in
    let enough : ltb (length (record_of number commit ++ more)) 4 ≡ false = le-ltb _ _ (omega arith) in
    let there : ltb (length (record_of number commit ++ more)) (4 + big_number 4 (record_of number commit ++ more)) ≡ false =
    le-ltb _ _ (omega arith) in
    torn_not (record_of number commit ++ more) enough there
  where
    torn_not : (bytes : List ℕ) → ltb (length bytes) 4 ≡ false → ltb (length bytes) (4 + big_number 4 bytes) ≡ false
        → is_torn form bytes ≡ false
    torn_not bytes enough there = or_from _ _ enough (right (is_record_len form (big_number 4 bytes)) _ there)
      where
        right : (x y : Bool) → y ≡ false → (x && y) ≡ false
        right true y h = h
        right false y h = refl

-- one record stands at the front of bytes
abbrev as_numbered : ℕ → Commit → NumberedCommit
as_numbered number commit = record { number = number; commit = commit }

same_parts : (n m : ℕ) (commit other : Commit) → Some (as_numbered n commit) ≡ Some (as_numbered m other) → (n ≡ m) × (commit ≡ other)
same_parts n m commit other e = (ap number_in e, ap commit_of e)
  where
    number_in : Option NumberedCommit → ℕ
    number_in None = 0
    number_in (Some found) = found.number

    commit_of : Option NumberedCommit → Commit
    commit_of None = commit
    commit_of (Some found) = found.commit

pub same_commit : (law : SpelledAreFound) (bytes : List ℕ) (n m : ℕ) (commit other : Commit) → HasRecord commit → HasRecord other
    → IsBeginning (record_of n commit) bytes → IsBeginning (record_of m other) bytes
    → (n % 256 ^ 8 ≡ m % 256 ^ 8) × (commit ≡ other)
same_commit law bytes n m commit other held held' front front' =
    let one = ap (record_at New) front.1 ∙ record_at-again law New n commit front.0 held refl in
    let two = ap (record_at New) front'.1 ∙ record_at-again law New m other front'.0 held' refl in
    same_parts (n % 256 ^ 8) (m % 256 ^ 8) commit other (sym one ∙ two)

pub same_record : (law : SpelledAreFound) (form : Form) (bytes : List ℕ) (n m : ℕ) (commit other : Commit) → IsRecordAt form bytes n commit
    → IsRecordAt form bytes m other → (n ≡ m) × (commit ≡ other)
same_record law form bytes n m commit other one two =
    let same = same_commit law bytes n m commit other one.held two.held one.front two.front in
    (sym (mod-eq_of_lt one.numbered) ∙ same.0 ∙ mod-eq_of_lt two.numbered, same.1)

-- ---- what is read is spelled so

-- bytes of bytes, behind others or at the front
AreBytes-drop : (n : ℕ) (bytes : List ℕ) → AreBytes bytes → AreBytes (drop n bytes)
AreBytes-drop n bytes h i = rw get_or-drop (h (n + i))

AreBytes-take : (n : ℕ) (bytes : List ℕ) → AreBytes bytes → AreBytes (take n bytes)
AreBytes-take n bytes h i =
    elim (cases_lt i n) [
      | inl lt ↦ rw (get_or-take n bytes i 0 lt) (h i)
      | inr le ↦ rw (get_or_past (take n bytes) i 0 (omega (arith, length-take n bytes))) (omega arith)
    ]

passed : {A : Type 0} (b : Bool) (o : Option A) (y : A) → cond b o None ≡ Some y → (b ≡ true) × (o ≡ Some y)
passed true o y e = (refl, e)
passed false o y e = absurd cc

refused : {A : Type 0} (b : Bool) (o : Option A) (y : A) → cond b None o ≡ Some y → (b ≡ false) × (o ≡ Some y)
refused true o y e = absurd cc
refused false o y e = (refl, e)

-- what a body is read as, its entries given
abbrev body_of : List ℕ → List Entry → NumberedCommit
body_of body entries = record { number = big_number 8 (drop 1 body); commit = record { worker = get_or body 0 0; entries = entries } }

mapped : (f : List Entry → NumberedCommit) (o : Option (List Entry)) (found : NumberedCommit) → option_map f o ≡ Some found
    → (entries : List Entry) × (o ≡ Some entries) × (f entries ≡ found)
mapped f None found e = absurd cc
mapped f (Some entries) found e = (entries, refl, cc)

record IsReadBody (body : List ℕ) (found : NumberedCommit) : Type 0 where
  numbered : found.number < 2 ^ 64
  held : HasRecord found.commit
  spelled : record_body found.number found.commit ≡ body

record IsWhole (form : Form) (bytes : List ℕ) : Type 0 where
  long : 4 ≤ length bytes
  there : is_record_len form (big_number 4 bytes) ≡ true → 4 + big_number 4 bytes ≤ length bytes

whole_from : (form : Form) (bytes : List ℕ) → is_torn form bytes ≡ false → IsWhole form bytes
whole_from form bytes whole =
    let parts = or_parts (ltb (length bytes) 4) _ whole in
    record { long = ltb-false _ _ parts.0; there = λ fits. ltb-false _ _ (by _ _ fits parts.1) }
  where
    by : (x y : Bool) → x ≡ true → (x && y) ≡ false → y ≡ false
    by true y h e = e
    by false y h e = absurd cc

-- what is read, with what stands behind it
pub record IsReadAt (form : Form) (bytes : List ℕ) (found : NumberedCommit) : Type 0 where
  pub numbered : found.number < 2 ^ 64
  pub held : HasRecord found.commit
  pub follows : may_follow form found.commit ≡ true
  pub there : 4 + big_number 4 bytes ≤ length bytes
  pub spelled : bytes ≡ record_of found.number found.commit ++ drop (4 + big_number 4 bytes) bytes

-- a commit that may follow is the one that was read
followed : (form : Form) (o : Option NumberedCommit) (found : NumberedCommit) → following form o ≡ Some found
    → (o ≡ Some found) × (may_follow form found.commit ≡ true)
followed form None found e = absurd cc
followed form (Some read) found e =
    let tested = passed (may_follow form read.commit) (Some read) found e in
    (tested.1, ap (may_follow form) (ap commit_in_some (sym tested.1)) ∙ tested.0)
  where
    commit_in_some : Option NumberedCommit → Commit
    commit_in_some None = read.commit
    commit_in_some (Some one) = one.commit

module _ (cut : NumbersAreSpelled) (below : NumbersAreBelow) where
  commit_in-spelled : (law : FoundAreSpelled) (body : List ℕ) (found : NumberedCommit) → AreBytes body → 11 ≤ length body
      → commit_in body ≡ Some found → IsReadBody body found
  commit_in-spelled law body found fits long e =
      let count = big_number 2 (drop 9 body) in
      let number = big_number 8 (drop 1 body) in
      let worker = get_or body 0 0 in
      let tested = refused (eqb count 0 || ltb commit_entries_max count) _ found e in
      let parts = mapped (body_of body) (entries_filling count (drop 11 body)) found tested.1 in
      let entries = parts.0 in
      let read = law count (drop 11 body) entries (AreBytes-drop 11 body fits) parts.1 in
      let as_many = read.0 in
      let joined = flat_map entry_spelling entries in
      let at_9 : big_bytes 2 (length entries) ++ joined ≡ drop 9 body =
      ap (λ (n : ℕ). big_bytes 2 n ++ joined) as_many ∙ ap (λ (t : List ℕ). big_bytes 2 count ++ t) (sym read.2)
      ∙ cut 2 9 body (omega arith) fits in
      let at_1 : big_bytes 8 number ++ drop 9 body ≡ drop 1 body = cut 8 1 body (omega arith) fits in
      let at_0 : worker ∷ drop 1 body ≡ body = sym (drop_more body 0 0 (omega arith)) in
      let whole : record_body number (record { worker = worker; entries = entries }) ≡ body =
      ap (λ (t : List ℕ). worker ∷ (big_bytes 8 number ++ t)) at_9 ∙ ap (λ (t : List ℕ). worker ∷ t) at_1 ∙ at_0 in
      let counted = or_parts (eqb count 0) (ltb commit_entries_max count) tested.0 in
      let made : IsReadBody body (body_of body entries) = record {
        numbered = below 8 1 body fits;
        held = record { some = grind (arith, nat_tests); few = grind (arith, nat_tests); spelled = read.1 };
        spelled = whole;
      } in
      subst (IsReadBody body) parts.2 made

  pub record_at-spelled : (law : FoundAreSpelled) (form : Form) (bytes : List ℕ) (found : NumberedCommit) → AreBytes bytes
      → is_torn form bytes ≡ false → record_at form bytes ≡ Some found → IsReadAt form bytes found
  record_at-spelled law form bytes found fits whole e =
      let len = big_number 4 bytes in
      let size = whole_from form bytes whole in
      let tested = passed (is_record_len form len) (following form (commit_in (take len (drop 4 bytes)))) found e in
      let one = followed form (commit_in (take len (drop 4 bytes))) found tested.1 in
      let long = long_from form len tested.0 in
      let within = size.there tested.0 in
      let body : List ℕ = take len (drop 4 bytes) in
      let body_len : length body ≡ len = omega (arith, length-take len (drop 4 bytes), length-drop 4 bytes) in
      let are_bytes = AreBytes-take len (drop 4 bytes) (AreBytes-drop 4 bytes fits) in
      let read = commit_in-spelled law body found are_bytes (omega (arith, long.least, front-within form)) one.0 in
      let same_len : length (record_body found.number found.commit) ≡ len = ap length read.spelled ∙ body_len in
      let text : record_of found.number found.commit ≡ big_bytes 4 len ++ body =
      ap (λ (n : ℕ). big_bytes 4 n ++ record_body found.number found.commit) same_len
      ∙ ap (λ (t : List ℕ). big_bytes 4 len ++ t) read.spelled in
      let rest : body ++ drop (4 + len) bytes ≡ drop 4 bytes =
      ap (λ (t : List ℕ). body ++ t) (sym (drop-drop len 4 bytes)) ∙ take-append-drop len (drop 4 bytes) in
      record {
        numbered = read.numbered;
        held = read.held;
        follows = one.1;
        there = within;
        spelled =
            sym (ap (λ (t : List ℕ). t ++ drop (4 + len) bytes) text ∙ append_assoc (big_bytes 4 len) body (drop (4 + len) bytes)
            ∙ ap (λ (t : List ℕ). big_bytes 4 len ++ t) rest ∙ cut 4 0 bytes size.long fits);
      }

  pub read_here : (law : FoundAreSpelled) (form : Form) (bytes : List ℕ) (found : NumberedCommit) (result : Option NumberedCommit)
      → AreBytes bytes → is_torn form bytes ≡ false → result ≡ record_at form bytes → result ≡ Some found → IsReadAt form bytes found
  read_here law form bytes found result fits whole is some = record_at-spelled law form bytes found fits whole (sym is ∙ some)

-- what is read stands there
pub record_at-there : (form : Form) (bytes : List ℕ) (found : NumberedCommit) → IsReadAt form bytes found
    → IsRecordAt form bytes found.number found.commit
record_at-there form bytes found read = record {
  numbered = read.numbered;
  held = read.held;
  follows = read.follows;
  front = (drop (4 + big_number 4 bytes) bytes, read.spelled);
}

-- where nothing is read, no record stands
pub record_at-damaged : (law : SpelledAreFound) (form : Form) (bytes : List ℕ) → is_torn form bytes ≡ false → record_at form bytes ≡ None
    → IsDamaged form bytes
record_at-damaged law form bytes whole e = record {
  whole = whole;
  none = λ number commit there.
      let read = ap (record_at form) there.front.1 ∙ record_at-again law form number commit there.front.0 there.held there.follows in
      let wrong : None ≡ Some (record { number = number % 256 ^ 8; commit = commit }) = sym e ∙ read in
      absurd cc;
}
