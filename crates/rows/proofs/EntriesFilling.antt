-- Entries that fill bytes: read one after the other, what is read is spelled so, and what is spelled so is read.
use Rattle.std.proofs.Common.{◌≡◌, ℕ, zero, suc, ◌+◌, ◌-◌, ◌<◌, ◌≤◌, Bool, true, false, List, [], ◌∷◌, ◌++◌, length, drop}
use Rattle.std.proofs.Common.{Option, Some, None}
use Rattle.std.proofs.Common.{refl, sym, ap, subst, ◌∙◌, append_assoc, arith}
use Rattle.std.specs.Prelude.{is_some}
use Rattle.std.specs.Option.{option_map, unwrap_or}
use Rattle.std.proofs.lemmas.List.{drop_at}
use Rattle.std.specs.List.{flat_map, list_all, AllByRecursion}
use Rattle.rows.specs.declared.entry.Entry.{Entry}
use Rattle.rows.specs.Reading.{entry_at, IsSpelledAt, behind, entries_filling}
use Rattle.rows.specs.Spelling.{AreBytes, HasSpelling, entry_spelling}
use Rattle.rows.specs.Laws.{FoundAreSpelled, SpelledAreFound}
use Rattle.rows.proofs.Bytes.{AreBytes-drop}
use Rattle.rows.proofs.EntryReading.{entry_at-spelled, entry_at-again}

some_option_map : {A B : Type 0} (f : A → B) (o : Option A) → is_some (option_map f o) ≡ is_some o
some_option_map f None = refl
some_option_map f (Some x) = refl

-- one step of a loop, where an entry stands and where none does
filling_more : (count i : ℕ) (bytes : List ℕ) (found : Entry × ℕ) → i < count → entry_at bytes ≡ Some found
    → entries_filling (count - i) bytes ≡ option_map (λ others. found.0 ∷ others) (entries_filling (count - (i + 1)) (drop found.1 bytes))
filling_more count i bytes found lt e =
    let k : count - i ≡ suc (count - (i + 1)) = omega arith in
    rw k (ap (λ (o : Option (Entry × ℕ)). behind o (λ len. entries_filling (count - (i + 1)) (drop len bytes))) e)

filling_none : (count i : ℕ) (bytes : List ℕ) → i < count → entry_at bytes ≡ None → entries_filling (count - i) bytes ≡ None
filling_none count i bytes lt e =
    let k : count - i ≡ suc (count - (i + 1)) = omega arith in
    rw k (ap (λ (o : Option (Entry × ℕ)). behind o (λ len. entries_filling (count - (i + 1)) (drop len bytes))) e)

-- whether entries fill the bytes, as a loop finds out
pub filled_more : (count i : ℕ) (bytes : List ℕ) (found : Entry × ℕ) (answer : Bool) → i < count → entry_at bytes ≡ Some found
    → is_some (entries_filling (count - i) bytes) ≡ answer → is_some (entries_filling (count - (i + 1)) (drop found.1 bytes)) ≡ answer
filled_more count i bytes found answer lt e so_far =
    sym (some_option_map (λ (others : List Entry). found.0 ∷ others) (entries_filling (count - (i + 1)) (drop found.1 bytes)))
    ∙ sym (ap (λ (o : Option (List Entry)). is_some o) (filling_more count i bytes found lt e)) ∙ so_far

pub filled_not : (count i : ℕ) (bytes : List ℕ) (answer : Bool) → i < count → entry_at bytes ≡ None
    → is_some (entries_filling (count - i) bytes) ≡ answer → false ≡ answer
filled_not count i bytes answer lt e so_far = sym (ap (λ (o : Option (List Entry)). is_some o) (filling_none count i bytes lt e)) ∙ so_far

-- the entries that fill the bytes, as a loop gathers them
pub gathered_more : (front : List Entry) (count i : ℕ) (bytes : List ℕ) (found : Entry × ℕ) (all : Option (List Entry)) → i < count
    → entry_at bytes ≡ Some found
    → all ≡ option_map (λ others. front ++ others) (entries_filling (count - i) bytes)
    → all ≡ option_map (λ others. (front ++ found.0 ∷ []) ++ others) (entries_filling (count - (i + 1)) (drop found.1 bytes))
gathered_more front count i bytes found all lt e so_far =
    so_far ∙ ap (option_map (λ (others : List Entry). front ++ others)) (filling_more count i bytes found lt e)
    ∙ regroup (entries_filling (count - (i + 1)) (drop found.1 bytes))
  where
    regroup : (o : Option (List Entry))
        → option_map (λ others. front ++ others) (option_map (λ others. found.0 ∷ others) o) ≡ option_map
        (λ others. (front ++ found.0 ∷ []) ++ others) o
    regroup None = refl
    regroup (Some others) = ap (λ (es : List Entry). Some es) (sym (append_assoc front (found.0 ∷ []) others))

pub gathered_not : (front : List Entry) (count i : ℕ) (bytes : List ℕ) (all : Option (List Entry)) → i < count → entry_at bytes ≡ None
    → all ≡ option_map (λ others. front ++ others) (entries_filling (count - i) bytes) → all ≡ None
gathered_not front count i bytes all lt e so_far =
    so_far ∙ ap (option_map (λ (others : List Entry). front ++ others)) (filling_none count i bytes lt e)

-- whether each entry that fills the bytes passes a test, as a loop finds out
pub passed_first : (test : Entry → Bool) (all : Option (List Entry)) → is_some all ≡ true
    → Some (list_all test (unwrap_or all [])) ≡ option_map (list_all test) all
passed_first test None there = absurd cc
passed_first test (Some entries) there = refl

pub passed_more : (test : Entry → Bool) (count i : ℕ) (bytes : List ℕ) (found : Entry × ℕ) (answer : Bool) → i < count
    → entry_at bytes ≡ Some found → test found.0 ≡ true → Some answer ≡ option_map (list_all test) (entries_filling (count - i) bytes)
    → Some answer ≡ option_map (list_all test) (entries_filling (count - (i + 1)) (drop found.1 bytes))
passed_more test count i bytes found answer lt e passes so_far =
    so_far ∙ ap (option_map (list_all test)) (filling_more count i bytes found lt e)
    ∙ by (entries_filling (count - (i + 1)) (drop found.1 bytes))
  where
    by : (o : Option (List Entry)) → option_map (list_all test) (option_map (λ others. found.0 ∷ others) o) ≡ option_map (list_all test) o
    by None = refl
    by (Some others) = rw passes refl

pub passed_not : (test : Entry → Bool) (count i : ℕ) (bytes : List ℕ) (found : Entry × ℕ) (answer : Bool) → i < count
    → entry_at bytes ≡ Some found → test found.0 ≡ false → Some answer ≡ option_map (list_all test) (entries_filling (count - i) bytes)
    → false ≡ answer
passed_not test count i bytes found answer lt e fails so_far =
    by (entries_filling (count - (i + 1)) (drop found.1 bytes))
    (so_far ∙ ap (option_map (list_all test)) (filling_more count i bytes found lt e))
  where
    by : (o : Option (List Entry)) → Some answer ≡ option_map (list_all test) (option_map (λ others. found.0 ∷ others) o) → false ≡ answer
    by None h = absurd cc
    by (Some others) h = (let fails_all : list_all test (found.0 ∷ others) ≡ false = rw fails refl in cc)

pub passed_none : (test : Entry → Bool) (count i : ℕ) (bytes : List ℕ) (answer : Bool) → i < count → entry_at bytes ≡ None
    → Some answer ≡ option_map (list_all test) (entries_filling (count - i) bytes) → ⊥
passed_none test count i bytes answer lt e so_far =
    let none = so_far ∙ ap (option_map (list_all test)) (filling_none count i bytes lt e) in
    cc

pub passed_all : (test : Entry → Bool) (count i : ℕ) (bytes : List ℕ) (answer : Bool) → count ≤ i
    → Some answer ≡ option_map (list_all test) (entries_filling (count - i) bytes) → true ≡ answer
passed_all test count i bytes answer past so_far =
    let none_left : count - i ≡ 0 = omega arith in
    by bytes (rw none_left at so_far)
  where
    by : (bytes : List ℕ) → Some answer ≡ option_map (list_all test) (entries_filling 0 bytes) → true ≡ answer
    by [] h = cc
    by (byte ∷ bytes) h = absurd cc

-- as many entries as were asked for
behind-length : (count : ℕ) (found : Option (Entry × ℕ)) (others : ℕ → Option (List Entry)) (entries : List Entry)
    → ((len : ℕ) (rest : List Entry) → others len ≡ Some rest → length rest ≡ count) → behind found others ≡ Some entries
    → length entries ≡ suc count
behind-length count None others entries h e = absurd cc
behind-length count (Some found) others entries h e = mapped (others found.1) (h found.1) e
  where
    mapped : (o : Option (List Entry)) → ((rest : List Entry) → o ≡ Some rest → length rest ≡ count)
        → option_map (λ rest. found.0 ∷ rest) o ≡ Some entries → length entries ≡ suc count
    mapped None h e = absurd cc
    mapped (Some rest) h e = let k : (found.0 ∷ rest) ≡ entries = cc in ap length (sym k) ∙ ap suc (h rest refl)

filling-length : (count : ℕ) (bytes : List ℕ) (entries : List Entry) → entries_filling count bytes ≡ Some entries
    → length entries ≡ count
filling-length zero [] entries e = let k : [] ≡ entries = cc in ap length (sym k)
filling-length zero (byte ∷ bytes) entries e = absurd cc
filling-length (suc count) bytes entries e =
    behind-length count (entry_at bytes) (λ len. entries_filling count (drop len bytes)) entries
    (λ len rest. filling-length count (drop len bytes) rest) e

-- what is read is spelled so
behind-spelled : (count : ℕ) (bytes : List ℕ) (found : Option (Entry × ℕ)) (entries : List Entry)
    → AreBytes bytes → entry_at bytes ≡ found
    → ((len : ℕ) (others : List Entry) → entries_filling count (drop len bytes) ≡ Some others → AllByRecursion HasSpelling others
    × (drop len bytes ≡ flat_map entry_spelling others))
    → behind found (λ len. entries_filling count (drop len bytes)) ≡ Some entries → AllByRecursion HasSpelling entries
    × (bytes ≡ flat_map entry_spelling entries)
behind-spelled count bytes None entries fits is h e = absurd cc
behind-spelled count bytes (Some found) entries fits is h e = mapped (entries_filling count (drop found.1 bytes)) (h found.1) e
  where
    first : IsSpelledAt bytes found
    first = entry_at-spelled bytes found fits is

    mapped : (o : Option (List Entry))
        → ((others : List Entry) → o ≡ Some others → AllByRecursion HasSpelling others
        × (drop found.1 bytes ≡ flat_map entry_spelling others))
        → option_map (λ others. found.0 ∷ others) o ≡ Some entries → AllByRecursion HasSpelling entries
        × (bytes ≡ flat_map entry_spelling entries)
    mapped None h e = absurd cc
    mapped (Some others) h e =
        let same : (found.0 ∷ others) ≡ entries = cc in
        let rest = h others refl in
        subst (λ (es : List Entry). AllByRecursion HasSpelling es × (bytes ≡ flat_map entry_spelling es)) same
        ((first.spelled, rest.0), first.front ∙ ap (λ (t : List ℕ). entry_spelling found.0 ++ t) rest.1)

filling-spelled : (count : ℕ) (bytes : List ℕ) (entries : List Entry) → AreBytes bytes
    → entries_filling count bytes ≡ Some entries
    → AllByRecursion HasSpelling entries × (bytes ≡ flat_map entry_spelling entries)
filling-spelled zero [] entries fits e =
    let same : [] ≡ entries = cc in
    subst (λ (es : List Entry). AllByRecursion HasSpelling es × ([] ≡ flat_map entry_spelling es)) same (tt, refl)
filling-spelled zero (byte ∷ bytes) entries fits e = absurd cc
filling-spelled (suc count) bytes entries fits e =
    behind-spelled count bytes (entry_at bytes) entries fits refl
    (λ len others is. filling-spelled count (drop len bytes) others (AreBytes-drop len bytes fits) is) e

pub found-spelled : FoundAreSpelled
found-spelled count bytes entries fits e =
    let spelled = filling-spelled count bytes entries fits e in
    (filling-length count bytes entries e, spelled.0, spelled.1)

-- what is spelled so is read
pub spelled-found : SpelledAreFound
spelled-found [] fits = refl
spelled-found (entry ∷ entries) fits =
    let rest = flat_map entry_spelling entries in
    ap (λ (o : Option (Entry × ℕ)). behind o (λ len. entries_filling (length entries) (drop len (entry_spelling entry ++ rest))))
    (entry_at-again entry rest fits.0)
    ∙ ap (λ (t : List ℕ). option_map (λ others. entry ∷ others) (entries_filling (length entries) t))
    (drop_at (entry_spelling entry) rest (length (entry_spelling entry)) refl)
    ∙ ap (option_map (λ (others : List Entry). entry ∷ others)) (spelled-found entries fits.1)
