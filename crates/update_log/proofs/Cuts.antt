-- There is one cut of entries: whatever has its property is what `cut_of` gives, and that has it.
use Rattle.std.proofs.Common.{◌≡◌, ℕ, ◌+◌, ◌<◌, ◌≤◌, Bool, true, false, cond, List, [], ◌∷◌, ◌++◌, length, take, drop, get_or}
use Rattle.std.proofs.Common.{refl, sym, ap, subst, ◌∙◌, append_assoc, length-append, arith}
use Rattle.std.specs.List.{flat_map, AllByRecursion}
use Rattle.std.proofs.lemmas.Bool.{leb-true, leb-false, le-leb, lt-leb}
use Rattle.std.proofs.lemmas.List.{append-nil, take-append-drop, take_more, drop_more, length-take-le, length-drop}
use Rattle.std.proofs.lemmas.List.Concat.{flat_map-append}
use Rattle.rows.specs.declared.entry.Entry.{Entry}
use Rattle.rows.specs.declared.entry.Entry.TheVariants.{Insert, Patch, Delete, AddColumn}
use Rattle.rows.specs.declared.value.Value.TheVariants.{Int, Octets}
use Rattle.rows.specs.Limits.{datagram_max}
use Rattle.rows.specs.Spelling.{HasSpelling, entry_spelling}
use Rattle.update_log.specs.Parts.{frame_front_len, part_len, joined, IsFullBefore, AreFull, AreCut, fits_in, cut_from, cut_of}

-- an entry's spelling is short
pub short : (entry : Entry) → HasSpelling entry → length (entry_spelling entry) ≤ 524
short (Insert table row bytes) h = omega (arith, h.few)
short (Patch table row offset bytes) h = omega (arith, h.few)
short (Delete table row) h = omega arith
short (AddColumn table (Int number)) h = omega arith
short (AddColumn table (Octets bytes)) h = omega (arith, h.value.1)

-- for datagrams with so few bytes before their entries that the largest entry fits into one by itself
module _ (front : ℕ) (few : front ≤ frame_front_len) where
  -- ---- how long a datagram is

  pub part_len-append : (part more : List Entry)
      → part_len front (part ++ more) ≡ part_len front part + length (flat_map entry_spelling more)
  part_len-append part more =
      omega (
        arith,
        ap length (flat_map-append entry_spelling part more),
        length-append (flat_map entry_spelling part) (flat_map entry_spelling more),
      )

  -- with one entry of more a datagram is no longer than with all of them
  part_len-first : (part : List Entry) (entry : Entry) (more : List Entry)
      → part_len front (part ++ entry ∷ []) ≤ part_len front (part ++ entry ∷ more)
  part_len-first part entry more =
      omega (
        arith,
        part_len-append part (entry ∷ []),
        part_len-append part (entry ∷ more),
        length-append (entry_spelling entry) [],
        length-append (entry_spelling entry) (flat_map entry_spelling more),
      )

  -- so each fits into a datagram of its own
  alone : (entry : Entry) → HasSpelling entry → part_len front (entry ∷ []) ≤ datagram_max
  alone entry h = omega (arith, few, short entry h, length-append (entry_spelling entry) [])

  -- ---- one step of the cutting

  taken : (part : List Entry) (entry : Entry) (rest : List Entry) → fits_in front part entry ≡ true
      → cut_from front part (entry ∷ rest) ≡ cut_from front (part ++ entry ∷ []) rest
  taken part entry rest room =
      ap (λ (b : Bool). cond b [] (part ∷ []) ++ cut_from front (cond b (part ++ entry ∷ []) (entry ∷ [])) rest) room

  begun : (part : List Entry) (entry : Entry) (rest : List Entry) → datagram_max < part_len front (part ++ entry ∷ [])
      → cut_from front part (entry ∷ rest) ≡ part ∷ cut_from front (entry ∷ []) rest
  begun part entry rest full =
      ap (λ (b : Bool). cond b [] (part ∷ []) ++ cut_from front (cond b (part ++ entry ∷ []) (entry ∷ [])) rest)
      (lt-leb (part_len front (part ++ entry ∷ [])) datagram_max full)

  -- entries that are within a datagram together stay in the part
  fill : (more part rest : List Entry) → part_len front (part ++ more) ≤ datagram_max
      → cut_from front part (more ++ rest) ≡ cut_from front (part ++ more) rest
  fill [] part rest h = ap (λ (p : List Entry). cut_from front p rest) (sym (append-nil part))
  fill (entry ∷ more) part rest h =
      let same : (part ++ entry ∷ []) ++ more ≡ part ++ entry ∷ more = append_assoc part (entry ∷ []) more in
      let room : part_len front (part ++ entry ∷ []) ≤ datagram_max = omega (arith, part_len-first part entry more) in
      let within : part_len front ((part ++ entry ∷ []) ++ more) ≤ datagram_max =
      subst (λ (p : List Entry). part_len front p ≤ datagram_max) (sym same) h in
      taken part entry (more ++ rest) (le-leb (part_len front (part ++ entry ∷ [])) datagram_max room)
      ∙ fill more (part ++ entry ∷ []) rest within
      ∙ ap (λ (p : List Entry). cut_from front p rest) same

  -- ---- no other parts

  others-are : (others : List (List Entry)) (first : List Entry) → AllByRecursion (λ part. 0 < length part) others
      → AllByRecursion (λ part. part_len front part ≤ datagram_max) others → AreFull front (first ∷ others)
      → cut_from front first (joined others) ≡ first ∷ others
  others-are [] first some within full = refl
  others-are ([] ∷ others) first some within full = absurd (omega (arith, some.0))
  others-are ((entry ∷ next) ∷ others) first some within full =
      begun first entry (next ++ joined others) full.0
      ∙ ap (λ (parts : List (List Entry)). first ∷ parts)
      (fill next (entry ∷ []) (joined others) within.0 ∙ others-are others (entry ∷ next) some.1 within.1 full.1)

  pub cut-is_unique : (entries : List Entry) (parts : List (List Entry)) → AreCut front entries parts → parts ≡ cut_of front entries
  cut-is_unique entries [] are = ap (cut_of front) are.all
  cut-is_unique entries ([] ∷ others) are = absurd (omega (arith, are.some.0))
  cut-is_unique entries ((entry ∷ first) ∷ others) are =
      sym (fill first (entry ∷ []) (joined others) are.within.0
      ∙ others-are others (entry ∷ first) are.some.1 are.within.1 are.full)
      ∙ ap (cut_of front) are.all

  -- ---- and these

  pub joined-from : (rest part : List Entry) → joined (cut_from front part rest) ≡ part ++ rest
  joined-from [] part = refl
  joined-from (entry ∷ rest) part = one (fits_in front part entry) (joined-from rest)
    where
      one : (b : Bool) → ((p : List Entry) → joined (cut_from front p rest) ≡ p ++ rest)
          → joined (cond b [] (part ∷ []) ++ cut_from front (cond b (part ++ entry ∷ []) (entry ∷ [])) rest) ≡ part ++ entry ∷ rest
      one true h = h (part ++ entry ∷ []) ∙ append_assoc part (entry ∷ []) rest
      one false h = ap (λ (more : List Entry). part ++ more) (h (entry ∷ []))

  some-from : (rest part : List Entry) → 0 < length part → AllByRecursion (λ part. 0 < length part) (cut_from front part rest)
  some-from [] part some = (some, tt)
  some-from (entry ∷ rest) part some = one (fits_in front part entry) (some-from rest)
    where
      one : (b : Bool) → ((p : List Entry) → 0 < length p → AllByRecursion (λ part. 0 < length part) (cut_from front p rest))
          → AllByRecursion (λ part. 0 < length part)
          (cond b [] (part ∷ []) ++ cut_from front (cond b (part ++ entry ∷ []) (entry ∷ [])) rest)
      one true h = h (part ++ entry ∷ []) (omega (arith, length-append part (entry ∷ [])))
      one false h = (some, h (entry ∷ []) (omega arith))

  within-from : (rest part : List Entry) → part_len front part ≤ datagram_max → AllByRecursion HasSpelling rest
      → AllByRecursion (λ part. part_len front part ≤ datagram_max) (cut_from front part rest)
  within-from [] part within spelled = (within, tt)
  within-from (entry ∷ rest) part within spelled =
      one (fits_in front part entry) (λ e. leb-true (part_len front (part ++ entry ∷ [])) datagram_max e)
      (λ p h. within-from rest p h spelled.1)
    where
      one : (b : Bool) → (b ≡ true → part_len front (part ++ entry ∷ []) ≤ datagram_max)
          → ((p : List Entry) → part_len front p ≤ datagram_max
          → AllByRecursion (λ part. part_len front part ≤ datagram_max) (cut_from front p rest))
          → AllByRecursion (λ part. part_len front part ≤ datagram_max)
          (cond b [] (part ∷ []) ++ cut_from front (cond b (part ++ entry ∷ []) (entry ∷ [])) rest)
      one true room h = h (part ++ entry ∷ []) (room refl)
      one false room h = (within, h (entry ∷ []) (alone entry spelled.0))

  full-before : (rest part : List Entry) (entry : Entry) (first : List Entry) → datagram_max < part_len front (part ++ entry ∷ [])
      → IsFullBefore front part (cut_from front (entry ∷ first) rest)
  full-before [] part entry first full = full
  full-before (next ∷ rest) part entry first full =
      one (fits_in front (entry ∷ first) next) (λ more. full-before rest part entry more full)
    where
      one : (b : Bool) → ((more : List Entry) → IsFullBefore front part (cut_from front (entry ∷ more) rest))
          → IsFullBefore front part
          (cond b [] ((entry ∷ first) ∷ []) ++ cut_from front (cond b ((entry ∷ first) ++ next ∷ []) (next ∷ [])) rest)
      one true h = h (first ++ next ∷ [])
      one false h = full

  full-from : (rest part : List Entry) → AreFull front (cut_from front part rest)
  full-from [] part = (tt, tt)
  full-from (entry ∷ rest) part =
      one (fits_in front part entry) (λ e. leb-false (part_len front (part ++ entry ∷ [])) datagram_max e) (full-from rest)
    where
      one : (b : Bool) → (b ≡ false → datagram_max < part_len front (part ++ entry ∷ []))
          → ((p : List Entry) → AreFull front (cut_from front p rest))
          → AreFull front (cond b [] (part ∷ []) ++ cut_from front (cond b (part ++ entry ∷ []) (entry ∷ [])) rest)
      one true full h = h (part ++ entry ∷ [])
      one false full h = (full-before rest part entry [] (full refl), h (entry ∷ []))

  pub joined-parts : (entries : List Entry) → joined (cut_of front entries) ≡ entries
  joined-parts [] = refl
  joined-parts (entry ∷ entries) = joined-from entries (entry ∷ [])

  pub some-parts : (entries : List Entry) → AllByRecursion (λ part. 0 < length part) (cut_of front entries)
  some-parts [] = tt
  some-parts (entry ∷ entries) = some-from entries (entry ∷ []) (omega arith)

  pub entries-are_cut : (entries : List Entry) → AllByRecursion HasSpelling entries → AreCut front entries (cut_of front entries)
  entries-are_cut [] spelled = record { all = refl; some = tt; within = tt; full = tt }
  entries-are_cut (entry ∷ entries) spelled = record {
    all = joined-from entries (entry ∷ []);
    some = some-from entries (entry ∷ []) (omega arith);
    within = within-from entries (entry ∷ []) (alone entry spelled.0) spelled.1;
    full = full-from entries (entry ∷ []);
  }

  -- there are no more parts than entries
  few-parts : (parts : List (List Entry)) → AllByRecursion (λ part. 0 < length part) parts → length parts ≤ length (joined parts)
  few-parts [] some = omega arith
  few-parts (part ∷ parts) some = omega (arith, some.0, few-parts parts some.1, length-append part (joined parts))

  pub cut-is_short : (entries : List Entry) → length (cut_of front entries) ≤ length entries
  cut-is_short [] = omega arith
  cut-is_short (entry ∷ entries) =
      omega (
        arith,
        few-parts (cut_from front (entry ∷ []) entries) (some-from entries (entry ∷ []) (omega arith)),
        ap length (joined-from entries (entry ∷ [])),
      )

  -- ---- the first part

  -- what fits into one datagram and is full before the next entry is the first part
  fill-first : (first rest : List Entry) → 0 < length first → part_len front first ≤ datagram_max
      → cut_of front (first ++ rest) ≡ cut_from front first rest
  fill-first [] rest some within = absurd (omega arith)
  fill-first (entry ∷ more) rest some within = fill more (entry ∷ []) rest within

  begun-behind : (rest first : List Entry)
      → ((next : Entry) (more : List Entry) → rest ≡ next ∷ more → datagram_max < part_len front (first ++ next ∷ []))
      → cut_from front first rest ≡ first ∷ cut_of front rest
  begun-behind [] first full = refl
  begun-behind (next ∷ more) first full = begun first next more (full next more refl)

  pub first-part : (entries : List Entry) (n : ℕ) → 0 < n → n ≤ length entries → part_len front (take n entries) ≤ datagram_max
      → (n < length entries → datagram_max < part_len front (take (n + 1) entries))
      → cut_of front entries ≡ take n entries ∷ cut_of front (drop n entries)
  first-part entries n some upto within full =
      let long : 0 < length (take n entries) = omega (arith, length-take-le n entries upto) in
      ap (cut_of front) (sym (take-append-drop n entries))
      ∙ fill-first (take n entries) (drop n entries) long within
      ∙ begun-behind (drop n entries) (take n entries) (λ next more e. full-with next more e)
    where
      full-with : (next : Entry) (more : List Entry) → drop n entries ≡ next ∷ more
          → datagram_max < part_len front (take n entries ++ next ∷ [])
      full-with next more e =
          let lt : n < length entries = omega (arith, length-drop n entries, ap length e) in
          let found : get_or entries n next ∷ drop (n + 1) entries ≡ next ∷ more = sym (drop_more entries n next lt) ∙ e in
          let this : get_or entries n next ≡ next = cc in
          subst (λ (part : List Entry). datagram_max < part_len front part)
          (take_more entries n next lt ∙ ap (λ (x : Entry). take n entries ++ x ∷ []) this) (full lt)

  -- where there is an entry, there is a part
  pub some-pieces : (entry : Entry) (entries : List Entry) → 0 < length (cut_of front (entry ∷ entries))
  some-pieces entry entries = by (cut_of front (entry ∷ entries)) (joined-from entries (entry ∷ []))
    where
      by : (parts : List (List Entry)) → joined parts ≡ entry ∷ entries → 0 < length parts
      by [] e = absurd cc
      by (part ∷ parts) e = omega arith
