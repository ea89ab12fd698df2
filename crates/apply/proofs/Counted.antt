-- How many rows there are, how many of them are below one, and the greatest.
use Rattle.std.proofs.Common.{◌≡◌, ℕ, zero, suc, ◌+◌, ◌<◌, ◌≤◌, false, List, [], ◌∷◌, ◌++◌, length, get_or, take, drop}
use Rattle.std.proofs.Common.{refl, sym, ap, subst, ◌∙◌, not, ◌==◌, arith}
use Rattle.std.specs.Map.{keys_of}
use Rattle.std.proofs.lemmas.Bool.Decides.{nat_tests}
use Rattle.std.proofs.lemmas.Grind.{flat_map-append}
use Rattle.std.proofs.lemmas.List.{take_more, length-append}
use Rattle.std.proofs.lemmas.List.Sums.{length-filter, count_by-le-length}
use Rattle.rows.specs.declared.value.Value.{Value}
use Rattle.rows.specs.Tables.{Rows, Table, is_present, with_row, without_row}
use Rattle.apply.specs.Orders.{AllOver, AllUnder, Rising, place_in}
use Rattle.apply.specs.Inner.Joins.{joined}
use Rattle.apply.proofs.Ordered.{over-parts}
use Rattle.apply.specs.Inner.Joins.{IsHome}
use Rattle.apply.proofs.Joined.{joined-at}

-- ---- one row more, one fewer

pub length-with_row : (row : ℕ) (values : List Value) (rows : Rows) → is_present rows row ≡ false
    → length (with_row rows row values) ≡ length rows + 1
length-with_row row values [] away = refl
length-with_row row values (one ∷ rows) away = grind (arith, nat_tests, length-with_row row values rows)

pub fewer-without_row : (row : ℕ) (rows : Rows) → length (without_row rows row) ≤ length rows
fewer-without_row row rows =
    let kept = length-filter (λ (one : ℕ × List Value). not (one.0 == row)) rows in
    omega (arith, kept, count_by-le-length (λ (one : ℕ × List Value). not (one.0 == row)) rows)

-- ---- how many are below a row

place_in-over : (row : ℕ) (rows : Rows) → AllOver row rows → place_in rows row ≡ 0
place_in-over row [] h = refl
place_in-over row (one ∷ rows) h = grind (arith, nat_tests, h.0)

place_in-front : (row : ℕ) (front back : Rows) → AllUnder row front → place_in (front ++ back) row ≡ length front + place_in back row
place_in-front row [] back h = omega arith
place_in-front row (one ∷ front) back h = grind (arith, nat_tests, h.0, place_in-front row front back h.1)

place_in-back : (row : ℕ) (front back : Rows) → AllOver row back → place_in (front ++ back) row ≡ place_in front row
place_in-back row [] back h = place_in-over row back h
place_in-back row (one ∷ front) back h = grind (arith, nat_tests, place_in-back row front back h)

pub place-home : (blocks : List Table) (m row : ℕ) (d : Table) → IsHome blocks m row
    → place_in (joined blocks) row ≡ length (joined (take m blocks)) + place_in (get_or blocks m d).rows row
place-home blocks m row d home =
    ap (λ rows. place_in rows row) (joined-at blocks m d home.within)
    ∙ place_in-front row (joined (take m blocks)) ((get_or blocks m d).rows ++ joined (drop (m + 1) blocks)) home.front
    ∙ ap (λ n. length (joined (take m blocks)) + n)
    (place_in-back row (get_or blocks m d).rows (joined (drop (m + 1) blocks)) home.back)

-- the blocks before one, and one more
pub joined-more : (blocks : List Table) (k : ℕ) (d : Table) → k < length blocks
    → length (joined (take (k + 1) blocks)) ≡ length (joined (take k blocks)) + length (get_or blocks k d).rows
joined-more blocks k d lt =
    ap (λ front. length (joined front)) (take_more blocks k d lt)
    ∙ ap length (flat_map-append (λ (block : Table). block.rows) (take k blocks) (get_or blocks k d ∷ []))
    ∙ length-append (joined (take k blocks)) (joined (get_or blocks k d ∷ []))
    ∙ ap (λ n. length (joined (take k blocks)) + n) (length-append (get_or blocks k d).rows [] ∙ omega arith)

pub joined-within : (blocks : List Table) (k : ℕ) (d : Table) → k < length blocks
    → length (joined (take k blocks)) + length (get_or blocks k d).rows ≤ length (joined blocks)
joined-within blocks k d lt =
    let all = ap length (joined-at blocks k d lt) in
    let two = length-append (joined (take k blocks)) ((get_or blocks k d).rows ++ joined (drop (k + 1) blocks)) in
    let three = length-append (get_or blocks k d).rows (joined (drop (k + 1) blocks)) in
    omega (arith, all, two, three)

-- ---- the greatest

over-last : (low d n : ℕ) (rows : Rows) → AllOver low rows → length rows ≡ suc n → low < get_or (keys_of rows) n d
over-last low d n [] h e = absurd (omega arith)
over-last low d zero (row ∷ rows) h e = h.0
over-last low d (suc n) (row ∷ rows) h e = over-last low d n rows h.1 (omega arith)

under-own : (d n bound : ℕ) (rows : Rows) → Rising rows → length rows ≡ suc n → bound ≡ get_or (keys_of rows) n d + 1
    → AllUnder bound rows
under-own d n bound [] rise e is = absurd (omega arith)
under-own d zero bound (row ∷ []) rise e is = (omega (arith, is), tt)
under-own d zero bound (row ∷ one ∷ rows) rise e is = absurd (omega arith)
under-own d (suc n) bound (row ∷ rows) rise e is =
    (omega (arith, is, over-last row.0 d n rows rise.0 (omega arith)), under-own d n bound rows rise.1 (omega arith) is)

under-last : (d n bound : ℕ) (front rows : Rows) → Rising (front ++ rows) → length rows ≡ suc n → bound ≡ get_or (keys_of rows) n d + 1
    → AllUnder bound (front ++ rows)
under-last d n bound [] rows rise e is = under-own d n bound rows rise e is
under-last d n bound (row ∷ front) rows rise e is =
    (omega (arith, is, over-last row.0 d n rows (over-parts row.0 front rows rise.0).1 e), under-last d n bound front rows rise.1 e is)

-- the last identifier of the last block
pub joined-last : (blocks : List Table) (m n : ℕ) (d : Table) (e : ℕ) → suc m ≡ length blocks → Rising (joined blocks)
    → length (get_or blocks m d).rows ≡ suc n → AllUnder (get_or (keys_of (get_or blocks m d).rows) n e + 1) (joined blocks)
joined-last blocks m n d e last rise some =
    let rows = (get_or blocks m d).rows in
    let all : joined blocks ≡ joined (take m blocks) ++ rows =
    joined-at blocks m d (omega arith)
    ∙ ap (λ back. joined (take m blocks) ++ (rows ++ joined back)) (past blocks (m + 1) (omega arith))
    ∙ ap (λ back. joined (take m blocks) ++ back) (append-none rows) in
    subst (AllUnder (get_or (keys_of rows) n e + 1)) (sym all)
    (under-last e n (get_or (keys_of rows) n e + 1) (joined (take m blocks)) rows (subst Rising all rise) some refl)
  where
    past : (blocks : List Table) (n : ℕ) → length blocks ≤ n → drop n blocks ≡ []
    past [] zero h = refl
    past [] (suc n) h = refl
    past (block ∷ blocks) zero h = absurd (omega arith)
    past (block ∷ blocks) (suc n) h = past blocks n (omega arith)

    append-none : (rows : Rows) → rows ++ [] ≡ rows
    append-none [] = refl
    append-none (row ∷ rows) = ap (λ rest. row ∷ rest) (append-none rows)

-- ---- as many blocks written over those of a list

pub refilled : (n : ℕ) (items news : List Table) → length items ≡ n → length news ≡ length items
    → take n (news ++ drop (length news) items) ≡ news
refilled zero [] [] all same = refl
refilled (suc n) [] news all same = absurd (omega arith)
refilled zero (item ∷ items) news all same = absurd (omega arith)
refilled n [] (new ∷ news) all same = absurd (omega arith)
refilled n (item ∷ items) [] all same = absurd (omega arith)
refilled (suc n) (item ∷ items) (new ∷ news) all same = ap (λ rest. new ∷ rest) (refilled n items news (omega arith) (omega arith))
