-- Stamps: which is the last, and which commits they tell.
use Rattle.std.proofs.Common.{◌≡◌, refl, ap, sym, ◌∙◌, subst, arith, ℕ, zero, suc, ◌+◌, ◌<◌, ◌≤◌}
use Rattle.std.proofs.Common.{List, [], ◌∷◌, ◌++◌, length, map, Some, slice_get}
use mathlib.Core.List.{IsPrefix}
use Rattle.rows.specs.declared.commit.Commit.{Commit}
use Rattle.history.specs.declared.stamp.Stamp.{Stamp}
use Rattle.history.specs.Told.{told}
use Rattle.history.specs.Inner.Rule.{last_key}
use Rattle.history.proofs.Beginnings.{prefix_whole, prefix_trans, prefix_shorter}

-- the last stamp has the last key
pub last_has_key : (log : List Stamp) (i : ℕ) (e : Stamp) → length log ≡ suc i → slice_get log i ≡ Some e → e.next ≡ last_key log
last_has_key [] i e l h = absurd (omega arith)
last_has_key (x ∷ []) zero e l h = cc h
last_has_key (x ∷ []) (suc i) e l h = absurd (omega arith)
last_has_key (x ∷ y ∷ log) zero e l h = absurd (omega arith)
last_has_key (x ∷ y ∷ log) (suc i) e l h = last_has_key (y ∷ log) i e (omega arith) h

pub last_stamp : (log : List Stamp) → 0 < length log
    → (i : ℕ) × (e : Stamp) × (length log ≡ suc i) × (slice_get log i ≡ Some e) × (e.next ≡ last_key log)
last_stamp [] h = absurd (omega arith)
last_stamp (x ∷ []) h = (0, x, refl, refl, refl)
last_stamp (x ∷ y ∷ log) h = let r = last_stamp (y ∷ log) (omega arith) in (suc r.0, r.1, ap suc r.2, r.3, r.4)

pub last_key_snoc : (log : List Stamp) (e : Stamp) → last_key (log ++ e ∷ []) ≡ e.next
last_key_snoc [] e = refl
last_key_snoc (x ∷ []) e = refl
last_key_snoc (x ∷ y ∷ log) e = last_key_snoc (y ∷ log) e

pub told_snoc : (log : List Stamp) (e : Stamp) → 0 < length log → told (log ++ e ∷ []) ≡ told log ++ e.commit ∷ []
told_snoc [] e h = absurd (omega arith)
told_snoc (x ∷ log) e h = commits_snoc log e
  where
    commits_snoc : (log : List Stamp) (e : Stamp) → map (λ s. s.commit) (log ++ e ∷ []) ≡ map (λ s. s.commit) log ++ e.commit ∷ []
    commits_snoc [] e = refl
    commits_snoc (x ∷ log) e = ap (λ cs. x.commit ∷ cs) (commits_snoc log e)

pub get_snoc : (log : List Stamp) (e f : Stamp) (i : ℕ) → i < length log → slice_get (log ++ e ∷ []) i ≡ Some f → slice_get log i ≡ Some f
get_snoc [] e f i l h = absurd (omega arith)
get_snoc (x ∷ log) e f zero l h = h
get_snoc (x ∷ log) e f (suc i) l h = get_snoc log e f i (omega arith) h

pub told_prefix : (xs ys : List Stamp) → 0 < length xs → IsPrefix xs ys → IsPrefix (told xs) (told ys)
told_prefix [] ys some p = absurd (omega arith)
told_prefix (x ∷ xs) [] some p = absurd (cc (p.1))
told_prefix (x ∷ xs) (y ∷ ys) some p = commits_prefix xs ys (p.0, cc (p.1))
  where
    commits_prefix : (xs ys : List Stamp) → IsPrefix xs ys → IsPrefix (map (λ s. s.commit) xs) (map (λ s. s.commit) ys)
    commits_prefix [] ys p = (map (λ s. s.commit) ys, refl)
    commits_prefix (x ∷ xs) [] p = absurd (cc (p.1))
    commits_prefix (x ∷ xs) (y ∷ ys) p =
        let r = commits_prefix xs ys (p.0, cc (p.1)) in
        let same : x ≡ y = cc (p.1) in
        (r.0, cc (same, r.1))

pub told_length : (xs : List Stamp) → 0 < length xs → length xs ≡ length (told xs) + 1
told_length [] some = absurd (omega arith)
told_length (x ∷ xs) some = omega (arith, commits_length xs)
  where
    commits_length : (xs : List Stamp) → length (map (λ s. s.commit) xs) ≡ length xs
    commits_length [] = refl
    commits_length (x ∷ xs) = ap suc (commits_length xs)

-- what has been seen of a whole history is a beginning of it
pub seen_of_whole : (part front all now : List Stamp) → IsPrefix part all → IsPrefix front all → IsPrefix all now → length now ≤ length part
    → 0 < length front → IsPrefix (told front) (told part)
seen_of_whole part front all now a b c short some =
    let pn = prefix_trans part all now a c in
    let fn = prefix_trans front all now b c in
    let is : part ≡ now = prefix_whole part now pn short in
    told_prefix front part some (subst (λ l. IsPrefix front l) (sym is) fn)

-- of two beginnings of one history the shorter begins the longer
pub shorter_begins : (a b all : List Stamp) → IsPrefix a all → IsPrefix b all → 0 < length a → length a ≤ length b
    → IsPrefix (told a) (told b)
shorter_begins a b all p q some le = told_prefix a b some (prefix_shorter a b all p q le)
