-- Kinds of columns have words without spaces, and each has one.
use Rattle.std.proofs.Common.{◌<◌, ◌≡◌, ℕ, ◌^◌, true, List, [], ◌∷◌, map, codes, decimal, refl}
use Rattle.std.proofs.Common.{ap, arith}
use Rattle.std.specs.List.{list_all, AllByRecursion}
use Rattle.std.proofs.lemmas.Bool.{and_parts}
use Rattle.std.proofs.lemmas.Bool.Decides.{nat_tests}
use Rattle.std.proofs.lemmas.List.{append_cancel_left}
use Rattle.std.proofs.lemmas.List.Elements.{All-append}
use Rattle.rows.specs.declared.kind.Kind.{Kind}
use Rattle.rows.specs.declared.kind.Kind.TheVariants.{Int, Octets}
use Rattle.rows.specs.Shape.{is_good}
use Rattle.script.specs.Settings.{kind_text}
use Rattle.script.proofs.Plain.{IsNoSpace, plain-by-test, decimal-plain, decimal-same}
use Rattle.script.proofs.WordSplitting.{IsPlain}

good-width : (width : ℕ) → is_good (Octets width) ≡ true → width < 2 ^ 64
good-width width good = grind (arith, nat_tests)

kind-plain : (kind : Kind) → is_good kind ≡ true → IsPlain (kind_text kind)
kind-plain Int good = plain-by-test (codes "int") refl
kind-plain (Octets width) good =
    All-append IsNoSpace (codes "bytes") (decimal width) (plain-by-test (codes "bytes") refl)
    (decimal-plain width (good-width width good))

pub kinds-plain : (kinds : List Kind) → list_all is_good kinds ≡ true → AllByRecursion IsPlain (map kind_text kinds)
kinds-plain [] good = tt
kinds-plain (kind ∷ kinds) good =
    let both = and_parts (is_good kind) (list_all is_good kinds) good in
    (kind-plain kind both.0, kinds-plain kinds both.1)

-- kinds with one text are one
kind-same : (a b : Kind) → is_good a ≡ true → is_good b ≡ true → kind_text a ≡ kind_text b → a ≡ b
kind-same Int Int a_good b_good same = refl
kind-same Int (Octets width) a_good b_good same = cc
kind-same (Octets width) Int a_good b_good same = cc
kind-same (Octets a) (Octets b) a_good b_good same =
    ap Octets (decimal-same a b (good-width a a_good) (good-width b b_good)
    (append_cancel_left (codes "bytes") (decimal a) (decimal b) same))

pub kinds-same : (a b : List Kind) → list_all is_good a ≡ true → list_all is_good b ≡ true → map kind_text a ≡ map kind_text b → a ≡ b
kinds-same [] [] a_good b_good same = refl
kinds-same [] (kind ∷ kinds) a_good b_good same = cc
kinds-same (kind ∷ kinds) [] a_good b_good same = cc
kinds-same (first ∷ a) (second ∷ b) a_good b_good same =
    let a_both = and_parts (is_good first) (list_all is_good a) a_good in
    let b_both = and_parts (is_good second) (list_all is_good b) b_good in
    let heads : kind_text first ≡ kind_text second = cc in
    let tails : map kind_text a ≡ map kind_text b = cc in
    let one : first ≡ second = kind-same first second a_both.0 b_both.0 heads in
    let rest : a ≡ b = kinds-same a b a_both.1 b_both.1 tails in
    cc
