-- Which word a kind has, and which words columns have.
use Rattle.std.proofs.Common.{◌<◌, ◌≡◌, ◌≢◌, ℕ, zero, suc, ◌^◌, true, false, List, [], ◌∷◌, ◌++◌, length, map, get_or, codes}
use Rattle.std.proofs.Common.{decimal}
use Rattle.std.proofs.Common.{sym, ◌∙◌, arith, Bor}
use Rattle.std.specs.List.{list_all}
use Rattle.std.proofs.lemmas.Bool.{and_parts}
use Rattle.std.proofs.lemmas.List.{append_cancel_left}
use Rattle.rows.specs.declared.kind.Kind.{Kind}
use Rattle.rows.specs.declared.kind.Kind.TheVariants.{Int, Octets}
use Rattle.rows.specs.Shape.{is_good}
use Rattle.script.specs.Settings.{kind_text}
use Rattle.script.specs.Inner.SettingWords.{texts, AreKinds}
use Rattle.script.proofs.Plain.{decimal-same}

module _ (word : List ℕ) where
  abbrev pub IsNoKind : Type 0
  IsNoKind = (kind : Kind) → is_good kind ≡ true → kind_text kind ≢ word

  -- a word of bytes that has a number that no column has
  pub bad-width : (width : ℕ) (rest : List ℕ) → word ≡ codes "bytes" ++ rest → decimal width ≡ rest → width < 2 ^ 8
      → is_good (Octets width) ≡ false → IsNoKind
  bad-width width rest is written small bad Int good same = cc
  bad-width width rest is written small bad (Octets other) good same =
      let one : other ≡ width = decimal-same other width (few other good) (omega arith)
      (append_cancel_left (codes "bytes") (decimal other) rest (same ∙ is) ∙ sym written) in
      cc
    where
      few : (width : ℕ) → is_good (Octets width) ≡ true → width < 2 ^ 64
      few width good = grind arith

-- a word that is no kind is among no columns' words
pub kinds-none : (words : List (Bor (List ℕ))) (at : ℕ) (d : Bor (List ℕ)) → at < length words → IsNoKind (get_or words at d).now
    → (kinds : List Kind) → ¬ AreKinds (texts words) kinds
kinds-none [] at d within none kinds are = omega arith
kinds-none (word ∷ words) at d within none [] are = let written = are.written in cc
kinds-none (word ∷ words) zero d within none (kind ∷ kinds) are =
    let written = are.written in
    let same : kind_text kind ≡ word.now = cc in
    none kind (and_parts (is_good kind) (list_all is_good kinds) are.good).0 same
kinds-none (word ∷ words) (suc at) d within none (kind ∷ kinds) are =
    let written = are.written in
    let rest : texts words ≡ map kind_text kinds = cc in
    kinds-none words at d (omega arith) none kinds
    (record { good = (and_parts (is_good kind) (list_all is_good kinds) are.good).1; written = rest })
