-- The value at the front of 64 zeros.
use Rattle.std.proofs.Common.{◌≡◌, ℕ, ◌≤◌, true, not, ◌==◌, nat_lt, replicate, refl, ap, ◌∙◌, arith}
use Rattle.std.proofs.lemmas.Bool.{and_parts}
use Rattle.std.proofs.lemmas.Bool.Decides.{nat_tests}
use Rattle.std.proofs.lemmas.List.{take-replicate}
use Rattle.rows.specs.declared.kind.Kind.{Kind}
use Rattle.rows.specs.declared.kind.Kind.TheVariants as kinds
use Rattle.rows.specs.declared.value.Value.TheVariants.{Octets}
use Rattle.rows.specs.Image.{zero_of}
use Rattle.rows.specs.Limits.{octets_max}
use Rattle.rows.specs.Shape.{is_good}
use Rattle.rows.specs.Values.{value_of}
use Rattle.mvcc.proofs.image.zero_of.Goals as goal

zeros-value : (kind : Kind) → is_good kind ≡ true → value_of kind (replicate 64 0) ≡ zero_of kind
zeros-value kinds.Int good = refl
zeros-value (kinds.Octets width) good = ap Octets (take-replicate width 64 0 (few width good))
  where
    few : (width : ℕ) → is_good (kinds.Octets width) ≡ true → width ≤ 64
    few width good =
        let parts = and_parts (not (width == 0)) (not (nat_lt octets_max width)) good in
        grind (arith, nat_tests, parts.1)

pub returns : goal.returns
returns c = c.first_value.ensures ∙ zeros-value c.args.kind c.requires
