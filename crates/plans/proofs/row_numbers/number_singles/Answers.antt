-- One row more has its number.
use mir.Syntax.{w64}
use Rattle.std.proofs.Common.{◌≡◌, ℕ, ℤ, pos, ◌+◌, [], ◌∷◌, map, Some, slice_get, slice_index_or, FitsSigned, sym, ap, ◌∙◌, subst, rules}
use Rattle.rows.specs.declared.value.Value.{Value}
use Rattle.rows.specs.declared.value.Value.TheVariants.{Int}
use Rattle.plans.specs.Inner.Cells.{value_at, AreKeyed}
use Rattle.plans.proofs.ColumnValues.{value-int}
use Rattle.plans.proofs.Numbers.{held}
use Rattle.plans.proofs.RowKeys.{extends-more, keyed-more}
use Rattle.plans.proofs.row_numbers.number_singles.Goals as goal

pub loop-value-preserved : goal.loop-value-preserved
loop-value-preserved c =
    let keys = c.loop-value.numbering.keys.items in
    let after = c.number_single.new.self.keys.items in
    let values = c.args.values.now in
    let i = c.loop-value.value-index in
    let number = slice_index_or values i (pos 0) in
    let fits : FitsSigned w64 number = search rules in
    let key = λ (i : ℕ). value_at (map Int values) i ∷ [] in
    let is : slice_get after c.in_ok-number.number ≡ Some (key i) =
    c.in_ok-number.ensures.number
    ∙ ap (λ (z : ℤ). Some (Int z ∷ [])) (held number fits)
    ∙ ap (λ (value : Value). Some (value ∷ [])) (sym (value-int values i)) in
    record {
      numbering = c.in_ok-number.ensures.numbering;
      extends = extends-more c.args.numbering.now.keys.items keys after c.loop-value.invariant.extends c.in_ok-number.ensures.extends;
      keyed =
          subst (AreKeyed after key (i + 1)) (sym c.in_ok-push.ensures.items)
          (keyed-more keys after key i c.loop-value.numbers.items c.in_ok-number.number c.loop-value.invariant.keyed
          c.in_ok-number.ensures.extends is);
    }
