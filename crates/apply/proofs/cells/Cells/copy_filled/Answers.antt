-- The first values of a column that has one value everywhere.
use Rattle.std.proofs.Common.{rules, ◌≡◌, ◌≤◌, ◌*◌, length, map, take, sym, ap, subst, ◌∙◌, arith}
use Rattle.std.proofs.lemmas.List.{length-take-le, take-map, take-replicate}
use Rattle.rows.specs.declared.value.Value.TheVariants as values
use Rattle.store.specs.Lent.{octets_in}
use Rattle.apply.specs.Columns.{IsFilled}
use Rattle.apply.proofs.Wide.{octets-take, within-bytes}
use Rattle.apply.proofs.cells.Cells.copy_filled.Goals as goal

pub returns-in_ok-from_slice-in-Numbers : goal.returns-in_ok-from_slice-in-Numbers
returns-in_ok-from_slice-in-Numbers c =
    let items = c.in-Numbers.numbers.items in
    let fewer = c.args.fewer in
    let filled = subst (IsFilled c.args.rows c.args.value.now) c.in-Numbers.is c.requires.filled in
    let within : fewer ≤ length items = omega (arith, filled.cells, c.requires.within) in
    let copied : c.in_ok-from_slice-in-Numbers.field-0.items ≡ take fewer items = search rules in
    record {
      kind = filled.kind;
      cells = ap length copied ∙ length-take-le fewer items within;
      values = ap (map values.Int) copied ∙ sym (take-map values.Int fewer items) ∙ ap (take fewer) filled.values
          ∙ take-replicate fewer c.args.rows c.args.value.now c.requires.within;
    }

pub returns-in_ok-from_slice-in-Octets : goal.returns-in_ok-from_slice-in-Octets
returns-in_ok-from_slice-in-Octets c =
    let width = c.in-Octets.width in
    let items = c.in-Octets.bytes.items in
    let fewer = c.args.fewer in
    let filled = subst (IsFilled c.args.rows c.args.value.now) c.in-Octets.is c.requires.filled in
    let copied : c.in_ok-from_slice-in-Octets.field-0.items ≡ take (fewer * width) items = search rules in
    record {
      kind = filled.kind;
      cells = (ap length copied ∙ within-bytes width c.args.rows fewer items filled.cells.0 c.requires.within, filled.cells.1);
      values = ap (octets_in fewer width) copied ∙ sym (octets-take width c.args.rows fewer items c.requires.within)
          ∙ ap (take fewer) filled.values ∙ take-replicate fewer c.args.rows c.args.value.now c.requires.within;
    }
