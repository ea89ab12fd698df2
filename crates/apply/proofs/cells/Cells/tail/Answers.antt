-- The values from the row on.
use Rattle.std.proofs.Common.{rules, ◌≡◌, length, drop, ◌*◌, sym, ap, ◌∙◌}
use Rattle.apply.proofs.Wide.{octets-drop, octets-left}
use Rattle.std.proofs.lemmas.List.{drop-map}
use Rattle.rows.specs.declared.value.Value.TheVariants as values
use Rattle.apply.proofs.cells.Cells.tail.Goals as goal

pub returns-in_ok-from_slice-in-Numbers : goal.returns-in_ok-from_slice-in-Numbers
returns-in_ok-from_slice-in-Numbers c =
    let copied : c.in_ok-from_slice-in-Numbers.field-0.items ≡ drop c.args.at c.in-Numbers.numbers.items = search rules in
    record {
      kind = search rules;
      cells = λ cut e. search rules;
      values = λ cut e. rw (c.in-Numbers.is, copied) (sym (drop-map values.Int c.args.at c.in-Numbers.numbers.items));
    }

pub returns-in_ok-from_slice-in-Octets : goal.returns-in_ok-from_slice-in-Octets
returns-in_ok-from_slice-in-Octets c =
    let whole : length c.in-Octets.bytes.items ≡ c.args.rows * c.in-Octets.width = search rules in
    let copied : c.in_ok-from_slice-in-Octets.field-0.items ≡ drop (c.args.at * c.in-Octets.width) c.in-Octets.bytes.items = search rules in
    record {
      kind = search rules;
      cells = λ cut e.
          let left = octets-left c.in-Octets.width c.args.rows c.args.at cut c.in-Octets.bytes.items whole e in
          (ap length copied ∙ left, search rules);
      values = λ cut e.
          rw (c.in-Octets.is, copied) (sym (octets-drop c.in-Octets.width c.args.rows c.args.at cut c.in-Octets.bytes.items e));
    }
