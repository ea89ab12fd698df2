-- The words begin with that of a table and a name.
use Rattle.std.proofs.Common.{ℕ, List, [], get_or, Bor, ap, ◌∙◌}
use Rattle.std.proofs.lemmas.Bool.Decides.{Decides-eqb}
use Rattle.std.proofs.lemmas.Slice.Eq.{slice_eq-Decides}
use Rattle.script.specs.Text.{is_name}
use Rattle.script.proofs.LentWords.{table-of}
use Rattle.script.proofs.settings.table_parts.Goals as goal

pub returns-in_ok-name_of-in-len2-up : goal.returns-in_ok-name_of-in-len2-up
returns-in_ok-name_of-in-len2-up c =
    let none : Bor (List ℕ) = record { ref_ptr = (0, 0); now = [] } in
    let bytes = c.as_slice.result.now in
    let decides = slice_eq-Decides Decides-eqb (get_or c.args.words.now 0 none).now bytes c.eq.result c.eq.ensures in
    let is = c.in_ok-name_of-in-len2-up.ensures in (
      ap is_name is.0 ∙ is.1,
      table-of c.args.words.now none c.in_ok-name_of-in-len2-up.field-0.now bytes c.in-len2-up.len_at_least (decides.0 c.if-eq.true)
          c.as_slice.ensures is.0,
    )
