-- A name is text.
use Rattle.std.proofs.Common.{◌≡◌, true, rules}
use Rattle.script.specs.Text.{is_name}
use Rattle.script.proofs.Plain.{name-text}
use Rattle.script.proofs.table_names.named_table.Goals as goal

pub returns-in_default : goal.returns-in_default
returns-in_default c =
    let is : is_name c.args.name.now ≡ true = search rules in
    absurd (c.in_default.ensures (name-text c.args.name.now is))
