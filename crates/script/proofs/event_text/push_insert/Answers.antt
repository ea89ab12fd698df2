-- The values stand behind the first words, each behind a space.
use Rattle.std.proofs.Common.{◌∷◌, [], map, codes, decimal, arith}
use Rattle.std.proofs.lemmas.Grind.{common_steps}
use Rattle.rows.specs.Text.{value_text}
use Rattle.script.proofs.Joining.{words-more}
use Rattle.script.proofs.event_text.push_insert.Goals as goal

pub returns : goal.returns
returns c =
    let e = words-more (codes "insert") (decimal c.args.transaction ∷ c.args.name.now ∷ decimal c.args.row.0 ∷ [])
    (map value_text c.args.values.now) in
    grind (arith, common_steps)
