-- Its block alone may have it.
use Rattle.std.proofs.Common.{ap, sym, ◌∙◌}
use Rattle.std.specs.Option.{is_some}
use Rattle.rows.specs.Tables.{Table, is_present}
use Rattle.apply.proofs.Joined.{row_at-home}
use Rattle.apply.proofs.sequence.contains.Goals as goal

pub returns : goal.returns
returns c =
    let d = c.index-blocks-home_of.result in
    let home = row_at-home c.args.blocks.now c.home_of.result c.args.row d c.home_of.ensures.within
    c.home_of.ensures.front c.home_of.ensures.back in
    c.contains.ensures ∙ ap (λ (block : Table). is_present block.rows c.args.row) c.index-blocks-home_of.is ∙ sym (ap is_some home)
