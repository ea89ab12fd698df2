-- There is a partner for each position.
use Rattle.std.proofs.Common.{◌∙◌, length, sym, ap, subst}
use Rattle.plans.specs.Inner.BlockRows.{rows_of_block}
use Rattle.plans.specs.Inner.Partnered.{joined_rows, AreSound}
use Rattle.plans.proofs.Sharing.{paired-size}
use Rattle.plans.proofs.shared_rows.row_count.Goals as goal

pub returns-in-Some : goal.returns-in-Some
returns-in-Some g c =
    let tables = g.S.Store.tables c.args.store.now in
    let values = g.S.Store.values_at c.args.store.now in
    let block = c.args.block.now in
    let partners = c.in-Some.partners in
    let sound = subst (AreSound tables values block) c.in-Some.is c.requires in
    c.len.ensures ∙ c.in-Some.partners.positions.ok.0
    ∙ sym (paired-size (values partners.table) (rows_of_block tables block) partners.positions.items partners.places.items sound.sizes)
    ∙ ap (λ given. length (joined_rows tables values block given)) (sym c.in-Some.is)
