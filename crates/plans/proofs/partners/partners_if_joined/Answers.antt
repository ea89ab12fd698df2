-- Without a join each row is joined with none.
use Rattle.std.proofs.Common.{sym, ap, ◌∙◌, Option}
use Rattle.std.specs.List.{filter_map}
use Rattle.queries.specs.declared.plan.Join.{Join}
use Rattle.queries.specs.Answers.{joined_with}
use Rattle.plans.specs.Inner.BlockRows.{rows_of_block}
use Rattle.plans.proofs.Pairs.{joined-alone}
use Rattle.plans.proofs.partners.partners_if_joined.Goals as goal

pub returns-in-None-clause-joined : goal.returns-in-None-clause-joined
returns-in-None-clause-joined g c =
    let tables = g.S.Store.tables c.args.store.now in
    let rows = rows_of_block tables c.args.block.now in
    joined-alone tables rows ∙ ap (λ (join : Option Join). filter_map (λ row. joined_with tables join row.1) rows) (sym c.in-None.is)
