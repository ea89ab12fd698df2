-- Where an entry is refused, the rows are taken back.
use Rattle.std.proofs.lemmas.Result.{on_err_weaker}
use Rattle.mvcc.proofs.Keeping.{kept-taken_back}
use Rattle.mvcc.proofs.chains.Chains.link_commit.Goals as goal

pub returns-then-is_err-clause-err : goal.returns-then-is_err-clause-err
returns-then-is_err-clause-err c =
    on_err_weaker c.link_entries-linked.result
    (λ left shape may. kept-taken_back shape c.args.commits.now c.link_entries-linked.new.self _ c.args.entries.now (left shape may)
    c.take_back_entries.ensures)
    c.link_entries-linked.ensures.err
