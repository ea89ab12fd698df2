-- The laws, for all frames and commits.
use Rattle.ordering.proofs.Coming.{merge-begins, part-begins, parts-join}
use Rattle.ordering.proofs.laws.parts_make_the_merge.Goals as goal

pub returns-clause-join : goal.returns-clause-join
returns-clause-join c = parts-join

pub returns-clause-begin : goal.returns-clause-begin
returns-clause-begin c = part-begins

pub returns-clause-only : goal.returns-clause-only
returns-clause-only c = merge-begins
