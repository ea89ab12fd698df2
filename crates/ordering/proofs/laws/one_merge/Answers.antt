-- The laws, for all frames and commits.
use Rattle.ordering.proofs.Cut.{cut-merges}
use Rattle.ordering.proofs.Kept.{kept-merge}
use Rattle.ordering.proofs.Holding.{merge-unique}
use Rattle.ordering.proofs.laws.one_merge.Goals as goal

pub returns-clause-only : goal.returns-clause-only
returns-clause-only c = merge-unique

pub returns-clause-cut : goal.returns-clause-cut
returns-clause-cut c = cut-merges

pub returns-clause-kept : goal.returns-clause-kept
returns-clause-kept c = kept-merge c.arrivals_stay_of_streams.ensures.kept
