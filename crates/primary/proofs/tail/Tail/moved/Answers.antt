-- The streams are of the commits behind the new base, and the counts those at it.
use Rattle.std.proofs.Common.{ℕ, List, sym, ap, subst, ◌∙◌}
use Rattle.rows.specs.Commits.{IsCommit}
use Rattle.rows.specs.Limits.{workers_max}
use Rattle.update_log.specs.Streams.{AreStreamsOf}
use Rattle.primary.specs.Inner.Tail.{low_in}
use Rattle.primary.specs.Journaling.{AreNumbered}
use Rattle.primary.proofs.Behind.{numbered-behind, lows-at}
use Rattle.primary.proofs.Elements.{all-take}
use Rattle.primary.proofs.tail.Tail.moved.Goals as goal

pub streams_of-requires-clause-numbered : goal.streams_of-requires-clause-numbered
streams_of-requires-clause-numbered c =
    subst AreNumbered (sym c.split_at.ensures.back)
    (numbered-behind c.streams_go_on.ensures c.args.commits.now c.args.base c.requires.numbered)

pub returns-clause-tail : goal.returns-clause-tail
returns-clause-tail c =
    let commits = c.args.commits.now in
    let base = c.args.base in
    record {
      within = c.requires.within;
      lows = λ worker.
          ap (λ (lows : List ℕ). low_in lows worker) (c.counts-lows.ensures commits c.requires.tail c.requires.numbered)
          ∙ lows-at commits base worker (all-take (IsCommit workers_max) base commits c.requires.each);
      framed = subst (AreStreamsOf c.in_ok-streams.streams.streams) c.split_at.ensures.back c.in_ok-streams.ensures;
    }
