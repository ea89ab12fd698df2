-- Which lists of commits a journal may be of.
use Rattle.std.proofs.Common.{List, refl, subst}
use Rattle.std.specs.Prelude.{IsOk}
use Rattle.std.specs.List.{AllByRecursion}
use Rattle.rows.specs.declared.commit.Commit.{Commit}
use Rattle.rows.specs.Commits.{IsCommit, apply_commits}
use Rattle.rows.specs.Tables.{opening}
use Rattle.journal.specs.Laws.{EmptyIsJournaled, BeginningIsJournaled}
use Rattle.journal.specs.Recovery.{HasRecord}
use Rattle.journal.proofs.Recovering.{all-front, defined-front}

pub is_journaled-empty : EmptyIsJournaled
is_journaled-empty workers shape = record { legal = record { each = tt; defined = refl }; records = tt }

pub is_journaled-beginning : BeginningIsJournaled
is_journaled-beginning workers shape front commits journaled begins =
    let others = begins.0 in
    record {
      legal =
          record {
            each = all-front (IsCommit workers) front others (subst (AllByRecursion (IsCommit workers)) begins.1 journaled.legal.each);
            defined =
                defined-front (opening shape) front others
                (subst (λ (cs : List Commit). IsOk (apply_commits (opening shape) cs)) begins.1 journaled.legal.defined);
          };
      records = all-front HasRecord front others (subst (AllByRecursion HasRecord) begins.1 journaled.records);
    }
