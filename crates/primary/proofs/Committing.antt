-- What stays of the lists with one commit more.
use Rattle.std.proofs.Common.{◌≡◌, ◌+◌, ◌<◌, ◌≤◌, ◌^◌, ℕ, List, [], ◌∷◌, ◌++◌, length, map}
use Rattle.std.proofs.Common.{sym, ap, ◌∙◌, arith, length-append}
use Rattle.std.specs.List.{AllByRecursion}
use Rattle.rows.specs.declared.commit.Commit.{Commit}
use Rattle.rows.specs.declared.entry.Entry.{Entry}
use Rattle.rows.specs.Commits.{IsCommit}
use Rattle.rows.specs.Limits.{commit_entries_max}
use Rattle.rows.specs.Shape.{shape_of}
use Rattle.rows.specs.Spelling.{HasSpelling}
use Rattle.mvcc.specs.VersionList.{VersionList}
use Rattle.update_log.specs.Parts.{parts_of}
use Rattle.update_log.specs.Streams.{stream_of}
use Rattle.wire.specs.Spelling.{spelling}
use Rattle.primary.proofs.Elements.{all-append}
use Rattle.journal.specs.Recovery.{HasRecord}
use Rattle.primary.specs.declared.tail.Tail.{Tail}
use Rattle.primary.specs.Inner.Invariant.{AreLists}
use Rattle.primary.specs.Inner.Tail.{IsTailOf}
use Rattle.primary.specs.Sending.{pieces_of_base}
use Rattle.primary.proofs.Cut.{pieces-stay}
use Rattle.primary.proofs.Streams.{numbered-push}

pub lists-push : (versions now : VersionList) (tail new : Tail) (pieces : List (List ℕ)) (durable workers worker : ℕ)
    (entries : List Entry)
    → AreLists versions tail pieces durable workers → worker < workers → 0 < length entries → length entries ≤ commit_entries_max
    → AllByRecursion HasSpelling entries → length versions.commits + 1 < 2 ^ 64
    → length (stream_of versions.commits worker) + length (parts_of entries) < 2 ^ 64
    → now ≡ record versions { commits = versions.commits ++ record { worker = worker; entries = entries } ∷ [] }
    → new.base ≡ tail.base
    → IsTailOf new now.commits → AreLists now new pieces durable workers
lists-push versions now tail new pieces durable workers worker entries kept there some few spelled numbered frames is same framed =
    let commit : Commit = record { worker = worker; entries = entries } in
    let more = versions.commits ++ commit ∷ [] in
    let commits : now.commits ≡ more = ap (λ (h : VersionList). h.commits) is in
    let schema : now.schema ≡ versions.schema = ap (λ (h : VersionList). h.schema) is in
    let one : IsCommit workers commit = record { worker = there; some = some; few = few } in
    let held : HasRecord commit = record { some = some; few = few; spelled = spelled } in
    record {
      some_workers = kept.some_workers;
      few_workers = kept.few_workers;
      within = omega (arith, kept.within, ap length commits, length-append versions.commits (commit ∷ []));
      based = omega (arith, kept.based, same);
      numbered =
          rw commits
          (numbered-push versions.commits commit kept.numbered numbered frames);
      each = rw commits (all-append (IsCommit workers) versions.commits (commit ∷ []) kept.each (one, tt));
      records = rw commits (all-append HasRecord versions.commits (commit ∷ []) kept.records (held, tt));
      framed = framed;
      spelled =
          kept.spelled
          ∙ ap (map spelling) (sym (pieces-stay (shape_of versions.schema) versions.commits (commit ∷ []) tail.base kept.framed.within))
          ∙ ap (λ b. map spelling (pieces_of_base (shape_of versions.schema) more b)) (sym same)
          ∙ ap (λ cs. map spelling (pieces_of_base (shape_of versions.schema) cs new.base)) (sym commits)
          ∙ ap (λ s. map spelling (pieces_of_base (shape_of s) now.commits new.base)) (sym schema);
    }

-- lists that are as they were
pub lists-stay : (versions now : VersionList) (tail new : Tail) (pieces : List (List ℕ)) (durable workers : ℕ)
    → AreLists versions tail pieces durable workers
    → now ≡ versions → new.base ≡ tail.base → IsTailOf new now.commits → AreLists now new pieces durable workers
lists-stay versions now tail new pieces durable workers kept is same framed = record {
  some_workers = kept.some_workers;
  few_workers = kept.few_workers;
  within = rw is kept.within;
  based = omega (arith, kept.based, same);
  numbered = rw is kept.numbered;
  each = rw is kept.each;
  records = rw is kept.records;
  framed = framed;
  spelled =
      kept.spelled
      ∙ ap (λ b. map spelling (pieces_of_base (shape_of versions.schema) versions.commits b)) (sym same)
      ∙ ap (λ (h : VersionList). map spelling (pieces_of_base (shape_of h.schema) h.commits new.base)) (sym is);
}
