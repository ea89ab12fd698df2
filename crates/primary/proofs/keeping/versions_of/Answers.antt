-- Each commit is defined where it stands.
use Rattle.std.proofs.Common.{◌≡◌, ◌+◌, [], ◌∷◌, ◌++◌, take, ap, sym, ◌∙◌}
use Rattle.std.proofs.lemmas.List.{take_more}
use Rattle.mvcc.specs.VersionList.{VersionList}
use Rattle.primary.proofs.Rebuilding.{defined-next}
use Rattle.primary.proofs.keeping.versions_of.Goals as goal

pub absorb-requires : goal.absorb-requires
absorb-requires c =
    let so_far = c.loop-commit.invariant in
    rw c.as_slice.ensures (defined-next c.commits_are_defined_one_by_one.ensures.each c.loop-commit.versions c.args.schema.now
    c.args.workers c.args.commits.now c.loop-commit.commit-index c.commit-item.result c.loop-commit-test.true c.commit-item.is
    c.requires.journaled so_far.schema
    so_far.commits)

pub loop-commit-preserved : goal.loop-commit-preserved
loop-commit-preserved c =
    let so_far = c.loop-commit.invariant in
    let commits = c.args.commits.now in
    let i = c.loop-commit.commit-index in
    let commit = c.commit-item.result in
    let next : take (i + 1) commits ≡ take i commits ++ commit ∷ [] =
    take_more commits i commit c.loop-commit-test.true ∙ ap (λ c. take i commits ++ c ∷ []) (sym c.commit-item.is) in
    let absorbed : c.absorb.new.self ≡ _ = c.in_ok-absorb.ensures.ok in
    record {
      schema = ap (λ (h : VersionList). h.schema) absorbed ∙ so_far.schema;
      commits =
          ap (λ (h : VersionList). h.commits) absorbed
          ∙ ap (λ entries. c.loop-commit.versions.commits ++ record { worker = commit.worker; entries = entries } ∷ []) c.as_slice.ensures
          ∙ ap (λ cs. cs ++ commit ∷ []) so_far.commits ∙ sym next;
    }
