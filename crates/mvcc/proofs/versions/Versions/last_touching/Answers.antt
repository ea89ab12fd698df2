-- The greatest of the newest commits of the entries' rows; entries of rows that no later commit touches stay defined.
use Rattle.std.proofs.Common.{◌≡◌, ◌≤◌, ℕ, true, length, subst, sym, ap, ◌∙◌, arith}
use Rattle.std.proofs.lemmas.List.{take_all}
use Rattle.rows.specs.Shape.{shape_of}
use Rattle.rows.specs.Commits.{last_touching}
use Rattle.mvcc.specs.VersionList.{VersionList, defined_at}
use Rattle.mvcc.proofs.Newest.{last_touching-none, last_touching-next}
use Rattle.mvcc.proofs.versions.Versions.last_touching.Goals as goal
use Rattle.mvcc.proofs.versions.Versions.last_touching.Goals.{then-last-newest, else-last-newest}

pub loop-entry-init : goal.loop-entry-init
loop-entry-init c = sym (last_touching-none 0 c.args.self.now.commits)

pub loop-entry-preserved : goal.loop-entry-preserved
loop-entry-preserved c =
    let commits = c.args.self.now.commits in
    let next =
    last_touching-next c.args.entries.now commits c.loop-entry.entry-index c.entry-item.result c.loop-entry-test.true c.entry-item.is in
    elim c.if-last-newest.branch [
      | then-last-newest w ↦ omega (arith, c.newest_for-newest.ensures)
      | else-last-newest w ↦ omega (arith, c.newest_for-newest.ensures)
    ]

pub returns-clause-stay_defined : goal.returns-clause-stay_defined
returns-clause-stay_defined c =
    let inside = c.self.inside in
    let entries = c.args.entries.now in
    let last : c.loop-entry.last ≡ last_touching entries 0 inside.commits.items =
    c.loop-entry.invariant ∙ ap (λ xs. last_touching xs 0 c.args.self.now.commits)
    (take_all c.loop-entry.entry-index entries c.loop-entry-test.false)
    ∙ ap (λ (v : VersionList). last_touching entries 0 v.commits) (sym c.self.view_is) in
    subst (λ (v : VersionList). (version : ℕ) → c.loop-entry.last ≤ version → defined_at v version entries ≡ true
    → defined_at v (length v.commits) entries ≡ true) c.self.view_is
    (λ version below defined. c.entries_are_defined_one_by_one.ensures.untouched (shape_of inside.schema) inside.commits.items version
    entries c.self.invariant.legal
    (subst (λ n. n ≤ version) last below) defined)
