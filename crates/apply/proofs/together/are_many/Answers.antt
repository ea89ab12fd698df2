-- The commits so far, and one more.
use Rattle.std.proofs.Common.{◌≤◌, length, ap, arith}
use Rattle.std.proofs.lemmas.Bool.Decides.{nat_tests}
use Rattle.std.proofs.lemmas.List.Folds.{length-flat_map-take}
use Rattle.rows.specs.declared.commit.Commit.{Commit}
use Rattle.apply.specs.Limits.{together_min}
use Rattle.apply.specs.Inner.Gathered.{entries_of}
use Rattle.apply.proofs.together.are_many.Goals as goal

pub returns-then-left-entries : goal.returns-then-left-entries
returns-then-left-entries c =
    let commits = c.args.commits.now in
    let few = length-flat_map-take (λ (commit : Commit). commit.entries) commits c.loop-commit.commit-index c.commit-item.result
    c.loop-commit-test.true in
    let own = ap (λ (commit : Commit). length commit.entries) c.commit-item.is in
    let seen = ap length c.as_slice-entries.ensures in
    let enough : together_min ≤ length (entries_of commits) =
    omega (arith, few, own, seen, c.loop-commit.invariant.0, c.if-left-entries.true) in
    grind (arith, nat_tests, enough)
