-- One partition more has made its changes.
use Rattle.std.proofs.Common.{◌+◌, ◌<◌, length, refl, rules, ◌∙◌, arith}
use Rattle.std.proofs.lemmas.List.{get_or-set_other}
use Rattle.rows.specs.Tables.{apply_entries}
use Rattle.store.specs.Faults.{have_entries}
use Rattle.apply.specs.declared.partition.Partition.{Partition}
use Rattle.apply.specs.Inner.Ends.{EndsAs}
use Rattle.apply.specs.Inner.Gathered.{entries_in, entries_of}
use Rattle.apply.proofs.Going.{partition-more}
use Rattle.apply.proofs.own.apply_own.Goals as goal

pub loop-index-init : goal.loop-index-init
loop-index-init c = record {
  len = refl;
  ends = λ j d lt. absurd (omega (arith, lt));
  left = λ j d le. refl;
}

pub loop-index-preserved : goal.loop-index-preserved
loop-index-preserved c =
    let old = c.args.partitions.now in
    let partitions = c.loop-index.partitions in
    let i = c.loop-index.index in
    let kept = c.loop-index.invariant in
    let new = c.apply_partition.new.partition in
    let few : i < length partitions = omega (arith, c.loop-index-test.true, kept.len) in
    let commits = c.args.commits.now in
    record {
      len = search rules;
      ends =
          partition-more (λ j (before after : Partition). EndsAs (have_entries commits)
          (apply_entries before.tables.items (entries_in c.args.count (c.args.first + j) (entries_of commits)))
          after.tables.items after.fault)
          old partitions i new _ few kept.left kept.ends c.apply_partition.ensures;
      left = λ j d le. get_or-set_other partitions i j new d (λ same. absurd (omega (arith, le, same))) ∙ kept.left j d (omega (arith, le));
    }

pub returns : goal.returns
returns c = λ k d lt. c.loop-index.invariant.ends k d (omega (arith, lt, c.loop-index-test.false, c.loop-index.auto.index-end))
