-- The partition of the entry's row makes its change, for all.
use Rattle.std.proofs.Common.{◌≡◌, Some, get_or, slice_set, sym, ap, subst, ◌∙◌}
use Rattle.rows.specs.Entries.{row_of}
use Rattle.apply.specs.Inner.Gathered.{ArePartitions}
use Rattle.apply.specs.Inner.Views.{views}
use Rattle.apply.specs.declared.partition.Partition.{Partition}
use Rattle.apply.proofs.Joined.{ok-or-err}
use Rattle.apply.proofs.Viewed.{own-changes, own-refused, views-same, ok-follows, on-err-follows, err-follows}
use Rattle.apply.proofs.partitions.change_partitions.Goals as goal
use Rattle.apply.proofs.partitions.change_partitions.Goals.{After-change}

-- the partition before the change
abbrev was : After-change → Partition
was c = get_or c.args.partitions.now c.home_of-home.result c.index-partitions-home.result

is : (c : After-change) → was c ≡ get_or c.args.partitions.now c.home_of-home.result (was c)
is c = ap (λ partition. get_or c.args.partitions.now c.home_of-home.result partition) c.index-partitions-home.is

of : (c : After-change) → row_of c.args.entry.now ≡ Some c.in-Some.row
of c = sym c.row.ensures ∙ c.in-Some.is

pub returns-clause-ok : goal.returns-clause-ok
returns-clause-ok c =
    ok-follows c.change.result _ _ c.change.ensures.ok (λ change.
    (own-changes c.args.partitions.now c.args.entry.now c.in-Some.row (of c) c.home_of-home.result (was c) c.change.new.self (is c)
    c.home_of-home.ensures.value c.home_of-home.ensures.within c.requires.partitions c.entries_make_tables.ensures change).0)

pub returns-clause-err : goal.returns-clause-err
returns-clause-err c =
    on-err-follows c.change.result _ _ c.change.ensures.err
    (views-same c.args.partitions.now c.home_of-home.result (was c) c.change.new.self (is c))

pub returns-clause-refused : goal.returns-clause-refused
returns-clause-refused c =
    err-follows c.change.result _ _ c.change.ensures.refused
    (λ fault kind. kind ∙ own-refused c.args.partitions.now c.args.entry.now c.in-Some.row (of c) c.home_of-home.result (was c)
    c.change.new.self (is c) c.home_of-home.ensures.value c.home_of-home.ensures.within c.requires.partitions)

pub returns-clause-partitions : goal.returns-clause-partitions
returns-clause-partitions c =
    ok-or-err c.change.result _ _ (ArePartitions (views (slice_set c.args.partitions.now c.home_of-home.result c.change.new.self)))
    c.change.ensures.ok c.change.ensures.err (λ change.
    (own-changes c.args.partitions.now c.args.entry.now c.in-Some.row (of c) c.home_of-home.result (was c) c.change.new.self (is c)
    c.home_of-home.ensures.value c.home_of-home.ensures.within c.requires.partitions c.entries_make_tables.ensures change).1)
    (λ same. subst ArePartitions (sym (views-same c.args.partitions.now c.home_of-home.result (was c) c.change.new.self (is c) same))
    c.requires.partitions)
