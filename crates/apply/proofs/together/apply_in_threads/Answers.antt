-- Where no partition has a fault, all changes were made; else one that has it tells why not.
use Rattle.std.proofs.Common.{refl}
use Rattle.store.specs.Faults.{have_entries}
use Rattle.apply.proofs.Each.{together-ok, together-err}
use Rattle.apply.proofs.together.apply_in_threads.Goals as goal

pub returns-in-None-clause-ok : goal.returns-in-None-clause-ok
returns-in-None-clause-ok g c =
    (together-ok c.entries_make_tables.ensures c.args.partitions.now c.change_each.new.partitions c.change_each.auto.partitions
    c.args.commits.now (have_entries c.args.commits.now) c.requires.some c.requires.partitions c.change_each.ensures
    (c.in-None.ensures.none refl)).0

pub returns-in-None-clause-partitions : goal.returns-in-None-clause-partitions
returns-in-None-clause-partitions g c =
    (together-ok c.entries_make_tables.ensures c.args.partitions.now c.change_each.new.partitions c.change_each.auto.partitions
    c.args.commits.now (have_entries c.args.commits.now) c.requires.some c.requires.partitions c.change_each.ensures
    (c.in-None.ensures.none refl)).1

pub returns-in-Some-clause-err : goal.returns-in-Some-clause-err
returns-in-Some-clause-err g c =
    let found = c.in-Some.ensures.some in
    together-err c.entries_make_tables.ensures c.args.partitions.now c.change_each.new.partitions c.change_each.auto.partitions
    c.args.commits.now (have_entries c.args.commits.now) c.requires.some c.requires.partitions c.change_each.ensures found.0
    c.in-Some.fault found.1 found.2
