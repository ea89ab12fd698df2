-- Where it fits, one partition more has the column; or those that have it drop it again.
use Rattle.std.proofs.Common.{◌≡◌, ℕ, ◌<◌, ◌≤◌, ◌++◌, true, Ok, List, [], length, map, take, drop, get_or, slice_set, sym, ap, subst, ◌∙◌}
use Rattle.std.proofs.Common.{arith}
use Rattle.std.proofs.lemmas.List.{length-map, length-set, length-take-le, get_or-map, map-append, take-map, drop-map, take-append-drop}
use Rattle.rows.specs.Entries.{table_of}
use Rattle.rows.specs.Tables.{Tables, kinds_of, stands, refusal_of, made, change_where, apply_entry}
use Rattle.store.specs.Changes.{fault_kind}
use Rattle.store.specs.Faults.{number_of}
use Rattle.apply.specs.declared.partition.Partition.{Partition}
use Rattle.apply.specs.Blocks.{dropped}
use Rattle.apply.specs.Partitions.{tables_in}
use Rattle.apply.specs.Inner.Gathered.{ArePartitions, each_made}
use Rattle.apply.specs.Inner.Views.{views}
use Rattle.apply.proofs.Added.{all-made, two-each, one-is, one-lacks, dropped-each}
use Rattle.apply.proofs.Viewed.{views-length, views-set, views-same}
use Rattle.apply.proofs.Widened.{mixed-at, mixed-more, mixed-all, mixed-front, mixed-back}
use Rattle.apply.proofs.adding.add_column.Goals as goal
use Rattle.apply.proofs.adding.add_column.Goals.{After-change, After-drop_column, After-entries_make_tables}

abbrev tables_of : Partition → Tables
tables_of partition = partition.tables.items

-- what each partition is to be
abbrev news : After-change → List Tables
news c = each_made c.args.entry.now (views c.args.partitions.now)

many : (c : After-change) → length (news c) ≡ length (views c.args.partitions.now)
many c = length-map (views c.args.partitions.now) (λ (tables : Tables). made tables c.args.entry.now)

few : (c : After-change) → c.loop-k.k < length (views c.args.partitions.now)
few c = omega (arith, c.loop-k-test.true, views-length c.args.partitions.now)

le : (c : After-change) → c.loop-k.k ≤ length (slice_set c.loop-k.partitions c.loop-k.k c.change.new.self)
le c =
    omega (arith, c.loop-k-test.true, c.loop-k.auto.partitions, length-set c.loop-k.partitions c.loop-k.k c.change.new.self)

-- the partition before its change
abbrev was : After-change → Partition
was c = get_or c.loop-k.partitions c.loop-k.k c.index-partitions-k.result

here : (c : After-change) → tables_of (was c) ≡ get_or (views c.args.partitions.now) c.loop-k.k []
here c =
    sym (get_or-map tables_of c.loop-k.partitions c.loop-k.k c.index-partitions-k.result []
    (omega (arith, c.loop-k-test.true, c.loop-k.auto.partitions)))
    ∙ ap (λ all. get_or all c.loop-k.k []) c.loop-k.invariant
    ∙ mixed-at c.loop-k.k (news c) (views c.args.partitions.now) [] (many c) (few c)

-- where the change was refused, all is as it was
kept : (c : After-change) → c.change.new.self.tables.items ≡ tables_of (was c)
    → views (slice_set c.loop-k.partitions c.loop-k.k c.change.new.self)
    ≡ take c.loop-k.k (news c) ++ drop c.loop-k.k (views c.args.partitions.now)
kept c same =
    views-same c.loop-k.partitions c.loop-k.k (was c) c.change.new.self
    (ap (get_or c.loop-k.partitions c.loop-k.k) c.index-partitions-k.is) same
    ∙ c.loop-k.invariant

front : (c : After-change) → c.change.new.self.tables.items ≡ tables_of (was c)
    → views (take c.loop-k.k (slice_set c.loop-k.partitions c.loop-k.k c.change.new.self)) ≡ take c.loop-k.k (news c)
front c same =
    sym (take-map tables_of c.loop-k.k (slice_set c.loop-k.partitions c.loop-k.k c.change.new.self))
    ∙ ap (take c.loop-k.k) (kept c same)
    ∙ mixed-front c.loop-k.k (news c) (views c.args.partitions.now) (many c) (omega (arith, few c))

pub loop-k-preserved : goal.loop-k-preserved
loop-k-preserved c =
    let at = (goal.at.loop-k-preserved c).After-change in
    views-set c.loop-k.partitions c.loop-k.k c.change.new.self
    ∙ ap (λ all. slice_set all c.loop-k.k c.change.new.self.tables.items) c.loop-k.invariant
    ∙ mixed-more c.loop-k.k (news at) (views c.args.partitions.now) [] c.change.new.self.tables.items (many at) (few at)
    (one-is (views c.args.partitions.now) c.args.entry.now c.requires.column c.requires.partitions (sym c.fits.ensures.exact
    ∙ c.if-not-fits.false) c.loop-k.k []
    (tables_of (was at)) c.change.new.self.tables.items (few at) (here at) c.in_default.ensures.ok
    ∙ sym (get_or-map (λ (tables : Tables). made tables c.args.entry.now) (views c.args.partitions.now) c.loop-k.k [] [] (few at)))

pub drop_column-requires : goal.drop_column-requires
drop_column-requires c = λ j d lt.
    let at = (goal.at.drop_column-requires c).After-change in
    let olds = views c.args.partitions.now in
    let within : j < c.loop-k.k =
    omega (arith, lt, length-take-le c.loop-k.k (slice_set c.loop-k.partitions c.loop-k.k c.change.new.self) (le at)) in
    let own : 1 < length (kinds_of (get_or (take c.loop-k.k (news at)) j d) (table_of c.args.entry.now)) =
    two-each olds c.args.entry.now c.requires.column c.requires.partitions (c.fits.ensures.columns c.if-not-fits.false) c.loop-k.k j d
    (omega (arith, few at)) within
    in
    subst (λ (table : ℕ). 1 < length
    (kinds_of (get_or (views (take c.loop-k.k (slice_set c.loop-k.partitions c.loop-k.k c.change.new.self))) j d)
    table)) (sym c.table.ensures)
    (subst (λ (all : List Tables). 1 < length (kinds_of (get_or all j d) (table_of c.args.entry.now)))
    (sym (front at c.in-Err.ensures.err)) own)

-- what is left where one partition has no memory
unchanged : (c : After-drop_column)
    → views (c.drop_column.new.partitions ++ drop c.loop-k.k (slice_set c.loop-k.partitions c.loop-k.k c.change.new.self))
    ≡ views c.args.partitions.now
unchanged c =
    let at = (goal.at.After-drop_column c).After-change in
    let olds = views c.args.partitions.now in
    let narrow : Tables → Tables = λ tables. dropped tables (table_of c.args.entry.now) in
    let changed = slice_set c.loop-k.partitions c.loop-k.k c.change.new.self in
    let first : views c.drop_column.new.partitions ≡ take c.loop-k.k olds =
    c.drop_column.ensures.tables
    ∙ ap (λ (table : ℕ). map (λ (tables : Tables). dropped tables table) (views (take c.loop-k.k changed))) c.table.ensures
    ∙ ap (map narrow) (front at c.in-Err.ensures.err)
    ∙ sym (take-map narrow c.loop-k.k (news at))
    ∙ ap (take c.loop-k.k) (dropped-each c.args.entry.now c.requires.column olds) in
    map-append tables_of c.drop_column.new.partitions (drop c.loop-k.k changed)
    ∙ ap (λ front. front ++ views (drop c.loop-k.k changed)) first
    ∙ ap (λ back. take c.loop-k.k olds ++ back) (sym (drop-map tables_of c.loop-k.k changed)
    ∙ ap (drop c.loop-k.k) (kept at c.in-Err.ensures.err)
    ∙ mixed-back c.loop-k.k (news at) olds (many at) (omega (arith, few at)))
    ∙ take-append-drop c.loop-k.k olds

pub returns-in-Err-clause-err : goal.returns-in-Err-clause-err
returns-in-Err-clause-err c = unchanged (goal.at.returns-in-Err-clause-err c).After-drop_column

pub returns-in-Err-clause-partitions : goal.returns-in-Err-clause-partitions
returns-in-Err-clause-partitions c =
    subst ArePartitions (sym (unchanged (goal.at.returns-in-Err-clause-partitions c).After-drop_column)) c.requires.partitions

all : (c : After-entries_make_tables)
    → (apply_entry (tables_in (views c.args.partitions.now)) c.args.entry.now
    ≡ Ok (tables_in (each_made c.args.entry.now (views c.args.partitions.now))))
    × ArePartitions (each_made c.args.entry.now (views c.args.partitions.now))
all c =
    all-made (views c.args.partitions.now) c.args.entry.now c.requires.column c.requires.partitions
    (sym c.fits.ensures.exact ∙ c.if-not-fits.false) c.entries_make_tables.ensures
    (omega (arith, c.requires.some, views-length c.args.partitions.now))

pub returns-then-not-fits-clause-refused : goal.returns-then-not-fits-clause-refused
returns-then-not-fits-clause-refused c =
    let tables = tables_in (views c.args.partitions.now) in
    let entry = c.args.entry.now in
    ap (λ fits. fault_kind true (change_where fits (stands tables entry) (refusal_of entry) (made tables entry)))
    (sym (sym c.fits.ensures.exact ∙ c.if-not-fits.true))

pub returns-in-Err-clause-refused : goal.returns-in-Err-clause-refused
returns-in-Err-clause-refused c =
    let at = (goal.at.returns-in-Err-clause-refused c).After-change in
    one-lacks (views c.args.partitions.now) c.args.entry.now c.requires.column c.requires.partitions (sym c.fits.ensures.exact
    ∙ c.if-not-fits.false) c.loop-k.k
    (number_of c.in-Err.fault) [] (tables_of (was at)) (few at) (here at) c.in-Err.ensures.refused
    ∙ sym (ap (fault_kind true) (all (goal.at.returns-in-Err-clause-refused c).After-entries_make_tables).0)

pub returns-clause-ok : goal.returns-clause-ok
returns-clause-ok c =
    let olds = views c.args.partitions.now in
    let last : views c.loop-k.partitions ≡ each_made c.args.entry.now olds =
    c.loop-k.invariant
    ∙ mixed-all c.loop-k.k (each_made c.args.entry.now olds) olds (length-map olds (λ (tables : Tables). made tables c.args.entry.now))
    (omega (arith, c.loop-k-test.false, views-length c.args.partitions.now)) in
    (all (goal.at.returns-clause-ok c).After-entries_make_tables).0 ∙ ap (λ all. Ok (tables_in all)) (sym last)

pub returns-clause-partitions : goal.returns-clause-partitions
returns-clause-partitions c =
    let olds = views c.args.partitions.now in
    let last : views c.loop-k.partitions ≡ each_made c.args.entry.now olds =
    c.loop-k.invariant
    ∙ mixed-all c.loop-k.k (each_made c.args.entry.now olds) olds (length-map olds (λ (tables : Tables). made tables c.args.entry.now))
    (omega (arith, c.loop-k-test.false, views-length c.args.partitions.now)) in
    subst ArePartitions (sym last) (all (goal.at.returns-clause-partitions c).After-entries_make_tables).1
