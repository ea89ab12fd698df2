-- One table more is as at the opening.
use Rattle.std.proofs.Common.{◌≡◌, List, ℕ, length, get_or, map, refl, sym, ap, subst, ◌∙◌, arith}
use Rattle.std.proofs.lemmas.List.{length-map}
use Rattle.rows.specs.declared.kind.Kind.{Kind}
use Rattle.rows.specs.Shape.{AreColumns, shape_of}
use Rattle.rows.specs.Tables.{Table, opening}
use Rattle.store.specs.Changes.{BeganWith}
use Rattle.store.proofs.Cleared.{first-kinds, cleared-more, mixed-all, opening-length}
use Rattle.store.proofs.changing.clear_tables.Goals as goal

-- as many tables as the schema has
many : {A : Type 0} (table : A → Table) (schema : List (List ℕ × List Kind)) (tables : List A)
    → BeganWith (shape_of schema) (map table tables) → length tables ≡ length schema
many table schema tables began =
    omega (arith, began.many, length-map tables table, length-map schema (λ (t : List ℕ × List Kind). t.1))

pub loop-k-init : goal.loop-k-init
loop-k-init g c = refl

pub bounds-tables-k : goal.bounds-tables-k
bounds-tables-k g c =
    let same = many g.T.TableRows.table c.args.schema.now c.args.tables.now c.requires in
    omega (arith, same, c.loop-k-test.true, c.loop-k.auto.tables)

pub clear-requires : goal.clear-requires
clear-requires g c =
    let table = g.T.TableRows.table in
    let one = get_or c.loop-k.tables c.loop-k.k c.index-tables-k.result in
    let is = ap (get_or c.loop-k.tables c.loop-k.k) c.index-tables-k.is in
    let same = many table c.args.schema.now c.args.tables.now c.requires in
    let first = first-kinds table (shape_of c.args.schema.now) c.args.tables.now c.loop-k.tables c.loop-k.k one c.in-Some.kinds.now
    c.requires (sym c.in-Some.ensures.value) (omega (arith, same, c.loop-k-test.true, c.loop-k.auto.tables)) c.loop-k.invariant is in
    subst AreColumns (sym first) c.in-Some.ensures.bounds.1

pub loop-k-preserved : goal.loop-k-preserved
loop-k-preserved g c =
    let table = g.T.TableRows.table in
    let one = get_or c.loop-k.tables c.loop-k.k c.index-tables-k.result in
    let is = ap (get_or c.loop-k.tables c.loop-k.k) c.index-tables-k.is in
    let same = many table c.args.schema.now c.args.tables.now c.requires in
    cleared-more table (shape_of c.args.schema.now) c.args.tables.now c.loop-k.tables c.loop-k.k one c.in-Some.kinds.now
    c.requires (sym c.in-Some.ensures.value) (omega (arith, same, c.loop-k-test.true, c.loop-k.auto.tables)) c.loop-k.invariant is
    c.clear.new.self c.clear.ensures

pub returns : goal.returns
returns g c =
    let same = many g.T.TableRows.table c.args.schema.now c.args.tables.now c.requires in
    c.loop-k.invariant
    ∙ mixed-all c.loop-k.k (opening (shape_of c.args.schema.now)) (map g.T.TableRows.table c.args.tables.now)
    (opening-length (shape_of c.args.schema.now) ∙ sym c.requires.many)
    (omega (arith, same, c.loop-k-test.false, length-map c.args.tables.now g.T.TableRows.table))
