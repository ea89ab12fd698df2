-- The keys of one column of numbers.
use Rattle.std.proofs.Common.{ℕ, [], ◌∷◌, length, map, slice_index_or, arith}
use Rattle.std.proofs.lemmas.Result.{IfOk-weaker}
use Rattle.rows.specs.declared.value.Value.TheVariants.{Int}
use Rattle.plans.specs.Inner.Cells.{value_at, key_at, AreKeyed}
use Rattle.plans.proofs.ColumnValues.{key-single, single-size}
use Rattle.plans.proofs.RowKeys.{keyed-same}
use Rattle.plans.proofs.row_numbers.keyed_rows.Goals as goal

pub returns-in-Some-clause-numbers : goal.returns-in-Some-clause-numbers
returns-in-Some-clause-numbers c =
    let columns = c.args.columns.now in
    let places = c.args.places.now in
    let cells = c.index-columns-places.result in
    let numbers = c.in-Some.numbers.now in
    let keys = c.number_singles.new.numbering.keys.items in
    let have = c.requires.columns 0 0 (omega (arith, c.if-places-eq1.true)) in
    let size =
    single-size columns (slice_index_or places 0 0) cells numbers c.args.count have.0 c.index-columns-places.is c.in-Some.ensures have.1 in
    IfOk-weaker c.number_singles.result _ (λ list. AreKeyed keys (key_at columns places) c.args.count list.items)
    (λ list keyed.
    keyed-same keys (λ (i : ℕ). value_at (map Int numbers) i ∷ []) (key_at columns places) (length numbers) c.args.count list.items keyed
    (key-single columns places cells (map Int numbers) c.if-places-eq1.true have.0 c.index-columns-places.is c.in-Some.ensures) size)
    c.number_singles.ensures.numbers
