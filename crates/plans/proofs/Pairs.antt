-- The rows of a block, each joined with the row that it names.
use Rattle.std.proofs.Common.{◌≡◌, ℕ, zero, suc, ◌+◌, ◌<◌, ◌≤◌, pos, true, List, [], ◌∷◌, ◌++◌, length, map, take, get_or}
use Rattle.std.proofs.Common.{Option, Some, None, IsSome, IfSome, slice_get, refl, sym, ap, ◌∙◌, subst, arith}
use Rattle.std.specs.List.{filter_map, cons_option}
use Rattle.std.specs.Option.{option_map, option_and_then, unwrap_or}
use Rattle.std.proofs.lemmas.List.{take_more, get_or-map, append-nil}
use Rattle.std.proofs.lemmas.List.Elements.{filter_map-append, All-push}
use Rattle.rows.specs.declared.value.Value.{Value}
use Rattle.rows.specs.declared.value.Value.TheVariants.{Int}
use Rattle.rows.specs.Tables.{Rows, Tables, rows_of, row_at, kinds_of, RowsAreOfKinds}
use Rattle.rows.specs.Values.{are_of_kinds}
use Rattle.store.specs.Changes.{column_of}
use Rattle.plans.specs.declared.block.Block.{Block}
use Rattle.queries.specs.declared.column.Column.{Column}
use Rattle.queries.specs.declared.column.Column.TheVariants.{Own, Joined}
use Rattle.plans.specs.declared.partners.Partners.{Partners}
use Rattle.queries.specs.declared.plan.Join.{Join}
use Rattle.queries.specs.Answers.{JoinedRow, values_in, id_of, joined_with}
use Rattle.plans.specs.Inner.BlockRows.{values_by, rows_of_block, IsBlock, alone, own_rows}
use Rattle.plans.specs.Inner.Cells.{value_at}
use Rattle.plans.specs.Inner.Picked.{ArePlaces}
use Rattle.plans.specs.Inner.Partnered.{row_named, row_in, paired, column_at, IsOfTable, IsJoining, AreSound, HasKind, HaveColumn}
use Rattle.plans.specs.Inner.Partnered.{joined_rows, joined_table}
use Rattle.plans.proofs.Blocks.{column-there, own-size}
use Rattle.plans.proofs.Columns.{value-there}

some-is : {X : Type 0} (found : Option X) (d : X) → IsSome found → found ≡ Some (unwrap_or found d)
some-is None d there = absurd (cc)
some-is (Some x) d there = refl

-- the value of a column of the row at a position
pub own-at : (rows : Rows) (position column : ℕ)
    → value_at (values_in (Own column) (map alone rows)) position ≡ unwrap_or (slice_get (row_in rows position) column) (Int (pos 0))
own-at [] position column = refl
own-at (row ∷ rows) zero column = refl
own-at (row ∷ rows) (suc position) column = own-at rows position column

column-in-row : (found : Option (List Value)) (column : ℕ) → IsSome (column_of found column)
    → IsSome (slice_get (unwrap_or found []) column)
column-in-row None column there = absurd (cc)
column-in-row (Some own) column there = there

-- a row of a block has the columns of its table
block-row : (tables : Tables) (block : Block) (column : ℕ) → RowsAreOfKinds tables → IsBlock tables block
    → IsSome (slice_get (kinds_of tables block.table) column) → (i : ℕ) → i < length block.ids.now
    → IsSome (slice_get (row_in (rows_of_block tables block) i) column)
block-row tables block column are is kind i lt =
    let rows = rows_of tables block.table in
    let ids = block.ids.now in
    let row = get_or-map (λ (id : ℕ). (id, values_by rows id)) ids i 0 (0, []) lt in
    let there = column-there tables block.table (get_or ids i 0) column are (is.there i 0 lt) kind in
    subst (λ (row : ℕ × List Value). IsSome (slice_get row.1 column)) (sym row)
    (column-in-row (row_at rows (get_or ids i 0)) column there)

-- the value by which a row of a block is joined
pub link-at : (tables : Tables) (block : Block) (column : ℕ) (links : List Value) → RowsAreOfKinds tables → IsBlock tables block
    → IsSome (slice_get (kinds_of tables block.table) column) → links ≡ values_in (Own column) (own_rows tables block)
    → (i : ℕ) → i < length block.ids.now
    → slice_get (row_in (rows_of_block tables block) i) column ≡ Some (value_at links i)
link-at tables block column links are is kind all i lt =
    let rows = rows_of_block tables block in
    some-is (slice_get (row_in rows i) column) (Int (pos 0)) (block-row tables block column are is kind i lt)
    ∙ ap Some (sym (ap (λ (values : List Value). value_at values i) all ∙ own-at rows i column))

-- a row that is named has the kinds of its table
pub named-of-table : (tables : Tables) (table : ℕ) (value : Value) → RowsAreOfKinds tables → IsSome (row_named tables table value)
    → IsOfTable tables table (row_named tables table value)
named-of-table tables table value are there = by (id_of value) there
  where
    found : (row : Option (List Value)) → IsSome row → IfSome row (λ values. are_of_kinds values (kinds_of tables table) ≡ true)
        → IsOfTable tables table row
    found None there are = absurd (cc)
    found (Some own) there are = are

    by : (id : Option ℕ) → IsSome (option_and_then (row_at (rows_of tables table)) id)
        → IsOfTable tables table (option_and_then (row_at (rows_of tables table)) id)
    by None there = absurd (cc)
    by (Some id) there = found (row_at (rows_of tables table) id) there (are table id)

pub place-there : (tables : Tables) (table column : ℕ) (found : Option (List Value)) → IsOfTable tables table found
    → IsSome (slice_get (kinds_of tables table) column) → IsSome (column_of found column)
place-there tables table column None is kind = absurd is
place-there tables table column (Some own) is kind = value-there own (kinds_of tables table) column is kind

module _ {P : Type 0} (values : P → Option (List Value)) (rows : Rows) where
  pub paired-push : (positions : List ℕ) (places : List P) (position : ℕ) (place : P) → length places ≡ length positions
      → paired values rows (positions ++ position ∷ []) (places ++ place ∷ [])
      ≡ paired values rows positions places ++ record { own = row_in rows position; joined = unwrap_or (values place) [] } ∷ []
  paired-push [] [] position place sizes = refl
  paired-push [] (other ∷ places) position place sizes = absurd (omega arith)
  paired-push (at ∷ positions) [] position place sizes = absurd (omega arith)
  paired-push (at ∷ positions) (other ∷ places) position place sizes =
      ap (λ rest. record { own = row_in rows at; joined = unwrap_or (values other) [] } ∷ rest)
      (paired-push positions places position place (omega arith))

  -- the own columns of joined rows are those at their positions
  pub paired-own : (positions : List ℕ) (places : List P) (column : ℕ) → length places ≡ length positions
      → map (value_at (values_in (Own column) (map alone rows))) positions ≡ values_in (Own column) (paired values rows positions places)
  paired-own [] [] column sizes = refl
  paired-own [] (place ∷ places) column sizes = absurd (omega arith)
  paired-own (position ∷ positions) [] column sizes = absurd (omega arith)
  paired-own (position ∷ positions) (place ∷ places) column sizes =
      ap (λ (value : Value). value ∷ map (value_at (values_in (Own column) (map alone rows))) positions) (own-at rows position column)
      ∙ ap (λ (rest : List Value). unwrap_or (slice_get (row_in rows position) column) (Int (pos 0)) ∷ rest)
      (paired-own positions places column (omega arith))

  joined-at : (found : Option (List Value)) (column : ℕ)
      → unwrap_or (column_of found column) (Int (pos 0)) ≡ unwrap_or (slice_get (unwrap_or found []) column) (Int (pos 0))
  joined-at None column = refl
  joined-at (Some other) column = refl

  -- their joined columns are those at the places of their partners
  pub paired-joined : (positions : List ℕ) (places : List P) (column : ℕ) → length places ≡ length positions
      → column_at values places column ≡ values_in (Joined column) (paired values rows positions places)
  paired-joined [] [] column sizes = refl
  paired-joined [] (place ∷ places) column sizes = absurd (omega arith)
  paired-joined (position ∷ positions) [] column sizes = absurd (omega arith)
  paired-joined (position ∷ positions) (place ∷ places) column sizes =
      ap (λ (value : Value). value ∷ column_at values places column) (joined-at (values place) column)
      ∙ ap (λ (rest : List Value). unwrap_or (slice_get (unwrap_or (values place) []) column) (Int (pos 0)) ∷ rest)
      (paired-joined positions places column (omega arith))

  pub paired-size : (positions : List ℕ) (places : List P) → length places ≡ length positions
      → length (paired values rows positions places) ≡ length positions
  paired-size [] [] sizes = refl
  paired-size [] (place ∷ places) sizes = absurd (omega arith)
  paired-size (position ∷ positions) [] sizes = absurd (omega arith)
  paired-size (position ∷ positions) (place ∷ places) sizes = ap suc (paired-size positions places (omega arith))

-- without a join each row is joined with none
pub joined-alone : (tables : Tables) (rows : Rows) → map alone rows ≡ filter_map (λ row. joined_with tables None row.1) rows
joined-alone tables [] = refl
joined-alone tables (row ∷ rows) = ap (λ rest. alone row ∷ rest) (joined-alone tables rows)

-- ---- one row more is joined, or is not

module _ (tables : Tables) (join : Join) (rows : Rows) where
  abbrev joins : ℕ × List Value → Option JoinedRow
  joins row = joined_with tables (Some join) row.1

  abbrev with_other : List Value → List Value → JoinedRow
  with_other own other = record { own = own; joined = other }

  joins-named : (own : List Value) (value : Value) (named : Option (List Value)) → slice_get own join.column ≡ Some value
      → row_named tables join.table value ≡ named → joined_with tables (Some join) own ≡ option_map (with_other own) named
  joins-named own value named at is =
      ap (λ (link : Option Value).
      option_map (with_other own) (option_and_then (row_at (rows_of tables join.table)) (option_and_then id_of link))) at
      ∙ ap (option_map (with_other own)) is

  next : (i : ℕ) → i < length rows
      → filter_map joins (take (i + 1) rows) ≡ filter_map joins (take i rows) ++ cons_option (joins (get_or rows i (0, []))) []
  next i lt =
      ap (filter_map joins) (take_more rows i (0, []) lt) ∙ filter_map-append joins (take i rows) (get_or rows i (0, []) ∷ [])

  pub join-skip : (so_far : List JoinedRow) (i : ℕ) (value : Value) → i < length rows → slice_get (row_in rows i) join.column ≡ Some value
      → row_named tables join.table value ≡ None → so_far ≡ filter_map joins (take i rows)
      → so_far ≡ filter_map joins (take (i + 1) rows)
  join-skip so_far i value lt at is before =
      before ∙ sym (append-nil (filter_map joins (take i rows)))
      ∙ ap (λ (row : Option JoinedRow). filter_map joins (take i rows) ++ cons_option row [])
      (sym (joins-named (row_in rows i) value None at is))
      ∙ sym (next i lt)

  pub join-next : {P : Type 0} (values : P → Option (List Value)) (positions : List ℕ) (places : List P) (i : ℕ) (place : P) (value : Value)
      → length places ≡ length positions → i < length rows → slice_get (row_in rows i) join.column ≡ Some value
      → values place ≡ row_named tables join.table value → IsSome (row_named tables join.table value)
      → paired values rows positions places ≡ filter_map joins (take i rows)
      → paired values rows (positions ++ i ∷ []) (places ++ place ∷ []) ≡ filter_map joins (take (i + 1) rows)
  join-next values positions places i place value sizes lt at is there before =
      let named = some-is (row_named tables join.table value) [] there in
      paired-push values rows positions places i place sizes
      ∙ ap (λ (front : List JoinedRow). front ++ with_other (row_in rows i) (unwrap_or (values place) []) ∷ []) before
      ∙ ap (λ (other : List Value). filter_map joins (take i rows) ++ with_other (row_in rows i) other ∷ [])
      (ap (λ (found : Option (List Value)). unwrap_or found []) is)
      ∙ ap (λ (row : Option JoinedRow). filter_map joins (take i rows) ++ cons_option row [])
      (sym (joins-named (row_in rows i) value _ at named))
      ∙ sym (next i lt)

-- the positions so far, and one more
pub places-more : (i : ℕ) (positions : List ℕ) → ArePlaces i positions → ArePlaces (i + 1) (positions ++ i ∷ [])
places-more i positions within =
    All-push (λ (position : ℕ). position < i + 1) positions i
    (λ k d lt. let below = within k d lt in omega (arith, below)) (omega arith)

pub places-wider : (i : ℕ) (positions : List ℕ) → ArePlaces i positions → ArePlaces (i + 1) positions
places-wider i positions within = λ k d lt. let below = within k d lt in omega (arith, below)

-- ---- the columns of joined rows

module _ {P : Type 0} (tables : Tables) (values : ℕ → P → Option (List Value)) (block : Block) (given : Option (Partners P))
    (partners : Partners P) (named : Column) (column : ℕ) (is : given ≡ Some partners) (sound : AreSound tables values block given) where
  joining : IsJoining tables values block partners
  joining = subst (AreSound tables values block) is sound

  pub own-joined : (cells taken : List Value) (positions : List ℕ) → named ≡ Own column
      → cells ≡ values_in (Own column) (own_rows tables block) → positions ≡ partners.positions.items
      → taken ≡ map (value_at cells) positions → taken ≡ values_in named (joined_rows tables values block given)
  own-joined cells taken positions names own at all =
      all
      ∙ ap (λ (list : List Value). map (value_at list) positions) own
      ∙ ap (map (value_at (values_in (Own column) (own_rows tables block)))) at
      ∙ paired-own (values partners.table) (rows_of_block tables block) partners.positions.items partners.places.items column joining.sizes
      ∙ ap (λ (some : Option (Partners P)). values_in (Own column) (joined_rows tables values block some)) (sym is)
      ∙ ap (λ (c : Column). values_in c (joined_rows tables values block given)) (sym names)

  pub other-joined : (taken : List Value) → named ≡ Joined column
      → taken ≡ column_at (values partners.table) partners.places.items column
      → taken ≡ values_in named (joined_rows tables values block given)
  other-joined taken names all =
      all
      ∙ paired-joined (values partners.table) (rows_of_block tables block) partners.positions.items partners.places.items column
      joining.sizes
      ∙ ap (λ (some : Option (Partners P)). values_in (Joined column) (joined_rows tables values block some)) (sym is)
      ∙ ap (λ (c : Column). values_in c (joined_rows tables values block given)) (sym names)

  pub others-there : named ≡ Joined column → HasKind tables block.table (joined_table given) named
      → HaveColumn (values partners.table) partners.places.items column
  others-there names kind = λ k d lt.
      let own = subst (HasKind tables block.table (joined_table given)) names kind in
      let other = subst (λ (some : Option (Partners P)). HasKind tables block.table (joined_table some) (Joined column)) is own in
      place-there tables partners.table column (values partners.table (get_or partners.places.items k d)) (joining.there k d lt) other

module _ {P : Type 0} (tables : Tables) (values : ℕ → P → Option (List Value)) (block : Block) (given : Option (Partners P))
    (partners : Partners P) (is : given ≡ Some partners) (sound : AreSound tables values block given) where
  found : IsJoining tables values block partners
  found = subst (AreSound tables values block) is sound

  -- there are as many rows as positions
  pub size-joined : length partners.positions.items ≡ length (joined_rows tables values block given)
  size-joined =
      sym (paired-size (values partners.table) (rows_of_block tables block) partners.positions.items partners.places.items found.sizes)
      ∙ ap (λ (some : Option (Partners P)). length (joined_rows tables values block some)) (sym is)

  pub few-joined : length partners.positions.items ≤ length block.ids.now
  few-joined = found.few

pub size-alone : {P : Type 0} (tables : Tables) (values : ℕ → P → Option (List Value)) (block : Block) (given : Option (Partners P))
    → given ≡ None → length block.ids.now ≡ length (joined_rows tables values block given)
size-alone {P} tables values block given is =
    sym (own-size tables block)
    ∙ ap (λ (some : Option (Partners P)). length (joined_rows tables values block some)) (sym is)
