-- Tables that begin with the same kinds as others; and partitions of a store after a change, or as at the opening.
use Rattle.std.proofs.Common.{◌≡◌, ℕ, ◌<◌, List, ◌++◌, length, take, drop, replicate, sym, ap, subst, ◌∙◌}
use Rattle.std.proofs.Common.{Result, Ok, Err, OnOk, OnErr}
use Rattle.std.proofs.lemmas.List.{length-map, take_at}
use Rattle.rows.specs.Shape.{Shape, kinds_in}
use Rattle.rows.specs.Tables.{Table, Tables, opening, shape_in}
use Rattle.store.specs.Changes.{BeganWith}
use Rattle.apply.specs.declared.partition.Partition.{Partition}
use Rattle.apply.specs.Partitions.{tables_in}
use Rattle.apply.specs.Inner.Gathered.{ArePartitions}
use Rattle.apply.specs.Inner.Views.{views}
use Rattle.apply.proofs.Viewed.{opens}

pub began-alike : (shape : Shape) (tables others : Tables) → shape_in tables ≡ shape_in others → BeganWith shape others
    → BeganWith shape tables
began-alike shape tables others alike began = record {
  many = sym (length-map tables (λ (table : Table). table.kinds)) ∙ ap length alike
      ∙ length-map others (λ (table : Table). table.kinds) ∙ began.many;
  first = λ table. ap (λ (kinds : Shape). take (length (kinds_in shape table)) (kinds_in kinds table)) alike ∙ began.first table;
}

-- partitions written over those of a store
pub in-place : (olds news : List Partition) (len : ℕ) → length olds ≡ len → length news ≡ length olds
    → take len (news ++ drop (length news) olds) ≡ news
in-place olds news len is many = take_at news (drop (length news) olds) len (many ∙ is)

-- what holds of the tables of all, if it still does after a change that was made; one that was refused changed nothing
pub still-holds : {T E : Type 0} (P : Tables → Type 0) (result : Result T E) (Made : Type 0) (olds before news : List Tables)
    → before ≡ olds → OnOk result Made → OnErr result (news ≡ before) → P (tables_in olds)
    → (P (tables_in before) → Made → P (tables_in news)) → P (tables_in news)
still-holds P (Ok value) Made olds before news same made kept held step =
    step (subst (λ (all : List Tables). P (tables_in all)) (sym same) held) made
still-holds P (Err fault) Made olds before news same made kept held step =
    subst (λ (all : List Tables). P (tables_in all)) (sym (kept ∙ same)) held

-- partitions as at the opening
pub put-back : (olds news : List Partition) (len : ℕ) (shape : Shape) → length olds ≡ len → 0 < length olds → length news ≡ length olds
    → views news ≡ replicate (length olds) (opening shape)
    → (length (take len (news ++ drop (length news) olds)) ≡ length olds)
    × (tables_in (views (take len (news ++ drop (length news) olds))) ≡ opening shape)
    × ArePartitions (views (take len (news ++ drop (length news) olds)))
put-back olds news len shape is some many cleared =
    let all = in-place olds news len is many in
    let at = opens (views news) shape (length olds) some cleared in (
      ap length all ∙ many,
      ap (λ (partitions : List Partition). tables_in (views partitions)) all ∙ at.1,
      subst (λ (partitions : List Partition). ArePartitions (views partitions)) (sym all) at.2,
    )
