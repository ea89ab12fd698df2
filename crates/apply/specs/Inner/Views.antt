-- The tables of each partition of a store.
use Rattle.std.specs.Prelude.{List, map}
use Rattle.rows.specs.Tables.{Tables}
use Rattle.apply.specs.declared.partition.Partition.{Partition}

abbrev pub views : List Partition → List Tables
views partitions = map (λ (partition : Partition). partition.tables.items) partitions
