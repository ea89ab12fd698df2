-- What the dump of a replica is that is fed from a list.
use Rattle.std.proofs.Common.{List, ℕ, Result, Ok, Err, ap, ◌∙◌}
use Rattle.std.proofs.lemmas.Bool.{cond-false}
use Rattle.rows.specs.Tables.{Tables}
use Rattle.dispatcher.specs.declared.faults.DumpFault.{DumpFault}
use Rattle.dispatcher.specs.declared.faults.DumpFault.TheVariants as dumps
use Rattle.dispatcher.specs.Feeding.{DumpIsTables}
use Rattle.dispatcher.specs.TableText.{table_text}

pub dump-tables : DumpIsTables
dump-tables shape commits r fed whole =
    cond-false {A = Result (List ℕ) DumpFault} r.broken (Err dumps.Broken) (Ok (table_text r.names r.version r.tables)) whole
    ∙ ap (λ (tables : Tables). Ok (table_text r.names r.version tables)) (fed.tables_are whole)
