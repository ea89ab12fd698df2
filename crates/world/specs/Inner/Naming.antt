-- Only for proofs: what a changed transaction and a refused dump are called among the outputs.
use Rattle.std.specs.Prelude.{Result, Ok, Err}
use Rattle.mvcc.specs.declared.faults.TxFault.{TxFault}
use Rattle.dispatcher.specs.declared.faults.DumpFault.{DumpFault}
use Rattle.dispatcher.specs.declared.faults.DumpFault.TheVariants as dumps
use Rattle.script.specs.declared.output.Output.{Output}
use Rattle.script.specs.declared.output.Output.TheVariants as outputs
use Rattle.world.specs.Outputs.{of_change}

-- a call that changes a transaction
abbrev pub of_changed : Result (Unit {0}) TxFault → Output
of_changed (Ok done) = outputs.Accepted
of_changed (Err fault) = of_change fault

-- a refused dump
abbrev pub of_dump : DumpFault → Output
of_dump dumps.Broken = outputs.Broken
of_dump dumps.Memory = outputs.Memory
