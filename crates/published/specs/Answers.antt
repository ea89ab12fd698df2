-- What a call of a seat answers by the list of commits that the seat then has seen.
use Rattle.std.specs.Prelude.{ℕ, ◌≡◌, ◌<◌, ◌≤◌, Result, Ok, Err}
use Rattle.rows.specs.Faults.{IsFaultOf}
use Rattle.mvcc.specs.Transaction.{Transaction}
use Rattle.mvcc.specs.declared.faults.TxFault.{TxFault}
use Rattle.published.specs.declared.faults.LineFault.{LineFault}
use Rattle.published.specs.declared.faults.LineFault.TheVariants.{Unread, Ahead, Tx}

-- what a look at a transaction answers on a list of so many commits: the transaction's own answer there, or that its
-- snapshot is above the list, or that nothing was read
abbrev pub IsAnswer : {A : Type 0} → ℕ → ℕ → Result A TxFault → Result A LineFault → Type 0
IsAnswer snapshot len answer (Ok x) = (snapshot ≤ len) × (answer ≡ Ok x)
IsAnswer snapshot len answer (Err Unread) = Unit {0}
IsAnswer snapshot len answer (Err Ahead) = len < snapshot
IsAnswer snapshot len answer (Err (Tx fault)) = (snapshot ≤ len) × (answer ≡ Err fault)

-- the same of a change of a transaction, which may also be out of memory; a refusal leaves the transaction as it was
abbrev pub IsChange : {A : Type 0} → ℕ → Result Transaction TxFault → Transaction → Transaction → Result A LineFault → Type 0
IsChange len answer old new (Ok x) = (old.snapshot ≤ len) × (answer ≡ Ok new)
IsChange len answer old new (Err Unread) = new ≡ old
IsChange len answer old new (Err Ahead) = (len < old.snapshot) × (new ≡ old)
IsChange len answer old new (Err (Tx fault)) = (old.snapshot ≤ len) × (new ≡ old) × IsFaultOf answer TxFault.Memory fault
