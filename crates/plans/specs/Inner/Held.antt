-- What rows contribute to an aggregate, by the values of its column.
use Rattle.std.specs.Prelude.{◌≡◌, List, map}
use Rattle.rows.specs.declared.value.Value.{Value}
use Rattle.rows.specs.declared.value.Value.TheVariants.{Int}
use Rattle.queries.specs.declared.aggregate.Aggregate.{Aggregate}
use Rattle.queries.specs.declared.aggregate.Aggregate.TheVariants.{Count, Sum, Min, Max}
use Rattle.plans.specs.declared.held_input.HeldInput.{HeldInput}
use Rattle.plans.specs.declared.held_input.HeldInput.TheVariants as held
use Rattle.plans.specs.declared.input.Input.{Input}
use Rattle.plans.specs.declared.input.Input.TheVariants as inputs
use Rattle.queries.specs.Answers.{integer_of}

-- the integers of values
abbrev pub AreIntegers : List Value → HeldInput → Type 0
AreIntegers values (held.LentNumbers numbers) = numbers.now ≡ map integer_of values
AreIntegers values (held.Numbers numbers) = numbers.items ≡ map integer_of values
AreIntegers values input = ⊥

-- the values themselves, or the numbers that they are
abbrev pub AreValues : List Value → HeldInput → Type 0
AreValues values (held.LentNumbers numbers) = map Int numbers.now ≡ values
AreValues values (held.Numbers numbers) = map Int numbers.items ≡ values
AreValues values (held.LentValues list) = list.now ≡ values
AreValues values (held.Values list) = list.items ≡ values
AreValues values input = ⊥

-- what an aggregate takes of rows with these values in its column
abbrev pub IsHeld : List Value → Aggregate → HeldInput → Type 0
IsHeld values Count input = Unit {0}
IsHeld values (Sum column) input = AreIntegers values input
IsHeld values (Min column) input = AreValues values input
IsHeld values (Max column) input = AreValues values input

-- the same, lent: with a column's values of rows it is `IsInput`
abbrev pub IsTaken : List Value → Aggregate → Input → Type 0
IsTaken values Count input = Unit {0}
IsTaken values (Sum column) (inputs.Numbers numbers) = numbers.now ≡ map integer_of values
IsTaken values (Min column) (inputs.Numbers numbers) = map Int numbers.now ≡ values
IsTaken values (Min column) (inputs.Values list) = list.now ≡ values
IsTaken values (Max column) (inputs.Numbers numbers) = map Int numbers.now ≡ values
IsTaken values (Max column) (inputs.Values list) = list.now ≡ values
IsTaken values aggregate input = ⊥
