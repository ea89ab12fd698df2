-- What comes of input that is cut into lines.
use Rattle.std.specs.Prelude.{◌≡◌, ℕ, ◌≤◌, List, [], ◌∷◌, ◌++◌, length, Bool, true, false, Option, Result, Ok, Err, ◌⊎◌}
use Rattle.std.specs.Io.KnownBytes.{prepend_known, Consumes, IsAtEnd}
use Rattle.std.specs.List.{list_all}
use Rattle.requests.specs.declared.lines.Input.{Input}
use Rattle.requests.specs.declared.lines.Input.TheVariants as inputs
use Rattle.requests.specs.declared.lines.InputFault.{InputFault}
use Rattle.requests.specs.declared.lines.InputFault.TheVariants as faults
use Rattle.requests.specs.declared.lines.Lines.{Lines}
use Rattle.requests.specs.Bytes.{is_inside}
use Rattle.requests.specs.Limits.{line_len_max}

-- a line without its end: no end of a line is in it, and it is not too long
abbrev pub IsLine : List ℕ → Type 0
IsLine line = (length line ≤ line_len_max) × (list_all is_inside line ≡ true)

-- what may be handed out: a line
abbrev pub IsInput : Input → Type 0
IsInput (inputs.Line line) = IsLine line
IsInput other = Unit {0}

-- and of a line that is too long as many bytes as a line may have
abbrev pub IsInputFault : InputFault → Type 0
IsInputFault (faults.TooLong front) = length front ≡ line_len_max
IsInputFault other = Unit {0}

-- a fault that is of no line
abbrev pub IsOfReading : InputFault → Type 0
IsOfReading (faults.TooLong front) = ⊥
IsOfReading other = Unit {0}

-- what was read and not handed out
abbrev pub read_ahead : Lines → List ℕ
read_ahead lines = lines.rest.items

-- the input that is left: that, and then what the reader has left, where it is known
abbrev pub input_left : Lines → Option (List ℕ) → Option (List ℕ)
input_left lines remaining = prepend_known (read_ahead lines) remaining

-- whether it begins inside a line that is too long
abbrev pub is_cut : Lines → Bool
is_cut lines = lines.is_cut

-- whether a reader has said that its input ended
abbrev pub has_ended : Lines → Bool
has_ended lines = lines.has_ended

-- the end of a line: 0a, or the end of the input
abbrev pub IsEnd : Bool → List ℕ → Type 0
IsEnd ended end = (end ≡ 10 ∷ []) ⊎ ((end ≡ []) × (ended ≡ true))

-- what an answer takes from the front of the input, which may begin inside a line that is too long: a line with its end, or the
-- front of one that is too long, inside of which the input begins then; and nothing else
abbrev pub Takes : Bool → Bool → Option (List ℕ) → Bool → Option (List ℕ) → Result Input InputFault → Type 0
Takes ended cut old now new (Ok (inputs.Line line)) =
    (cut ≡ false) × (now ≡ false) × ((end : List ℕ) × IsEnd ended end × Consumes old new (line ++ end))
Takes ended cut old now new (Err (faults.TooLong front)) = (cut ≡ false) × (now ≡ true) × Consumes old new front
Takes ended cut old now new other = (now ≡ cut) × Consumes old new []

-- before that, the rest of a line that is too long is skipped: with its end, or as far as it has come
abbrev pub Skips : Bool → Option (List ℕ) → Bool → Option (List ℕ) → Type 0
Skips false old now new = (now ≡ false) × Consumes old new []
Skips true old now new =
    (skipped : List ℕ) × (list_all is_inside skipped ≡ true)
    × (((now ≡ true) × Consumes old new skipped) ⊎ ((now ≡ false) × Consumes old new (skipped ++ 10 ∷ [])))

-- what a call leaves of the input
pub record Hands (ended was : Bool) (old : Option (List ℕ)) (now : Bool) (new : Option (List ℕ))
    (answer : Result Input InputFault) : Type 0 where
  pub cut : Bool
  pub middle : Option (List ℕ)
  pub skips : Skips was old cut middle
  pub takes : Takes ended cut middle now new answer

-- the input has ended only if it had, or if its reader has nothing left
abbrev pub EndsOnlyAtEnd : Bool → Bool → Option (List ℕ) → Type 0
EndsOnlyAtEnd old new remaining = new ≡ true → (old ≡ true) ⊎ IsAtEnd remaining

-- the end is answered only if the input has ended, and all of it was handed out or skipped
abbrev pub IsAll : Bool → List ℕ → Result Input InputFault → Type 0
IsAll ended ahead (Ok inputs.End) = (ended ≡ true) × (ahead ≡ [])
IsAll ended ahead other = Unit {0}
