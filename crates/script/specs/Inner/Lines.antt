-- The words that lines are made of, as the code hands them on.
use Rattle.std.specs.Prelude.{ℕ, List, ◌∷◌, ◌++◌, decimal}
use Rattle.std.specs.List.{flat_map}
use Rattle.rows.specs.Text.{value_text}
use Rattle.script.specs.EventText.{bytes_text}
use Rattle.script.specs.declared.lines.Word.{Word}
use Rattle.script.specs.declared.lines.Word.TheVariants as kinds

-- what a word is written as
abbrev pub word_text : Word → List ℕ
word_text (kinds.Text text) = text.now
word_text (kinds.Number number) = decimal number
word_text (kinds.Value value) = value_text value.now
word_text (kinds.Numbered text number) = text.now ++ decimal number
word_text (kinds.Bytes bytes) = bytes_text bytes.now

-- words behind a first one, each behind a space
abbrev pub tail_text : List (List ℕ) → List ℕ
tail_text words = flat_map (λ word. 32 ∷ word) words
