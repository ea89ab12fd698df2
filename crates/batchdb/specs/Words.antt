-- The words that the program is called with, and what they ask for.
use Rattle.std.specs.Prelude.{ℕ, List, [], ◌∷◌, Bool, false, codes, nat_eq, ◌&&◌, ◌||◌, if◌then◌else◌}
use Rattle.std.specs.List.{list_any, starts_with}
use Rattle.std.specs.Str.{bytes_eq}
use Rattle.world.specs.declared.script_running.Echo.TheVariants as echoes
use Rattle.batchdb.specs.declared.words.Asked.{Asked}
use Rattle.batchdb.specs.declared.words.Asked.TheVariants.{Simulator, Help, Version, Node, Longer, Other}

-- whether a word asks for the help, wherever it stands
abbrev pub is_help : List ℕ → Bool
is_help word = bytes_eq word (codes "--help") || bytes_eq word (codes "-h")

-- whether a word asks for the version
abbrev pub is_version : List ℕ → Bool
is_version word = bytes_eq word (codes "--version") || bytes_eq word (codes "-V")

-- what one word asks for, after the program's own name
abbrev pub asked_by_one : List ℕ → Asked
asked_by_one word =
    if bytes_eq word (codes "sim") then Simulator echoes.No else
    if bytes_eq word (codes "help") || is_help word then Help else
    if is_version word then Version else Other

-- what a word after `sim` asks for; `--` ends the words
abbrev pub asked_of_sim : List ℕ → Asked
asked_of_sim word =
    if bytes_eq word (codes "--echo") then Simulator echoes.Events else
    if bytes_eq word (codes "--") then Simulator echoes.No else
    if is_help word then Help else Other

-- what two words ask for
abbrev pub asked_by_two : List ℕ → List ℕ → Asked
asked_by_two word next =
    if bytes_eq word (codes "sim") then asked_of_sim next else
    if bytes_eq word (codes "help") && bytes_eq next (codes "sim") then Help else Other

-- what three words ask for
abbrev pub asked_by_three : List ℕ → List ℕ → List ℕ → Asked
asked_by_three word next last =
    if bytes_eq word (codes "sim") && bytes_eq next (codes "--echo") && bytes_eq last (codes "--") then Simulator echoes.Events else Other

-- whether the word after the program's own name is that of a node
abbrev pub is_of_node : List (List ℕ) → Bool
is_of_node [] = false
is_of_node (name ∷ []) = false
is_of_node (name ∷ word ∷ words) =
    bytes_eq word (codes "primary") || bytes_eq word (codes "replica") || bytes_eq word (codes "demo") || bytes_eq word (codes "journal")

-- whether a word may ask for the help or the version, wherever it stands: one of those above, or `-h` or `-V` with letters after it
abbrev pub is_request : List ℕ → Bool
is_request word =
    bytes_eq word (codes "help") || is_help word || is_version word
    || starts_with nat_eq word (codes "-h") || starts_with nat_eq word (codes "-V")

-- whether one of the words after the program's own name may
abbrev pub has_request : List (List ℕ) → Bool
has_request [] = false
has_request (name ∷ words) = list_any is_request words

-- what words ask for that are no node's
abbrev pub asked_besides : List (List ℕ) → Asked
asked_besides [] = Other
asked_besides (name ∷ []) = Other
asked_besides (name ∷ word ∷ []) = asked_by_one word
asked_besides (name ∷ word ∷ next ∷ []) = asked_by_two word next
asked_besides (name ∷ word ∷ next ∷ last ∷ []) = asked_by_three word next last
asked_besides (name ∷ word ∷ next ∷ last ∷ more ∷ words) = Other

-- other words that have a request for the help or the version may be a longer form of it, as `sim --echo --help`
abbrev pub or_longer : List (List ℕ) → Asked → Asked
or_longer words Other = if has_request words then Longer else Other
or_longer words asked = asked

-- what words ask for, the first of which is the program's own name
abbrev pub asked_for : List (List ℕ) → Asked
asked_for words = if is_of_node words then Node else or_longer words (asked_besides words)
