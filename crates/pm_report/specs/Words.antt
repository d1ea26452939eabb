-- Words of a report's lines.
use Rattle.std.specs.Prelude.{ℕ, List, [], ◌∷◌, ◌++◌}
use Rattle.serde_json.specs.Data.{number, unsigned, array, Items, no_items, item}
use Rattle.serde_json.specs.Written.{compact_text}

-- a blank between two words
infixl 20 ◌&◌
abbrev pub ◌&◌ : List ℕ → List ℕ → List ℕ
a & b = a ++ 32 ∷ b

-- a line ends with LF
abbrev pub line : List ℕ → List ℕ
line words = words ++ 10 ∷ []

-- a list of numbers, as compact JSON
abbrev pub number_items : List ℕ → Items
number_items [] = no_items
number_items (n ∷ ns) = item (number (unsigned n)) (number_items ns)

abbrev pub list_text : List ℕ → List ℕ
list_text ns = compact_text (array (number_items ns))
