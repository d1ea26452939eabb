-- Turns as op lines: compact JSON, with the keys of an object in byte order.
use Rattle.std.specs.Prelude.{ℕ, Bool, true, false, if◌then◌else◌, List, [], ◌∷◌, ◌++◌, codes, decimal}
use Rattle.pm_gen.specs.declared.turns.Turn.{Turn}
use Rattle.pm_gen.specs.declared.turns.Turn.TheVariants.{Text, Delete, Split, AddMark, Undo, Redo, Push, Pull}

-- the text of these pieces
abbrev pub joined : List (List ℕ) → List ℕ
joined [] = []
joined (p ∷ ps) = p ++ joined ps

-- pieces in quotes; none of these texts has a character that JSON escapes
abbrev pub quoted : List (List ℕ) → List (List ℕ)
quoted text = codes "\"" ∷ (text ++ codes "\"" ∷ [])

abbrev pub word : List ℕ → List (List ℕ)
word text = quoted (text ∷ [])

abbrev pub number : ℕ → List (List ℕ)
number n = decimal n ∷ []

-- the name of a client, which are counted from 1
abbrev pub name : ℕ → List (List ℕ)
name client = codes "c" ∷ decimal client ∷ []

-- a member of an object, after another one
abbrev pub member : List ℕ → List (List ℕ) → List (List ℕ)
member key value = codes "," ∷ (word key ++ codes ":" ∷ value)

-- an object whose first member is the client's name, as a line, which ends with LF
abbrev pub of_client : ℕ → List (List ℕ) → List ℕ
of_client client members = joined (codes "{\"c\":" ∷ (quoted (name client) ++ members ++ codes "}\n" ∷ []))

-- the line of an op that has no further member
abbrev pub bare_line : ℕ → List ℕ → List ℕ
bare_line client op = of_client client (member (codes "op") (word op))

abbrev pub text_line : ℕ → ℕ → List ℕ → List ℕ
text_line client at text =
    of_client client (member (codes "from") (number at) ++ member (codes "op") (word (codes "text")) ++ member (codes "text") (word text) ++ member (codes "to") (number at))

abbrev pub delete_line : ℕ → ℕ → ℕ → List ℕ
delete_line client from to =
    of_client client (member (codes "from") (number from) ++ member (codes "op") (word (codes "delete")) ++ member (codes "to") (number to))

abbrev pub split_line : ℕ → ℕ → List ℕ
split_line client at = of_client client (member (codes "op") (word (codes "split")) ++ member (codes "pos") (number at))

abbrev pub mark_line : ℕ → ℕ → ℕ → List ℕ → List ℕ
mark_line client from to mark =
    of_client client (member (codes "from") (number from) ++ member (codes "mark") (codes "{\"type\":" ∷ (word mark ++ codes "}" ∷ [])) ++ member (codes "op") (word (codes "addmark")) ++ member (codes "to") (number to))

abbrev pub mark_name : Bool → List ℕ
mark_name strong = if strong then codes "strong" else codes "em"

-- a push, whose answer may be lost
abbrev pub push_line : ℕ → Bool → List ℕ
push_line client true = of_client client (member (codes "lost") (codes "true" ∷ []) ++ member (codes "op") (word (codes "push")))
push_line client false = bare_line client (codes "push")

-- the op line of a client's turn
abbrev pub turn_line : ℕ → Turn → List ℕ
turn_line client (Text at letter) = text_line client at (letter ∷ [])
turn_line client (Delete from to) = delete_line client from to
turn_line client (Split at) = split_line client at
turn_line client (AddMark from to strong) = mark_line client from to (mark_name strong)
turn_line client Undo = bare_line client (codes "undo")
turn_line client Redo = bare_line client (codes "redo")
turn_line client (Push lost) = push_line client lost
turn_line client Pull = bare_line client (codes "pull")
