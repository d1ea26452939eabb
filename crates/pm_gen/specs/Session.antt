-- A session made from a number.
use Rattle.std.specs.Prelude.{ℕ, zero, suc, ◌+◌, ◌-◌, ◌*◌, ◌%◌, List, [], ◌∷◌, ◌++◌, codes}
use Rattle.pm_gen.specs.declared.session.TheConstants.{SCHEMA, DOCUMENT}
use Rattle.pm_gen.specs.Turns.{turn_at, after_turn}
use Rattle.pm_gen.specs.Lines.{joined, quoted, name, turn_line}

-- the first two lines, without their ends
abbrev pub schema_text : List ℕ
schema_text = SCHEMA.now

abbrev pub document_text : List ℕ
document_text = DOCUMENT.now

-- a name after another one
abbrev pub further_name : ℕ → List ℕ
further_name client = joined (codes "," ∷ quoted (name client))

-- n of these, the first of which is that of `client`
abbrev pub further_names : ℕ → ℕ → List ℕ
further_names client zero = []
further_names client (suc n) = further_name client ++ further_names (client + 1) n

-- the names of the clients, as a list
abbrev pub names : ℕ → List ℕ
names clients = codes "[\"c1\"" ++ further_names 2 (clients - 1) ++ codes "]"

-- n op lines, of which the first is that of turn i, where the number is x. The clients have their turns one after another,
-- again and again.
unfoldable pub turn_lines : (clients i n x : ℕ) → List ℕ
turn_lines clients i zero x = []
turn_lines clients i (suc n) x = turn_line (i % clients + 1) (turn_at x) ++ turn_lines clients (i + 1) n (after_turn x)

-- a line ends with LF
abbrev pub line : List ℕ → List ℕ
line text = text ++ 10 ∷ []

-- the schema, the document and the names, and then so many rounds in which each client has its turn
abbrev pub generated : (clients rounds number : ℕ) → List ℕ
generated clients rounds number = line schema_text ++ line document_text ++ line (names clients) ++ turn_lines clients 0 (clients * rounds) number
