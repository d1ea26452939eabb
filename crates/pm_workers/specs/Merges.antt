-- The order of a file's lines that a history of calls makes.
use Rattle.std.specs.List.{AllByRecursion as Each}
use Rattle.std.specs.Prelude.{◌≡◌, ℕ, Bool, List, [], ◌∷◌, ◌++◌, map, flat_map, get_or, slice_get, slice_set, Some, if◌then◌else◌}

-- A line of a client: its number in the file, and whether it presents a message.
abbrev pub ClientLine : Type 0
ClientLine = ℕ × Bool

-- the numbers of lines
abbrev pub numbers : List ClientLine → List ℕ
numbers lines = map (λ line. line.0) lines

-- the lines at the front, up to and with the first that presents
abbrev pub through_call : List ClientLine → List ClientLine
through_call [] = []
through_call (line ∷ lines) = line ∷ (if line.1 then [] else through_call lines)

-- the lines after the first that presents
abbrev pub after_call : List ClientLine → List ClientLine
after_call [] = []
after_call (line ∷ lines) = if line.1 then lines else after_call lines

-- `calls` are the clients that made the calls of a history, in its order, and `left` has for each client its lines that are
-- not listed yet. For each call the lines of the call's client are listed, up to and with the line that made the call. After
-- the last call the others are listed, client by client.
abbrev pub merged : List ℕ → List (List ClientLine) → List ℕ
merged [] left = flat_map numbers left
merged (client ∷ calls) left =
    numbers (through_call (get_or left client [])) ++ merged calls (slice_set left client (after_call (get_or left client [])))

-- An order of the lines whose numbers these are, client by client: each line stands in it once, and each client's lines stand
-- in their order. Where no client has a line, it is empty. Else its first line is the first of some client, and the rest is an
-- order of what is left.
pub data IsOrder : List (List ℕ) → List ℕ → Type 0 where
  nothing : (left : List (List ℕ)) → Each (λ lines. lines ≡ []) left → IsOrder left []
  next : (left : List (List ℕ)) (client number : ℕ) (lines order : List ℕ) → slice_get left client ≡ Some (number ∷ lines)
      → IsOrder (slice_set left client lines) order → IsOrder left (number ∷ order)
