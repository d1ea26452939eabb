-- Items that are handed out by turns, and lists whose items belong together place by place.
use Rattle.std.specs.Prelude.{ℕ, ◌==◌, List, [], ◌∷◌, cond}

-- one item for each of these turns: those of turn i, in order
abbrev pub handed : {A : Type 0} → ℕ → List ℕ → List A → List A
handed i [] items = []
handed i (turn ∷ turns) [] = []
handed i (turn ∷ turns) (item ∷ items) = cond (turn == i) (item ∷ handed i turns items) (handed i turns items)

-- there are as many on both sides, and R is so of the two at each place
abbrev pub Matched : {A B : Type 0} → (A → B → Type 0) → List A → List B → Type 0
Matched R [] [] = Unit {0}
Matched R [] (y ∷ ys) = ⊥
Matched R (x ∷ xs) [] = ⊥
Matched R (x ∷ xs) (y ∷ ys) = R x y × Matched R xs ys
