-- Lists with pieces put in place of others: what replace and replaceAround do to tokens.
use Rattle.std.specs.Prelude.{ℕ, ◌+◌, ◌-◌, ◌≤◌, List, [], ◌∷◌, ◌++◌, length, take, drop}
use Rattle.pm_map.specs.declared.step_map.Span.{Span}
use Rattle.pm_selective.specs.Shifts.{shift, shifted}

-- What stood from `start` on, `old_size` items, gives way to `new`.
pub record Piece (A : Type 0) : Type 0 where
  pub start : ℕ
  pub old_size : ℕ
  pub new : List A

module _ {A : Type 0} where
  abbrev pub span_of : Piece A → Span
  span_of p = record { start = p.start; old_size = p.old_size; new_size = length p.new }

  -- the ranges of an edit
  abbrev pub spans : List (Piece A) → List Span
  spans [] = []
  spans (p ∷ ps) = span_of p ∷ spans ps

  -- the list with each piece in place; `at` is the position at which the list begins
  abbrev pub spliced_from : ℕ → List (Piece A) → List A → List A
  spliced_from at [] ts = ts
  spliced_from at (p ∷ ps) ts = take (p.start - at) ts ++ (p.new ++ spliced_from (p.start + p.old_size) ps (drop ((p.start + p.old_size) - at) ts))

  abbrev pub spliced : List (Piece A) → List A → List A
  spliced ps ts = spliced_from 0 ps ts

  -- the edit where a map carries it
  abbrev pub shifted_edit : List Span → List (Piece A) → List (Piece A)
  shifted_edit g [] = []
  shifted_edit g (p ∷ ps) = record { start = shift g p.start; old_size = p.old_size; new = p.new } ∷ shifted_edit g ps

  -- each piece ends within a list of this length
  abbrev pub AreWithin : List (Piece A) → ℕ → Type 0
  AreWithin [] n = Unit {0}
  AreWithin (p ∷ ps) n = (p.start + p.old_size ≤ n) × AreWithin ps n

  -- ---- several edits one after another

  abbrev pub all_spans : List (List (Piece A)) → List (List Span)
  all_spans [] = []
  all_spans (g ∷ gs) = spans g ∷ all_spans gs

  abbrev pub spliced_all : List (List (Piece A)) → List A → List A
  spliced_all [] ts = ts
  spliced_all (g ∷ gs) ts = spliced_all gs (spliced g ts)

  -- each edit lies within the list at its turn
  abbrev pub AreAllWithin : List (List (Piece A)) → List A → Type 0
  AreAllWithin [] ts = Unit {0}
  AreAllWithin (g ∷ gs) ts = AreWithin g (length ts) × AreAllWithin gs (spliced g ts)

  -- an edit carried over maps, from the first to the last
  abbrev pub along : List (List Span) → List (Piece A) → List (Piece A)
  along [] f = f
  along (g ∷ gs) f = along gs (shifted_edit g f)

  -- these edits carried over a map: the first over it, and each further one over what the earlier ones make of it
  abbrev pub edits_beside : List Span → List (List (Piece A)) → List (List (Piece A))
  edits_beside f [] = []
  edits_beside f (g ∷ gs) = shifted_edit f g ∷ edits_beside (shifted (spans g) f) gs

  -- the first edits, each carried over what the earlier ones made of the others
  abbrev pub along_all : List (List (Piece A)) → List (List (Piece A)) → List (List (Piece A))
  along_all [] ls = []
  along_all (b ∷ bs) ls = along (all_spans ls) b ∷ along_all bs (edits_beside (spans b) ls)
