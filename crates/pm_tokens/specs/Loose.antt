-- Schemas in which it does not matter how a text is divided by marks.
use Rattle.std.specs.Prelude.{◌≡◌, ℕ, Bool, true, false, cond, ◌==◌, List, [], ◌∷◌}
use Rattle.pm_tokens.specs.Schemas.{Schema}

-- each run of texts shortened to one text; in_run: a text stands before
abbrev pub shortened : ℕ → Bool → List ℕ → List ℕ
shortened text in_run [] = []
shortened text in_run (k ∷ ks) = cond (k == text) (cond in_run (shortened text true ks) (k ∷ shortened text true ks)) (k ∷ shortened text false ks)

-- lists that become equal when their runs of texts are shortened are both accepted or both not, by every type
abbrev pub IsLoose : Schema → Type 0
IsLoose s = (k : ℕ) (xs ys : List ℕ) → shortened s.text false xs ≡ shortened s.text false ys → s.accepts k xs ≡ s.accepts k ys
