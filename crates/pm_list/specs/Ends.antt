-- The end of a list.
use Rattle.std.specs.Prelude.{◌≡◌, List, [], ◌∷◌, ◌++◌, Option, Some, None}

-- The list without its last item, which is this one; None where the list is empty.
abbrev pub OnLast : {T : Type 0} → List T → Option T → List T → Type 0
OnLast old None new = (old ≡ []) × (new ≡ [])
OnLast old (Some t) new = old ≡ new ++ t ∷ []
