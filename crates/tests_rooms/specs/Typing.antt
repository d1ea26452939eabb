-- Letters that are typed.
use Rattle.std.specs.Prelude.{◌≡◌, ℕ, List, [], ◌∷◌, Result, Ok}
use Rattle.pm_change.specs.declared.no_step.NoStep.{NoStep}
use Rattle.pm_flat.specs.declared.flat.Replace.{Replace}

-- the step that puts these letters before a paragraph's text
abbrev pub typed : List ℕ → Result (List Replace) NoStep
typed letters = Ok (record { from = 1; to = 1; text = letters } ∷ [])

pub types : (letters : List ℕ) → typed letters ≡ Ok [] → ⊥
types letters e = cc
