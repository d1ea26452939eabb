-- What a maker gave.
use Rattle.std.specs.Prelude.{◌≡◌, ◌<◌, List, [], ◌∷◌, length, Result, Ok}
use Rattle.std.proofs.Common.{arith}
use Rattle.pm_change.specs.declared.no_step.NoStep.{NoStep}

-- where no steps are never given, there is at least one
pub some-steps : {C : Type 0} (made : Result (List C) NoStep) (steps : List C) → made ≡ Ok steps → (made ≡ Ok [] → ⊥) → 0 < length steps
some-steps made [] h none = absurd (none h)
some-steps made (s ∷ ss) h none = omega arith
