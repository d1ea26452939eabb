-- What a maker answers.
use Rattle.std.specs.Prelude.{◌≡◌, Result, Ok, Err, List}
use Rattle.pm_change.specs.declared.no_step.NoStep.{NoStep}
use Rattle.pm_change.specs.declared.no_step.MakeError.{MakeError}
use Rattle.pm_change.specs.declared.no_step.MakeError.TheVariants.{NoStep as NoneMade, NoMemory}
use Rattle.pm_session.specs.declared.maker.Made.{Made}

-- the answer is the op's steps or why there are none, or running out of memory
abbrev pub GivesSteps : {C Rules Doc Reason : Type 0} → Result (List C) NoStep → Result (Made C Rules Doc Reason) MakeError → Type 0
GivesSteps made (Ok given) = made ≡ Ok given.steps.items
GivesSteps made (Err (NoneMade reason)) = made ≡ Err reason
GivesSteps made (Err NoMemory) = Unit {0}
