-- A step that fits, with the document that it makes.
use Rattle.std.specs.Prelude.{◌≡◌, Ok}
use Rattle.pm_tokens.specs.Tokens.{Doc}
use Rattle.pm_tokens.specs.Schemas.{Schema}
use Rattle.pm_meaning.specs.Steps.{Step}
use Rattle.pm_meaning.specs.Outcomes.{outcome}
use Rattle.pm_step.specs.Steps.{step_of}
use Rattle.pm_fit.specs.declared.fitted.Fitted.{Fitted}

-- its step
abbrev pub step_in : Fitted → Step
step_in f = step_of f.step

-- its document is what its step makes of this one
abbrev pub Makes : Schema → Doc → Fitted → Type 0
Makes s d f = outcome s (step_in f) d ≡ Ok f.doc
