-- The step that was found among some of the candidates, as a fact that proofs take apart.
use Rattle.std.specs.Prelude.{◌≡◌, ℕ, Option, List}
use Rattle.pm_tokens.specs.Tokens.{Doc}
use Rattle.pm_meaning.specs.Steps.{Step}
use Rattle.pm_schema.specs.declared.schema.Schema.{Schema}
use Rattle.pm_fit.specs.Candidates.{Candidate}
use Rattle.pm_fit.specs.Fits.{first_step}

-- this is the step of the first of these candidates that has one
pub record IsFirst (s : Schema) (d : Doc) (from to : ℕ) (cs : List Candidate) (o : Option Step) : Type 0 where
  pub is : o ≡ first_step s d from to cs
