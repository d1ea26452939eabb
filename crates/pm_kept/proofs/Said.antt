-- What is written of answers.
use Rattle.std.proofs.Common.{ℕ, ◌<◌, List, ◌++◌, length, take, Result, Ok, Err, OnErr}
use Rattle.std.specs.Prelude.{Option}
use Rattle.pm_io.specs.Moves.{Adds}
use Rattle.pm_serve.specs.Serves.{FrontWritten}
use Rattle.pm_serve.proofs.Steps.{front-behind}

-- where the second of two writes fails
pub front_said : {T E : Type 0} (r : Result T E) (a b c : Option (List ℕ)) (text last : List ℕ) → Adds a b text → OnErr r ((n : ℕ) × (n < length last) × Adds b c (take n last))
    → OnErr r (FrontWritten (text ++ last) a c)
front_said (Ok x) a b c text last added h = h
front_said (Err e) a b c text last added h = front-behind a b c text last added record { count = h.0; within = h.1; front = h.2 }
