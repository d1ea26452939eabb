-- A client's timeline: the log's entries before its version, and then its pending steps.
use Rattle.std.specs.Prelude.{◌≡◌, ℕ, ◌==◌, true, List, map, None}
use Rattle.std.specs.List.{AllByRecursion as Each}
use Rattle.pm_authority.specs.declared.named.Named.{Named}
use Rattle.pm_history.specs.Timelines.{Step}

-- the step, without whether it is the client's own and what it was made to undo
abbrev pub named_of : {C : Type 0} → Step C → Named C
named_of s = record { name = s.name; change = s.change }

-- The steps are these entries, in order. Those that the client named are its own.
pub record IsTimeline {C : Type 0} (client : ℕ) (steps : List (Step C)) (entries : List (Named C)) : Type 0 where
  pub named_are : map named_of steps ≡ entries
  pub own_are : Each (λ s. s.own ≡ (s.name.client == client)) steps

-- an own step that was made to undo none
abbrev pub edit_step : {C : Type 0} → Named C → Step C
edit_step n = record { name = n.name; own = true; change = n.change; undoes = None }

abbrev pub edit_steps : {C : Type 0} → List (Named C) → List (Step C)
edit_steps ns = map edit_step ns
