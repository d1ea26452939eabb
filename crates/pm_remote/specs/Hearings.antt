-- What a client hears of the log past its version.
use Rattle.std.specs.Prelude.{◌≡◌, ℕ, ◌+◌, List, ◌++◌, take, Err}
use Rattle.pm_change.specs.Changes.{Meaning}
use Rattle.pm_authority.specs.declared.named.Named.{Named}
use Rattle.pm_authority.specs.Runs.{run, AllApply}
use Rattle.pm_client.specs.declared.client.Client.{Client}
use Rattle.pm_client.specs.Clients.{named}
use Rattle.pm_remote.specs.declared.received.ReceiveError.{ReceiveError}
use Rattle.pm_remote.specs.declared.received.ReceiveError.TheVariants.{Refused, NoMemory}

module _ {Rules Doc Reason C : Type 0} where
  -- Others' steps past the client's version and so many own ones, under this name. Each step's serial is its place in the log,
  -- counted from 1.
  abbrev pub others : Client C Rules Doc Reason → ℕ → ℕ → List C → List (Named C)
  others c other own foreign = named other (c.version + own + 1) foreign

  -- The log past the client's version: its first pending steps, so many, and then others'.
  abbrev pub heard : Client C Rules Doc Reason → ℕ → ℕ → List C → List (Named C)
  heard c other own foreign = take own c.pending ++ others c other own foreign

module _ {Rules Doc Reason C : Type 0} (m : Meaning Rules Doc Reason C) (rules : Rules) where
  -- The first pending steps, so many, lead from the base to this document.
  abbrev pub IsMiddle : Client C Rules Doc Reason → ℕ → Doc → Type 0
  IsMiddle c own middle = AllApply m rules c.base (take own c.pending) middle

  -- One of others' steps does not apply after those before it, and this is the first of them, by its place among them; or
  -- memory ran out.
  abbrev pub IsRefusal : Client C Rules Doc Reason → ℕ → ℕ → List C → ReceiveError Reason → Type 0
  IsRefusal c other own foreign (Refused index reason) =
      (middle : Doc) × IsMiddle c own middle × (run m rules middle 0 (others c other own foreign) ≡ Err (record { index = index; reason = reason }))
  IsRefusal c other own foreign NoMemory = Unit {0}
