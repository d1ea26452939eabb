-- When taking an answer tells what it does.
use Rattle.std.specs.List.{AllByRecursion as Each}
use Rattle.std.specs.Prelude.{◌≡◌, ℕ, ◌+◌, ◌≤◌, ◌<◌, List, ◌++◌, length}
use Rattle.pm_change.specs.Changes.{Meaning}
use Rattle.pm_authority.specs.Runs.{AllApply}
use Rattle.pm_authority.specs.declared.named.Named.{Named}
use Rattle.pm_authority.specs.declared.message.Answer.{Answer}
use Rattle.pm_authority.specs.declared.message.Answer.TheVariants.{Accepted, WrongVersion, StepRefused, Entries}
use Rattle.pm_client.specs.declared.client.Client.{Client}
use Rattle.pm_client.specs.declared.taken.Taken.{Taken}
use Rattle.pm_client.specs.declared.taken.Taken.TheVariants.{Confirmed, Rebased, Stale, Refused}
use Rattle.pm_client.specs.Clients.{carried}
use Rattle.pm_client.specs.Kins.{IsOwn, IsForeign}

-- Entries that begin at this place, parted at the client's version: those before it, and past it steps of the client's own
-- and then others' steps.
pub record PastVersion {Rules Doc Reason C : Type 0} (c : Client C Rules Doc Reason) (since : ℕ) (entries : List (Named C)) : Type 0 where
  pub passed : List (Named C)
  pub own : List (Named C)
  pub foreign : List (Named C)
  pub passed_is : since + length passed ≡ c.version
  pub entries_are : entries ≡ passed ++ (own ++ foreign)
  pub are_own : Each (IsOwn c.name) own
  pub are_foreign : Each (IsForeign c.name) foreign

module _ {Rules Doc Reason C : Type 0} (m : Meaning Rules Doc Reason C) (rules : Rules) where
  -- Own steps and then these steps of others are past the version. So many of the pending steps after the own ones are lost
  -- where they are carried over the others, which lead to the new base.
  abbrev pub AreLost : Client C Rules Doc Reason → List (Named C) → List (Named C) → ℕ → Type 0
  AreLost c own foreign dropped =
      (base : Doc) × AllApply m rules c.base (own ++ foreign) base × (dropped ≡ length (carried m rules c (length own) foreign base).dropped)

  -- What is told of an answer. Stale comes where an Accepted or entries end at or before the version. Confirmed comes where
  -- an Accepted ends past the version, and tells its count, and where entries have own steps past the version and nothing
  -- else, and tells how many. Rebased comes where entries have past the version at least one step of others, after the own
  -- ones; it tells how many are own, how many are others', and how many pending steps are lost. Refused comes for
  -- WrongVersion and StepRefused, and for nothing else.
  abbrev pub IsTaken : Client C Rules Doc Reason → Answer C Rules Doc Reason → Taken → Type 0
  IsTaken c (Accepted from count) Stale = from + count ≤ c.version
  IsTaken c (Accepted from count) (Confirmed k) = (c.version < from + count) × (k ≡ count)
  IsTaken c (Accepted from count) (Rebased own foreign dropped) = ⊥
  IsTaken c (Accepted from count) Refused = ⊥
  IsTaken c (WrongVersion size) told = told ≡ Refused
  IsTaken c (StepRefused index reason) told = told ≡ Refused
  IsTaken c (Entries since entries) Stale = since + length entries ≤ c.version
  IsTaken c (Entries since entries) (Confirmed k) =
      (p : PastVersion c since entries) × (0 < length p.own) × (length p.foreign ≡ 0) × (k ≡ length p.own)
  IsTaken c (Entries since entries) (Rebased own foreign dropped) =
      (p : PastVersion c since entries) × (0 < length p.foreign) × (own ≡ length p.own) × (foreign ≡ length p.foreign)
      × AreLost c p.own p.foreign dropped
  IsTaken c (Entries since entries) Refused = ⊥
