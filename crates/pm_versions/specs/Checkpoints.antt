-- A log's documents at every 64th step.
use Rattle.std.specs.Prelude.{◌≡◌, ℕ, ◌*◌, ◌/◌, ◌<◌, ◌≤◌, List, ◌∷◌, length, take, slice_get, Some}
use Rattle.pm_change.specs.Changes.{Meaning}
use Rattle.pm_authority.specs.Runs.{AllApply}
use Rattle.pm_versions.specs.declared.versions.Versions.{Versions}
use Rattle.pm_versions.specs.declared.at.AtError.{AtError}
use Rattle.pm_versions.specs.declared.at.AtError.TheVariants.{Past, NoMemory}

-- the first document, and those after it that are kept
abbrev pub checkpoints : {Rules Doc Reason C : Type 0} → Versions C Rules Doc Reason → List Doc
checkpoints v = v.first ∷ v.later

module _ {Rules Doc Reason C : Type 0} (m : Meaning Rules Doc Reason C) (rules : Rules) where
  -- The first document is good, and the steps apply to it one after another and give the document. Checkpoint i is the document
  -- after the first 64 * i steps, and there is one for each i with 64 * i at most the number of steps.
  pub record IsVersions (v : Versions C Rules Doc Reason) : Type 0 where
    pub first_good : m.is_good rules v.first
    pub folded : AllApply m rules v.first v.log v.doc
    pub count : length v.later ≡ length v.log / 64
    pub each : (i : ℕ) (d : Doc) → slice_get (checkpoints v) i ≡ Some d → AllApply m rules v.first (take (64 * i) v.log) d

-- why there is no document after the first n of so many steps: n passes their number, which is told, or memory ran out
abbrev pub IsAtRefusal : ℕ → ℕ → AtError → Type 0
IsAtRefusal size n (Past told) = (size < n) × (told ≡ size)
IsAtRefusal size n NoMemory = n ≤ size
