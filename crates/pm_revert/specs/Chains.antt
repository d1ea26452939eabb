-- When changes that undo entries may be carried.
use Rattle.std.specs.Prelude.{ℕ, ◌<◌, ◌^◌, List, [], ◌∷◌}
use Rattle.pm_map.specs.Through.{ArePaired}
use Rattle.pm_map.specs.Fits.{FitsSizes, FitBetween}
use Rattle.pm_change.specs.Changes.{Meaning}
use Rattle.pm_revert.specs.declared.backs.Back.{Back}
use Rattle.pm_revert.specs.declared.taking.Taking.{Taking}

module _ {Rules Doc Reason C : Type 0} (m : Meaning Rules Doc Reason C) where
  -- a change of a document of this size, whose map leads to one of size k
  pub record IsBack (b : Back C) (n k : ℕ) : Type 0 where
    pub within : m.is_within b.change n
    pub fits : FitsSizes (m.step_map b.change) n k
    pub small : k < 2 ^ 32

  -- the same of changes one after another
  abbrev pub AreBacks : List (Back C) → ℕ → Type 0
  AreBacks [] n = Unit {0}
  AreBacks (b ∷ bs) n = (k : ℕ) × (IsBack b n k × AreBacks bs k)

module _ {Rules Doc Reason C : Type 0} (m : Meaning Rules Doc Reason C) (rules : Rules) where
  -- the maps lead from a document of this size to the present one, which is good
  pub record IsAt (so : Taking Doc C) (n : ℕ) : Type 0 where
    pub good : m.is_good rules so.doc
    pub paired : ArePaired so.maps
    pub fits : FitBetween so.maps n (m.size so.doc)

  -- one change may be carried
  abbrev pub MayTake : Taking Doc C → Back C → Type 0
  MayTake so b = (n : ℕ) × (k : ℕ) × (IsAt so n × IsBack m b n k)

  -- changes may be carried one after another
  abbrev pub MayTakeAll : Taking Doc C → List (Back C) → Type 0
  MayTakeAll so bs = (n : ℕ) × (IsAt so n × AreBacks m bs n)
