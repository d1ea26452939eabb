-- When steps may be carried over others' steps.
use Rattle.std.specs.Prelude.{◌≡◌, ℕ, ◌<◌, ◌^◌, List, All, Ok}
use Rattle.pm_map.specs.Through.{ArePaired}
use Rattle.pm_map.specs.Fits.{FitBetween}
use Rattle.pm_change.specs.Changes.{Meaning}
use Rattle.pm_authority.specs.declared.named.Named.{Named}
use Rattle.pm_authority.specs.Runs.{AllApply}
use Rattle.pm_client.specs.Rebases.{Rebasing, maps_of, start}

module _ {Rules Doc Reason C : Type 0} (m : Meaning Rules Doc Reason C) where
  -- a step whose map may be asked for
  abbrev pub HasMap : C → Type 0
  HasMap c = (n : ℕ) × (n < 2 ^ 32) × m.is_within c n

  abbrev pub NamedHasMap : Named C → Type 0
  NamedHasMap n = HasMap n.change

module _ {Rules Doc Reason C : Type 0} (m : Meaning Rules Doc Reason C) (rules : Rules) where
  -- The steps apply to the old document one after another, and the maps so far lead from there to the new one.
  pub record CanRebase (old : Doc) (so : Rebasing C Rules Doc Reason) (ns : List (Named C)) : Type 0 where
    pub old_good : m.is_good rules old
    pub new_good : m.is_good rules so.doc
    pub applies : (end : Doc) × AllApply m rules old ns end
    pub fits : FitBetween so.maps (m.size old) (m.size so.doc)
    pub paired : ArePaired so.maps

  -- the same of one step
  pub record MayRebase (old : Doc) (so : Rebasing C Rules Doc Reason) (n : Named C) : Type 0 where
    pub old_good : m.is_good rules old
    pub new_good : m.is_good rules so.doc
    pub applies : (next : Doc) × (m.outcome rules n.change old ≡ Ok next)
    pub fits : FitBetween so.maps (m.size old) (m.size so.doc)

  -- Pending steps may be carried over others' steps, which lead to this base: both apply to one old document, and the
  -- pending ones lead to this end.
  pub record CanRebaseOver (base : Doc) (foreign pending : List (Named C)) (end : Doc) : Type 0 where
    pub old : Doc
    pub can : CanRebase old (start m base (maps_of m foreign)) pending
    pub ends : AllApply m rules old pending end
    pub have_maps : All (NamedHasMap m) foreign
