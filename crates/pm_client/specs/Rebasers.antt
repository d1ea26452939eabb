-- How far pending steps were carried, where a route tells what the maps would.
use Rattle.std.specs.Prelude.{◌≡◌, ℕ, List, Ok}
use Rattle.pm_map.specs.declared.mapping.Mirrored.{Mirrored}
use Rattle.pm_frames.specs.Routes.{Guides}
use Rattle.pm_change.specs.Changes.{Meaning}
use Rattle.pm_authority.specs.declared.named.Named.{Named}
use Rattle.pm_client.specs.declared.rebasing.Rebaser.{Rebaser}
use Rattle.pm_client.specs.Rebases.{Rebasing, rebased_one}
use Rattle.pm_client.specs.Rebasables.{MayRebase}

-- the rebasing that this is, over these maps
abbrev pub over_maps : {Rules Doc Reason C : Type 0} → Rebaser C Rules Doc Reason → List Mirrored → Rebasing C Rules Doc Reason
over_maps r maps = record { doc = r.doc; maps = maps; kept = r.kept; items = r.items; dropped = r.dropped }

module _ {Rules Doc Reason C : Type 0} (m : Meaning Rules Doc Reason C) where
  -- It has come as far as the rebasing: its route tells where positions of a document of this size go over the maps.
  pub record IsAt (r : Rebaser C Rules Doc Reason) (so : Rebasing C Rules Doc Reason) (size : ℕ) : Type 0 where
    pub same : over_maps r so.maps ≡ so
    pub leads : Guides r.route so.maps size (m.size so.doc)

module _ {Rules Doc Reason C : Type 0} (m : Meaning Rules Doc Reason C) (rules : Rules) where
  -- wherever it was, it has come on by one step
  abbrev pub GoesOn : Rebaser C Rules Doc Reason → Named C → Rebaser C Rules Doc Reason → Type 0
  GoesOn old n new = (before after : Doc) (so : Rebasing C Rules Doc Reason) → MayRebase m rules before so n → m.outcome rules n.change before ≡ Ok after
      → IsAt m old so (m.size before) → IsAt m new (rebased_one m rules so n) (m.size after)
