-- Anchors over the steps of a log.
use Rattle.std.specs.Prelude.{List, map}
use Rattle.pm_map.specs.declared.step_map.Moved.{Moved}
use Rattle.pm_map.specs.declared.mapping.Mirrored.{Mirrored}
use Rattle.pm_map.specs.Through.{through}
use Rattle.pm_change.specs.Changes.{Meaning}
use Rattle.pm_authority.specs.declared.named.Named.{Named}
use Rattle.pm_authority.specs.Runs.{AllApply}
use Rattle.pm_client.specs.declared.cursors.Cursor.{Cursor}
use Rattle.pm_client.specs.Cursors.{AreWithin}
use Rattle.pm_client.specs.Rebases.{maps_of}

-- where a mapping sends an anchor by its side
abbrev pub place : List Mirrored → Cursor → Moved
place ms a = through ms a.pos a.side

module _ {Rules Doc Reason C : Type 0} (m : Meaning Rules Doc Reason C) where
  -- The steps apply one after another to a good document, within which the anchors are.
  pub record MayFollow (steps : List (Named C)) (anchors : List Cursor) : Type 0 where
    pub rules : Rules
    pub before : Doc
    pub after : Doc
    pub good : m.is_good rules before
    pub apply : AllApply m rules before steps after
    pub within : AreWithin (m.size before) anchors

  -- Where each anchor goes over the mapping of the steps' maps, in which no map is the mirror of another.
  abbrev pub places : List (Named C) → List Cursor → List Moved
  places steps anchors = map (place (maps_of m steps)) anchors
