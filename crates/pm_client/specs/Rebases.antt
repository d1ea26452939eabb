-- Pending steps carried over others' steps.
use Rattle.std.specs.Prelude.{ℕ, List, [], ◌∷◌, ◌++◌, map, Option, Some, None, Result, Ok, Err}
use Rattle.pm_map.specs.declared.step_map.Span.{Span}
use Rattle.pm_map.specs.declared.mapping.Mirrored.{Mirrored}
use Rattle.pm_map.specs.Moves.{inverted_ranges}
use Rattle.pm_map.specs.Mirrors.{entry, fronted, enclosed}
use Rattle.pm_change.specs.Changes.{Meaning}
use Rattle.pm_authority.specs.declared.named.Named.{Named}
use Rattle.pm_history.specs.Undos.{own_item}
use Rattle.pm_history.specs.declared.item.Item.{Item}

-- How far pending steps were carried. The maps lead from the document before those that were gone through to `doc`: over the
-- maps back of them all, from the latest to the first, over others' maps, and over the maps of the steps kept, each of which
-- is the mirror of the map back of the step that it comes from. The items are those of the steps kept, none of which says yet
-- what its step undoes. The serials dropped are of the steps that were lost, in the order in which these were pending.
pub record Rebasing (C Rules Doc Reason : Type 0) : Type 0 where
  pub doc : Doc
  pub maps : List Mirrored
  pub kept : List (Named C)
  pub items : List (Item C)
  pub dropped : List ℕ

module _ {Rules Doc Reason C : Type 0} (m : Meaning Rules Doc Reason C) where
  -- a step's map, in no pair
  abbrev pub map_of : Named C → Mirrored
  map_of n = entry (m.step_map n.change) None

  -- the maps of steps one after another, in no pairs
  abbrev pub maps_of : List (Named C) → List Mirrored
  maps_of ns = map map_of ns

  -- the ranges of steps one after another
  abbrev pub ranges_of : List (Named C) → List (List Span)
  ranges_of ns = map (λ (n : Named C). m.step_map n.change) ns

  -- No pending step was gone through yet: others' maps lead to this document.
  abbrev pub start : Doc → List Mirrored → Rebasing C Rules Doc Reason
  start doc maps = record { doc = doc; maps = maps; kept = []; items = []; dropped = [] }

  -- A step is lost: its map back stands at the front, alone.
  abbrev pub lost : Rebasing C Rules Doc Reason → Named C → Rebasing C Rules Doc Reason
  lost so n = record so {
    maps = fronted so.maps (inverted_ranges (m.step_map n.change));
    dropped = so.dropped ++ n.name.serial ∷ [];
  }

module _ {Rules Doc Reason C : Type 0} (m : Meaning Rules Doc Reason C) (rules : Rules) where
  -- A step is kept as the change c, which makes the document d: its map back stands at the front, and the map of c after as
  -- the mirror of that. Its item has the changes that undo c on the document before it.
  abbrev pub held : Rebasing C Rules Doc Reason → Named C → C → Doc → Rebasing C Rules Doc Reason
  held so n c d = record so {
    doc = d;
    maps = enclosed so.maps (inverted_ranges (m.step_map n.change)) (m.step_map c);
    kept = so.kept ++ record { name = n.name; change = c } ∷ [];
    items = so.items ++ own_item m rules n.name.client so.doc c n.name.serial None ∷ [];
  }

  -- a carried step is kept where it applies
  abbrev pub ended : Rebasing C Rules Doc Reason → Named C → C → Result Doc Reason → Rebasing C Rules Doc Reason
  ended so n c (Ok d) = held so n c d
  ended so n c (Err r) = lost m so n

  -- nothing is left of a step, or it goes on as the change c
  abbrev pub led : Rebasing C Rules Doc Reason → Named C → Option C → Rebasing C Rules Doc Reason
  led so n None = lost m so n
  led so n (Some c) = ended so n c (m.outcome rules c so.doc)

  -- one step more is carried over the maps so far
  abbrev pub rebased_one : Rebasing C Rules Doc Reason → Named C → Rebasing C Rules Doc Reason
  rebased_one so n = led so n (m.carry n.change so.maps)

  -- pending steps gone through in order
  abbrev pub rebased : Rebasing C Rules Doc Reason → List (Named C) → Rebasing C Rules Doc Reason
  rebased so [] = so
  rebased so (n ∷ ns) = rebased (rebased_one so n) ns
