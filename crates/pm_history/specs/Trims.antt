-- What a history need not remember, and how much it holds.
use Rattle.std.specs.Prelude.{◌≡◌, ℕ, ◌+◌, ◌&&◌, ◌||◌, Bool, true, false, is_some, if◌then◌else◌, List, [], ◌∷◌, ◌++◌, drop, map, Option, Some, None}
use Rattle.pm_change.specs.declared.name.Name.{Name}
use Rattle.pm_history.specs.declared.item.Item.{Item}
use Rattle.pm_history.specs.declared.branches.Branches.{Branches}
use Rattle.pm_history.specs.declared.branches.MadeBy.{MadeBy}
use Rattle.pm_history.specs.declared.branches.MadeBy.TheVariants as made_by
use Rattle.pm_history.specs.Histories.{names_in}
use Rattle.pm_history.specs.Starts.{is_named, start_of}
use Rattle.pm_history.specs.Remembers.{names_of, live_names}

module _ {C : Type 0} where
  -- the items from the first live step on; where no step is live, there is none
  abbrev pub from_first_live : List Name → List (Item C) → List (Item C)
  from_first_live live is = drop (start_of live is) is

  -- an item without the changes that undo it, unless its step is live
  abbrev pub thinned : List Name → Item C → Item C
  thinned live i = record i { inverse = if is_named live i.name then i.inverse else [] }

  abbrev pub trimmed_items : List Name → List (Item C) → List (Item C)
  trimmed_items live is = map (thinned live) (from_first_live live is)

  -- A step is live where its name stands in an event, to undo or to redo. All items before the first live step are dropped,
  -- or all where there is none, and so are the changes that undo steps that are not live. The other items keep their names
  -- and maps, and what they were made to undo.
  abbrev pub trimmed : Branches C → Branches C
  trimmed h = record h { items = trimmed_items (live_names h) h.items }

  -- Noting steps of an edit ends with a trimming; noting those of an undo or a redo does not.
  abbrev pub trimmed_after : MadeBy → Branches C → Branches C
  trimmed_after (made_by.Edit event first) h = trimmed h
  trimmed_after (made_by.Undo event first) h = h
  trimmed_after (made_by.Redo event first) h = h

  -- nothing is left to trim
  abbrev pub IsTrimmed : Branches C → Type 0
  IsTrimmed h = trimmed_items (live_names h) h.items ≡ h.items

  abbrev pub has_any : List C → Bool
  has_any [] = false
  has_any (c ∷ cs) = true

  -- The changes that undo a step are kept: it is live, or some of them are there still.
  abbrev pub has_inverse : List Name → Item C → Bool
  has_inverse live i = is_named live i.name || has_any i.inverse

  -- how many of the items have kept the changes that undo them
  abbrev pub inverses : List Name → List (Item C) → ℕ
  inverses live [] = 0
  inverses live (i ∷ is) = (if has_inverse live i then 1 else 0) + inverses live is

  -- how many of the items are live
  abbrev pub live_count : List Name → List (Item C) → ℕ
  live_count live [] = 0
  live_count live (i ∷ is) = (if is_named live i.name then 1 else 0) + live_count live is

  -- The changes that undo the item that was found, where they are kept.
  abbrev pub inverse_in : List Name → Option (Item C × List (Item C)) → Option (List C)
  inverse_in live None = None
  inverse_in live (Some p) = if has_inverse live p.0 then Some p.0.inverse else None

  -- each of these items is that of an own step
  abbrev pub are_own : List (Item C) → Bool
  are_own [] = true
  are_own (i ∷ is) = is_some i.name && are_own is

  -- The live names after an edit of these steps. Where it has an own one, nothing can be redone.
  abbrev pub live_with : Branches C → List Name → List Name
  live_with h [] = live_names h
  live_with h (n ∷ ns) = names_of h.undo ++ n ∷ ns

  abbrev pub live_after : Branches C → List (Item C) → List Name
  live_after h is = live_with h (names_in is)
