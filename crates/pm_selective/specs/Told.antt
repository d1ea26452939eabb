-- What a history's items tell of an event and the later steps.
use Rattle.std.specs.Prelude.{◌≡◌, ◌<◌, List, [], ◌∷◌, ◌++◌, length, Some}
use Rattle.pm_map.specs.declared.step_map.Span.{Span}
use Rattle.pm_map.specs.Stills.{AreApart}
use Rattle.pm_change.specs.declared.name.Name.{Name}
use Rattle.pm_change.specs.Changes.{fold}
use Rattle.pm_tokens.specs.Tokens.{Doc}
use Rattle.pm_tokens.specs.Schemas.{Schema}
use Rattle.pm_tokens.specs.Faults.{Valid}
use Rattle.pm_meaning.specs.Steps.{Step}
use Rattle.pm_meaning.specs.Meanings.{meaning_by}
use Rattle.pm_history.specs.declared.item.Item.{Item}
use Rattle.pm_history.specs.declared.undoing.Undone.{Undone}
use Rattle.pm_history.specs.Timelines.{Step as TimelineStep, changes_of, items_from}
use Rattle.std.specs.List.{AllByRecursion as Each}
use Rattle.pm_history.specs.Tidy.{NoRangeUndoes, IsTidy}
use Rattle.pm_history.specs.Remembers.{Remembers}
use Rattle.pm_selective.specs.Apart.{LieApart}
use Rattle.pm_selective.specs.Histories.{HasLeft}

-- A replace has one range, and a replaceAround two, which touch exactly where its gap is pinched. Every other step has none.
abbrev pub IsSpliceMap : List Span → Type 0
IsSpliceMap [] = ⊥
IsSpliceMap (r ∷ rs) = AreApart (r ∷ rs) 0

abbrev pub AreSpliceMaps : List (List Span) → Type 0
AreSpliceMaps [] = Unit {0}
AreSpliceMaps (m ∷ ms) = IsSpliceMap m × AreSpliceMaps ms

module _ {C : Type 0} where
  abbrev pub item_maps : List (Item C) → List (List Span)
  item_maps [] = []
  item_maps (i ∷ is) = i.map ∷ item_maps is

  -- these names, in order, are those of these items
  abbrev pub AreNamed : List Name → List (Item C) → Type 0
  AreNamed [] [] = Unit {0}
  AreNamed [] (i ∷ is) = ⊥
  AreNamed (n ∷ ns) [] = ⊥
  AreNamed (n ∷ ns) (i ∷ is) = (i.name ≡ Some n) × AreNamed ns is

  -- The steps of the event stand among the items one after another, and there is at least one. By their maps each of them and
  -- each later step is a replace or an unpinched replaceAround, and each later step lies apart from the event.
  pub record TellsApart (names : List Name) (items : List (Item C)) : Type 0 where
    pub front : List (Item C)
    pub event : List (Item C)
    pub later : List (Item C)
    pub items_are : items ≡ front ++ (event ++ later)
    pub some : 0 < length names
    pub named : AreNamed names event
    pub event_splices : AreSpliceMaps (item_maps event)
    pub later_splice : AreSpliceMaps (item_maps later)
    pub apart : LieApart (item_maps event) (item_maps later)

module _ {Rules : Type 0} (schema_of : Rules → Schema) (rules : Rules) where
  -- Where the items tell that the later steps lie apart from the event, and the undo made as many steps as the event has, that
  -- holds of every timeline that leads to the document, that the items remember, whose names are in order, and in which no step
  -- with a range undoes a step of the event.
  abbrev pub LeavesWhereTold : List Name → List (Item Step) → Doc → Undone Doc Step → Type 0
  LeavesWhereTold names items last w =
      TellsApart names items → length w.made ≡ length names → (first : Doc) (steps : List (TimelineStep Step)) → Valid (schema_of rules) first
      → fold (meaning_by schema_of) rules first (changes_of steps) ≡ Some last → Remembers (meaning_by schema_of) rules names first steps items
      → IsTidy (items_from (meaning_by schema_of) rules first steps) names → Each (λ n. NoRangeUndoes (Some n) (items_from (meaning_by schema_of) rules first steps)) names
      → HasLeft schema_of rules names first steps last w.doc
