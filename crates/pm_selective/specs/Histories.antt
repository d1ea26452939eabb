-- Undoing an event of a history whose later steps lie apart from it.
use Rattle.std.specs.Prelude.{◌≡◌, ◌<◌, true, List, ◌++◌, map, length, Some}
use Rattle.std.specs.List.{AllByRecursion as Each}
use Rattle.pm_change.specs.declared.name.Name.{Name}
use Rattle.pm_change.specs.Changes.{fold}
use Rattle.pm_tokens.specs.Tokens.{Doc}
use Rattle.pm_tokens.specs.Schemas.{Schema}
use Rattle.pm_tokens.specs.Faults.{Valid}
use Rattle.pm_meaning.specs.Steps.{Step}
use Rattle.pm_meaning.specs.Meanings.{meaning_by}
use Rattle.pm_history.specs.declared.item.Item.{Item}
use Rattle.pm_history.specs.declared.undoing.Undone.{Undone}
use Rattle.pm_history.specs.Timelines.{Step as TimelineStep, changes_of, items_from}
use Rattle.pm_history.specs.Tidy.{NoRangeUndoes, IsTidy}
use Rattle.pm_history.specs.Remembers.{Remembers}
use Rattle.pm_selective.specs.Apart.{LieApart}
use Rattle.pm_selective.specs.Carried.{AreSplices, step_maps, left_tokens}

abbrev pub name_of : {C : Type 0} → TimelineStep C → Name
name_of s = s.name

abbrev pub names_of : {C : Type 0} → List (TimelineStep C) → List Name
names_of ss = map name_of ss

-- Every step of the event and every later step is a replace, or a replaceAround whose gap is not pinched, and each later step
-- lies apart from the event.
pub record IsApartEvent (event later : List (TimelineStep Step)) : Type 0 where
  pub event_splices : AreSplices (changes_of event)
  pub later_splice : AreSplices (changes_of later)
  pub apart : LieApart (step_maps (changes_of event)) (step_maps (changes_of later))

-- An event lies apart in a timeline. The timeline reads some earlier steps, then the event's own steps, one after another, and
-- then the later steps. The event has at least one step. Each of its steps and each later step is a replace, or a replaceAround
-- whose gap is not pinched, and each later step lies apart from the event.
pub record IsApartIn (names : List Name) (steps : List (TimelineStep Step)) : Type 0 where
  pub earlier : List (TimelineStep Step)
  pub event : List (TimelineStep Step)
  pub later : List (TimelineStep Step)
  pub steps_are : steps ≡ earlier ++ (event ++ later)
  pub named : names ≡ names_of event
  pub own : Each (λ s. s.own ≡ true) event
  pub some : 0 < length names
  pub apart : IsApartEvent event later

module _ {Rules : Type 0} (schema_of : Rules → Schema) (rules : Rules) where
  -- A timeline from the document `first` to the document `last` ends with an event's steps, one after another, and the later
  -- steps. `before` is the document before the event.
  pub record EndsWith (event later : List (TimelineStep Step)) (first : Doc) (steps : List (TimelineStep Step)) (before last : Doc) : Type 0 where
    pub earlier : List (TimelineStep Step)
    pub mid : Doc
    pub steps_are : steps ≡ earlier ++ (event ++ later)
    pub valid : Valid (schema_of rules) first
    pub reaches : fold (meaning_by schema_of) rules first (changes_of earlier) ≡ Some before
    pub event_applies : fold (meaning_by schema_of) rules before (changes_of event) ≡ Some mid
    pub later_apply : fold (meaning_by schema_of) rules mid (changes_of later) ≡ Some last
    pub own : Each (λ s. s.own ≡ true) event

  -- What the undo of an event leaves, where the event lies apart in a timeline from `first` to `last`: in the document `end` the
  -- tokens are those that arise when the later steps are carried and spliced in order onto the document before the event.
  pub record HasLeft (names : List Name) (first : Doc) (steps : List (TimelineStep Step)) (last end : Doc) : Type 0 where
    pub event : List (TimelineStep Step)
    pub later : List (TimelineStep Step)
    pub before : Doc
    pub named : names ≡ names_of event
    pub ends : EndsWith event later first steps before last
    pub apart : IsApartEvent event later
    pub left : left_tokens (changes_of event) (changes_of later) before.tokens ≡ Some end.tokens

  -- Of every timeline that the items remember, whose names are in order, and in which no step with a range undoes a step of the
  -- event: where it ends with the event and later steps that
  -- are apart from it, and the undo made as many steps as the event has, so that none was lost or did not apply, the undo leaves
  -- the later steps, carried and spliced in order onto the document before the event.
  abbrev pub LeavesAll : List Name → List (Item Step) → Doc → Undone Doc Step → Type 0
  LeavesAll names items last w =
      (first : Doc) (steps event later : List (TimelineStep Step)) (before : Doc) → Remembers (meaning_by schema_of) rules names first steps items
      → IsTidy (items_from (meaning_by schema_of) rules first steps) names → Each (λ n. NoRangeUndoes (Some n) (items_from (meaning_by schema_of) rules first steps)) names → names ≡ names_of event
      → EndsWith event later first steps before last → IsApartEvent event later → length w.made ≡ length event
      → left_tokens (changes_of event) (changes_of later) before.tokens ≡ Some w.doc.tokens
