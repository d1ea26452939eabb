-- An event of a history's undo branch, and what undoing it leaves.
use Rattle.std.specs.Prelude.{◌≡◌, ◌<◌, ℕ, zero, suc, List, [], ◌∷◌, ◌++◌, length, slice_index_or, Contains, Some, refl}
use Rattle.std.specs.List.{AllByRecursion as Each}
use Rattle.std.proofs.Common.{arith, ap, sym, subst, ◌∙◌}
use Rattle.pm_change.specs.declared.name.Name.{Name}
use Rattle.pm_change.specs.Changes.{fold}
use Rattle.pm_tokens.specs.Tokens.{Doc}
use Rattle.pm_tokens.specs.Schemas.{Schema}
use Rattle.pm_tokens.specs.Faults.{Valid}
use Rattle.pm_meaning.specs.Steps.{Step}
use Rattle.pm_meaning.specs.Meanings.{meaning_by}
use Rattle.pm_meaning.proofs.ChangeLaws.{laws_by}
use Rattle.pm_history.specs.declared.branch.Event.{Event}
use Rattle.pm_history.specs.declared.branches.Branches.{Branches}
use Rattle.pm_history.specs.declared.item.Item.{Item}
use Rattle.pm_history.specs.Timelines.{Step as TimelineStep, changes_of, items_from}
use Rattle.pm_history.specs.Tidy.{NoneUndoes, NoRangeUndoes, NamesDiffer, Differ, IsTidy}
use Rattle.pm_history.specs.Remembers.{names_of, live_names, Remembers}
use Rattle.pm_history.specs.Restores.{IsOfWhole}
use Rattle.pm_history.specs.Standing.{IsHistoryOf}
use Rattle.pm_history.specs.Undos.{undo_event}
use Rattle.pm_history.proofs.Agrees.{undo-remembered}
use Rattle.pm_history.proofs.Grows.{each-front, each-back, differ-front, names-append, remembers-fewer, none-tied, history-shows}
use Rattle.pm_selective.specs.Histories.{IsApartIn, HasLeft}
use Rattle.pm_selective.specs.Tests.{FitItems}
use Rattle.pm_selective.specs.Told.{TellsApart}
use Rattle.pm_selective.proofs.Readings.{shows-fit}
use Rattle.pm_selective.proofs.Timelines.{apart-told}
use Rattle.pm_selective.proofs.Told.{told-apart, leaves-told, names-differ}

-- an event that stands among others
pub record StandsIn (es : List Event) (e : Event) : Type 0 where
  pub front : List Event
  pub back : List Event
  pub are : es ≡ front ++ e ∷ back

pub stands-in : (es : List Event) (e : Event) → Contains es e → StandsIn es e
stands-in es e h = from es h.0 h.1 h.2
  where
    from : (es : List Event) (k : ℕ) → k < length es → slice_index_or es k e ≡ e → StandsIn es e
    from [] k within at = absurd (omega (arith, within))
    from (x ∷ es) zero within at = record { front = []; back = es; are = ap (λ y. y ∷ es) at }
    from (x ∷ es) (suc k) within at =
        let i = from es k (omega (arith, within)) at in
        record { front = x ∷ i.front; back = i.back; are = ap (λ ys. x ∷ ys) i.are }

-- where no item undoes these steps, none with a range does
none-moves : {C : Type 0} (ns : List Name) (xs : List (Item C)) → Each (λ n. NoneUndoes n xs) ns → Each (λ n. NoRangeUndoes (Some n) xs) ns
none-moves [] xs h = tt
none-moves (n ∷ ns) xs h = (none-tied n xs h.0, none-moves ns xs h.1)

differ-back : (xs ys : List Name) → Differ (xs ++ ys) → Differ ys
differ-back [] ys h = h
differ-back (x ∷ xs) ys h = differ-back xs ys h.1

-- what holds of the names of events holds of those of each
event-each : (P : Name → Type 0) (es : List Event) (e : Event) → StandsIn es e → Each P (names_of es) → Each P e.names
event-each P es e s h =
    each-front P e.names (names_of s.back) (each-back P (names_of s.front) (e.names ++ names_of s.back) (subst (Each P) (ap names_of s.are ∙ names-append s.front (e ∷ s.back)) h))

event-differ : (es : List Event) (e : Event) → StandsIn es e → Differ (names_of es) → Differ e.names
event-differ es e s h =
    differ-front e.names (names_of s.back) (differ-back (names_of s.front) (e.names ++ names_of s.back) (subst Differ (ap names_of s.are ∙ names-append s.front (e ∷ s.back)) h))

module _ {Rules : Type 0} (schema_of : Rules → Schema) (rules : Rules) (client drawn : ℕ) (first last : Doc) (steps : List (TimelineStep Step)) (h : Branches Step)
    (valid : Valid (schema_of rules) first) (reach : fold (meaning_by schema_of) rules first (changes_of steps) ≡ Some last)
    (stands : IsHistoryOf (meaning_by schema_of) rules client drawn first steps h) where
  -- the history's maps fit the sizes of documents
  pub items-fit : FitItems h.items
  items-fit =
      let m = meaning_by schema_of in
      let s = history-shows m rules (laws_by schema_of) (live_names h) first last steps h.items valid reach stands.remembers in
      (m.size s.0, shows-fit m rules (laws_by schema_of) h.items s.0 last s.1 s.2)

  pub items-differ : NamesDiffer h.items
  items-differ = names-differ (meaning_by schema_of) rules (live_names h) first steps h.items stands.remembers stands.tidy.names_differ

  module _ (e : Event) (in_undo : StandsIn h.undo e) where
    event-remembers : Remembers (meaning_by schema_of) rules e.names first steps h.items
    event-remembers =
        remembers-fewer (meaning_by schema_of) rules (live_names h) e.names first steps h.items (λ P k. event-each P h.undo e in_undo (each-front P (names_of h.undo) (names_of h.redo) k)) stands.remembers

    event-tidy : IsTidy (items_from (meaning_by schema_of) rules first steps) e.names
    event-tidy = record {
      names_differ = stands.tidy.names_differ;
      once = stands.tidy.once;
      differ = event-differ h.undo e in_undo (differ-front (names_of h.undo) (names_of h.redo) stands.tidy.differ);
    }

    event-alive : Each (λ n. NoRangeUndoes (Some n) (items_from (meaning_by schema_of) rules first steps)) e.names
    event-alive =
        let is = items_from (meaning_by schema_of) rules first steps in
        none-moves e.names is (event-each (λ n. NoneUndoes n is) h.undo e in_undo (each-front (λ n. NoneUndoes n is) (names_of h.undo) (names_of h.redo) stands.live))

    -- the items tell that the event lies apart, exactly where it does in the timeline
    pub items-tell : TellsApart e.names h.items → IsApartIn e.names steps
    items-tell t = told-apart schema_of rules e.names e.names h.items first last steps valid reach event-remembers t

    pub tells-items : IsApartIn e.names steps → TellsApart e.names h.items
    tells-items t = apart-told schema_of rules e.names h.items first last steps valid reach event-remembers t

    -- what undoing the event leaves, where it lies apart and each of its steps was undone
    pub leaves-later : (serial : ℕ) → IsApartIn e.names steps → length (undo_event (meaning_by schema_of) rules client e.names h.items last serial).made ≡ length e.names
        → HasLeft schema_of rules e.names first steps last (undo_event (meaning_by schema_of) rules client e.names h.items last serial).doc
    leaves-later serial t full =
        let m = meaning_by schema_of in
        let w = undo_event m rules client e.names h.items last serial in
        let whole : IsOfWhole m rules client e.names h.items last serial w = λ f ss r. undo-remembered m rules client e.names e.names f ss h.items last serial (λ P k. k) r in
        leaves-told schema_of rules client e.names h.items last serial w whole (tells-items t) full first steps valid reach event-remembers event-tidy event-alive
