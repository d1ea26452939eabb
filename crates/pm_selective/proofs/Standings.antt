-- What the items of a history tell of an event is what its timeline has.
use Rattle.std.specs.Prelude.{◌≡◌, ◌↔◌, Bool, true, List, Contains, Result, Ok, Err, IfOk}
use Rattle.std.proofs.Common.{sym, subst}
use Rattle.pm_change.specs.declared.name.Name.{Name}
use Rattle.pm_meaning.specs.Steps.{Step}
use Rattle.pm_schema.specs.declared.schema.Schema.{Schema}
use Rattle.pm_schema.specs.Documents.{documents_of}
use Rattle.pm_tokens.specs.Schemas.{Schema as Documents}
use Rattle.pm_history.specs.declared.branch.Event.{Event}
use Rattle.pm_history.specs.declared.branches.Branches.{Branches}
use Rattle.pm_history.specs.declared.item.Item.{Item}
use Rattle.pm_history.specs.Tidy.{NamesDiffer}
use Rattle.pm_selective.specs.Histories.{IsApartIn}
use Rattle.pm_selective.specs.Standing.{HasTimeline}
use Rattle.pm_selective.specs.Tests.{FitItems}
use Rattle.pm_selective.specs.Told.{TellsApart}
use Rattle.pm_selective.proofs.Leavings.{stands-in, items-fit, items-differ, items-tell, tells-items}

abbrev documents : Schema → Documents
documents = λ schema. documents_of schema.spec

pub history-fits : (h : Branches Step) → HasTimeline h → FitItems h.items
history-fits h t = items-fit documents t.schema t.client t.drawn t.first t.last t.steps h t.valid t.apply t.stands

pub history-differs : (h : Branches Step) → HasTimeline h → NamesDiffer h.items
history-differs h t = items-differ documents t.schema t.client t.drawn t.first t.last t.steps h t.valid t.apply t.stands

pub told-exactly : {E : Type 0} (r : Result Bool E) (h : Branches Step) (e : Event) (names : List Name) (items : List (Item Step)) → names ≡ e.names → items ≡ h.items → Contains h.undo e
    → IfOk r (λ told. (told ≡ true) ↔ TellsApart names items) → IfOk r (λ told. (t : HasTimeline h) → (told ≡ true) ↔ IsApartIn e.names t.steps)
told-exactly (Err x) h e names items en ei within k = tt
told-exactly (Ok told) h e names items en ei within k = λ t.
    let in_undo = stands-in h.undo e within in
    let same : (told ≡ true) ↔ TellsApart e.names h.items = subst (λ ns. (told ≡ true) ↔ TellsApart ns h.items) en (subst (λ is. (told ≡ true) ↔ TellsApart names is) ei k) in (
      λ a. items-tell documents t.schema t.client t.drawn t.first t.last t.steps h t.valid t.apply t.stands e in_undo (same.0 a),
      λ a. same.1 (tells-items documents t.schema t.client t.drawn t.first t.last t.steps h t.valid t.apply t.stands e in_undo a),
    )
