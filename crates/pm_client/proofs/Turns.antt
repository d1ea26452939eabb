-- Undoing and redoing events.
use Rattle.std.specs.Prelude.{Result, Ok, Err, IfOk, OnOk, OnErr, ◌≡◌, ℕ, ◌+◌, List, ◌++◌, length, drop, Option, Some, None, refl, All}
use Rattle.std.proofs.Common.{sym, ap, subst, ◌∙◌, arith}
use Rattle.std.proofs.lemmas.List.Elements.{All-from_recursion}
use Rattle.pm_change.specs.Changes.{Meaning, Laws, fold}
use Rattle.pm_change.specs.declared.name.Name.{Name}
use Rattle.pm_authority.specs.declared.named.Named.{Named}
use Rattle.pm_authority.specs.Runs.{AllApply}
use Rattle.pm_history.specs.declared.branch.Event.{Event}
use Rattle.pm_history.specs.declared.branches.Branches.{Branches}
use Rattle.pm_history.specs.declared.turn.Turn.{Turn}
use Rattle.pm_history.specs.declared.item.Item.{Item}
use Rattle.pm_history.specs.declared.undoing.Undone.{Undone}
use Rattle.pm_history.specs.Histories.{event_of, names_in}
use Rattle.pm_history.specs.Turns.{event_for, undone}
use Rattle.pm_history.specs.Timelines.{Step, items_from}
use Rattle.pm_history.specs.Made.{made_steps, IsMade}
use Rattle.pm_history.specs.Undos.{undo_event}
use Rattle.pm_history.specs.Shows.{ShowsTo}
use Rattle.pm_history.specs.Starts.{start_of}
use Rattle.pm_history.specs.Tidy.{NamesDiffer}
use Rattle.pm_history.specs.Unchanged.{NothingSince}
use Rattle.pm_history.specs.Remembers.{live_names}
use Rattle.pm_history.specs.Standing.{IsHistoryOf}
use Rattle.pm_history.proofs.Grows.{turn-remembers, history-shows}
use Rattle.pm_history.proofs.Turned.{history-undone}
use Rattle.pm_history.proofs.Mades.{made-event}
use Rattle.pm_history.proofs.Agrees.{undo-restores, undo-remembered}
use Rattle.pm_history.proofs.Carried.{kept-differ}
use Rattle.pm_history.proofs.Starts.{event-from, shows-from}
use Rattle.pm_client.specs.declared.client.Client.{Client}
use Rattle.pm_client.specs.Clients.{named, turned, event_turned, turned_if}
use Rattle.pm_map.specs.Positions.{MayLead, IsItself}
use Rattle.pm_client.specs.Cursors.{AreIn}
use Rattle.pm_client.specs.Kins.{Kin}
use Rattle.pm_client.proofs.Keeps.{doc-good, timeline-applies, kin-gone_on}
use Rattle.pm_client.specs.Rebases.{maps_of}
use Rattle.pm_client.specs.Rebasables.{NamedHasMap}
use Rattle.pm_client.proofs.RebaseLaws.{maps-fit, plain-paired, cursors-led}
use Rattle.pm_client.proofs.TimelineLaws.{made-timeline, named-changes}
use Rattle.pm_client.specs.TokenNames.{KeepsTokens}
use Rattle.pm_client.specs.Undoings.{GivesBack, TurnsOver}
use Rattle.pm_client.proofs.TokenKeeps.{gone_on-keeps}

module _ {Rules Doc Reason C : Type 0} (m : Meaning Rules Doc Reason C) (rules : Rules) (laws : Laws m) (first : Doc) (log : List (Named C))
    (c : Client C Rules Doc Reason) (kin : Kin m rules first log c) where
  -- the history's items stand for steps that lead to the document
  pub kin-shows : ShowsTo m rules c.history.items c.doc
  kin-shows =
      history-shows m rules laws (live_names c.history) first c.doc kin.timeline c.history.items kin.first_good (timeline-applies m rules first log c kin) kin.history.remembers

  -- the items' names differ
  pub kin-differ : NamesDiffer c.history.items
  kin-differ = kept-differ m rules (live_names c.history) first kin.timeline c.history.items kin.history.remembers kin.history.tidy.names_differ

  -- what an undo needs to look at
  module _ (names : List Name) (items : List (Item C)) (are : NamesDiffer c.history.items → items ≡ drop (start_of names c.history.items) c.history.items) where
    pub since-shows : ShowsTo m rules items c.doc
    since-shows = shows-from m rules laws (start_of names c.history.items) c.history.items items c.doc (are kin-differ) kin-shows

    pub since-event : (serial : ℕ) → undo_event m rules c.name names items c.doc serial ≡ undo_event m rules c.name names c.history.items c.doc serial
    since-event serial = event-from m rules c.name names c.history.items items (start_of names c.history.items) c.doc serial refl (are kin-differ)

  -- the changes made, as steps of the client
  new-applies : (w : Undone Doc C) → IsMade m rules c.name c.doc (c.serials + 1) w → AllApply m rules c.doc (named c.name (c.serials + 1) w.made) w.doc
  new-applies w made = ap (fold m rules c.doc) (named-changes c.name (c.serials + 1) w.made) ∙ made.applies

  -- have maps
  pub made-maps : (w : Undone Doc C) → IsMade m rules c.name c.doc (c.serials + 1) w → All (NamedHasMap m) (named c.name (c.serials + 1) w.made)
  made-maps w made =
      All-from_recursion (NamedHasMap m) (named c.name (c.serials + 1) w.made)
      (maps-fit m rules laws c.doc w.doc (named c.name (c.serials + 1) w.made) (doc-good m rules first log c kin laws) (new-applies w made)).1

  -- over which the cursors may go
  pub made-room : (w : Undone Doc C) → IsMade m rules c.name c.doc (c.serials + 1) w → MayLead AreIn IsItself c.cursors (maps_of m (named c.name (c.serials + 1) w.made))
  made-room w made =
      let new : List (Named C) = named c.name (c.serials + 1) w.made in
      cursors-led (maps_of m new) (m.size c.doc) (m.size w.doc) (plain-paired m rules new)
      (maps-fit m rules laws c.doc w.doc new (doc-good m rules first log c kin laws) (new-applies w made)).0 c.cursors kin.cursors

  module _ (turn : Turn) (e : Event) (last : event_for turn c.history ≡ Some e) where
    w : Undone Doc C
    w = undo_event m rules c.name e.names c.history.items c.doc (c.serials + 1)

    -- to what log the client stood, it stands
    pub kin-turned : Kin m rules first log (event_turned m rules c turn e).1
    unfolding w
    kin-turned =
        let made = made-event m rules c.name e.names c.history.items c.doc (c.serials + 1) in
        let event : Event = event_of e.number (names_in w.items) in
        let history : Branches C = undone turn c.history event w.items in
        let more : List (Step C) = made_steps c.name (c.serials + 1) w.made w.items in
        let stands : IsHistoryOf m rules c.name (c.serials + length w.made) first (kin.timeline ++ more) history =
        history-undone m rules laws c.name c.serials (c.serials + length w.made) (c.serials + 1) first c.doc kin.timeline c.history e event w
        kin.first_good kin.history (timeline-applies m rules first log c kin) (omega arith) refl made (omega (arith, made.serial_is)) refl turn last in
        kin-gone_on m rules first log c kin laws w.made w.doc more history (new-applies w made) (made-timeline c.name (c.serials + 1) w.made w.items made.as_many) stands

    -- cursors stand before their tokens
    pub turned-keeps : KeepsTokens m log c (event_turned m rules c turn e).1 (m.size c.base)
    unfolding w
    turned-keeps =
        let made = made-event m rules c.name e.names c.history.items c.doc (c.serials + 1) in
        gone_on-keeps m rules laws first log c kin w.made w.doc (undone turn c.history (event_of e.number (names_in w.items)) w.items) (new-applies w made) kin-turned

  -- where nothing has changed since the event, its earlier document is given back
  pub turned-restores : (turn : Turn) (e : Event) → event_for turn c.history ≡ Some e → (before : Doc) → NothingSince m rules e.names first kin.timeline before c.doc
      → (event_turned m rules c turn e).1.doc ≡ before
  turned-restores turn e last before since =
      let r = turn-remembers m rules c.name c.serials first kin.timeline c.history kin.history turn e last in
      undo-restores m rules c.name laws e.names first kin.timeline c.history.items before c.doc (c.serials + 1) kin.first_good r.0 r.1 r.2 since

  -- undoing the event over the items kept is undoing it over the whole timeline
  pub turned-whole : (turn : Turn) (e : Event) → event_for turn c.history ≡ Some e
      → undo_event m rules c.name e.names c.history.items c.doc (c.serials + 1) ≡ undo_event m rules c.name e.names (items_from m rules first kin.timeline) c.doc (c.serials + 1)
  turned-whole turn e last = undo-remembered m rules c.name e.names e.names first kin.timeline c.history.items c.doc (c.serials + 1) (λ P k. k) (turn-remembers m rules c.name c.serials first kin.timeline c.history kin.history turn e last).0

module _ {Rules Doc Reason C : Type 0} (m : Meaning Rules Doc Reason C) (rules : Rules) (c : Client C Rules Doc Reason) (turn : Turn) (next : Client C Rules Doc Reason)
    (P : Client C Rules Doc Reason → Type 0) where
  -- what holds of the client once the event was undone holds of the next one
  turned-to : (n : ℕ) (o : Option Event) → turned_if m rules c turn o ≡ Some (n, next) → ((e : Event) → o ≡ Some e → P (event_turned m rules c turn e).1) → P next
  turned-to n None h f = absurd (cc)
  turned-to n (Some e) h f = let is : (event_turned m rules c turn e) ≡ (n, next) = cc in subst P (ap (λ p. p.1) is) (f e refl)

  -- and where it holds of the client too it holds of the next one whether or not the call failed
  pub turned-both : {E : Type 0} (r : Result ℕ E) (o : Option Event) → IfOk r (λ n. turned_if m rules c turn o ≡ Some (n, next)) → OnErr r (next ≡ c) → P c
      → ((e : Event) → o ≡ Some e → P (event_turned m rules c turn e).1) → P next
  turned-both (Ok n) o h k now f = turned-to n o h f
  turned-both (Err e) o h k now f = subst P (sym k) now

  pub turned-on : {E : Type 0} (r : Result ℕ E) (o : Option Event) → IfOk r (λ n. turned_if m rules c turn o ≡ Some (n, next)) → ((e : Event) → o ≡ Some e → P (event_turned m rules c turn e).1)
      → OnOk r (P next)
  turned-on (Ok n) o h f = turned-to n o h f
  turned-on (Err e) o h f = tt

module _ {Rules Doc Reason C E : Type 0} (m : Meaning Rules Doc Reason C) (rules : Rules) (laws : Laws m) (c next : Client C Rules Doc Reason) (turn : Turn) (r : Result ℕ E)
    (turns : IfOk r (λ n. turned_if m rules c turn (event_for turn c.history) ≡ Some (n, next))) where
  -- the clauses of a call that undoes an event
  pub turn-kin : OnErr r (next ≡ c) → (first : Doc) (log : List (Named C)) → Kin m rules first log c → Kin m rules first log next
  turn-kin err first log kin =
      turned-both m rules c turn next (λ d. Kin m rules first log d) r (event_for turn c.history) turns err kin (λ e last. kin-turned m rules laws first log c kin turn e last)

  pub turn-whole : IfOk r (λ n. (first : Doc) (log : List (Named C)) (kin : Kin m rules first log c) → TurnsOver m rules turn c first kin.timeline n next)
  turn-whole = from r turns
    where
      from : (s : Result ℕ E) → IfOk s (λ n. turned_if m rules c turn (event_for turn c.history) ≡ Some (n, next))
          → IfOk s (λ n. (first : Doc) (log : List (Named C)) (kin : Kin m rules first log c) → TurnsOver m rules turn c first kin.timeline n next)
      from (Err e) h = tt
      from (Ok n) h = λ first log kin e last.
          let some : Some (event_turned m rules c turn e) ≡ Some (n, next) = ap (turned_if m rules c turn) (sym last) ∙ h in
          let is : event_turned m rules c turn e ≡ (n, next) = cc in
          let same = turned-whole m rules laws first log c kin turn e last in (
            ap (λ p. p.0) (sym is) ∙ ap (λ (v : Undone Doc C). length v.made) same,
            ap (λ p. p.1) (sym is) ∙ ap (λ (v : Undone Doc C). turned m c turn e.number v) same,
          )

  pub turn-restores : OnOk r ((first : Doc) (log : List (Named C)) (kin : Kin m rules first log c) → GivesBack m rules turn c first kin.timeline next.doc)
  turn-restores =
      turned-on m rules c turn next (λ d. (first : Doc) (log : List (Named C)) (kin : Kin m rules first log c) → GivesBack m rules turn c first kin.timeline d.doc) r (event_for turn c.history) turns
      (λ e0 was first log kin e before last since.
      let same : e ≡ e0 = cc in
      subst (λ (x : Event). (event_turned m rules c turn x).1.doc ≡ before) same (turned-restores m rules laws first log c kin turn e last before since))

  pub turn-tokens : OnOk r ((first : Doc) (log : List (Named C)) → Kin m rules first log c → KeepsTokens m log c next (m.size c.base))
  turn-tokens =
      turned-on m rules c turn next (λ d. (first : Doc) (log : List (Named C)) → Kin m rules first log c → KeepsTokens m log c d (m.size c.base)) r (event_for turn c.history) turns
      (λ e last first log kin. turned-keeps m rules laws first log c kin turn e last)
