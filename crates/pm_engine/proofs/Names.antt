-- What a client's edit and undo leave of its name.
use Rattle.std.specs.Prelude.{◌≡◌, ℕ, List, Option, Some, None, Result, Ok, Err, IfOk, OnErr}
use Rattle.std.proofs.Common.{sym, ap, ◌∙◌}
use Rattle.pm_change.specs.Changes.{Meaning}
use Rattle.pm_history.specs.declared.branch.Event.{Event}
use Rattle.pm_history.specs.declared.turn.Turn.{Turn}
use Rattle.pm_history.specs.declared.turn.Turn.TheVariants.{Undo, UndoEvent}
use Rattle.pm_history.specs.Turns.{event_for}
use Rattle.pm_client.specs.declared.client.Client.{Client}
use Rattle.pm_client.specs.Clients.{edited, event_turned, turned_if, undone_last, undone_event}
use Rattle.pm_session.proofs.Keeping.{edited-keeps, turned-keeps}

module _ {Rules Doc Reason C : Type 0} (m : Meaning Rules Doc Reason C) (rules : Rules) (c new : Client C Rules Doc Reason) where
  pub edit-name : {E : Type 0} (cs : List C) (event : Option ℕ) (r : Result ℕ E) → IfOk r (λ n. edited m rules c cs event ≡ Ok new) → OnErr r (new ≡ c) → new.name ≡ c.name
  edit-name cs event (Ok n) made err = (edited-keeps m rules c cs event new made).name
  edit-name cs event (Err e) made err = ap (λ (x : Client C Rules Doc Reason). x.name) err

  turn-name : (turn : Turn) (n : ℕ) (o : Option Event) → turned_if m rules c turn o ≡ Some (n, new) → new.name ≡ c.name
  turn-name turn n None h = absurd (cc)
  turn-name turn n (Some e) h =
      let same : event_turned m rules c turn e ≡ (n, new) = cc in
      sym (ap (λ (p : ℕ × Client C Rules Doc Reason). p.1.name) same) ∙ (turned-keeps m rules c turn e).name

  pub undo-name : {E : Type 0} (r : Result ℕ E) → IfOk r (λ n. undone_last m rules c ≡ Some (n, new)) → OnErr r (new ≡ c) → new.name ≡ c.name
  undo-name (Ok n) undone err = turn-name Undo n (event_for Undo c.history) undone
  undo-name (Err e) undone err = ap (λ (x : Client C Rules Doc Reason). x.name) err

  pub undo-event-name : {E : Type 0} (number : ℕ) (r : Result ℕ E) → IfOk r (λ n. undone_event m rules c number ≡ Some (n, new)) → OnErr r (new ≡ c) → new.name ≡ c.name
  undo-event-name number (Ok n) undone err = turn-name (UndoEvent number) n (event_for (UndoEvent number) c.history) undone
  undo-event-name number (Err e) undone err = ap (λ (x : Client C Rules Doc Reason). x.name) err
