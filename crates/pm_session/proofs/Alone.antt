-- An editor that did an act of its own, which presents no message, stands as before.
use Rattle.std.specs.Prelude.{◌≡◌, ℕ, Bool, List, Result, Ok, Err, IfOk, OnErr}
use Rattle.std.proofs.Common.{sym, ap, subst}
use Rattle.pm_map.specs.declared.side.Side.{Side}
use Rattle.pm_change.specs.Changes.{Meaning, Laws}
use Rattle.pm_authority.specs.declared.named.Named.{Named}
use Rattle.pm_client.specs.declared.client.Client.{Client}
use Rattle.pm_session.specs.declared.outcome.Outcome.{Outcome}
use Rattle.pm_session.specs.Events.{sets}
use Rattle.pm_session.specs.Hosts.{IsLog}
use Rattle.pm_session.specs.Sounds.{EditorStands}
use Rattle.pm_session.proofs.Hosted.{holder, holder-kept}
use Rattle.pm_session.proofs.Moves.{Moved, sets-moved}

module _ {Rules Doc Reason C : Type 0} (m : Meaning Rules Doc Reason C) (rules : Rules) (first : Doc) (log : List (Named C)) (c : Client C Rules Doc Reason)
    (stands : EditorStands m rules first log c) (log_is : IsLog m rules first log) where
  pub alone-stands : {composes gets : Bool} (laws : Laws m) (next : Client C Rules Doc Reason)
      → Moved m rules (holder m rules laws first log c stands log_is) c composes gets (holder m rules laws first log c stands log_is) next
      → EditorStands m rules first log next
  alone-stands laws next h = record { kin = h.after.own; messages = h.named stands.messages }

  -- whether it ran out of memory or not
  pub either-stands : {E : Type 0} (r : Result (Outcome C Rules Doc Reason) E) (p : Outcome C Rules Doc Reason × Client C Rules Doc Reason) (new : Client C Rules Doc Reason)
      → EditorStands m rules first log p.1 → IfOk r (λ o. (o, new) ≡ p) → OnErr r (new ≡ c) → EditorStands m rules first log new
  either-stands (Ok o) p new h is err = subst (EditorStands m rules first log) (sym (ap (λ q. q.1) is)) h
  either-stands (Err e) p new h is err = subst (EditorStands m rules first log) (sym err) stands

  -- a cursor was set, or it was not
  pub cursor-stands : {E : Type 0} (laws : Laws m) (p : ℕ) (side : Side) (r : Result (Outcome C Rules Doc Reason) E) (new : Client C Rules Doc Reason)
      → IfOk r (λ o. (o, new) ≡ sets m c p side) → OnErr r (new ≡ c) → EditorStands m rules first log new
  cursor-stands laws p side r new is err =
      either-stands r (sets m c p side) new
      (alone-stands laws (sets m c p side).1
      (sets-moved m rules laws (holder m rules laws first log c stands log_is) (holder-kept m rules laws first log c stands log_is) c stands.kin p side)) is err
