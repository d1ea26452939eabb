-- A line that ran out of memory leaves a sound room.
use Rattle.std.specs.Prelude.{◌≡◌, ℕ, Bool, true, false, Some, Result, Ok, Err, OnErr}
use Rattle.std.proofs.Common.{sym, subst, inl, inr}
use Rattle.pm_change.specs.Changes.{Meaning, Laws}
use Rattle.pm_authority.specs.declared.authority.Authority.{Authority}
use Rattle.pm_authority.specs.declared.message.Message.{Message}
use Rattle.pm_authority.specs.Kept.{IsKept}
use Rattle.pm_client.specs.declared.client.Client.{Client}
use Rattle.pm_client.specs.declared.taken.MessageKind.{MessageKind}
use Rattle.pm_client.specs.declared.taken.MessageKind.TheVariants.{Submit as Submission, Ask as Asking}
use Rattle.pm_client.specs.Clients.{message_at}
use Rattle.pm_client.specs.Kins.{Kin}
use Rattle.pm_session.specs.declared.line.Act.{Act}
use Rattle.pm_session.specs.declared.line.Act.TheVariants.{Edit, Undo, Redo, UndoEvent, Cursor, Submit, Ask, Present, Take, Push, Pull, Forge, Enter}
use Rattle.pm_session.specs.declared.line.Line.{Line}
use Rattle.pm_session.specs.Events.{State}
use Rattle.pm_session.specs.Left.{LeftByLine, LeftByExchange, LeftPulling}
use Rattle.pm_session.proofs.Editors.{AsWas, WasPresenting, WasExchanging, EditorLeft}
use Rattle.pm_session.proofs.SoundLaws.{message-stands}
use Rattle.pm_session.proofs.Moves.{Moved, unmoved, presented-moved, composes-moved, sent-moved, given-moved}

-- what holds in any case holds where memory ran out
pub left-err : {A E P : Type 0} (r : Result A E) → P → OnErr r P
left-err (Ok a) p = tt
left-err (Err e) p = p

-- what was left of a room is what was left of an equal one
module _ {Rules Doc Reason C : Type 0} (m : Meaning Rules Doc Reason C) (rules : Rules) where
  pub exchange-at : (kind : MessageKind) (i : ℕ) (r s t : State C Rules Doc Reason) → r ≡ s → LeftByExchange m rules kind i r t → LeftByExchange m rules kind i s t
  exchange-at kind i r s t e h = subst (λ (x : State C Rules Doc Reason). LeftByExchange m rules kind i x t) e h

  pub pulling-at : (r s t : State C Rules Doc Reason) → r ≡ s → LeftPulling m rules r t → LeftPulling m rules s t
  pulling-at r s t e h = subst (λ (x : State C Rules Doc Reason). LeftPulling m rules x t) e h

  pub line-at : {Op : Type 0} (line : Line Op C) (r s t : State C Rules Doc Reason) → r ≡ s → LeftByLine m rules r line t → LeftByLine m rules s line t
  line-at line r s t e h = subst (λ (x : State C Rules Doc Reason). LeftByLine m rules x line t) e h

module _ {Rules Doc Reason C : Type 0} (m : Meaning Rules Doc Reason C) (rules : Rules) (laws : Laws m) where
  module _ (a : Authority C Rules Doc Reason) (stood : IsKept m rules a) (c : Client C Rules Doc Reason) (kin : Kin m rules a.first a.log c) where
    -- the client and the authority moved in some way
    abbrev Moves : Authority C Rules Doc Reason × Client C Rules Doc Reason → Type 0
    Moves p = (composes gets : Bool) × Moved m rules a c composes gets p.0 p.1

    as-was : (p : Authority C Rules Doc Reason × Client C Rules Doc Reason) → AsWas m rules a c p → Moves p
    as-was p e = subst Moves (sym e) (false, false, unmoved m rules laws a stood c kin)

    presenting : (j : ℕ) (x : Message C) → message_at c j ≡ Some x → (p : Authority C Rules Doc Reason × Client C Rules Doc Reason) → WasPresenting m rules a c x p → Moves p
    presenting j x at p (inl e) = as-was p e
    presenting j x at p (inr e) =
        subst Moves (sym e) (false, false, presented-moved m rules laws a stood c kin x (message-stands m rules laws a.first a.log c kin j x at))

    pub exchanging : (kind : MessageKind) (p : Authority C Rules Doc Reason × Client C Rules Doc Reason) → WasExchanging m rules a c kind p → Moves p
    exchanging kind p (inl e) = as-was p e
    exchanging kind p (inr (inl e)) = subst Moves (sym e) (true, false, composes-moved m rules laws a stood c kin kind)
    exchanging kind p (inr (inr (inl e))) = subst Moves (sym e) (true, false, sent-moved m rules laws a stood c kin kind)
    exchanging kind p (inr (inr (inr e))) = subst Moves (sym e) (true, true, given-moved m rules laws a stood c kin kind)

    pub left-moved : {Op : Type 0} (act : Act Op C) (p : Authority C Rules Doc Reason × Client C Rules Doc Reason) → EditorLeft m rules a c act p → Moves p
    left-moved (Edit op event) p h = as-was p h
    left-moved Undo p h = as-was p h
    left-moved Redo p h = as-was p h
    left-moved (UndoEvent number) p h = as-was p h
    left-moved (Cursor pos side) p h = as-was p h
    left-moved Submit p h = as-was p h
    left-moved Ask p h = as-was p h
    left-moved (Present j) p h = presenting j h.0 h.1 p h.2
    left-moved (Take n) p h = as-was p h
    left-moved (Push lost) p h = exchanging Submission p h
    left-moved (Pull lost) p h = exchanging Asking p h
    left-moved (Forge version steps) p h = as-was p h
    left-moved Enter p h = as-was p h
