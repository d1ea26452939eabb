-- What one editor does at an authority, and what running out of memory leaves of it.
use Rattle.std.specs.Prelude.{◌≡◌, ◌⊎◌, Bool, List, Option, Some, None, Result, refl}
use Rattle.std.proofs.Common.{ap, ◌∙◌, inl, inr}
use Rattle.pm_change.specs.Changes.{Meaning}
use Rattle.pm_change.specs.declared.no_step.NoStep.{NoStep}
use Rattle.pm_change.specs.declared.no_step.NoStep.TheVariants.{NotThere}
use Rattle.pm_authority.specs.declared.message.Message.{Message}
use Rattle.pm_authority.specs.declared.message.Answer.{Answer}
use Rattle.pm_authority.specs.declared.authority.Authority.{Authority}
use Rattle.pm_authority.specs.Presents.{presented}
use Rattle.pm_client.specs.declared.client.Client.{Client}
use Rattle.pm_client.specs.declared.taken.MessageKind.{MessageKind}
use Rattle.pm_client.specs.declared.taken.MessageKind.TheVariants.{Submit as Submission, Ask as Asking}
use Rattle.pm_client.specs.Clients.{undone_last, redone_last, undone_event, message_of, message_at, composed, kept}
use Rattle.pm_session.specs.declared.line.Act.{Act}
use Rattle.pm_session.specs.declared.line.Act.TheVariants.{Edit, Undo, Redo, UndoEvent, Cursor, Submit, Ask, Present, Take, Push, Pull, Forge, Enter}
use Rattle.pm_session.specs.declared.member.Member.{Member}
use Rattle.pm_session.specs.declared.member.Member.TheVariants.{Editor}
use Rattle.pm_session.specs.declared.outcome.Outcome.{Outcome}
use Rattle.pm_session.specs.declared.outcome.Outcome.TheVariants.{NoStep as NoneMade}
use Rattle.pm_session.specs.Events.{edits, turns, sets, composes, takes, keeps, ends, by_answer, acted}
use Rattle.pm_session.specs.Left.{AuthorityTells, LeftAsWas, LeftPresenting, LeftExchanging, LeftBy}

module _ {Rules Doc Reason C : Type 0} where
  -- an act that leaves the authority as it was
  abbrev pub local : Authority C Rules Doc Reason → Outcome C Rules Doc Reason × Client C Rules Doc Reason
      → Outcome C Rules Doc Reason × Authority C Rules Doc Reason × Client C Rules Doc Reason
  local a p = (p.0, a, p.1)

  -- the editor as a member
  abbrev pub lifted : Outcome C Rules Doc Reason × Authority C Rules Doc Reason × Client C Rules Doc Reason
      → Outcome C Rules Doc Reason × Authority C Rules Doc Reason × Member C Rules Doc Reason
  lifted p = (p.0, p.1, Editor p.2)

module _ {Rules Doc Reason C : Type 0} (m : Meaning Rules Doc Reason C) (rules : Rules) where
  -- an editor presents a message and keeps the answer
  abbrev pub presents : Authority C Rules Doc Reason → Client C Rules Doc Reason → Option (Message C)
      → Outcome C Rules Doc Reason × Authority C Rules Doc Reason × Client C Rules Doc Reason
  presents a c None = (NoneMade NotThere, a, c)
  presents a c (Some message) = let p = presented m rules a message in ((keeps c (Some p.0)).0, p.1, kept c p.0)

  -- an editor composes a message, presents it and keeps the answer, and takes it unless it is lost
  abbrev pub exchanges_at : Authority C Rules Doc Reason → Client C Rules Doc Reason → MessageKind → Bool
      → Outcome C Rules Doc Reason × Authority C Rules Doc Reason × Client C Rules Doc Reason
  exchanges_at a c kind lost =
      let p = presented m rules a (message_of c kind) in
      let q = ends m rules lost (kept (composed c kind) p.0) p.0 in
      (q.0, p.1, q.1)

  module _ {Op : Type 0} (makes : Doc → Op → Result (List C) NoStep) where
    -- what an editor does by this act
    abbrev pub editor_acts : Authority C Rules Doc Reason → Act Op C → Client C Rules Doc Reason
        → Outcome C Rules Doc Reason × Authority C Rules Doc Reason × Client C Rules Doc Reason
    editor_acts a (Edit op event) c = local a (edits m rules c event (makes c.doc op))
    editor_acts a Undo c = local a (turns c (undone_last m rules c))
    editor_acts a Redo c = local a (turns c (redone_last m rules c))
    editor_acts a (UndoEvent number) c = local a (turns c (undone_event m rules c number))
    editor_acts a (Cursor p side) c = local a (sets m c p side)
    editor_acts a Submit c = local a (composes c Submission)
    editor_acts a Ask c = local a (composes c Asking)
    editor_acts a (Present j) c = presents a c (message_at c j)
    editor_acts a (Take n) c = local a (takes m rules c n)
    editor_acts a (Push lost) c = exchanges_at a c Submission lost
    editor_acts a (Pull lost) c = exchanges_at a c Asking lost
    editor_acts a (Forge version steps) c = (NoneMade NotThere, a, c)
    editor_acts a Enter c = (NoneMade NotThere, a, c)

    -- that is what a member does that is an editor
    pub acted-editor : (a : Authority C Rules Doc Reason) (act : Act Op C) (c : Client C Rules Doc Reason)
        → acted m rules makes a act (Editor c) ≡ lifted (editor_acts a act c)
    acted-editor a (Edit op event) c = refl
    acted-editor a Undo c = refl
    acted-editor a Redo c = refl
    acted-editor a (UndoEvent number) c = refl
    acted-editor a (Cursor p side) c = refl
    acted-editor a Submit c = refl
    acted-editor a Ask c = refl
    acted-editor a (Take n) c = refl
    acted-editor a (Push lost) c = refl
    acted-editor a (Pull lost) c = refl
    acted-editor a (Forge version steps) c = refl
    acted-editor a Enter c = refl
    acted-editor a (Present j) c = from (message_at c j)
      where
        from : (o : Option (Message C))
            → by_answer m rules a o (λ answer. ((keeps c answer).0, Editor (keeps c answer).1)) ≡ lifted (presents a c o)
        from None = refl
        from (Some message) = refl

  -- ---- what running out of memory leaves

  abbrev pub AsWas : Authority C Rules Doc Reason → Client C Rules Doc Reason → Authority C Rules Doc Reason × Client C Rules Doc Reason → Type 0
  AsWas a c p = p ≡ (a, c)

  abbrev pub WasPresenting : Authority C Rules Doc Reason → Client C Rules Doc Reason → Message C → Authority C Rules Doc Reason × Client C Rules Doc Reason → Type 0
  WasPresenting a c message p = (p ≡ (a, c)) ⊎ (p ≡ ((presented m rules a message).1, c))

  abbrev pub WasExchanging : Authority C Rules Doc Reason → Client C Rules Doc Reason → MessageKind → Authority C Rules Doc Reason × Client C Rules Doc Reason → Type 0
  WasExchanging a c kind p =
      let q = presented m rules a (message_of c kind) in
      (p ≡ (a, c)) ⊎ ((p ≡ (a, composed c kind)) ⊎ ((p ≡ (q.1, composed c kind)) ⊎ (p ≡ (q.1, kept (composed c kind) q.0))))

  abbrev pub EditorLeft : {Op : Type 0} → Authority C Rules Doc Reason → Client C Rules Doc Reason → Act Op C → Authority C Rules Doc Reason × Client C Rules Doc Reason → Type 0
  EditorLeft a c (Edit op event) p = AsWas a c p
  EditorLeft a c Undo p = AsWas a c p
  EditorLeft a c Redo p = AsWas a c p
  EditorLeft a c (UndoEvent number) p = AsWas a c p
  EditorLeft a c (Cursor pos side) p = AsWas a c p
  EditorLeft a c Submit p = AsWas a c p
  EditorLeft a c Ask p = AsWas a c p
  EditorLeft a c (Present j) p = (message : Message C) × (message_at c j ≡ Some message) × WasPresenting a c message p
  EditorLeft a c (Take n) p = AsWas a c p
  EditorLeft a c (Push lost) p = WasExchanging a c Submission p
  EditorLeft a c (Pull lost) p = WasExchanging a c Asking p
  EditorLeft a c (Forge version steps) p = AsWas a c p
  EditorLeft a c Enter p = AsWas a c p

  module _ (a new : Authority C Rules Doc Reason) (c : Client C Rules Doc Reason) (next : Member C Rules Doc Reason) where
    abbrev Both : Type 0
    Both = Authority C Rules Doc Reason × Client C Rules Doc Reason

    with-client : Client C Rules Doc Reason → Authority C Rules Doc Reason → Both
    with-client d x = (x, d)

    pair : (b : Authority C Rules Doc Reason) (d : Client C Rules Doc Reason) → new ≡ b → ◌≡◌ {A = Both} (new, d) (b, d)
    unfolding with-client
    pair b d e = ap (with-client d) e

    answered : (message : Message C) (answer : Answer C Rules Doc Reason) → AuthorityTells m rules a new message answer
        → (new ≡ (presented m rules a message).1) × (answer ≡ (presented m rules a message).0)
    answered message answer e = (ap (λ p. p.1) e, ap (λ p. p.0) e)

    as-was : LeftAsWas {Reason = Reason} (new ≡ a) (AuthorityTells m rules a new) (Editor c) next → (d : Client C Rules Doc Reason) × (next ≡ Editor d) × AsWas a c (new, d)
    as-was h = (c, h.1, pair a c h.0)

    presenting : (message : Message C) → LeftPresenting (new ≡ a) (AuthorityTells m rules a new) message c next
        → (d : Client C Rules Doc Reason) × (next ≡ Editor d) × WasPresenting a c message (new, d)
    presenting message (inl h) = (c, h.1, inl (pair a c h.0))
    presenting message (inr h) = (c, h.2, inr (pair (presented m rules a message).1 c (answered message h.0 h.1).0))

    pub exchanging : (kind : MessageKind) → LeftExchanging (new ≡ a) (AuthorityTells m rules a new) kind c next
        → (d : Client C Rules Doc Reason) × (next ≡ Editor d) × WasExchanging a c kind (new, d)
    exchanging kind (inl h) = (c, h.1, inl (pair a c h.0))
    exchanging kind (inr (inl h)) = (composed c kind, h.1, inr (inl (pair a (composed c kind) h.0)))
    exchanging kind (inr (inr (inl h))) =
        let q = presented m rules a (message_of c kind) in
        (composed c kind, h.2, inr (inr (inl (pair q.1 (composed c kind) (answered (message_of c kind) h.0 h.1).0))))
    exchanging kind (inr (inr (inr h))) =
        let q = presented m rules a (message_of c kind) in
        let e = answered (message_of c kind) h.0 h.1 in (
          kept (composed c kind) q.0,
          h.2 ∙ ap (λ x. Editor (kept (composed c kind) x)) e.1,
          inr (inr (inr (pair q.1 (kept (composed c kind) q.0) e.0))),
        )

    -- what is left of a member that is an editor
    pub left-editor : {Op : Type 0} (act : Act Op C) → LeftBy (new ≡ a) (AuthorityTells m rules a new) act (Editor c) next
        → (d : Client C Rules Doc Reason) × (next ≡ Editor d) × EditorLeft a c act (new, d)
    left-editor (Edit op event) h = as-was h
    left-editor Undo h = as-was h
    left-editor Redo h = as-was h
    left-editor (UndoEvent number) h = as-was h
    left-editor (Cursor pos side) h = as-was h
    left-editor Submit h = as-was h
    left-editor Ask h = as-was h
    left-editor (Take n) h = as-was h
    left-editor (Forge version steps) h = as-was h
    left-editor Enter h = as-was h
    left-editor (Push lost) h = exchanging Submission h
    left-editor (Pull lost) h = exchanging Asking h
    left-editor (Present j) h = let p = presenting h.0 h.2 in (p.0, p.1, (h.0, h.1, p.2))
