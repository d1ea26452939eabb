-- No message that a client composed is refused for a step.
use Rattle.std.specs.Prelude.{◌≡◌, ℕ, zero, suc, nat_lt, if◌then◌else◌, Bool, true, false, List, [], ◌∷◌, Option, Some, None, Result, Ok, Err, refl}
use Rattle.std.proofs.Common.{sym, ap, ◌∙◌, subst}
use Rattle.pm_map.specs.declared.side.Side.{Side}
use Rattle.pm_change.specs.Changes.{Meaning, Laws}
use Rattle.pm_change.specs.declared.no_step.NoStep.{NoStep}
use Rattle.pm_change.specs.declared.no_step.NoStep.TheVariants.{Range}
use Rattle.pm_authority.specs.declared.authority.Authority.{Authority}
use Rattle.pm_authority.specs.declared.running.Refusal.{Refusal}
use Rattle.pm_authority.specs.declared.message.Message.{Message}
use Rattle.pm_authority.specs.declared.message.Answer.{Answer}
use Rattle.pm_authority.specs.Kept.{IsKept}
use Rattle.pm_authority.specs.Presents.{presented}
use Rattle.pm_client.specs.declared.client.Client.{Client}
use Rattle.pm_client.specs.declared.taken.MessageKind.{MessageKind}
use Rattle.pm_client.specs.declared.taken.MessageKind.TheVariants.{Submit as Submission, Ask as Asking}
use Rattle.pm_client.specs.Clients.{edited, undone_last, redone_last, undone_event, cursor_set, message_of, message_at, composed, kept}
use Rattle.pm_client.specs.Kins.{Kin}
use Rattle.pm_client.proofs.Keeps.{kin-composed}
use Rattle.pm_session.specs.declared.line.Line.{Line}
use Rattle.pm_session.specs.declared.line.Act.{Act}
use Rattle.pm_session.specs.declared.line.Act.TheVariants.{Edit, Undo, Redo, UndoEvent, Cursor, Submit, Ask, Present, Take, Push, Pull, Forge, Enter}
use Rattle.pm_session.specs.declared.member.Member.{Member}
use Rattle.pm_session.specs.declared.member.Member.TheVariants.{Editor, Raw}
use Rattle.pm_session.specs.declared.outcome.Outcome.{Outcome}
use Rattle.pm_session.specs.declared.outcome.Outcome.TheVariants.{NoStep as NoneMade, CursorAt}
use Rattle.pm_session.specs.Events.{State, told, made, edits, turns, sets, ends, acted, played}
use Rattle.pm_session.specs.Sessions.{session}
use Rattle.pm_session.specs.Sounds.{MemberStands, Sound}
use Rattle.pm_session.specs.Suits.{ActSuits, SuitsRoom, LinesSuit}
use Rattle.pm_session.specs.Refusals.{RefusesNoStep, TellsNoRefusal, GetsNoRefusal, EditorGetsNoRefusal, NoEditorRefused, NoMessageRefused}
use Rattle.pm_session.proofs.Editors.{presents, exchanges_at, editor_acts, acted-editor}
use Rattle.pm_session.proofs.Unrefusing.{told-none}
use Rattle.pm_session.proofs.SoundLaws.{message-stands, new-stands}
use Rattle.pm_session.proofs.Exchanges.{refuses-none}
use Rattle.pm_session.proofs.Playing.{suits-first, suits-rest, played-sound}

module _ {Rules Doc Reason C : Type 0} where
  -- what is told of an answer that refuses no step
  tells : (a : Answer C Rules Doc Reason) → RefusesNoStep a → TellsNoRefusal (told a)
  tells a h = told-none a (told a) refl h

  made-none : (c : Client C Rules Doc Reason) (steps : List C) (r : Result (Client C Rules Doc Reason) (Refusal Reason)) → GetsNoRefusal (made c steps r).0
  made-none c steps (Ok next) = tt
  made-none c steps (Err e) = tt

  turns-none : (c : Client C Rules Doc Reason) (o : Option (ℕ × Client C Rules Doc Reason)) → GetsNoRefusal (turns c o).0
  turns-none c None = tt
  turns-none c (Some p) = tt

module _ {Rules Doc Reason C : Type 0} (m : Meaning Rules Doc Reason C) (rules : Rules) (laws : Laws m) (a : Authority C Rules Doc Reason) (stood : IsKept m rules a)
    (c : Client C Rules Doc Reason) (kin : Kin m rules a.first a.log c) where
  edits-none : (event : Option ℕ) (r : Result (List C) NoStep) → GetsNoRefusal (edits m rules c event r).0
  edits-none event (Ok steps) = made-none c steps (edited m rules c steps event)
  edits-none event (Err reason) = tt

  sets-none : (p : ℕ) (side : Side) → GetsNoRefusal (sets m c p side).0
  sets-none p side = from (nat_lt (m.size c.doc) p)
    where
      chosen : Bool → Outcome C Rules Doc Reason × Client C Rules Doc Reason
      chosen b = if b then (NoneMade Range, c) else (CursorAt p, cursor_set c p side)

      from : (b : Bool) → GetsNoRefusal (chosen b).0
      from true = tt
      from false = tt

  ends-none : (b : Bool) (d : Client C Rules Doc Reason) (answer : Answer C Rules Doc Reason) → RefusesNoStep answer → GetsNoRefusal (ends m rules b d answer).0
  ends-none true d answer h = tells answer h
  ends-none false d answer h = tells answer h

  pub exchanges-none : (kind : MessageKind) (lost : Bool) → GetsNoRefusal (exchanges_at m rules a c kind lost).0
  exchanges-none kind lost =
      let p = presented m rules a (message_of c kind) in
      ends-none lost (kept (composed c kind) p.0) p.0
      (refuses-none m rules laws a stood (composed c kind) (kin-composed m rules a.first a.log c kin kind) (message_of c kind) (new-stands m rules laws c kind))

  -- a message that the client composed
  pub composed-none : (j : ℕ) (message : Message C) → message_at c j ≡ Some message → RefusesNoStep (presented m rules a message).0
  composed-none j message at = refuses-none m rules laws a stood c kin message (message-stands m rules laws a.first a.log c kin j message at)

  presents-none : (j : ℕ) → GetsNoRefusal (presents m rules a c (message_at c j)).0
  presents-none j = from (message_at c j) refl
    where
      from : (o : Option (Message C)) → message_at c j ≡ o → GetsNoRefusal (presents m rules a c o).0
      from None e = tt
      from (Some message) e = tells (presented m rules a message).0 (composed-none j message e)

  pub acted-none : {Op : Type 0} (makes : Doc → Op → Result (List C) NoStep) (act : Act Op C) → GetsNoRefusal (editor_acts m rules makes a act c).0
  acted-none makes (Edit op event) = edits-none event (makes c.doc op)
  acted-none makes Undo = turns-none c (undone_last m rules c)
  acted-none makes Redo = turns-none c (redone_last m rules c)
  acted-none makes (UndoEvent number) = turns-none c (undone_event m rules c number)
  acted-none makes (Cursor p side) = sets-none p side
  acted-none makes Submit = tt
  acted-none makes Ask = tt
  acted-none makes (Present j) = presents-none j
  acted-none makes (Take n) = tt
  acted-none makes (Push lost) = exchanges-none Submission lost
  acted-none makes (Pull lost) = exchanges-none Asking lost
  acted-none makes (Forge version steps) = tt
  acted-none makes Enter = tt

module _ {Rules Doc Reason C : Type 0} (m : Meaning Rules Doc Reason C) (rules : Rules) (laws : Laws m) where
  -- in a sound room no message of an editor is refused for a step
  pub messages-none : (s : State C Rules Doc Reason) → Sound m rules s → NoMessageRefused m rules s
  messages-none s sound i j c message at is = composed-none m rules laws s.authority sound.authority c (sound.stand i (Editor c) at).1.kin j message is

  module _ {Op : Type 0} (makes : Doc → Op → Result (List C) NoStep) where
    member-none : (a : Authority C Rules Doc Reason) → IsKept m rules a → (x : Member C Rules Doc Reason) → MemberStands m rules a.first a.log x → (act : Act Op C) → ActSuits x act
        → EditorGetsNoRefusal act (acted m rules makes a act x).0
    member-none a stood (Raw name serial) stands act suits none = absurd (let e : true ≡ false = sym suits ∙ none in cc)
    member-none a stood (Editor c) stands act suits none =
        subst GetsNoRefusal (sym (ap (λ p. p.0) (acted-editor m rules makes a act c))) (acted-none m rules laws a stood c stands.kin makes act)

    pub played-none : (s : State C Rules Doc Reason) → Sound m rules s → (line : Line Op C) → SuitsRoom s line → EditorGetsNoRefusal line.act (played m rules makes s line).0
    played-none s sound line suits =
        rw suits.at (member-none s.authority sound.authority suits.member (sound.stand line.client suits.member suits.at).1 line.act suits.suits)

    pub session-none : (s : State C Rules Doc Reason) (lines : List (Line Op C)) → Sound m rules s → LinesSuit s lines → NoEditorRefused lines (session m rules makes s lines).0
    session-none s [] sound suit k line o at_line at_o = absurd (cc)
    session-none s (first ∷ lines) sound suit zero line o at_line at_o =
        let same : first ≡ line = cc in
        let is : (played m rules makes s first).0 ≡ o = cc in
        subst (λ (l : Line Op C). EditorGetsNoRefusal l.act o) same
        (subst (λ (p : Outcome C Rules Doc Reason). EditorGetsNoRefusal first.act p) is (played-none s sound first (suits-first m rules laws makes s sound first lines suit)))
    session-none s (first ∷ lines) sound suit (suc k) line o at_line at_o =
        let one = suits-first m rules laws makes s sound first lines suit in
        session-none (played m rules makes s first).1 lines (played-sound m rules laws makes s sound first one) (suits-rest m rules laws makes s sound first lines suit) k line o at_line at_o
