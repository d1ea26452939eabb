-- What a line that ran out of memory left: the parts that were done, one after another, and no other change.
use Rattle.std.specs.Prelude.{◌≡◌, ◌⊎◌, ℕ, List, Result, Some, length, slice_get, take}
use Rattle.pm_change.specs.Changes.{Meaning}
use Rattle.pm_change.specs.declared.no_step.NoStep.{NoStep}
use Rattle.pm_authority.specs.declared.authority.Authority.{Authority}
use Rattle.pm_authority.specs.declared.message.Message.{Message}
use Rattle.pm_authority.specs.declared.message.Answer.{Answer}
use Rattle.pm_authority.specs.Presents.{presented}
use Rattle.pm_client.specs.declared.client.Client.{Client}
use Rattle.pm_client.specs.declared.taken.MessageKind.{MessageKind}
use Rattle.pm_client.specs.declared.taken.MessageKind.TheVariants.{Submit as Submission, Ask as Asking}
use Rattle.pm_client.specs.Clients.{composed, kept, message_of, message_at}
use Rattle.pm_session.specs.declared.line.Act.{Act}
use Rattle.pm_session.specs.declared.line.Act.TheVariants.{Edit, Undo, Redo, UndoEvent, Cursor, Submit, Ask, Present, Take, Push, Pull, Forge, Enter}
use Rattle.pm_session.specs.declared.member.Member.{Member}
use Rattle.pm_session.specs.declared.member.Member.TheVariants.{Editor, Raw}
use Rattle.pm_session.specs.declared.line.Line.{Line}
use Rattle.pm_session.specs.Events.{State, placed}
use Rattle.pm_session.specs.Sessions.{session, exchanged, brought_up, in_turn}

-- What running out of memory leaves, wherever the messages are presented. `same` says that whoever answers them is as
-- before, and
-- `tells` that it was presented a message, gave an answer, and became what it is.
module _ {Rules Doc Reason C : Type 0} (same : Type 0) (tells : Message C → Answer C Rules Doc Reason → Type 0) where
  -- nothing was done
  abbrev pub LeftAsWas : Member C Rules Doc Reason → Member C Rules Doc Reason → Type 0
  LeftAsWas x next = same × (next ≡ x)

  -- a message was to be presented: nothing was done, or it was presented and the answer not kept
  abbrev pub LeftPresenting : Message C → Client C Rules Doc Reason → Member C Rules Doc Reason → Type 0
  LeftPresenting message c next = (same × (next ≡ Editor c)) ⊎ ((answer : Answer C Rules Doc Reason) × tells message answer × (next ≡ Editor c))

  -- a message was to be exchanged: nothing was done, or it was composed, or presented too, or its answer kept too
  abbrev pub LeftExchanging : MessageKind → Client C Rules Doc Reason → Member C Rules Doc Reason → Type 0
  LeftExchanging kind c next =
      (same × (next ≡ Editor c))
      ⊎ ((same × (next ≡ Editor (composed c kind)))
      ⊎ (((answer : Answer C Rules Doc Reason) × tells (message_of c kind) answer × (next ≡ Editor (composed c kind)))
      ⊎ ((answer : Answer C Rules Doc Reason) × tells (message_of c kind) answer × (next ≡ Editor (kept (composed c kind) answer)))))

  abbrev pub LeftByEditor : {Op : Type 0} → Act Op C → Client C Rules Doc Reason → Member C Rules Doc Reason → Type 0
  LeftByEditor (Edit op event) c next = LeftAsWas (Editor c) next
  LeftByEditor Undo c next = LeftAsWas (Editor c) next
  LeftByEditor Redo c next = LeftAsWas (Editor c) next
  LeftByEditor (UndoEvent number) c next = LeftAsWas (Editor c) next
  LeftByEditor (Cursor pos side) c next = LeftAsWas (Editor c) next
  LeftByEditor Submit c next = LeftAsWas (Editor c) next
  LeftByEditor Ask c next = LeftAsWas (Editor c) next
  LeftByEditor (Present j) c next = (message : Message C) × (message_at c j ≡ Some message) × LeftPresenting message c next
  LeftByEditor (Take n) c next = LeftAsWas (Editor c) next
  LeftByEditor (Push lost) c next = LeftExchanging Submission c next
  LeftByEditor (Pull lost) c next = LeftExchanging Asking c next
  LeftByEditor (Forge version steps) c next = LeftAsWas (Editor c) next
  LeftByEditor Enter c next = LeftAsWas (Editor c) next

  -- an act by a member left this; of what a raw client forges nothing was done
  abbrev pub LeftBy : {Op : Type 0} → Act Op C → Member C Rules Doc Reason → Member C Rules Doc Reason → Type 0
  LeftBy act (Editor c) next = LeftByEditor act c next
  LeftBy act (Raw name serial) next = LeftAsWas (Raw name serial) next

  -- a member that was to exchange a message of this kind left this; a raw client does nothing
  abbrev pub LeftByMember : MessageKind → Member C Rules Doc Reason → Member C Rules Doc Reason → Type 0
  LeftByMember kind (Editor c) next = LeftExchanging kind c next
  LeftByMember kind (Raw name serial) next = LeftAsWas (Raw name serial) next

-- an authority was presented a message, gave this answer, and became the new one
abbrev pub AuthorityTells : {Rules Doc Reason C : Type 0} → Meaning Rules Doc Reason C → Rules → Authority C Rules Doc Reason → Authority C Rules Doc Reason
    → Message C → Answer C Rules Doc Reason → Type 0
AuthorityTells m rules a new message answer = (answer, new) ≡ presented m rules a message

-- a room that a line left so
pub record LeftByLine {Rules Doc Reason C Op : Type 0} (m : Meaning Rules Doc Reason C) (rules : Rules) (s : State C Rules Doc Reason) (line : Line Op C)
    (t : State C Rules Doc Reason) : Type 0 where
  pub member : Member C Rules Doc Reason
  pub authority : Authority C Rules Doc Reason
  pub next : Member C Rules Doc Reason
  pub at : slice_get s.members line.client ≡ Some member
  pub left : LeftBy (authority ≡ s.authority) (AuthorityTells m rules s.authority authority) line.act member next
  pub left_is : t ≡ placed s line.client authority next

-- A room that lines played one after another left so: the first k were played, and the next left it, or nothing of it was done.
pub record LeftByLines {Rules Doc Reason C Op : Type 0} (m : Meaning Rules Doc Reason C) (rules : Rules) (makes : Doc → Op → Result (List C) NoStep)
    (s : State C Rules Doc Reason) (lines : List (Line Op C)) (t : State C Rules Doc Reason) : Type 0 where
  pub played : ℕ
  pub left : (t ≡ (session m rules makes s (take played lines)).1)
      ⊎ ((line : Line Op C) × (slice_get lines played ≡ Some line) × LeftByLine m rules (session m rules makes s (take played lines)).1 line t)

-- a room that member i left so, which was to exchange a message of this kind
pub record LeftByExchange {Rules Doc Reason C : Type 0} (m : Meaning Rules Doc Reason C) (rules : Rules) (kind : MessageKind) (i : ℕ) (s t : State C Rules Doc Reason) : Type 0 where
  pub member : Member C Rules Doc Reason
  pub authority : Authority C Rules Doc Reason
  pub next : Member C Rules Doc Reason
  pub at : slice_get s.members i ≡ Some member
  pub left : LeftByMember (authority ≡ s.authority) (AuthorityTells m rules s.authority authority) kind member next
  pub left_is : t ≡ placed s i authority next

-- The members before member i were brought up, and i ran out of memory when it asked, or when it submitted after that.
pub record LeftBringing {Rules Doc Reason C : Type 0} (m : Meaning Rules Doc Reason C) (rules : Rules) (s t : State C Rules Doc Reason) : Type 0 where
  pub i : ℕ
  pub left : LeftByExchange m rules Asking i (in_turn (brought_up m rules) 0 i s) t
      ⊎ LeftByExchange m rules Submission i (exchanged m rules Asking i (in_turn (brought_up m rules) 0 i s)) t

-- the members before member i asked, and i ran out of memory when it asked
pub record LeftPulling {Rules Doc Reason C : Type 0} (m : Meaning Rules Doc Reason C) (rules : Rules) (s t : State C Rules Doc Reason) : Type 0 where
  pub i : ℕ
  pub left : LeftByExchange m rules Asking i (in_turn (exchanged m rules Asking) 0 i s) t

-- A room that was to settle: memory ran out while the editors were brought up, or after that while they asked once more.
abbrev pub LeftBySettle : {Rules Doc Reason C : Type 0} → Meaning Rules Doc Reason C → Rules → State C Rules Doc Reason → State C Rules Doc Reason → Type 0
LeftBySettle m rules s t = LeftBringing m rules s t ⊎ LeftPulling m rules (in_turn (brought_up m rules) 0 (length s.members) s) t
