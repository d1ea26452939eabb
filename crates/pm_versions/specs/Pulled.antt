-- A client that came late is as one that was there from the first, and pulled instead.
use Rattle.std.specs.Prelude.{◌≡◌, ℕ, ◌+◌, ◌==◌, ◌&&◌, ◌||◌, if◌then◌else◌, Bool, true, false, List, [], ◌∷◌, length, slice_get, Some}
use Rattle.pm_authority.specs.declared.named.Named.{Named}
use Rattle.pm_authority.specs.declared.message.Message.TheVariants.{Ask as AskMessage}
use Rattle.pm_authority.specs.declared.message.Answer.TheVariants.{Entries}
use Rattle.pm_client.specs.declared.client.Client.{Client}
use Rattle.pm_client.specs.Clients.{new_client}
use Rattle.pm_session.specs.declared.line.Line.{Line}
use Rattle.pm_session.specs.declared.line.Act.{Act}
use Rattle.pm_session.specs.declared.line.Act.TheVariants.{Edit, Undo, Redo, UndoEvent, Cursor, Submit, Ask, Present, Take, Push, Pull, Forge, Enter}
use Rattle.pm_session.specs.declared.member.Member.{Member}
use Rattle.pm_session.specs.declared.member.Member.TheVariants.{Editor, Raw}
use Rattle.pm_session.specs.Events.{State}
use Rattle.pm_session.specs.Suits.{enters}

module _ {Op C : Type 0} where
  -- the same act where the client has one message and one answer more, before all others
  abbrev pub raised : Act Op C → Act Op C
  raised (Present j) = Present (j + 1)
  raised (Take n) = Take (n + 1)
  raised (Edit op event) = Edit op event
  raised Undo = Undo
  raised Redo = Redo
  raised (UndoEvent number) = UndoEvent number
  raised (Cursor p side) = Cursor p side
  raised Submit = Submit
  raised Ask = Ask
  raised (Push lost) = Push lost
  raised (Pull lost) = Pull lost
  raised (Forge version steps) = Forge version steps
  raised Enter = Enter

  -- In place of an act that enters stands a pull, and the later acts of who entered name messages and answers one higher.
  -- `has_entered` says of each client whether it entered before this line.
  abbrev pub pulled_line : (ℕ → Bool) → Line Op C → Line Op C
  pulled_line has_entered line =
      record line { act = if enters line.act then Pull false else (if has_entered line.client then raised line.act else line.act) }

  -- which clients entered by the end of this line
  abbrev pub entered_with : (ℕ → Bool) → Line Op C → ℕ → Bool
  entered_with has_entered line i = (enters line.act && (line.client == i)) || has_entered i

  -- lines of a session in which clients enter, as lines of one in which they pull
  abbrev pub pulled_lines : (ℕ → Bool) → List (Line Op C) → List (Line Op C)
  pulled_lines has_entered [] = []
  pulled_lines has_entered (line ∷ lines) = pulled_line has_entered line ∷ pulled_lines (entered_with has_entered line) lines

module _ {Rules Doc Reason C : Type 0} where
  -- the client, which composed one message before all others, an ask at version 0, and got these entries for it
  abbrev pub with_pull : List (Named C) → Client C Rules Doc Reason → Client C Rules Doc Reason
  with_pull entries c = record c { messages = AskMessage 0 ∷ c.messages; answers = Entries 0 entries ∷ c.answers }

  -- The second member is the first, but that it pulled once before all else. So their versions, bases, pending steps, documents,
  -- cursors and dropped serials are the same.
  abbrev pub IsPulled : Member C Rules Doc Reason → Member C Rules Doc Reason → Type 0
  IsPulled (Editor c) y = (entries : List (Named C)) × (y ≡ Editor (with_pull entries c))
  IsPulled (Raw name serial) y = ⊥

  -- the same of a member that entered; one that did not is the same in both rooms
  abbrev pub IsAsPulled : Bool → Member C Rules Doc Reason → Member C Rules Doc Reason → Type 0
  IsAsPulled true x y = IsPulled x y
  IsAsPulled false x y = y ≡ x

  -- A room that clients entered is as one in which they pulled.
  pub record AsPulled (has_entered : ℕ → Bool) (s t : State C Rules Doc Reason) : Type 0 where
    pub authority : t.authority ≡ s.authority
    pub count : length t.members ≡ length s.members
    pub members : (i : ℕ) (x y : Member C Rules Doc Reason) → slice_get s.members i ≡ Some x → slice_get t.members i ≡ Some y → IsAsPulled (has_entered i) x y

  -- who enters by this line is as it came to the room's first document, and did not enter before
  pub record EntersNew {Op : Type 0} (has_entered : ℕ → Bool) (s : State C Rules Doc Reason) (line : Line Op C) : Type 0 where
    pub new : enters line.act ≡ true → slice_get s.members line.client ≡ Some (Editor (new_client line.client s.authority.first))
    pub once : enters line.act ≡ true → has_entered line.client ≡ false
