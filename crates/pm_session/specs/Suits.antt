-- Which lines a room may play: those that name what was composed or kept by then, and do not enter.
use Rattle.std.specs.Prelude.{◌≡◌, ℕ, ◌≤◌, ◌<◌, ◌==◌, ◌&&◌, nat_lt, nat_le, Bool, true, false, List, [], ◌∷◌, ◌++◌, length, count_by, slice_get, Some}
use Rattle.pm_client.specs.declared.client.Client.{Client}
use Rattle.pm_session.specs.declared.member.Member.{Member}
use Rattle.pm_session.specs.declared.member.Member.TheVariants.{Editor, Raw}
use Rattle.pm_session.specs.declared.line.Line.{Line}
use Rattle.pm_session.specs.declared.line.Act.{Act}
use Rattle.pm_session.specs.declared.line.Act.TheVariants.{Edit, Undo, Redo, UndoEvent, Cursor, Submit, Ask, Present, Take, Push, Pull, Forge, Enter}
use Rattle.pm_session.specs.Events.{State}
use Rattle.pm_session.specs.Members.{name_of, kinds_of}

module _ {Op C : Type 0} where
  -- an act that composes one message
  abbrev pub composes_one : Act Op C → Bool
  composes_one Submit = true
  composes_one Ask = true
  composes_one (Push lost) = true
  composes_one (Pull lost) = true
  composes_one _ = false

  -- an act that gets one answer, which is kept
  abbrev pub gets_one : Act Op C → Bool
  gets_one (Present j) = true
  gets_one (Push lost) = true
  gets_one (Pull lost) = true
  gets_one _ = false

  -- an act that forges
  abbrev pub is_forge : Act Op C → Bool
  is_forge (Forge version steps) = true
  is_forge _ = false

  -- an act that sets a cursor
  abbrev pub sets_one : Act Op C → Bool
  sets_one (Cursor p side) = true
  sets_one _ = false

  -- an act by which a client comes late
  abbrev pub enters : Act Op C → Bool
  enters Enter = true
  enters _ = false

  -- An act that names a message or an answer names one of so many. `Enter` suits no member, whatever there is.
  abbrev pub names_one : ℕ → ℕ → Act Op C → Bool
  names_one messages answers (Present j) = nat_lt 0 j && nat_le j messages
  names_one messages answers (Take n) = nat_lt 0 n && nat_le n answers
  names_one messages answers Enter = false
  names_one messages answers _ = true

  -- how many of these lines are the client's and do this
  abbrev pub done_by : (Act Op C → Bool) → ℕ → List (Line Op C) → ℕ
  done_by does i lines = count_by (λ line. (line.client == i) && does line.act) lines

  -- how many messages the client composed on these lines
  abbrev pub composed_by : ℕ → List (Line Op C) → ℕ
  composed_by i lines = done_by composes_one i lines

  -- how many answers the client got on these lines
  abbrev pub answered_by : ℕ → List (Line Op C) → ℕ
  answered_by i lines = done_by gets_one i lines

  -- An act that names a message or an answer names one of so many. `Enter` suits no member, whatever there is.
  abbrev pub NamesOneOf : ℕ → ℕ → Act Op C → Type 0
  NamesOneOf messages answers (Present j) = (0 < j) × (j ≤ messages)
  NamesOneOf messages answers (Take n) = (0 < n) × (n ≤ answers)
  NamesOneOf messages answers (Edit op event) = Unit {0}
  NamesOneOf messages answers Undo = Unit {0}
  NamesOneOf messages answers Redo = Unit {0}
  NamesOneOf messages answers (UndoEvent number) = Unit {0}
  NamesOneOf messages answers (Cursor p side) = Unit {0}
  NamesOneOf messages answers Submit = Unit {0}
  NamesOneOf messages answers Ask = Unit {0}
  NamesOneOf messages answers (Push lost) = Unit {0}
  NamesOneOf messages answers (Pull lost) = Unit {0}
  NamesOneOf messages answers (Forge version steps) = Unit {0}
  NamesOneOf messages answers Enter = ⊥

  -- A line that suits what the earlier lines composed and got. `raw` says of each client whether it is a raw one: the line's
  -- client is there, and it is a raw one exactly where the line forges.
  pub record Suits (raw : List Bool) (earlier : List (Line Op C)) (line : Line Op C) : Type 0 where
    pub kind : slice_get raw line.client ≡ Some (is_forge line.act)
    pub named : NamesOneOf (composed_by line.client earlier) (answered_by line.client earlier) line.act

  -- each line suits what the lines before it composed and got
  abbrev pub AllSuit : List Bool → List (Line Op C) → List (Line Op C) → Type 0
  AllSuit raw earlier [] = Unit {0}
  AllSuit raw earlier (line ∷ lines) = Suits raw earlier line × AllSuit raw (earlier ++ line ∷ []) lines

  -- An act that suits a member as it stands. An editor doesn't forge, and the message or the answer that the act names is
  -- there. A raw client forges, and does nothing else. No member enters.
  abbrev pub ActSuits : {Rules Doc Reason : Type 0} → Member C Rules Doc Reason → Act Op C → Type 0
  ActSuits (Editor c) act = (is_forge act ≡ false) × NamesOneOf (length c.messages) (length c.answers) act
  ActSuits (Raw name serial) act = is_forge act ≡ true

  -- a line of this member that suits it as it stands
  pub record SuitsMember {Rules Doc Reason : Type 0} (x : Member C Rules Doc Reason) (line : Line Op C) : Type 0 where
    pub client : name_of x ≡ line.client
    pub suits : ActSuits x line.act

  -- a line that suits a room as it stands
  pub record SuitsRoom {Rules Doc Reason : Type 0} (s : State C Rules Doc Reason) (line : Line Op C) : Type 0 where
    pub member : Member C Rules Doc Reason
    pub at : slice_get s.members line.client ≡ Some member
    pub suits : ActSuits member line.act

module _ {Rules Doc Reason C Op : Type 0} where
  -- each editor has as many messages and answers as it composed and got on these lines
  abbrev pub Counted : State C Rules Doc Reason → List (Line Op C) → Type 0
  Counted s lines =
      (i : ℕ) (c : Client C Rules Doc Reason) → slice_get s.members i ≡ Some (Editor c)
      → (length c.messages ≡ composed_by i lines) × (length c.answers ≡ answered_by i lines)

  -- Lines that suit a room as it stands. Its messages and answers are those of some earlier lines.
  pub record LinesSuit (s : State C Rules Doc Reason) (lines : List (Line Op C)) : Type 0 where
    pub earlier : List (Line Op C)
    pub counted : Counted s earlier
    pub suit : AllSuit (kinds_of s.members) earlier lines
