-- Lines of one member that suit it one after another.
use Rattle.std.specs.Prelude.{◌≡◌, ℕ, ◌+◌, Bool, List, [], ◌∷◌, length, cond}
use Rattle.pm_session.specs.declared.line.Line.{Line}
use Rattle.pm_session.specs.declared.member.Member.{Member}
use Rattle.pm_session.specs.declared.member.Member.TheVariants.{Editor, Raw}
use Rattle.pm_session.specs.Members.{name_of, is_raw}
use Rattle.pm_session.specs.Suits.{composes_one, gets_one, is_forge, NamesOneOf}

module _ {Op C : Type 0} where
  -- A line of the client with this name, which has so many messages and answers and forges or does not.
  pub record SuitsCounts (name : ℕ) (raw : Bool) (messages answers : ℕ) (line : Line Op C) : Type 0 where
    pub client : line.client ≡ name
    pub kind : is_forge line.act ≡ raw
    pub named : NamesOneOf messages answers line.act

  -- Each line is the client's, and the message or the answer that it names is there by then: the client had so many messages
  -- and answers, and each line before adds those that it composes and gets.
  abbrev pub SuitInTurn : ℕ → Bool → ℕ → ℕ → List (Line Op C) → Type 0
  SuitInTurn name raw messages answers [] = Unit {0}
  SuitInTurn name raw messages answers (line ∷ lines) =
      SuitsCounts name raw messages answers line
      × SuitInTurn name raw (messages + cond (composes_one line.act) 1 0) (answers + cond (gets_one line.act) 1 0) lines

module _ {Rules Doc Reason C : Type 0} where
  -- how many messages and answers a member has; a raw client has none
  abbrev pub message_count : Member C Rules Doc Reason → ℕ
  message_count (Editor c) = length c.messages
  message_count (Raw name serial) = 0

  abbrev pub answer_count : Member C Rules Doc Reason → ℕ
  answer_count (Editor c) = length c.answers
  answer_count (Raw name serial) = 0

  -- the lines are this member's, and each suits it as the lines before leave it
  abbrev pub SuitMember : {Op : Type 0} → Member C Rules Doc Reason → List (Line Op C) → Type 0
  SuitMember x lines = SuitInTurn (name_of x) (is_raw x) (message_count x) (answer_count x) lines
