-- Lines played one after another, and which of them undo an event that lies apart.
use Rattle.std.specs.Prelude.{◌≡◌, ◌⊎◌, ℕ, List, [], ◌∷◌, length, slice_get, Option, Some, None, Result}
use Rattle.pm_change.specs.declared.no_step.NoStep.{NoStep}
use Rattle.pm_tokens.specs.Tokens.{Doc}
use Rattle.pm_tokens.specs.Schemas.{Schema as Documents}
use Rattle.pm_schema.specs.declared.schema.Schema.{Schema}
use Rattle.pm_schema.specs.Documents.{documents_of}
use Rattle.pm_meaning.specs.Steps.{Step}
use Rattle.pm_meaning.specs.declared.reason.Reason.{Reason}
use Rattle.pm_apply.specs.Changes.{meaning}
use Rattle.pm_history.specs.declared.branch.Event.{Event}
use Rattle.pm_history.specs.Turns.{last_numbered}
use Rattle.pm_client.specs.declared.client.Client.{Client as AnyClient}
use Rattle.pm_client.specs.Kins.{Kin}
use Rattle.pm_session.specs.declared.line.Line.{Line}
use Rattle.pm_session.specs.declared.line.Act.TheVariants.{UndoEvent}
use Rattle.pm_session.specs.declared.member.Member.TheVariants.{Editor}
use Rattle.pm_session.specs.declared.outcome.Outcome.{Outcome as AnyOutcome}
use Rattle.pm_session.specs.declared.outcome.Outcome.TheVariants.{Made}
use Rattle.pm_session.specs.Events.{State, played}
use Rattle.pm_selective.specs.Histories.{IsApartIn, HasLeft}

-- a room of documents, an editor of it, and what became of a line
abbrev pub Room : Type 0
Room = State Step Schema Doc Reason

abbrev pub Client : Type 0
Client = AnyClient Step Schema Doc Reason

abbrev pub Outcome : Type 0
Outcome = AnyOutcome Step Schema Doc Reason

-- so many steps were made
abbrev pub HasMade : Outcome → Option ℕ → Type 0
HasMade o None = ⊥
HasMade o (Some n) = o ≡ Made n

-- the documents that a schema is about
abbrev pub documents : Schema → Documents
documents = λ schema. documents_of schema.spec

module _ (schema : Schema) {Op : Type 0} where
  -- The line is an editor's undo of a numbered event, and finds the event, which lies apart in the editor's timeline.
  pub record FindsApart (s : Room) (line : Line Op Step) : Type 0 where
    pub number : ℕ
    pub client : Client
    pub event : Event
    pub act_is : line.act ≡ UndoEvent number
    pub at : slice_get s.members line.client ≡ Some (Editor client)
    pub found : last_numbered number client.history.undo ≡ Some event
    pub apart : (kin : Kin meaning schema s.authority.first s.authority.log client) → IsApartIn event.names kin.timeline

  -- So it is, and the undo made as many steps as the event has. Each of the event's steps has one step as its stored inverse;
  -- so each of these was carried and applied.
  abbrev pub UndoesApart : Room → Line Op Step → Outcome → Type 0
  UndoesApart s line o = (f : FindsApart s line) × (o ≡ Made (length f.event.names))

  -- how many steps the event has that the line finds, where it lies apart
  abbrev pub IsFound : Room → Line Op Step → Option ℕ → Type 0
  IsFound s line None = FindsApart s line → ⊥
  IsFound s line (Some n) = (f : FindsApart s line) × (n ≡ length f.event.names)

  -- What the undo of the event leaves, from one room to the next: the editor's tokens are those that arise when the later steps
  -- are carried and spliced in order onto the document before the event.
  abbrev pub LeavesLater : Room → Line Op Step → Room → Type 0
  LeavesLater s line t =
      (f : FindsApart s line) (next : Client) → slice_get t.members line.client ≡ Some (Editor next)
      → (kin : Kin meaning schema s.authority.first s.authority.log f.client)
      → HasLeft documents schema f.event.names s.authority.first kin.timeline f.client.doc next.doc

  module _ (makes : Doc → Op → Result (List Step) NoStep) where
    -- These are the numbers, in order, of the lines that undid an event that lies apart, where the lines are played one after
    -- another from this room on. Each of these undos left the later steps.
    abbrev pub AreApartLines : Room → List (Line Op Step) → List ℕ → Type 0
    AreApartLines s [] numbers = numbers ≡ []
    AreApartLines s (line ∷ lines) numbers =
        let p = played meaning schema makes s line in
        (UndoesApart s line p.0 × LeavesLater s line p.1 × (rest : List ℕ) × (numbers ≡ line.number ∷ rest) × AreApartLines p.1 lines rest)
        ⊎ ((UndoesApart s line p.0 → ⊥) × AreApartLines p.1 lines numbers)
