-- Lines one after another, after the opening: what is written for them, and what the authority is after them.
use Rattle.std.specs.Prelude.{◌≡◌, ◌↔◌, ℕ, Bool, true, ◌+◌, List, [], ◌∷◌, ◌++◌, length, map, take, Option, Some, None, Result, Ok, Err, if◌then◌else◌}
use Rattle.pm_tokens.specs.Tokens.{Doc as Document}
use Rattle.pm_schema.specs.declared.schema.Schema.{Schema}
use Rattle.pm_meaning.specs.Steps.{Step}
use Rattle.pm_apply.specs.Changes.{meaning}
use Rattle.pm_head.specs.declared.code.Code.{Code}
use Rattle.pm_head.specs.declared.code.Code.TheVariants.{BadClients}
use Rattle.pm_authority.specs.declared.message.Message.{Message}
use Rattle.pm_authority.specs.Presents.{presented}
use Rattle.pm_authority.specs.Runs.{AllApply}
use Rattle.pm_authority.specs.Kept.{IsKept}
use Rattle.pm_serve.specs.Serves.{Answers}
use Rattle.pm_talk.specs.declared.asked.Asked.{Asked}
use Rattle.pm_talk.specs.declared.asked.Asked.TheVariants.{Submit, Since, Doc}
use Rattle.pm_talk.specs.declared.live.Live.{Live}
use Rattle.pm_talk.specs.Ids.{number_of, has_room}
use Rattle.pm_talk.specs.Texts.{fault_text, accepted_text, no_memory}
use Rattle.pm_talk.specs.Asked.{asked_line}
use Rattle.pm_talk.specs.Live.{LiveAuthority, named, message_of, answered}
use Rattle.pm_talk.specs.declared.talk.Talk.{Talk}
use Rattle.pm_talk.specs.declared.talk.Talk.TheVariants.{Open}
use Rattle.pm_talk.specs.Talk.{Replies, last_text}

-- a line, and whether there was memory for it
pub record Line : Type 0 where
  pub bytes : List ℕ
  pub heard : Bool

-- what the line is answered, and what the authority is then; a line for which there was no memory changes nothing
abbrev pub after_line : Live → Line → List ℕ × Live
after_line live line = if line.heard then answered live line.bytes else (no_memory, live)

-- the answers, one after another
abbrev pub answers : Live → List Line → List ℕ
answers live [] = []
answers live (line ∷ lines) = (after_line live line).0 ++ answers (after_line live line).1 lines

-- what the authority is after the lines
abbrev pub after : Live → List Line → Live
after live [] = live
after live (line ∷ lines) = after (after_line live line).1 lines

-- ---- the messages in the lines

-- the message that a line is which asks this: a submission, unless its ID is one too many
abbrev pub message_in : Live → Result Asked Code → List (Message Step)
message_in live (Ok (Submit version id steps)) = if has_room live.ids id then message_of live version id steps ∷ [] else []
message_in live (Ok (Since version most)) = []
message_in live (Ok Doc) = []
message_in live (Err code) = []

abbrev pub messages : Live → List Line → List (Message Step)
messages live [] = []
messages live (line ∷ lines) =
    (if line.heard then message_in live (asked_line live.schema.spec line.bytes) else [])
    ++ messages (after_line live line).1 lines

-- the authority after these messages
abbrev pub presents : Schema → LiveAuthority → List (Message Step) → LiveAuthority
presents s a [] = a
presents s a (m ∷ ms) = presents s (presented meaning s a m).1 ms

-- ---- what holds of lines that were answered

-- `are`: the lines as they came, and of each whether there was memory for it.
-- `written`, `stands`: the output and the authority after the lines are functions of them.
-- `folded`: the authority is the one after the messages in the lines.
-- `valid`: after each number of lines the first document and the authority's are valid, and the log leads from one to the other.
pub record IsTalk (live : Live) (lines : List (List ℕ)) (out : List ℕ) (end : Talk) : Type 0 where
  pub heard : List Line
  pub are : map (λ l. l.bytes) heard ≡ lines
  pub written : out ≡ answers live heard
  pub stands : end ≡ Open (after live heard)
  pub folded : (after live heard).authority ≡ presents live.schema live.authority (messages live heard)
  pub valid : (k : ℕ) → IsKept meaning live.schema (after live (take k heard)).authority

-- so it is of all lines that are answered one after another from an authority on
abbrev pub AllTalks : Type 0
AllTalks =
    (live : Live) (lines : List (List ℕ)) (out : List ℕ) (end : Talk) → IsKept meaning live.schema live.authority
    → Answers Replies last_text no_memory (Open live) lines out end → IsTalk live lines out end

-- ---- what holds of each line

-- A submission is accepted exactly where there is room for its ID, its version is the log's length, and its steps apply one after
-- another.
abbrev pub IsAccepted : Live → List ℕ → ℕ → List ℕ → List Step → Type 0
IsAccepted live line version id steps =
    ((answered live line).0 ≡ accepted_text version (length steps))
    ↔ ((has_room live.ids id ≡ true) × (version ≡ length live.authority.log)
    × ((end : Document) × AllApply meaning live.schema live.authority.doc (named (number_of live.ids id) (version + 1) steps) end))

abbrev pub AcceptsExactly : Type 0
AcceptsExactly =
    (live : Live) (line : List ℕ) (version : ℕ) (id : List ℕ) (steps : List Step)
    → asked_line live.schema.spec line ≡ Ok (Submit version id steps) → IsAccepted live line version id steps

-- the fault of a line, which asks this: its own, or that there is no room for its client's ID
abbrev pub fault_in : List (List ℕ) → Result Asked Code → Option Code
fault_in ids (Ok (Submit version id steps)) = if has_room ids id then None else Some BadClients
fault_in ids (Ok (Since version most)) = None
fault_in ids (Ok Doc) = None
fault_in ids (Err code) = Some code

-- a line with a fault is answered its code, and changes nothing
abbrev pub FaultsChangeNothing : Type 0
FaultsChangeNothing =
    (live : Live) (line : List ℕ) (code : Code) → fault_in live.ids (asked_line live.schema.spec line) ≡ Some code
    → answered live line ≡ (fault_text code, live)
