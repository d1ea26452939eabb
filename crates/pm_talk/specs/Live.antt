-- An authority that answers lines: what a line is answered, and what the authority is then.
use Rattle.std.specs.Prelude.{ℕ, zero, suc, ◌+◌, Bool, true, false, List, [], ◌∷◌, ◌++◌, length, take, drop, codes, decimal, Option, None, Some, Result, Ok, Err, if◌then◌else◌}
use Rattle.serde_json.specs.Written.{comma_if, compact_text}
use Rattle.pm_tokens.specs.Tokens.{Doc as Document}
use Rattle.pm_schema.specs.declared.schema.Schema.{Schema}
use Rattle.pm_schema.specs.declared.spec.SchemaSpec.{SchemaSpec}
use Rattle.pm_docjson.specs.Writing.{doc_written}
use Rattle.pm_meaning.specs.Steps.{Step}
use Rattle.pm_meaning.specs.declared.reason.Reason.{Reason}
use Rattle.pm_apply.specs.Changes.{meaning}
use Rattle.pm_stepjson.specs.Writing.{step_written}
use Rattle.pm_head.specs.declared.code.Code.{Code}
use Rattle.pm_head.specs.declared.code.Code.TheVariants.{BadClients}
use Rattle.pm_authority.specs.declared.authority.Authority.{Authority}
use Rattle.pm_authority.specs.declared.named.Named.{Named}
use Rattle.pm_authority.specs.declared.message.Message.{Message}
use Rattle.pm_authority.specs.declared.message.Message.TheVariants as message
use Rattle.pm_authority.specs.declared.message.Answer.{Answer}
use Rattle.pm_authority.specs.declared.message.Answer.TheVariants.{Accepted, WrongVersion, StepRefused, Entries}
use Rattle.pm_authority.specs.Presents.{presented}
use Rattle.pm_talk.specs.declared.asked.Asked.{Asked}
use Rattle.pm_talk.specs.declared.asked.Asked.TheVariants.{Submit, Since, Doc}
use Rattle.pm_talk.specs.declared.live.Live.{Live}
use Rattle.pm_talk.specs.Ids.{id_at, number_of, has_room, with_id}
use Rattle.pm_talk.specs.Texts.{fault_text, accepted_text, version_text, refused_text}
use Rattle.pm_talk.specs.Asked.{asked_line}

abbrev pub LiveAuthority : Type 0
LiveAuthority = Authority Step Schema Document Reason

abbrev pub LiveAnswer : Type 0
LiveAnswer = Answer Step Schema Document Reason

-- Steps of the client with this number, the first with this serial. A step's serial is its place in the log, counted from 1.
abbrev pub named : ℕ → ℕ → List Step → List (Named Step)
named client serial [] = []
named client serial (step ∷ steps) =
    record { name = record { client = client; serial = serial }; change = step } ∷ named client (serial + 1) steps

-- the message to the authority that a submission is
abbrev pub message_of : Live → ℕ → List ℕ → List Step → Message Step
message_of live version id steps = message.Submit version (named (number_of live.ids id) (version + 1) steps)

-- ---- what stands in the log and the document

-- the IDs of the clients that made these steps, up to the end of the list
abbrev pub id_items : Bool → List (List ℕ) → List (Named Step) → List ℕ
id_items later ids [] = codes "]"
id_items later ids (n ∷ ns) = comma_if later ++ (id_at ids n.name.client ++ id_items true ids ns)

-- the steps themselves, up to the end of the list
abbrev pub step_items : Bool → SchemaSpec → List (Named Step) → List ℕ
step_items later s [] = codes "]"
step_items later s (n ∷ ns) = comma_if later ++ (compact_text (step_written s n.change) ++ step_items true s ns)

-- the log's length, at the end of a line
abbrev pub version_end : ℕ → List ℕ
version_end n = codes ",\"version\":" ++ (decimal n ++ codes "}\n")

-- the entries of the log from the version on
abbrev pub since_text : SchemaSpec → List (List ℕ) → List (Named Step) → ℕ → List ℕ
since_text s ids log version =
    codes "{\"clientIDs\":[" ++ (id_items false ids (drop version log)
    ++ (codes ",\"steps\":[" ++ (step_items false s (drop version log) ++ version_end (length log))))

-- the log up to so many entries after the version, or all of it
abbrev pub front : ℕ → Option ℕ → List (Named Step) → List (Named Step)
front version None log = log
front version (Some most) log = take (version + most) log

-- the document
abbrev pub doc_text : SchemaSpec → LiveAuthority → List ℕ
doc_text s a = codes "{\"doc\":" ++ (compact_text (doc_written s a.doc) ++ version_end (length a.log))

-- ---- what is answered

-- what a submission gets, by the authority's answer; Entries comes to none
abbrev pub answer_text : LiveAnswer → List ℕ
answer_text (Accepted from count) = accepted_text from count
answer_text (WrongVersion size) = version_text size
answer_text (StepRefused index reason) = refused_text index reason
answer_text (Entries since entries) = []

-- whether that is any step
abbrev pub some_steps : ℕ → Bool
some_steps zero = false
some_steps (suc n) = true

-- whether a step was accepted
abbrev pub is_accepted : LiveAnswer → Bool
is_accepted (Accepted from count) = some_steps count
is_accepted (WrongVersion size) = false
is_accepted (StepRefused index reason) = false
is_accepted (Entries since entries) = false

-- Only steps that were accepted change anything: the authority is the one after them, and the client's ID is among the IDs.
abbrev pub told : Live → List ℕ → LiveAnswer × LiveAuthority → List ℕ × Live
told live id given = (
  answer_text given.0,
  if is_accepted given.0
      then record { schema = live.schema; authority = given.1; ids = with_id live.ids id }
      else live,
)

abbrev pub submitted : Live → ℕ → List ℕ → List Step → List ℕ × Live
submitted live version id steps =
    if has_room live.ids id
    then told live id (presented meaning live.schema live.authority (message_of live version id steps))
    else (fault_text BadClients, live)

-- what a line that asks this is answered, or one with this fault, and what the authority is then; a fault changes nothing
abbrev pub answer : Live → Result Asked Code → List ℕ × Live
answer live (Ok (Submit version id steps)) = submitted live version id steps
answer live (Ok (Since version most)) = (since_text live.schema.spec live.ids (front version most live.authority.log) version, live)
answer live (Ok Doc) = (doc_text live.schema.spec live.authority, live)
answer live (Err code) = (fault_text code, live)

abbrev pub answered : Live → List ℕ → List ℕ × Live
answered live line = answer live (asked_line live.schema.spec line)
