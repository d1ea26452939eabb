-- A client's talk: line 1 is a schema, line 2 a document of it, line 3 says who the client is and at which version it comes, and
-- each later line is answered by the editor that they open.
use Rattle.std.specs.Prelude.{◌≡◌, ℕ, Bool, true, false, List, [], length, Result, Ok, Err}
use Rattle.pm_tokens.specs.Tokens.{Doc as Document}
use Rattle.pm_tokens.specs.Faults.{Valid}
use Rattle.pm_schema.specs.Documents.{documents_of}
use Rattle.pm_schema.specs.declared.schema.Schema.{Schema}
use Rattle.pm_head.specs.declared.code.Code.{Code}
use Rattle.pm_head.specs.declared.code.Code.TheVariants.{MissingLine}
use Rattle.pm_head.specs.declared.fault.LineError.{LineError}
use Rattle.pm_head.specs.declared.fault.LineError.TheVariants as line
use Rattle.pm_head.specs.Schemas.{SchemaLine}
use Rattle.pm_head.specs.Documents.{DocLine}
use Rattle.pm_client.specs.Clients.{entered_client}
use Rattle.pm_talk.specs.Texts.{opening_fault_text}
use Rattle.pm_asked.specs.declared.entry.Entry.{Entry}
use Rattle.pm_editor.specs.declared.editor.Editor.{Editor}
use Rattle.pm_editor.specs.declared.talk.ClientTalk.{ClientTalk}
use Rattle.pm_editor.specs.declared.talk.ClientTalk.TheVariants.{AwaitsSchema, AwaitsDocument, AwaitsClient, Open}
use Rattle.pm_asked.specs.Entries.{entry_line}
use Rattle.pm_told.specs.Texts.{entered_text}
use Rattle.pm_editor.specs.Editors.{IsEditor, answered}

-- the editor of a client that comes with this document
abbrev pub entered : Schema → Document → Entry → Editor
entered s doc entry = record { schema = s; client = entered_client 0 entry.version doc; id = entry.id; serials = 0 }

-- After line 1, which is this: a schema has no answer of its own, and a fault is the last answer.
abbrev pub AfterSchema : Result Schema Code → List ℕ → Bool → ClientTalk → Type 0
AfterSchema (Ok s) text more next = (text ≡ []) × (more ≡ true) × (next ≡ AwaitsDocument s)
AfterSchema (Err code) text more next = (text ≡ opening_fault_text code 1) × (more ≡ false) × (next ≡ AwaitsSchema)

-- After line 2, which is this: a document is valid, and has no answer of its own; a fault is the last answer.
abbrev pub AfterDocument : Schema → Result Document Code → List ℕ → Bool → ClientTalk → Type 0
AfterDocument s (Ok doc) text more next =
    Valid (documents_of s.spec) doc × (text ≡ []) × (more ≡ true) × (next ≡ AwaitsClient s doc)
AfterDocument s (Err code) text more next = (text ≡ opening_fault_text code 2) × (more ≡ false) × (next ≡ AwaitsDocument s)

-- After line 3, which says this: the document's size and the version are the answer; a fault is the last answer.
abbrev pub AfterEntry : Schema → Document → Result Entry Code → List ℕ → Bool → ClientTalk → Type 0
AfterEntry s doc (Ok entry) text more next =
    (text ≡ entered_text (length doc.tokens) entry.version) × (more ≡ true) × (next ≡ Open (entered s doc entry))
AfterEntry s doc (Err code) text more next = (text ≡ opening_fault_text code 3) × (more ≡ false) × (next ≡ AwaitsClient s doc)

-- what a line is answered, whether further lines are, and where the talk stands then
abbrev pub Replies : ClientTalk → List ℕ → List ℕ → Bool → ClientTalk → Type 0
Replies AwaitsSchema line text more next = (r : Result Schema Code) × SchemaLine line r × AfterSchema r text more next
Replies (AwaitsDocument s) line text more next = (r : Result Document Code) × DocLine s line r × AfterDocument s r text more next
Replies (AwaitsClient s doc) line text more next = AfterEntry s doc (entry_line line) text more next
Replies (Open e) line text more next = (text ≡ (answered e line).0) × (more ≡ true) × (next ≡ Open (answered e line).1)

-- what is said at the end of input: which of the lines 1 to 3 is missing
abbrev pub last_text : ClientTalk → List ℕ
last_text AwaitsSchema = opening_fault_text MissingLine 1
last_text (AwaitsDocument s) = opening_fault_text MissingLine 2
last_text (AwaitsClient s doc) = opening_fault_text MissingLine 3
last_text (Open e) = []

-- lines 1 to 3 came
abbrev pub is_open : ClientTalk → Bool
is_open AwaitsSchema = false
is_open (AwaitsDocument s) = false
is_open (AwaitsClient s doc) = false
is_open (Open e) = true

-- The document of line 2 is valid, and the editor's client stands to a log.
abbrev pub IsGood : ClientTalk → Type 0
IsGood AwaitsSchema = Unit {0}
IsGood (AwaitsDocument s) = Unit {0}
IsGood (AwaitsClient s doc) = Valid (documents_of s.spec) doc
IsGood (Open e) = IsEditor e

-- ---- for private clauses

abbrev pub awaits_document : ClientTalk → Bool
awaits_document AwaitsSchema = false
awaits_document (AwaitsDocument s) = true
awaits_document (AwaitsClient s doc) = false
awaits_document (Open e) = false

abbrev pub awaits_client : ClientTalk → Bool
awaits_client AwaitsSchema = false
awaits_client (AwaitsDocument s) = false
awaits_client (AwaitsClient s doc) = true
awaits_client (Open e) = false

-- the answer to this fault of one of the lines 1 to 3, which is the last one; running out of memory has none
abbrev pub IsFaulty : LineError → ℕ → List ℕ → Bool → Type 0
IsFaulty (line.Code code) n text more = (text ≡ opening_fault_text code n) × (more ≡ false)
IsFaulty line.NoMemory n text more = ⊥
