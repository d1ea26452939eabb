-- A talk: line 1 is a schema, line 2 a document of it, and each later line is answered by the authority that they open.
use Rattle.std.specs.Prelude.{◌≡◌, ℕ, Bool, true, false, List, [], length, Option, None, Some, Result, Ok, Err}
use Rattle.pm_tokens.specs.Tokens.{Doc as Document}
use Rattle.pm_tokens.specs.Faults.{Valid}
use Rattle.pm_schema.specs.Documents.{documents_of}
use Rattle.pm_schema.specs.declared.schema.Schema.{Schema}
use Rattle.pm_apply.specs.Changes.{meaning}
use Rattle.pm_head.specs.declared.code.Code.{Code}
use Rattle.pm_head.specs.declared.code.Code.TheVariants.{MissingLine}
use Rattle.pm_head.specs.Schemas.{SchemaLine}
use Rattle.pm_head.specs.Documents.{DocLine}
use Rattle.pm_authority.specs.Kept.{IsKept}
use Rattle.pm_talk.specs.declared.live.Live.{Live}
use Rattle.pm_talk.specs.declared.talk.Talk.{Talk}
use Rattle.pm_talk.specs.declared.talk.Talk.TheVariants.{AwaitsSchema, AwaitsDocument, Open}
use Rattle.pm_talk.specs.Texts.{opening_fault_text, opened_text}
use Rattle.pm_talk.specs.Live.{LiveAuthority, answered}

-- the authority with this first document, an empty log, and no IDs
abbrev pub opened : Schema → Document → Live
opened s doc = record { schema = s; authority = record { first = doc; doc = doc; log = [] }; ids = [] }

-- After line 1, which is this: a schema has no answer of its own, and a fault is the last answer.
abbrev pub AfterSchema : Result Schema Code → List ℕ → Bool → Talk → Type 0
AfterSchema (Ok s) text more next = (text ≡ []) × (more ≡ true) × (next ≡ AwaitsDocument s)
AfterSchema (Err code) text more next = (text ≡ opening_fault_text code 1) × (more ≡ false) × (next ≡ AwaitsSchema)

-- After line 2, which is this: a document is valid, and its size and version 0 are the answer; a fault is the last answer.
abbrev pub AfterDocument : Schema → Result Document Code → List ℕ → Bool → Talk → Type 0
AfterDocument s (Ok doc) text more next =
    Valid (documents_of s.spec) doc × (text ≡ opened_text (length doc.tokens)) × (more ≡ true) × (next ≡ Open (opened s doc))
AfterDocument s (Err code) text more next = (text ≡ opening_fault_text code 2) × (more ≡ false) × (next ≡ AwaitsDocument s)

-- what a line is answered, whether further lines are, and where the talk stands then
abbrev pub Replies : Talk → List ℕ → List ℕ → Bool → Talk → Type 0
Replies AwaitsSchema line text more next = (r : Result Schema Code) × SchemaLine line r × AfterSchema r text more next
Replies (AwaitsDocument s) line text more next = (r : Result Document Code) × DocLine s line r × AfterDocument s r text more next
Replies (Open live) line text more next = (text ≡ (answered live line).0) × (more ≡ true) × (next ≡ Open (answered live line).1)

-- what is said at the end of input: which of the lines 1 and 2 is missing
abbrev pub last_text : Talk → List ℕ
last_text AwaitsSchema = opening_fault_text MissingLine 1
last_text (AwaitsDocument s) = opening_fault_text MissingLine 2
last_text (Open live) = []

-- lines 1 and 2 came
abbrev pub is_open : Talk → Bool
is_open AwaitsSchema = false
is_open (AwaitsDocument s) = false
is_open (Open live) = true

-- The first document and the authority's are valid, and the log leads from one to the other.
abbrev pub IsGood : Talk → Type 0
IsGood AwaitsSchema = Unit {0}
IsGood (AwaitsDocument s) = Unit {0}
IsGood (Open live) = IsKept meaning live.schema live.authority

-- ---- for private clauses

abbrev pub awaits_document : Talk → Bool
awaits_document AwaitsSchema = false
awaits_document (AwaitsDocument s) = true
awaits_document (Open live) = false

-- Line 2 was read, which is this: its answer, and the authority over the document, which is valid.
abbrev pub OfDocument : Schema → Result Document Code → List ℕ → Option LiveAuthority → Type 0
OfDocument s (Ok doc) text authority =
    Valid (documents_of s.spec) doc × (text ≡ opened_text (length doc.tokens)) × (authority ≡ Some record { first = doc; doc = doc; log = [] })
OfDocument s (Err code) text authority = (text ≡ opening_fault_text code 2) × (authority ≡ None)

abbrev pub DocumentHeard : Schema → List ℕ → List ℕ → Option LiveAuthority → Type 0
DocumentHeard s line text authority = (r : Result Document Code) × DocLine s line r × OfDocument s r text authority
