-- What a line is answered, and what the house is then.
use Rattle.std.specs.Prelude.{◌≡◌, ℕ, nat_le, Bool, true, List, [], ◌∷◌, length, codes, Option, Some, None, Result, Ok, Err, MatchBool, if◌then◌else◌}
use Rattle.std.specs.List.{list_any}
use Rattle.std.specs.Str.{bytes_eq}
use Rattle.serde_json.specs.Data.{Data}
use Rattle.pm_tokens.specs.Tokens.{Doc as Document}
use Rattle.pm_tokens.specs.Faults.{Valid}
use Rattle.pm_schema.specs.declared.schema.Schema.{Schema}
use Rattle.pm_schema.specs.Documents.{documents_of}
use Rattle.pm_head.specs.declared.code.Code.{Code}
use Rattle.pm_head.specs.declared.code.Code.TheVariants.{BadRooms}
use Rattle.pm_head.specs.declared.fault.LineError.{LineError}
use Rattle.pm_head.specs.declared.fault.LineError.TheVariants as line
use Rattle.pm_head.specs.Lines.{json_line}
use Rattle.pm_opjson.specs.Fields.{text_in}
use Rattle.pm_talk.specs.Texts.{fault_text}
use Rattle.pm_order.specs.declared.word.DocWord.{DocWord}
use Rattle.pm_order.specs.declared.word.Word.{Word}
use Rattle.pm_order.specs.declared.word.Word.TheVariants as word
use Rattle.pm_order.specs.declared.naming.Naming.{Naming}
use Rattle.pm_order.specs.declared.opening.Opening.{Opening}
use Rattle.pm_order.specs.Words.{word_in}
use Rattle.pm_order.specs.Namings.{NamingIs}
use Rattle.pm_order.specs.Openings.{opening_in}
use Rattle.pm_order.specs.Values.{SchemaIn, DocumentIn}
use Rattle.pm_archive.specs.declared.archive.Archive.{Archive}
use Rattle.pm_archive.specs.Archives.{opened}
use Rattle.pm_archive.specs.Texts.{opened_text}
use Rattle.pm_archive.specs.Answers.{answered}
use Rattle.pm_house.specs.declared.kind.Kind.{Kind}
use Rattle.pm_house.specs.declared.house.House.{House}
use Rattle.pm_house.specs.declared.house.TheConstants.{MAX_SCHEMAS, MAX_DOCUMENTS}
use Rattle.pm_house.specs.declared.texts.Lack.TheVariants as lack
use Rattle.pm_house.specs.Found.{names_of, kind_of}
use Rattle.pm_house.specs.Texts.{lack_text, named_text, closed_text, documents_text, statistics_text}
use Rattle.pm_house.specs.Houses.{with_documents, with_document, with_schema}

-- the text is this, and nothing changes
abbrev pub Says : List ℕ → House → List ℕ → House → Type 0
Says said h text next = (text ≡ said) × (next ≡ h)

-- ---- schema

-- what is given is this
abbrev pub OfSchema : House → Naming → Result Schema Code → List ℕ → House → Type 0
OfSchema h n (Ok s) text next =
    (text ≡ named_text n.name) × (next ≡ with_schema h record { name = n.name; text = n.text; schema = s })
OfSchema h n (Err code) text next = Says (fault_text code) h text next

-- A known name has one schema, told by a text of it: that of another value is another.
abbrev pub named_again : Naming → Kind → List ℕ
named_again n k = if bytes_eq k.text n.text then named_text n.name else fault_text BadRooms

abbrev pub NamesBy : House → Data → Naming → Option Kind → List ℕ → House → Type 0
NamesBy h d n (Some k) text next = Says (named_again n k) h text next
NamesBy h d n None text next =
    MatchBool (nat_le MAX_SCHEMAS (length h.schemas)) (Says (lack_text lack.Room) h text next) ((r : Result Schema Code) × SchemaIn d r × OfSchema h n r text next)

abbrev pub NamesSchema : House → Data → Result Naming Code → List ℕ → House → Type 0
NamesSchema h d (Ok n) text next = NamesBy h d n (kind_of n.name h.schemas) text next
NamesSchema h d (Err code) text next = Says (fault_text code) h text next

abbrev pub Names : House → Data → List ℕ → House → Type 0
Names h d text next = (r : Result Naming Code) × NamingIs d r × NamesSchema h d r text next

-- ---- open

-- what is opened is this
abbrev pub OfDocument : House → Kind → Opening → Result Document Code → List ℕ → House → Type 0
OfDocument h k o (Ok doc) text next =
    Valid (documents_of k.schema.spec) doc × (text ≡ opened_text (length doc.tokens) o.version)
    × (next ≡ with_document h (opened o.name o.kind k.schema o.version doc o.ids))
OfDocument h k o (Err code) text next = Says (fault_text code) h text next

-- A document of an unknown schema is not opened, and not one more than there is room for.
abbrev pub OpensBy : House → Data → Opening → Option Kind → List ℕ → House → Type 0
OpensBy h d o None text next = Says (lack_text lack.Schema) h text next
OpensBy h d o (Some k) text next =
    MatchBool (nat_le MAX_DOCUMENTS (length h.documents)) (Says (lack_text lack.Room) h text next)
    ((r : Result Document Code) × DocumentIn k.schema d r × OfDocument h k o r text next)

-- An open document is not opened again.
abbrev pub Opens : House → Data → Result Opening Code → List ℕ → House → Type 0
Opens h d (Ok o) text next =
    MatchBool (list_any (bytes_eq o.name) (names_of h.documents)) (Says (lack_text lack.Closed) h text next)
    (OpensBy h d o (kind_of o.kind h.schemas) text next)
Opens h d (Err code) text next = Says (fault_text code) h text next

-- ---- one document

-- what the document says, and all documents then
abbrev pub behind : Archive → Option (List ℕ × List Archive) → Option (List ℕ × List Archive)
behind a (Some p) = Some (p.0, a ∷ p.1)
behind a None = None

-- what the document of this name answers, and all documents then; none where there is none
abbrev pub among : List ℕ → DocWord → Data → List Archive → Option (List ℕ × List Archive)
among name w d [] = None
among name w d (a ∷ rest) =
    if bytes_eq name a.name
    then Some ((answered a w d).0, (answered a w d).1 ∷ rest)
    else behind a (among name w d rest)

-- the documents without the one of this name; none where there is none
abbrev pub onto : Archive → Option (List Archive) → Option (List Archive)
onto a (Some rest) = Some (a ∷ rest)
onto a None = None

abbrev pub without : List ℕ → List Archive → Option (List Archive)
without name [] = None
without name (a ∷ rest) = if bytes_eq name a.name then Some rest else onto a (without name rest)

abbrev pub told_among : House → Option (List ℕ × List Archive) → List ℕ × House
told_among h (Some p) = (p.0, with_documents h p.1)
told_among h None = (lack_text lack.Document, h)

abbrev pub within : House → DocWord → Data → Result (List ℕ) Code → List ℕ × House
within h w d (Ok name) = told_among h (among name w d h.documents)
within h w d (Err code) = (fault_text code, h)

abbrev pub closed_in : House → List ℕ → Option (List Archive) → List ℕ × House
closed_in h name (Some rest) = (closed_text name, with_documents h rest)
closed_in h name None = (lack_text lack.Document, h)

abbrev pub closes : House → Result (List ℕ) Code → List ℕ × House
closes h (Ok name) = closed_in h name (without name h.documents)
closes h (Err code) = (fault_text code, h)

-- ---- all of them

-- the text and the house then are these
abbrev pub Are : List ℕ × House → List ℕ → House → Type 0
Are given text next = (text ≡ given.0) × (next ≡ given.1)

-- what a value with this word is answered, and what the house is then
abbrev pub ByWord : House → Data → Word → List ℕ → House → Type 0
ByWord h d word.Schema text next = Names h d text next
ByWord h d word.Open text next = Opens h d (opening_in d) text next
ByWord h d word.Close text next = Are (closes h (text_in (codes "in") d)) text next
ByWord h d word.Documents text next = Says (documents_text h.documents) h text next
ByWord h d word.Statistics text next = Says (statistics_text (length h.schemas) h.documents) h text next
ByWord h d (word.In w) text next = Are (within h w d (text_in (codes "in") d)) text next

abbrev pub OfWord : House → Data → Result Word Code → List ℕ → House → Type 0
OfWord h d (Ok w) text next = ByWord h d w text next
OfWord h d (Err code) text next = Says (fault_text code) h text next

abbrev pub OfValue : House → Data → List ℕ → House → Type 0
OfValue h d text next = OfWord h d (word_in d) text next

abbrev pub OfLine : House → Result Data Code → List ℕ → House → Type 0
OfLine h (Ok d) text next = OfValue h d text next
OfLine h (Err code) text next = Says (fault_text code) h text next

-- what a line is answered, and what the house is then
abbrev pub Replies : House → List ℕ → List ℕ → House → Type 0
Replies h line text next = OfLine h (json_line line) text next

-- so, and further lines are answered
abbrev pub Serving : House → List ℕ → List ℕ → Bool → House → Type 0
Serving h line text more next = Replies h line text next × (more ≡ true)

-- nothing is said at the end of input
abbrev pub last_text : House → List ℕ
last_text h = []

-- ---- for private clauses

-- the answer to this fault; running out of memory has none
abbrev pub FaultOf : LineError → List ℕ → Type 0
FaultOf (line.Code code) text = text ≡ fault_text code
FaultOf line.NoMemory text = ⊥

-- what is opened was read, which is this: its answer, and the document with its log, which is valid
abbrev pub OfHeard : Kind → Opening → Result Document Code → List ℕ → Option Archive → Type 0
OfHeard k o (Ok doc) text archive =
    Valid (documents_of k.schema.spec) doc × (text ≡ opened_text (length doc.tokens) o.version)
    × (archive ≡ Some (opened o.name o.kind k.schema o.version doc o.ids))
OfHeard k o (Err code) text archive = (text ≡ fault_text code) × (archive ≡ None)

abbrev pub DocumentHeard : Kind → Opening → Data → List ℕ → Option Archive → Type 0
DocumentHeard k o d text archive = (r : Result Document Code) × DocumentIn k.schema d r × OfHeard k o r text archive
