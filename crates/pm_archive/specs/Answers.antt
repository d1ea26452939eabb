-- What a line to a document is answered, and what the document is then.
use Rattle.std.specs.Prelude.{ℕ, ◌+◌, ◌-◌, ◌==◌, min, nat_lt, Bool, false, List, [], ◌++◌, length, take, drop, codes, Option, Some, None, Result, Ok, Err, if◌then◌else◌}
use Rattle.serde_json.specs.Data.{Data}
use Rattle.serde_json.specs.Written.{compact_text}
use Rattle.pm_tokens.specs.Tokens.{Doc as Document}
use Rattle.pm_schema.specs.declared.spec.SchemaSpec.{SchemaSpec}
use Rattle.pm_docjson.specs.Writing.{doc_written}
use Rattle.pm_meaning.specs.Steps.{Step}
use Rattle.pm_change.specs.Changes.{fold}
use Rattle.pm_apply.specs.Changes.{meaning}
use Rattle.pm_change.specs.declared.no_step.NoStep.{NoStep}
use Rattle.pm_head.specs.declared.code.Code.{Code}
use Rattle.pm_head.specs.declared.code.Code.TheVariants.{BadClients}
use Rattle.pm_meaning.specs.declared.reason.Reason.{Reason}
use Rattle.pm_authority.specs.declared.named.Named.{Named}
use Rattle.pm_authority.specs.declared.running.Refusal.{Refusal}
use Rattle.pm_authority.specs.declared.message.Answer.TheVariants.{Accepted, WrongVersion, StepRefused, Entries}
use Rattle.pm_authority.specs.Runs.{run, changes_of}
use Rattle.pm_authority.specs.Presents.{tried}
use Rattle.pm_client.specs.declared.cursors.Cursor.{Cursor}
use Rattle.pm_talk.specs.Ids.{number_of, has_room, with_id}
use Rattle.pm_talk.specs.Texts.{fault_text, accepted_text, version_text, refused_text}
use Rattle.pm_talk.specs.Live.{LiveAuthority, LiveAnswer, named, id_items, step_items, version_end, is_accepted}
use Rattle.pm_order.specs.declared.word.DocWord.{DocWord}
use Rattle.pm_order.specs.declared.wish.Wish.{Wish}
use Rattle.pm_order.specs.declared.wish.Wish.TheVariants.{Submit, Since, Doc, Forget, Map, Revert, Edit, Authors}
use Rattle.pm_order.specs.Wishes.{wish_in}
use Rattle.pm_edit.specs.Ops.{steps_of}
use Rattle.pm_told.specs.Texts.{none_text}
use Rattle.pm_revert.specs.declared.taken.Taken.{Taken}
use Rattle.pm_revert.specs.Takings.{taken_back}
use Rattle.pm_revert.specs.Aparts.{lies_apart}
use Rattle.pm_archive.specs.declared.reverting.TheConstants.{MAX_VERSION}
use Rattle.pm_archive.specs.declared.archive.Archive.{Archive}
use Rattle.pm_archive.specs.Archives.{authority_of, version_of, with_authority}
use Rattle.pm_archive.specs.Texts.{from_text, reverted_text, edited_text}
use Rattle.pm_archive.specs.Mapping.{between_text}
use Rattle.pm_archive.specs.Authoring.{since_authors_text}

-- ---- submissions

-- What the authority of the document answers to steps that are presented at this version, and what it is then: they are tried where
-- the version is the document's.
abbrev pub presented_at : Archive → ℕ → List (Named Step) → LiveAnswer × LiveAuthority
presented_at a version steps =
    if version == version_of a
    then tried meaning a.schema (authority_of a) steps (run meaning a.schema a.doc 0 steps)
    else (WrongVersion (length a.log), authority_of a)

-- what a submission gets, by the authority's answer, whose places count from the first kept version; Entries comes to none
abbrev pub answer_text : ℕ → LiveAnswer → List ℕ
answer_text from (Accepted at count) = accepted_text (from + at) count
answer_text from (WrongVersion size) = version_text (from + size)
answer_text from (StepRefused index reason) = refused_text index reason
answer_text from (Entries since entries) = []

-- Only steps that were accepted change anything: the document and its log are those after it, and the client's ID is among the IDs.
abbrev pub told : Archive → List ℕ → LiveAnswer × LiveAuthority → List ℕ × Archive
told a id given = (
  answer_text a.from given.0,
  if is_accepted given.0 then with_authority a given.1 (with_id a.ids id) else a,
)

abbrev pub submitted : Archive → ℕ → List ℕ → List Step → List ℕ × Archive
submitted a version id steps =
    if has_room a.ids id
    then told a id (presented_at a version (named (number_of a.ids id) (version + 1) steps))
    else (fault_text BadClients, a)

-- ---- the log

-- the entries from this version on, at most so many
abbrev pub entries_from : Archive → ℕ → Option ℕ → List (Named Step)
entries_from a version None = drop (version - a.from) a.log
entries_from a version (Some most) = take most (drop (version - a.from) a.log)

-- the version behind them
abbrev pub version_behind : Archive → ℕ → Option ℕ → ℕ
version_behind a version None = version_of a
version_behind a version (Some most) = min (version_of a) (version + most)

-- entries, the IDs of the clients that made them, and the version behind them
abbrev pub entries_text : SchemaSpec → List (List ℕ) → List (Named Step) → ℕ → List ℕ
entries_text s ids entries behind =
    codes "{\"clientIDs\":[" ++ (id_items false ids entries
    ++ (codes ",\"steps\":[" ++ (step_items false s entries ++ version_end behind)))

abbrev pub since_text : Archive → ℕ → Option ℕ → List ℕ
since_text a version most =
    if nat_lt version a.from then from_text a.from
    else entries_text a.schema.spec a.ids (entries_from a version most) (version_behind a version most)

-- ---- the document

-- a document and its version
abbrev pub doc_text : SchemaSpec → Document → ℕ → List ℕ
doc_text s doc version = codes "{\"doc\":" ++ (compact_text (doc_written s doc) ++ version_end version)

-- the document at a version, which the first steps of the log give
abbrev pub doc_at : Archive → ℕ → Option Document
doc_at a version = fold meaning a.schema a.first (changes_of (take (version - a.from) a.log))

abbrev pub some_doc_text : Archive → ℕ → Option Document → List ℕ
some_doc_text a version (Some doc) = doc_text a.schema.spec doc version
some_doc_text a version None = []

abbrev pub asked_doc_text : Archive → Option ℕ → List ℕ
asked_doc_text a None = doc_text a.schema.spec a.doc (version_of a)
asked_doc_text a (Some version) =
    if nat_lt version a.from then from_text a.from
    else (if nat_lt (version_of a) version then version_text (version_of a)
    else some_doc_text a version (doc_at a version))

-- ---- positions

-- where positions of the document at one version stand in the document at another
abbrev pub mapped_text : Archive → ℕ → ℕ → List Cursor → List ℕ
mapped_text a from to anchors =
    if nat_lt from a.from then from_text a.from
    else between_text (version_of a) from to (entries_from a from (Some (to - from))) anchors (doc_at a from)

-- ---- authors

-- who put the document's tokens in since a version
abbrev pub asked_authors_text : Archive → ℕ → List ℕ
asked_authors_text a from =
    if nat_lt from a.from then from_text a.from
    else since_authors_text (version_of a) from a.ids (entries_from a from None) (doc_at a from)

-- ---- what is let go

-- the document whose log begins at this version, with this document
abbrev pub begun_at : Archive → ℕ → Document → Archive
begun_at a version first =
    record { name = a.name; kind = a.kind; schema = a.schema; from = version; first = first; doc = a.doc; log = drop (version - a.from) a.log; ids = a.ids }

abbrev pub begun : Archive → ℕ → Option Document → Archive
begun a version (Some first) = begun_at a version first
begun a version None = a

-- What lies before the version is let go. A version that is not kept, and one beyond the document's, change nothing.
abbrev pub forgotten : Archive → ℕ → List ℕ × Archive
forgotten a version =
    if nat_lt version a.from then (from_text a.from, a)
    else (if nat_lt (version_of a) version then (version_text (version_of a), a)
    else (from_text version, begun a version (doc_at a version)))

-- ---- what is taken back

-- what it comes to that these entries, so many from the version on, are taken back, where the document was this at the version
abbrev pub taken_from : Archive → ℕ → ℕ → Document → Result (Taken Document Step) (Refusal Reason)
taken_from a version count before =
    taken_back meaning a.schema before (changes_of (entries_from a version (Some count))) (entries_from a (version + count) None) a.doc

-- all entries behind them lie apart from them
abbrev pub is_apart : Archive → ℕ → ℕ → Bool
is_apart a version count =
    lies_apart (changes_of (entries_from a version (Some count))) (changes_of (entries_from a (version + count) None))

-- The steps that take them back are submitted as the client's, at the document's version. Where one does not apply, its entry is
-- told by its place among them, and nothing changes.
abbrev pub taken : Archive → List ℕ → Bool → Result (Taken Document Step) (Refusal Reason) → List ℕ × Archive
taken a id apart (Ok t) = (reverted_text a.schema.spec (version_of a) apart t.steps, (submitted a (version_of a) id t.steps).1)
taken a id apart (Err e) = (refused_text e.index e.reason, a)

abbrev pub reverted_on : Archive → List ℕ → ℕ → ℕ → Option Document → List ℕ × Archive
reverted_on a id version count (Some before) = taken a id (is_apart a version count) (taken_from a version count before)
reverted_on a id version count None = ([], a)

-- Entries, so many from a version on, are taken back, whatever came since. Those that are not kept, and those that there are not
-- yet, change nothing; nor does a client for whose ID there is no room, nor a version at which no client can submit.
abbrev pub reverted : Archive → List ℕ → ℕ → ℕ → List ℕ × Archive
reverted a id version count =
    if nat_lt version a.from then (from_text a.from, a)
    else (if nat_lt (version_of a) (version + count) then (version_text (version_of a), a)
    else (if has_room a.ids id
    then (if nat_lt MAX_VERSION (version_of a) then (version_text (version_of a), a)
    else reverted_on a id version count (doc_at a version))
    else (fault_text BadClients, a)))

-- ---- what a server edits

-- Steps were submitted as a client's, with this outcome: where they were accepted, they are told.
abbrev pub made : Archive → List Step → List ℕ × Archive → List ℕ × Archive
made a steps given = (
  if version_of given.1 == version_of a then given.0 else edited_text a.schema.spec (version_of a) steps,
  given.1,
)

-- The steps of an edit are submitted as the client's, at the document's version; or it is told why there are none. At a version at
-- which no client can submit nothing changes.
abbrev pub edited : Archive → List ℕ → Result (List Step) NoStep → List ℕ × Archive
edited a id (Ok steps) =
    if nat_lt MAX_VERSION (version_of a) then (version_text (version_of a), a)
    else made a steps (submitted a (version_of a) id steps)
edited a id (Err reason) = (none_text reason, a)

-- ---- all of them

-- what a line that asks this is answered, or one with this fault, and what the document is then; a fault changes nothing
abbrev pub answer : Archive → Result Wish Code → List ℕ × Archive
answer a (Ok (Submit version id steps)) = submitted a version id steps
answer a (Ok (Since version most)) = (since_text a version most, a)
answer a (Ok (Doc version)) = (asked_doc_text a version, a)
answer a (Ok (Forget version)) = forgotten a version
answer a (Ok (Map from to anchors)) = (mapped_text a from to anchors, a)
answer a (Ok (Revert id version count)) = reverted a id version count
answer a (Ok (Edit id op)) = edited a id (steps_of a.schema a.doc op)
answer a (Ok (Authors from)) = (asked_authors_text a from, a)
answer a (Err code) = (fault_text code, a)

-- so by the word and the value of a line
abbrev pub answered : Archive → DocWord → Data → List ℕ × Archive
answered a word d = answer a (wish_in a.schema.spec word d)
