-- What holds of each line to a document.
use Rattle.std.specs.Prelude.{◌≡◌, ◌↔◌, ◌≤◌, ℕ, ◌+◌, nat_lt, Bool, true, false, List, [], ◌∷◌, length, Option, Some, None, Result, Ok, Err, MatchBool, if◌then◌else◌}
use Rattle.serde_json.specs.Data.{Data}
use Rattle.pm_tokens.specs.Tokens.{Doc as Document}
use Rattle.pm_meaning.specs.Steps.{Step}
use Rattle.pm_apply.specs.Changes.{meaning}
use Rattle.pm_head.specs.declared.code.Code.{Code}
use Rattle.pm_authority.specs.Runs.{AllApply, changes_of}
use Rattle.pm_selective.specs.Carried.{left_tokens}
use Rattle.pm_revert.specs.Reverts.{LieApartFrom}
use Rattle.pm_talk.specs.Ids.{number_of, has_room}
use Rattle.pm_talk.specs.Texts.{fault_text, accepted_text}
use Rattle.pm_talk.specs.Live.{named}
use Rattle.pm_order.specs.declared.word.DocWord.{DocWord}
use Rattle.pm_order.specs.declared.word.DocWord.TheVariants as word
use Rattle.pm_order.specs.declared.wish.Wish.{Wish}
use Rattle.pm_order.specs.declared.wish.Wish.TheVariants.{Submit, Since, Doc, Forget, Map, Revert, Edit, Authors}
use Rattle.pm_order.specs.Wishes.{wish_in}
use Rattle.pm_archive.specs.declared.archive.Archive.{Archive}
use Rattle.pm_archive.specs.Archives.{version_of, IsArchive}
use Rattle.pm_archive.specs.Texts.{from_text, reverted_text}
use Rattle.pm_archive.specs.Answers.{entries_from, doc_at, answer, answered}

-- A submission is accepted exactly where there is room for its ID, its version is the document's, and its steps apply one after
-- another.
abbrev pub IsAccepted : Archive → List ℕ → ℕ → List ℕ → List Step → Type 0
IsAccepted a text version id steps =
    (text ≡ accepted_text version (length steps))
    ↔ ((has_room a.ids id ≡ true) × (version ≡ version_of a)
    × ((end : Document) × AllApply meaning a.schema a.doc (named (number_of a.ids id) (version + 1) steps) end))

abbrev pub AcceptsExactly : Type 0
AcceptsExactly =
    (a : Archive) (d : Data) (version : ℕ) (id : List ℕ) (steps : List Step) → wish_in a.schema.spec word.Submit d ≡ Ok (Submit version id steps)
    → IsAccepted a (answered a word.Submit d).0 version id steps

-- A line that is answered a fault changes nothing.
abbrev pub FaultsChangeNothing : Type 0
FaultsChangeNothing = (a : Archive) (w : DocWord) (d : Data) (code : Code) → (answered a w d).0 ≡ fault_text code → (answered a w d).1 ≡ a

-- whether a line asks for what lies below the version, or to let go of no more
abbrev pub asks_below : ℕ → Result Wish Code → Bool
asks_below version (Ok (Submit on id steps)) = false
asks_below version (Ok (Since from most)) = nat_lt from version
asks_below version (Ok (Doc (Some kept))) = nat_lt kept version
asks_below version (Ok (Doc None)) = false
asks_below version (Ok (Forget from)) = nat_lt from version
asks_below version (Ok (Map from to anchors)) = nat_lt from version
asks_below version (Ok (Revert id from count)) = nat_lt from version
asks_below version (Ok (Edit id op)) = false
asks_below version (Ok (Authors from)) = nat_lt from version
asks_below version (Err code) = false

-- whether a line asks to take back entries from below the version on
abbrev pub reverts_below : ℕ → Result Wish Code → Bool
reverts_below version (Ok (Revert id from count)) = nat_lt from version
reverts_below version _ = false

-- what the document is after a line, where it does not hear of those that ask to take back entries from below the version on
abbrev pub heard : ℕ → Archive → Result Wish Code → Archive
heard version a r = if reverts_below version r then a else (answer a r).1

-- The second document's answers to these lines, one after another, are the first's; but a line that asks below the version is told
-- the second's first kept version, and where it asks to take back entries, the first does not hear of it.
abbrev pub SameButBelow : ℕ → Archive → Archive → List (DocWord × Data) → Type 0
SameButBelow version a b [] = Unit {0}
SameButBelow version a b (line ∷ lines) =
    MatchBool (asks_below version (wish_in a.schema.spec line.0 line.1))
    ((answered b line.0 line.1).0 ≡ from_text b.from)
    ((answered b line.0 line.1).0 ≡ (answered a line.0 line.1).0)
    × SameButBelow version (heard version a (wish_in a.schema.spec line.0 line.1)) (answered b line.0 line.1).1 lines

-- To let go what lies before a version changes no later answer but those to lines that ask below it.
abbrev pub ForgetsOnlyBelow : Type 0
ForgetsOnlyBelow =
    (a : Archive) (d : Data) (version : ℕ) (lines : List (DocWord × Data)) → IsArchive a
    → wish_in a.schema.spec word.Forget d ≡ Ok (Forget version) → version ≤ version_of a
    → SameButBelow version a (answered a word.Forget d).1 lines

-- The document has the tokens that the entries behind these, so many from the version on, make of the document before these: each is
-- carried over the maps back, and they are spliced in order.
pub record HasLeft (a : Archive) (version count : ℕ) (doc : Document) : Type 0 where
  pub before : Document
  pub given : doc_at a version ≡ Some before
  pub left : left_tokens (changes_of (entries_from a version (Some count))) (changes_of (entries_from a (version + count) None)) before.tokens ≡ Some doc.tokens

-- Where entries are taken back, and all behind them lie apart from them, what is left is what those behind make of the document
-- before.
abbrev pub RevertLeaves : Type 0
RevertLeaves =
    (a : Archive) (d : Data) (id : List ℕ) (version count : ℕ) (apart : Bool) (steps : List Step) → IsArchive a
    → wish_in a.schema.spec word.Revert d ≡ Ok (Revert id version count)
    → (answered a word.Revert d).0 ≡ reverted_text a.schema.spec (version_of a) apart steps
    → LieApartFrom (changes_of (entries_from a version (Some count))) (changes_of (entries_from a (version + count) None))
    → HasLeft a version count (answered a word.Revert d).1.doc
