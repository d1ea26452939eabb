-- Lines one after another: what each was answered, and what of it was asked of one document.
use Rattle.std.specs.Prelude.{◌≡◌, ℕ, Bool, false, List, [], ◌∷◌, ◌++◌, codes, map, Option, Some, None, Result, Ok, Err, MatchBool, if◌then◌else◌}
use Rattle.std.specs.List.{cons_option}
use Rattle.std.specs.Str.{bytes_eq}
use Rattle.serde_json.specs.Data.{Data}
use Rattle.pm_serve.specs.Serves.{Answers}
use Rattle.pm_head.specs.declared.code.Code.{Code}
use Rattle.pm_head.specs.Lines.{json_line}
use Rattle.pm_opjson.specs.Fields.{text_in}
use Rattle.pm_talk.specs.Texts.{no_memory, fault_text}
use Rattle.pm_order.specs.declared.word.DocWord.{DocWord}
use Rattle.pm_order.specs.declared.word.Word.{Word}
use Rattle.pm_order.specs.declared.word.Word.TheVariants as word
use Rattle.pm_order.specs.Words.{word_in}
use Rattle.pm_archive.specs.declared.archive.Archive.{Archive}
use Rattle.pm_archive.specs.Answers.{answered}
use Rattle.pm_house.specs.declared.house.House.{House}
use Rattle.pm_house.specs.Found.{archive_of}
use Rattle.pm_house.specs.Houses.{IsGood}
use Rattle.pm_house.specs.Replies.{Replies, Serving, last_text}

-- a line, whether there was memory for it, and what was written for it
pub record Turn : Type 0 where
  pub bytes : List ℕ
  pub heard : Bool
  pub text : List ℕ

-- The line is answered, or there was no memory for it, which changes nothing.
abbrev pub Told : House → Turn → House → Type 0
Told h t next = MatchBool t.heard (Replies h t.bytes t.text next) ((t.text ≡ no_memory) × (next ≡ h))

-- so one after another
abbrev pub Runs : House → List Turn → House → Type 0
Runs h [] end = end ≡ h
Runs h (t ∷ ts) end = (mid : House) × Told h t mid × Runs mid ts end

-- what was written for all of them
abbrev pub written : List Turn → List ℕ
written [] = []
written (t ∷ ts) = t.text ++ written ts

-- What is written for lines, as pm_serve says it, is what turns write whose lines they are.
pub record IsTold (h : House) (lines : List (List ℕ)) (out : List ℕ) (end : House) : Type 0 where
  pub turns : List Turn
  pub are : map (λ t. t.bytes) turns ≡ lines
  pub writes : out ≡ written turns
  pub runs : Runs h turns end

abbrev pub AllTold : Type 0
AllTold =
    (h : House) (lines : List (List ℕ)) (out : List ℕ) (end : House) → Answers Serving last_text no_memory h lines out end
    → IsTold h lines out end

-- Each document stays valid.
abbrev pub AllGood : Type 0
AllGood = (h : House) (turns : List Turn) (end : House) → Runs h turns end → IsGood h → IsGood end

-- ---- one document

-- what is asked of a document: its word and its value, and whether there was memory for it
pub record Ask : Type 0 where
  pub heard : Bool
  pub word : DocWord
  pub value : Data

-- what was written for a line that asks something
abbrev pub text_of : Turn → Option Ask → List (List ℕ)
text_of t (Some q) = t.text ∷ []
text_of t None = []

module _ (name : List ℕ) where
  -- what the line asks of the document of this name, if it asks anything of it
  abbrev pub ask_by : Bool → DocWord → Data → Result (List ℕ) Code → Option Ask
  ask_by heard w d (Ok other) = if bytes_eq name other then Some record { heard = heard; word = w; value = d } else None
  ask_by heard w d (Err code) = None

  abbrev pub ask_with : Bool → Data → Result Word Code → Option Ask
  ask_with heard d (Ok (word.In w)) = ask_by heard w d (text_in (codes "in") d)
  ask_with heard d (Ok word.Schema) = None
  ask_with heard d (Ok word.Open) = None
  ask_with heard d (Ok word.Close) = None
  ask_with heard d (Ok word.Documents) = None
  ask_with heard d (Ok word.Statistics) = None
  ask_with heard d (Err code) = None

  abbrev pub ask_of : Bool → Result Data Code → Option Ask
  ask_of heard (Ok d) = ask_with heard d (word_in d)
  ask_of heard (Err code) = None

  abbrev pub ask_in : Turn → Option Ask
  ask_in t = ask_of t.heard (json_line t.bytes)

  -- all that is asked of it
  abbrev pub asks_in : List Turn → List Ask
  asks_in [] = []
  asks_in (t ∷ ts) = cons_option (ask_in t) (asks_in ts)

  -- what was written for that
  abbrev pub texts_in : List Turn → List (List ℕ)
  texts_in [] = []
  texts_in (t ∷ ts) = text_of t (ask_in t) ++ texts_in ts

  -- whether the line closes it
  abbrev pub closes_by : Result (List ℕ) Code → Bool
  closes_by (Ok other) = bytes_eq name other
  closes_by (Err code) = false

  abbrev pub closes_with : Data → Result Word Code → Bool
  closes_with d (Ok word.Close) = closes_by (text_in (codes "in") d)
  closes_with d (Ok (word.In w)) = false
  closes_with d (Ok word.Schema) = false
  closes_with d (Ok word.Open) = false
  closes_with d (Ok word.Documents) = false
  closes_with d (Ok word.Statistics) = false
  closes_with d (Err code) = false

  abbrev pub closes_of : Result Data Code → Bool
  closes_of (Ok d) = closes_with d (word_in d)
  closes_of (Err code) = false

  -- no line for which there was memory closes it
  abbrev pub StaysOpen : List Turn → Type 0
  StaysOpen [] = Unit {0}
  StaysOpen (t ∷ ts) = ((if t.heard then closes_of (json_line t.bytes) else false) ≡ false) × StaysOpen ts

-- the document alone: what it answers to this, and what it is then
abbrev pub told_alone : Archive → Ask → List ℕ × Archive
told_alone a q = if q.heard then answered a q.word q.value else (no_memory, a)

-- the answers to all that is asked of it, and what it is then
abbrev pub alone : Archive → List Ask → List (List ℕ)
alone a [] = []
alone a (q ∷ qs) = (told_alone a q).0 ∷ alone (told_alone a q).1 qs

abbrev pub after_alone : Archive → List Ask → Archive
after_alone a [] = a
after_alone a (q ∷ qs) = after_alone (told_alone a q).1 qs

-- The answers to the lines of an open document are those of the document alone, and so is what it is then, whatever lines of others,
-- openings and closings lie between, until it is closed.
abbrev pub AllAlone : Type 0
AllAlone =
    (h : House) (turns : List Turn) (end : House) (name : List ℕ) (a : Archive) → Runs h turns end
    → archive_of name h.documents ≡ Some a → StaysOpen name turns
    → (texts_in name turns ≡ alone a (asks_in name turns))
    × (archive_of name end.documents ≡ Some (after_alone a (asks_in name turns)))

-- ---- faults

-- A line that is answered a fault changes nothing.
abbrev pub FaultsChangeNothing : Type 0
FaultsChangeNothing = (h : House) (line : List ℕ) (code : Code) (next : House) → Replies h line (fault_text code) next → next ≡ h
