-- What a line asks. `op` is read first, and then the other fields in the order in which they stand here.
use Rattle.std.specs.Prelude.{ℕ, List, codes, Option, Result, Ok}
use Rattle.serde_json.specs.Data.{Data}
use Rattle.serde_json.specs.Find.{get}
use Rattle.pm_list.specs.Readings.{◌>>=◌, or_fault}
use Rattle.pm_schema.specs.declared.spec.SchemaSpec.{SchemaSpec}
use Rattle.pm_head.specs.declared.code.Code.{Code}
use Rattle.pm_head.specs.declared.code.Code.TheVariants.{WrongShape, UnknownName}
use Rattle.pm_head.specs.Lines.{json_line}
use Rattle.pm_history.specs.declared.turn.Turn.TheVariants as turn
use Rattle.pm_opjson.specs.declared.kinds.EditKind.{EditKind}
use Rattle.pm_opjson.specs.Words.{edit_named}
use Rattle.pm_opjson.specs.Fields.{text_in, number_in, side_in, event_in}
use Rattle.pm_opjson.specs.Ops.{op_of}
use Rattle.pm_asked.specs.declared.asked.Edit.{Edit}
use Rattle.pm_asked.specs.declared.asked.Asked.{Asked}
use Rattle.pm_asked.specs.declared.asked.Asked.TheVariants as asked
use Rattle.pm_asked.specs.declared.word.Word.{Word}
use Rattle.pm_asked.specs.declared.word.Word.TheVariants as word
use Rattle.pm_asked.specs.Words.{word_named}
use Rattle.pm_asked.specs.Given.{given_in}

-- what `op` says, among these names
abbrev pub op_among : {A : Type 0} → (List ℕ → Option A) → Data → Result A Code
op_among names d = text_in (codes "op") d >>= (λ text. or_fault UnknownName (names text))

-- the word that `op` says
abbrev pub word_in : Data → Result Word Code
word_in d = op_among word_named d

-- the kind of edit that `op` says
abbrev pub kind_in : Data → Result EditKind Code
kind_in d = op_among edit_named d

-- `undoevent`: the event's number
unfoldable pub event_turn : Data → Result Asked Code
event_turn d = do
  number ← number_in (codes "event") d
  Ok (asked.Turn (turn.UndoEvent number))

-- `cursor`: a position, and a side
unfoldable pub cursor_in : Data → Result Asked Code
cursor_in d = do
  at ← number_in (codes "pos") d
  side ← side_in d
  Ok (asked.Cursor at side)

module _ (s : SchemaSpec) where
  -- an edit: the fields of its kind, and then its event's number
  unfoldable pub edit_in : EditKind → Data → Result Edit Code
  edit_in kind d = do
    op ← op_of s kind d
    event ← event_in d
    Ok (record { op = op; event = event })

  -- `can`: an edit as its own line has it
  unfoldable pub can_in : Data → Result Asked Code
  can_in d = do
    inner ← or_fault WrongShape (get (codes "edit") d)
    kind ← kind_in inner
    edit ← edit_in kind inner
    Ok (asked.Can edit)

  module _ (id : List ℕ) where
    -- what the word asks of the client with this ID
    abbrev pub asks : Word → Data → Result Asked Code
    asks (word.Edit kind) d = edit_in kind d >>= (λ edit. Ok (asked.Edit edit))
    asks word.Can d = can_in d
    asks word.Undo d = Ok (asked.Turn turn.Undo)
    asks word.Redo d = Ok (asked.Turn turn.Redo)
    asks word.UndoEvent d = event_turn d
    asks word.Cursor d = cursor_in d
    asks word.Compose d = Ok asked.Compose
    asks word.Ask d = Ok asked.Ask
    asks word.Take d = given_in id s d >>= (λ given. Ok (asked.Take given))
    asks word.Doc d = Ok asked.Doc
    asks word.State d = Ok asked.State

    unfoldable pub asked_of : Data → Result Asked Code
    asked_of d = do
      found ← word_in d
      asks found d

    -- what a line asks of the client with this ID, or the code of its first fault
    unfoldable pub asked_line : List ℕ → Result Asked Code
    asked_line line = do
      json ← json_line line
      asked_of json
