-- What an op line does, by its word. Its fields are read in the order in which they stand here.
use Rattle.std.specs.Prelude.{codes, Result, Ok}
use Rattle.serde_json.specs.Data.{Data}
use Rattle.pm_list.specs.Readings.{◌>>=◌}
use Rattle.pm_schema.specs.declared.spec.SchemaSpec.{SchemaSpec}
use Rattle.pm_head.specs.declared.code.Code.{Code}
use Rattle.pm_meaning.specs.Steps.{Step}
use Rattle.pm_ops.specs.declared.op.Op.{Op}
use Rattle.pm_session.specs.declared.line.Act.{Act}
use Rattle.pm_session.specs.declared.line.Act.TheVariants.{Edit, Undo, Redo, UndoEvent, Cursor, Submit, Ask, Present, Take, Push, Pull, Forge, Enter}
use Rattle.pm_opjson.specs.declared.kinds.EditKind.{EditKind}
use Rattle.pm_script.specs.declared.word.Word.{Word}
use Rattle.pm_script.specs.declared.word.Word.TheVariants as word
use Rattle.pm_opjson.specs.Fields.{number_in, lost_in, side_in, event_in}
use Rattle.pm_opjson.specs.Ops.{op_of}
use Rattle.pm_opjson.specs.Parts.{steps_in}

-- an edit: the fields of its kind, and then an event number
unfoldable pub edit_in : SchemaSpec → EditKind → Data → Result (Act Op Step) Code
edit_in s kind d = do
  op ← op_of s kind d
  event ← event_in d
  Ok (Edit op event)

-- `cursor`: a position, and a side
unfoldable pub cursor_in : Data → Result (Act Op Step) Code
cursor_in d = do
  at ← number_in (codes "pos") d
  side ← side_in d
  Ok (Cursor at side)

-- `forge`: a version, and the steps
unfoldable pub forge_in : SchemaSpec → Data → Result (Act Op Step) Code
forge_in s d = do
  version ← number_in (codes "version") d
  steps ← steps_in s d
  Ok (Forge version steps)

-- what the word does
abbrev pub act_in : SchemaSpec → Word → Data → Result (Act Op Step) Code
act_in s (word.Edit kind) d = edit_in s kind d
act_in s word.Undo d = Ok Undo
act_in s word.Redo d = Ok Redo
act_in s word.UndoEvent d = number_in (codes "event") d >>= (λ n. Ok (UndoEvent n))
act_in s word.Cursor d = cursor_in d
act_in s word.Submit d = Ok Submit
act_in s word.Ask d = Ok Ask
act_in s word.Present d = number_in (codes "message") d >>= (λ n. Ok (Present n))
act_in s word.Take d = number_in (codes "answer") d >>= (λ n. Ok (Take n))
act_in s word.Push d = lost_in d >>= (λ lost. Ok (Push lost))
act_in s word.Pull d = lost_in d >>= (λ lost. Ok (Pull lost))
act_in s word.Forge d = forge_in s d
act_in s word.Enter d = Ok Enter
