-- What a line asks of one document. The fields are read in the order in which they stand here.
use Rattle.std.specs.Prelude.{codes, Result, Ok}
use Rattle.serde_json.specs.Data.{Data}
use Rattle.serde_json.specs.Find.{get}
use Rattle.pm_list.specs.Readings.{◌>>=◌, or_fault}
use Rattle.pm_schema.specs.declared.spec.SchemaSpec.{SchemaSpec}
use Rattle.pm_head.specs.declared.code.Code.{Code}
use Rattle.pm_head.specs.declared.code.Code.TheVariants.{WrongShape, UnknownName}
use Rattle.pm_ops.specs.declared.op.Op.{Op}
use Rattle.pm_opjson.specs.Words.{edit_named}
use Rattle.pm_opjson.specs.Fields.{number_in, text_in}
use Rattle.pm_opjson.specs.Parts.{steps_in}
use Rattle.pm_opjson.specs.Ops.{op_of}
use Rattle.pm_talk.specs.Fields.{id_in}
use Rattle.pm_order.specs.declared.word.DocWord.{DocWord}
use Rattle.pm_order.specs.declared.word.DocWord.TheVariants as word
use Rattle.pm_order.specs.declared.wish.Wish.{Wish}
use Rattle.pm_order.specs.declared.wish.Wish.TheVariants.{Submit, Since, Doc, Forget, Map, Revert, Edit, Authors}
use Rattle.pm_order.specs.Fields.{optional_in}
use Rattle.pm_order.specs.Positions.{positions_in}

-- `since`: a version, and at most how many entries
unfoldable pub since_in : Data → Result Wish Code
since_in d = do
  version ← number_in (codes "version") d
  most ← optional_in (codes "most") d
  Ok (Since version most)

-- `doc`: at a version, where one is said
unfoldable pub doc_in : Data → Result Wish Code
doc_in d = do
  version ← optional_in (codes "version") d
  Ok (Doc version)

-- `forget`: a version
unfoldable pub forget_in : Data → Result Wish Code
forget_in d = do
  version ← number_in (codes "version") d
  Ok (Forget version)

-- `map`: a version, a later one, and positions of the document at the first
unfoldable pub map_in : Data → Result Wish Code
map_in d = do
  from ← number_in (codes "from") d
  to ← number_in (codes "to") d
  anchors ← positions_in d
  Ok (Map from to anchors)

-- `revert`: the client's ID, a version, and how many steps
unfoldable pub revert_in : Data → Result Wish Code
revert_in d = do
  id ← id_in d
  from ← number_in (codes "from") d
  count ← number_in (codes "count") d
  Ok (Revert id from count)

-- `authors`: a version
unfoldable pub authors_in : Data → Result Wish Code
authors_in d = do
  from ← number_in (codes "from") d
  Ok (Authors from)

module _ (s : SchemaSpec) where
  -- `submit`: a version, the client's ID, and the steps
  unfoldable pub submit_in : Data → Result Wish Code
  submit_in d = do
    version ← number_in (codes "version") d
    id ← id_in d
    steps ← steps_in s d
    Ok (Submit version id steps)

  -- one of the fourteen edits, by its `op`
  unfoldable pub op_in : Data → Result Op Code
  op_in d = do
    text ← text_in (codes "op") d
    kind ← or_fault UnknownName (edit_named text)
    op_of s kind d

  -- `edit`: the client's ID, and an edit as its own line has it
  unfoldable pub edit_in : Data → Result Wish Code
  edit_in d = do
    id ← id_in d
    inner ← or_fault WrongShape (get (codes "edit") d)
    op ← op_in inner
    Ok (Edit id op)

  -- what a line with this word asks, or the code of its first fault
  abbrev pub wish_in : DocWord → Data → Result Wish Code
  wish_in word.Submit d = submit_in d
  wish_in word.Since d = since_in d
  wish_in word.Doc d = doc_in d
  wish_in word.Forget d = forget_in d
  wish_in word.Map d = map_in d
  wish_in word.Revert d = revert_in d
  wish_in word.Edit d = edit_in d
  wish_in word.Authors d = authors_in d
