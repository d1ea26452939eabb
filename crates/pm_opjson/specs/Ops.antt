-- The fourteen edits: for each the fields of its line, in the order in which they are read.
use Rattle.std.specs.Prelude.{codes, Result, Ok}
use Rattle.serde_json.specs.Data.{Data}
use Rattle.pm_list.specs.Readings.{◌>>=◌}
use Rattle.pm_schema.specs.declared.spec.SchemaSpec.{SchemaSpec}
use Rattle.pm_head.specs.declared.code.Code.{Code}
use Rattle.pm_ops.specs.declared.op.Op.{Op}
use Rattle.pm_ops.specs.declared.op.Op.TheVariants.{InsertText, Delete, Paste, InsertNode, Split, Join, Wrap, Lift, SetType, AddMark, RemoveMark, SetAttr, SetDocAttr, Step}
use Rattle.pm_opjson.specs.declared.kinds.EditKind.{EditKind}
use Rattle.pm_opjson.specs.declared.kinds.EditKind.TheVariants as kind
use Rattle.pm_opjson.specs.Fields.{text_in, number_in, depth_in}
use Rattle.pm_opjson.specs.Parts.{step_in, slice_in, node_in, mark_in, value_in, type_in, attrs_in}

-- `text`
unfoldable pub text_op : Data → Result Op Code
text_op d = do
  from ← number_in (codes "from") d
  to ← number_in (codes "to") d
  text ← text_in (codes "text") d
  Ok (InsertText from to text)

-- `delete`
unfoldable pub delete_op : Data → Result Op Code
delete_op d = do
  from ← number_in (codes "from") d
  to ← number_in (codes "to") d
  Ok (Delete from to)

-- `split`
unfoldable pub split_op : Data → Result Op Code
split_op d = do
  at ← number_in (codes "pos") d
  depth ← depth_in d
  Ok (Split at depth)

-- `join`
unfoldable pub join_op : Data → Result Op Code
join_op d = do
  at ← number_in (codes "pos") d
  depth ← depth_in d
  Ok (Join at depth)

-- `lift`
unfoldable pub lift_op : Data → Result Op Code
lift_op d = do
  at ← number_in (codes "pos") d
  Ok (Lift at)

-- `attr`
unfoldable pub attr_op : Data → Result Op Code
attr_op d = do
  at ← number_in (codes "pos") d
  name ← text_in (codes "attr") d
  value ← value_in d
  Ok (SetAttr at name value)

-- `docattr`
unfoldable pub doc_attr_op : Data → Result Op Code
doc_attr_op d = do
  name ← text_in (codes "attr") d
  value ← value_in d
  Ok (SetDocAttr name value)

module _ (s : SchemaSpec) where
  -- `step`
  unfoldable pub step_op : Data → Result Op Code
  step_op d = do
    step ← step_in s d
    Ok (Step step)

  -- `paste`
  unfoldable pub paste_op : Data → Result Op Code
  paste_op d = do
    from ← number_in (codes "from") d
    to ← number_in (codes "to") d
    slice ← slice_in s d
    Ok (Paste from to slice)

  -- `insert`
  unfoldable pub insert_op : Data → Result Op Code
  insert_op d = do
    at ← number_in (codes "pos") d
    node ← node_in s d
    Ok (InsertNode at node)

  -- `wrap`
  unfoldable pub wrap_op : Data → Result Op Code
  wrap_op d = do
    from ← number_in (codes "from") d
    to ← number_in (codes "to") d
    type ← type_in s d
    attrs ← attrs_in s type d
    Ok (Wrap from to type attrs)

  -- `settype`
  unfoldable pub set_type_op : Data → Result Op Code
  set_type_op d = do
    at ← number_in (codes "pos") d
    type ← type_in s d
    attrs ← attrs_in s type d
    Ok (SetType at type attrs)

  -- `addmark`
  unfoldable pub add_mark_op : Data → Result Op Code
  add_mark_op d = do
    from ← number_in (codes "from") d
    to ← number_in (codes "to") d
    mark ← mark_in s d
    Ok (AddMark from to mark)

  -- `removemark`
  unfoldable pub remove_mark_op : Data → Result Op Code
  remove_mark_op d = do
    from ← number_in (codes "from") d
    to ← number_in (codes "to") d
    mark ← mark_in s d
    Ok (RemoveMark from to mark)

  -- the edit of this kind
  abbrev pub op_of : EditKind → Data → Result Op Code
  op_of kind.Step d = step_op d
  op_of kind.Text d = text_op d
  op_of kind.Delete d = delete_op d
  op_of kind.Paste d = paste_op d
  op_of kind.Insert d = insert_op d
  op_of kind.Split d = split_op d
  op_of kind.Join d = join_op d
  op_of kind.Wrap d = wrap_op d
  op_of kind.Lift d = lift_op d
  op_of kind.SetType d = set_type_op d
  op_of kind.AddMark d = add_mark_op d
  op_of kind.RemoveMark d = remove_mark_op d
  op_of kind.Attr d = attr_op d
  op_of kind.DocAttr d = doc_attr_op d
