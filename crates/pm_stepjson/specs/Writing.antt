-- The JSON value of a step, with its members in byte order of their keys.
use Rattle.std.specs.Prelude.{codes}
use Rattle.serde_json.specs.Data.{Data}
use Rattle.pm_schema.specs.declared.spec.SchemaSpec.{SchemaSpec}
use Rattle.pm_meaning.specs.Steps.{Step, Replace, ReplaceAround, AddMark, RemoveMark, AddNodeMark, RemoveNodeMark, Attr, DocAttr}
use Rattle.pm_stepjson.specs.Replace.{replace_written}
use Rattle.pm_stepjson.specs.Around.{around_written}
use Rattle.pm_stepjson.specs.Mark.{range_written}
use Rattle.pm_stepjson.specs.NodeMark.{node_written}
use Rattle.pm_stepjson.specs.Attr.{attr_written}
use Rattle.pm_stepjson.specs.DocAttr.{doc_attr_written}

module _ (s : SchemaSpec) where
  abbrev pub step_written : Step → Data
  step_written (Replace from to sl structure) = replace_written s from to sl structure
  step_written (ReplaceAround from to gap_from gap_to sl insert structure) = around_written s from to gap_from gap_to sl insert structure
  step_written (AddMark from to mark) = range_written s (codes "addMark") from to mark
  step_written (RemoveMark from to mark) = range_written s (codes "removeMark") from to mark
  step_written (AddNodeMark pos mark) = node_written s (codes "addNodeMark") pos mark
  step_written (RemoveNodeMark pos mark) = node_written s (codes "removeNodeMark") pos mark
  step_written (Attr pos name value) = attr_written pos name value
  step_written (DocAttr name value) = doc_attr_written name value
