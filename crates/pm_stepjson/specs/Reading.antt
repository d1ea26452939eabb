-- The step that a JSON value is, or its first fault. `stepType` is read first, and then the fields of that kind of steps in their
-- order, each with all that is in it before the next.
use Rattle.std.specs.Prelude.{codes, Result, Ok}
use Rattle.serde_json.specs.Data.{Data}
use Rattle.pm_list.specs.Readings.{◌>>=◌, or_fault}
use Rattle.pm_schema.specs.declared.spec.SchemaSpec.{SchemaSpec}
use Rattle.pm_meaning.specs.Steps as steps
use Rattle.pm_meaning.specs.Steps.{Step}
use Rattle.pm_stepjson.specs.declared.kind.Kind.{Kind}
use Rattle.pm_stepjson.specs.declared.kind.Kind.TheVariants.{Replace, ReplaceAround, AddMark, RemoveMark, AddNodeMark, RemoveNodeMark, Attr, DocAttr}
use Rattle.pm_stepjson.specs.declared.fault.StepReadError.{StepReadError}
use Rattle.pm_stepjson.specs.declared.fault.StepReadError.TheVariants.{UnknownKind}
use Rattle.pm_stepjson.specs.Kinds.{kind_named}
use Rattle.pm_stepjson.specs.Fields.{text_at}
use Rattle.pm_stepjson.specs.Replace.{replace_from}
use Rattle.pm_stepjson.specs.Around.{around_from}
use Rattle.pm_stepjson.specs.Mark.{range_from}
use Rattle.pm_stepjson.specs.NodeMark.{node_from}
use Rattle.pm_stepjson.specs.Attr.{attr_from}
use Rattle.pm_stepjson.specs.DocAttr.{doc_attr_from}

module _ (s : SchemaSpec) where
  -- the step of this kind
  abbrev pub kind_from : Kind → Data → Result Step StepReadError
  kind_from Replace d = replace_from s d
  kind_from ReplaceAround d = around_from s d
  kind_from AddMark d = range_from s d >>= (λ r. Ok (steps.AddMark r.from r.to r.mark))
  kind_from RemoveMark d = range_from s d >>= (λ r. Ok (steps.RemoveMark r.from r.to r.mark))
  kind_from AddNodeMark d = node_from s d >>= (λ n. Ok (steps.AddNodeMark n.pos n.mark))
  kind_from RemoveNodeMark d = node_from s d >>= (λ n. Ok (steps.RemoveNodeMark n.pos n.mark))
  kind_from Attr d = attr_from d
  kind_from DocAttr d = doc_attr_from d

  unfoldable pub step_read : Data → Result Step StepReadError
  step_read d = do
    name ← text_at (codes "stepType") d
    kind ← or_fault UnknownKind (kind_named name)
    kind_from kind d
