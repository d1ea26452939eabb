-- The parts of an op line that have a form of their own, most of which are read by the schema. One that is absent and must be
-- there is of a wrong shape, and a name of no node type is unknown.
use Rattle.std.specs.Prelude.{ℕ, List, [], ◌∷◌, codes, Result, Ok}
use Rattle.serde_json.specs.Data.{Data, Items, no_items, item}
use Rattle.serde_json.specs.Find.{get, as_array}
use Rattle.pm_list.specs.Readings.{◌>>=◌, or_fault}
use Rattle.pm_value.specs.Plain.{Plain}
use Rattle.pm_value.specs.Reading.{value_of}
use Rattle.pm_value.specs.declared.value.Value.{Value}
use Rattle.pm_marks.specs.declared.mark.Mark.{Mark}
use Rattle.pm_tokens.specs.Slices.{Slice}
use Rattle.pm_schema.specs.declared.spec.SchemaSpec.{SchemaSpec}
use Rattle.pm_schema.specs.Names.{place_of}
use Rattle.pm_schema.specs.Types.{names_of_nodes, node_at}
use Rattle.pm_node.specs.declared.node.Node.{Node}
use Rattle.pm_docjson.specs.declared.leaves.LeafContent.TheVariants.{Refused}
use Rattle.pm_docjson.specs.Fields.{field}
use Rattle.pm_docjson.specs.Reading.{attrs_read, mark_of, node_of}
use Rattle.pm_slicejson.specs.Reading.{slice_of}
use Rattle.pm_head.specs.declared.code.Code.{Code}
use Rattle.pm_head.specs.declared.code.Code.TheVariants.{WrongShape, UnknownName}
use Rattle.pm_meaning.specs.Steps as steps
use Rattle.pm_step.specs.declared.step.Step.{Step}
use Rattle.pm_step.specs.Steps.{as_step}
use Rattle.pm_step.specs.Values.{as_value}
use Rattle.pm_stepjson.specs.Reading.{step_read}
use Rattle.pm_opjson.specs.Codes.{coded, node_coded, value_coded}
use Rattle.pm_opjson.specs.Fields.{text_in}

-- the value as one of an attribute
abbrev pub value_from : Data → Result Value Code
value_from d = value_coded (value_of d) >>= (λ read. Ok (as_value read))

-- the value at `value`, which must be there; null is one
abbrev pub value_in : Data → Result Value Code
value_in d = or_fault WrongShape (get (codes "value") d) >>= value_from

module _ (s : SchemaSpec) where
  -- the value as a step
  abbrev pub step_from : Data → Result Step Code
  step_from d = coded (step_read s d) >>= (λ read. Ok (as_step read))

  -- the values as steps, from the front
  unfoldable pub step_list : Items → Result (List steps.Step) Code
  step_list no_items = Ok []
  step_list (item d ds) = do
    first ← coded (step_read s d)
    rest ← step_list ds
    Ok (first ∷ rest)

  -- the list of steps at `steps`, which may be empty
  unfoldable pub steps_in : Data → Result (List steps.Step) Code
  steps_in d = do
    value ← or_fault WrongShape (get (codes "steps") d)
    items ← or_fault WrongShape (as_array value)
    step_list items

  -- the step at `step`
  abbrev pub step_in : Data → Result Step Code
  step_in d = or_fault WrongShape (get (codes "step") d) >>= step_from

  -- the slice at `slice`, which must be there; null is the empty slice
  abbrev pub slice_in : Data → Result Slice Code
  slice_in d = or_fault WrongShape (get (codes "slice") d) >>= (λ v. node_coded (slice_of s v))

  -- the node at `node`, in which leaf types have no content
  abbrev pub node_in : Data → Result Node Code
  node_in d = or_fault WrongShape (get (codes "node") d) >>= (λ v. node_coded (node_of s Refused v))

  -- the mark at `mark`
  abbrev pub mark_in : Data → Result (Mark (List Plain)) Code
  mark_in d = or_fault WrongShape (get (codes "mark") d) >>= (λ v. node_coded (mark_of s v))

  -- the node type that `type` names
  abbrev pub type_in : Data → Result ℕ Code
  type_in d = text_in (codes "type") d >>= (λ name. or_fault UnknownName (place_of name (names_of_nodes s)))

  -- the attributes of a node of this type, where `attrs` gives their values; where it is absent none is given
  abbrev pub attrs_in : ℕ → Data → Result (List Plain) Code
  attrs_in kind d = node_coded (attrs_read (node_at s kind).attrs (field (codes "attrs") d))
