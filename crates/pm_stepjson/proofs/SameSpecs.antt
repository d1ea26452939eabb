-- Two specs by which slices and marks are read alike read each step alike.
use Rattle.std.specs.Prelude.{◌≡◌, codes, Option, Some, None, Ok, refl}
use Rattle.serde_json.specs.Data.{Data}
use Rattle.serde_json.specs.Find.{get}
use Rattle.pm_list.specs.Readings.{◌>>=◌, or_fault}
use Rattle.pm_schema.specs.declared.spec.SchemaSpec.{SchemaSpec}
use Rattle.pm_docjson.specs.Fields.{field}
use Rattle.pm_docjson.specs.Reading.{mark_of}
use Rattle.pm_slicejson.specs.Reading.{slice_of}
use Rattle.pm_meaning.specs.Steps as steps
use Rattle.pm_stepjson.specs.declared.kind.Kind.{Kind}
use Rattle.pm_stepjson.specs.declared.kind.Kind.TheVariants.{Replace, ReplaceAround, AddMark, RemoveMark, AddNodeMark, RemoveNodeMark, Attr, DocAttr}
use Rattle.pm_stepjson.specs.declared.fault.StepReadError.TheVariants.{Shape, UnknownKind}
use Rattle.pm_stepjson.specs.Kinds.{kind_named}
use Rattle.pm_stepjson.specs.Fields.{number_at, text_at, structure_at, as_slice, as_mark, slice_in, slice_at, mark_at}
use Rattle.pm_stepjson.specs.Replace.{replace_from}
use Rattle.pm_stepjson.specs.Around.{around_from}
use Rattle.pm_stepjson.specs.Mark.{range_from}
use Rattle.pm_stepjson.specs.NodeMark.{node_from}
use Rattle.pm_stepjson.specs.Reading.{kind_from, step_read}

module _ (s t : SchemaSpec) (slices : (d : Data) → slice_of s d ≡ slice_of t d) (marks : (d : Data) → mark_of s d ≡ mark_of t d) where
  slice-in-alike : (o : Option Data) → slice_in s o ≡ slice_in t o
  slice-in-alike None = refl
  slice-in-alike (Some d) = λ i. as_slice (slices d i)

  slice-at-alike : (d : Data) → slice_at s d ≡ slice_at t d
  slice-at-alike d = slice-in-alike (field (codes "slice") d)

  mark-at-alike : (d : Data) → mark_at s d ≡ mark_at t d
  mark-at-alike d = λ i. or_fault Shape (get (codes "mark") d) >>= (λ m. as_mark (marks m i))

  replace-alike : (d : Data) → replace_from s d ≡ replace_from t d
  unfolding replace_from
  replace-alike d = λ i. number_at (codes "from") d >>= (λ from. number_at (codes "to") d >>= (λ to. slice-at-alike d i >>= (λ slice. structure_at d >>= (λ structure. Ok (steps.Replace from to slice structure)))))

  around-alike : (d : Data) → around_from s d ≡ around_from t d
  unfolding around_from
  around-alike d = λ i. number_at (codes "from") d >>= (λ from. number_at (codes "to") d >>= (λ to. number_at (codes "gapFrom") d >>= (λ gap_from. number_at (codes "gapTo") d >>= (λ gap_to. number_at (codes "insert") d >>= (λ insert. slice-at-alike d i >>= (λ slice. structure_at d >>= (λ structure. Ok (steps.ReplaceAround from to gap_from gap_to slice insert structure))))))))

  range-alike : (d : Data) → range_from s d ≡ range_from t d
  unfolding range_from
  range-alike d = λ i. number_at (codes "from") d >>= (λ from. number_at (codes "to") d >>= (λ to. mark-at-alike d i >>= (λ mark. Ok (record { from = from; to = to; mark = mark }))))

  node-alike : (d : Data) → node_from s d ≡ node_from t d
  unfolding node_from
  node-alike d = λ i. number_at (codes "pos") d >>= (λ pos. mark-at-alike d i >>= (λ mark. Ok (record { pos = pos; mark = mark })))

  kind-alike : (kind : Kind) (d : Data) → kind_from s kind d ≡ kind_from t kind d
  kind-alike Replace d = replace-alike d
  kind-alike ReplaceAround d = around-alike d
  kind-alike AddMark d = λ i. range-alike d i >>= (λ r. Ok (steps.AddMark r.from r.to r.mark))
  kind-alike RemoveMark d = λ i. range-alike d i >>= (λ r. Ok (steps.RemoveMark r.from r.to r.mark))
  kind-alike AddNodeMark d = λ i. node-alike d i >>= (λ n. Ok (steps.AddNodeMark n.pos n.mark))
  kind-alike RemoveNodeMark d = λ i. node-alike d i >>= (λ n. Ok (steps.RemoveNodeMark n.pos n.mark))
  kind-alike Attr d = refl
  kind-alike DocAttr d = refl

  pub step-alike : (d : Data) → step_read s d ≡ step_read t d
  unfolding step_read
  step-alike d = λ i. text_at (codes "stepType") d >>= (λ name. or_fault UnknownKind (kind_named name) >>= (λ kind. kind-alike kind d i))
