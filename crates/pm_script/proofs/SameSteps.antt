-- What a JSON value writes as a slice or a step by a spec, it writes by each spec with the same types.
use Rattle.std.specs.Prelude.{◌≡◌, codes, Ok, is_some, if◌then◌else◌}
use Rattle.serde_json.specs.Data.{Data}
use Rattle.serde_json.specs.Find.{as_null}
use Rattle.pm_list.specs.Readings.{◌>>=◌}
use Rattle.pm_schema.specs.declared.spec.SchemaSpec.{SchemaSpec}
use Rattle.pm_slice.specs.Sides.{sides, no_slice}
use Rattle.pm_docjson.specs.declared.leaves.LeafContent.TheVariants.{Refused}
use Rattle.pm_slicejson.specs.Numbers.{count_at}
use Rattle.pm_slicejson.specs.Reading.{list_at, as_slice, sides_of, slice_of}
use Rattle.pm_stepjson.specs.Reading.{step_read}
use Rattle.pm_stepjson.proofs.SameSpecs as by_parts
use Rattle.pm_head.specs.OneMeaning.{HaveSameTypes}
use Rattle.pm_head.proofs.SameNodes.{nodes-of-alike, mark-of-alike}

module _ (s t : SchemaSpec) (h : HaveSameTypes s t) where
  sides-alike : (d : Data) → sides_of s d ≡ sides_of t d
  unfolding sides_of
  sides-alike d = λ i. list_at (codes "content") d >>= (λ items. nodes-of-alike s t h Refused items i >>= (λ content. count_at (codes "openStart") d >>= (λ open_start. count_at (codes "openEnd") d >>= (λ open_end. as_slice (sides content open_start open_end)))))

  pub slice-alike : (d : Data) → slice_of s d ≡ slice_of t d
  unfolding slice_of
  slice-alike d = λ i. if is_some (as_null d) then Ok no_slice else sides-alike d i

  pub step-alike : (d : Data) → step_read s d ≡ step_read t d
  step-alike d = by_parts.step-alike s t slice-alike (mark-of-alike s t h) d
