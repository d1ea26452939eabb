-- How deep the JSON value of a step nests.
use Rattle.std.proofs.Common.{◌≤◌, ◌==◌, ℕ, List, Bool, true, false, cond, arith}
use Rattle.std.specs.Prelude.{codes}
use Rattle.serde_json.specs.Data.{null, number, unsigned, Members, no_members, member, depth, members_depth, items_depth}
use Rattle.pm_tokens.specs.Slices.{Slice, slice_size}
use Rattle.pm_schema.specs.declared.spec.SchemaSpec.{SchemaSpec}
use Rattle.pm_docjson.specs.Writing.{nodes_written}
use Rattle.pm_docjson.specs.Writable.{AreWritable}
use Rattle.pm_docjson.proofs.Levels.{mark-low, nodes-low}
use Rattle.pm_slicejson.specs.Writing.{with_count, sides_written, slice_written}
use Rattle.pm_meaning.specs.Steps.{Step, Replace, ReplaceAround, AddMark, RemoveMark, AddNodeMark, RemoveNodeMark, Attr, DocAttr}
use Rattle.pm_stepjson.specs.Writable.{CanBeWritten, IsNested, NestsWithin}
use Rattle.pm_stepjson.specs.Fields.{count, typed, with_structure, replaced}
use Rattle.pm_stepjson.specs.Writing.{step_written}
use Rattle.pm_stepjson.proofs.WrittenValues.{value-low}

count-deep : (k : List ℕ) (n : ℕ) (ms : Members) → members_depth (with_count k n ms) ≤ members_depth ms
count-deep k n ms = pick (n == 0)
  where
    pick : (b : Bool) → members_depth (cond b ms (member k (number (unsigned n)) ms)) ≤ members_depth ms
    pick true = omega arith
    pick false = omega arith

module _ (s : SchemaSpec) where
  slice-deep : (sl : Slice) → AreWritable s sl.content → IsNested 48 sl → depth (slice_written s sl) ≤ 106
  slice-deep sl w n = pick (slice_size sl == 0) (nodes-low s 48 sl.content w.tokens n.whole n.deep)
    where
      pick : (b : Bool) → items_depth (nodes_written s sl.content) ≤ 104 → depth (cond b null (sides_written s sl)) ≤ 106
      pick true low = omega arith
      pick false low =
          let first = count-deep (codes "openStart") sl.open_start no_members in
          let both = count-deep (codes "openEnd") sl.open_end (with_count (codes "openStart") sl.open_start no_members) in
          omega (arith, low, first, both)

  structure-deep : (b : Bool) (to : ℕ) → members_depth (with_structure b (member (codes "to") (count to) no_members)) ≤ 0
  structure-deep true to = omega arith
  structure-deep false to = omega arith

  replaced-deep : (name : List ℕ) (to : ℕ) (sl : Slice) (structure : Bool) → AreWritable s sl.content → IsNested 48 sl → members_depth (replaced s name to sl structure) ≤ 106
  replaced-deep name to sl structure w n = pick (slice_size sl == 0) (slice-deep sl w n) (structure-deep structure to)
    where
      pick : (b : Bool) → depth (slice_written s sl) ≤ 106 → members_depth (with_structure structure (member (codes "to") (count to) no_members)) ≤ 0
          → members_depth (cond b (typed name (with_structure structure (member (codes "to") (count to) no_members))) (member (codes "slice") (slice_written s sl) (typed name (with_structure structure (member (codes "to") (count to) no_members))))) ≤ 106
      pick true low none = omega (arith, none)
      pick false low none = omega (arith, low, none)

  pub step-deep : (step : Step) → CanBeWritten s step → NestsWithin 48 step → depth (step_written s step) ≤ 107
  step-deep (Replace from to sl structure) w n = let d = replaced-deep (codes "replace") to sl structure w n in omega (arith, d)
  step-deep (ReplaceAround from to gap_from gap_to sl insert structure) w n = let d = replaced-deep (codes "replaceAround") to sl structure w n in omega (arith, d)
  step-deep (AddMark from to mark) w n = let d = mark-low s mark w in omega (arith, d)
  step-deep (RemoveMark from to mark) w n = let d = mark-low s mark w in omega (arith, d)
  step-deep (AddNodeMark pos mark) w n = let d = mark-low s mark w in omega (arith, d)
  step-deep (RemoveNodeMark pos mark) w n = let d = mark-low s mark w in omega (arith, d)
  step-deep (Attr pos name value) w n = let d = value-low value w in omega (arith, d)
  step-deep (DocAttr name value) w n = let d = value-low value w in omega (arith, d)
