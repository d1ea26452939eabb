-- What is written of a step has no float.
use Rattle.std.proofs.Common.{◌≡◌, ◌==◌, ℕ, List, Bool, true, false, cond, refl}
use Rattle.std.specs.Prelude.{codes}
use Rattle.serde_json.specs.Data.{Data, boolean, string, Members, no_members, member}
use Rattle.serde_json.specs.Written.{has_float, members_have_float}
use Rattle.pm_value.specs.Plain.{Plain}
use Rattle.pm_value.specs.Writing.{written}
use Rattle.pm_marks.specs.declared.mark.Mark.{Mark}
use Rattle.pm_tokens.specs.Tokens.{Attrs}
use Rattle.pm_tokens.specs.Slices.{Slice, slice_size}
use Rattle.pm_schema.specs.declared.spec.SchemaSpec.{SchemaSpec}
use Rattle.pm_docjson.specs.Writing.{mark_written}
use Rattle.pm_docjson.proofs.NoFloat.{neither, mark-whole}
use Rattle.pm_slicejson.specs.Writing.{slice_written}
use Rattle.pm_slicejson.proofs.NoFloat.{slice-whole}
use Rattle.pm_meaning.specs.Steps.{Step, Replace, ReplaceAround, AddMark, RemoveMark, AddNodeMark, RemoveNodeMark, Attr, DocAttr}
use Rattle.pm_stepjson.specs.Fields.{count, typed, with_structure, with_slice, replaced}
use Rattle.pm_stepjson.specs.Mark.{range_written}
use Rattle.pm_stepjson.specs.NodeMark.{node_written}
use Rattle.pm_stepjson.specs.Attr.{attr_written}
use Rattle.pm_stepjson.specs.DocAttr.{doc_attr_written}
use Rattle.pm_stepjson.specs.Writing.{step_written}
use Rattle.pm_stepjson.proofs.WrittenValues.{value-whole}

-- one more member without a float
more : (k : List ℕ) (d : Data) (ms : Members) → has_float d ≡ false → members_have_float ms ≡ false → members_have_float (member k d ms) ≡ false
more k d ms h g = neither (has_float d) (members_have_float ms) h g

counted : (k : List ℕ) (n : ℕ) (ms : Members) → members_have_float ms ≡ false → members_have_float (member k (count n) ms) ≡ false
counted k n ms h = more k (count n) ms refl h

typed-whole : (name : List ℕ) (ms : Members) → members_have_float ms ≡ false → members_have_float (typed name ms) ≡ false
typed-whole name ms h = more (codes "stepType") (string name) ms refl h

-- the name of an attribute before other members
named-whole : (name : List ℕ) (ms : Members) → members_have_float ms ≡ false → members_have_float (member (codes "attr") (string name) ms) ≡ false
named-whole name ms h = more (codes "attr") (string name) ms refl h

value-member : (value : Plain) → members_have_float (member (codes "value") (written value) no_members) ≡ false
value-member value = more (codes "value") (written value) no_members (value-whole value) refl

attr-whole : (pos : ℕ) (name : List ℕ) (value : Plain) → has_float (attr_written pos name value) ≡ false
attr-whole pos name value =
    let last = member (codes "value") (written value) no_members in
    let kind = typed (codes "attr") last in
    named-whole name (member (codes "pos") (count pos) kind) (counted (codes "pos") pos kind (typed-whole (codes "attr") last (value-member value)))

doc-attr-whole : (name : List ℕ) (value : Plain) → has_float (doc_attr_written name value) ≡ false
doc-attr-whole name value =
    let last = member (codes "value") (written value) no_members in
    named-whole name (typed (codes "docAttr") last) (typed-whole (codes "docAttr") last (value-member value))

structure-whole : (b : Bool) (ms : Members) → members_have_float ms ≡ false → members_have_float (with_structure b ms) ≡ false
structure-whole true ms h = more (codes "structure") (boolean true) ms refl h
structure-whole false ms h = h

module _ (s : SchemaSpec) where
  with_slice-whole : (sl : Slice) (ms : Members) → members_have_float ms ≡ false → members_have_float (with_slice s sl ms) ≡ false
  with_slice-whole sl ms h = by_size (slice_size sl == 0)
    where
      by_size : (b : Bool) → members_have_float (cond b ms (member (codes "slice") (slice_written s sl) ms)) ≡ false
      by_size true = h
      by_size false = more (codes "slice") (slice_written s sl) ms (slice-whole s sl) h

  replaced-whole : (name : List ℕ) (to : ℕ) (sl : Slice) (structure : Bool) → members_have_float (replaced s name to sl structure) ≡ false
  replaced-whole name to sl structure =
      let last = member (codes "to") (count to) no_members in
      with_slice-whole sl (typed name (with_structure structure last)) (typed-whole name (with_structure structure last) (structure-whole structure last (counted (codes "to") to no_members refl)))

  range-whole : (name : List ℕ) (from to : ℕ) (mark : Mark Attrs) → has_float (range_written s name from to mark) ≡ false
  range-whole name from to mark =
      let last = member (codes "to") (count to) no_members in
      counted (codes "from") from (member (codes "mark") (mark_written s mark) (typed name last))
      (more (codes "mark") (mark_written s mark) (typed name last) (mark-whole s mark) (typed-whole name last (counted (codes "to") to no_members refl)))

  node-whole : (name : List ℕ) (pos : ℕ) (mark : Mark Attrs) → has_float (node_written s name pos mark) ≡ false
  node-whole name pos mark =
      let rest = typed name no_members in
      more (codes "mark") (mark_written s mark) (member (codes "pos") (count pos) rest) (mark-whole s mark) (counted (codes "pos") pos rest (typed-whole name no_members refl))

  pub step-whole : (st : Step) → has_float (step_written s st) ≡ false
  step-whole (Replace from to sl structure) = counted (codes "from") from (replaced s (codes "replace") to sl structure) (replaced-whole (codes "replace") to sl structure)
  step-whole (ReplaceAround from to gap_from gap_to sl insert structure) =
      let tail = replaced s (codes "replaceAround") to sl structure in
      let third = member (codes "insert") (count insert) tail in
      let second = member (codes "gapTo") (count gap_to) third in
      let first = member (codes "gapFrom") (count gap_from) second in
      counted (codes "from") from first
      (counted (codes "gapFrom") gap_from second (counted (codes "gapTo") gap_to third (counted (codes "insert") insert tail (replaced-whole (codes "replaceAround") to sl structure))))
  step-whole (AddMark from to mark) = range-whole (codes "addMark") from to mark
  step-whole (RemoveMark from to mark) = range-whole (codes "removeMark") from to mark
  step-whole (AddNodeMark pos mark) = node-whole (codes "addNodeMark") pos mark
  step-whole (RemoveNodeMark pos mark) = node-whole (codes "removeNodeMark") pos mark
  step-whole (Attr pos name value) = attr-whole pos name value
  step-whole (DocAttr name value) = doc-attr-whole name value
