-- A step that is read can be written.
use Rattle.std.proofs.Common.{◌≡◌, ◌<◌, ◌≤◌, ◌^◌, ◌-◌, ℕ, List, [], Bool, true, false, cond, nat_lt, refl, ap, subst, arith}
use Rattle.std.proofs.lemmas.Bool.Decides.{nat_tests}
use Rattle.std.specs.Prelude.{Option, Some, None, Result, Ok, Err, codes, is_some, option_and_then}
use Rattle.serde_json.specs.Data.{Data}
use Rattle.serde_json.specs.Find.{get, as_null, as_number, as_u64}
use Rattle.pm_list.specs.Readings.{◌>>=◌, or_fault}
use Rattle.pm_value.specs.Plain.{Plain, depth}
use Rattle.pm_value.specs.Reading.{value_of}
use Rattle.pm_value.specs.declared.fault.ValueError.{ValueError}
use Rattle.pm_value.proofs.Shallow.{value-shallow}
use Rattle.pm_marks.specs.declared.mark.Mark.{Mark}
use Rattle.pm_tokens.specs.Tokens.{Attrs}
use Rattle.pm_tokens.specs.Slices.{Slice}
use Rattle.pm_schema.specs.declared.spec.SchemaSpec.{SchemaSpec}
use Rattle.pm_schema.specs.Documents.{documents_of}
use Rattle.pm_schema.specs.Types.{node_at}
use Rattle.pm_slice.specs.Sides.{no_slice}
use Rattle.pm_docjson.specs.declared.fault.DocReadError.{DocReadError}
use Rattle.pm_docjson.specs.Fields.{non_null, field}
use Rattle.pm_docjson.specs.Reading.{mark_of}
use Rattle.pm_docjson.specs.Writable.{mark_fits, AreWritable}
use Rattle.pm_docjson.proofs.ReadAttrs.{first-read, there, mark-read, KnownDefaults}
use Rattle.pm_docjson.proofs.ViewTexts.{HasTexts, field-texts}
use Rattle.pm_slicejson.specs.Numbers.{bounded_count, as_count}
use Rattle.pm_slicejson.specs.Reading.{slice_of}
use Rattle.pm_slicejson.proofs.ReadSlices.{none-writable, slice-read}
use Rattle.pm_meaning.specs.Steps as steps
use Rattle.pm_meaning.specs.Steps.{Step}
use Rattle.pm_stepjson.specs.declared.kind.Kind.{Kind}
use Rattle.pm_stepjson.specs.declared.kind.Kind.TheVariants.{Replace, ReplaceAround, AddMark, RemoveMark, AddNodeMark, RemoveNodeMark, Attr, DocAttr}
use Rattle.pm_stepjson.specs.declared.mark.Ranged.{Ranged}
use Rattle.pm_stepjson.specs.declared.node_mark.AtNode.{AtNode}
use Rattle.pm_stepjson.specs.declared.fault.StepReadError.TheVariants.{Shape, UnknownKind}
use Rattle.pm_stepjson.specs.Kinds.{kind_named}
use Rattle.pm_stepjson.specs.Fields.{number_at, text_at, structure_at, as_slice, as_mark, as_value, slice_in, slice_at, mark_at, value_at}
use Rattle.pm_stepjson.specs.Replace.{replace_from}
use Rattle.pm_stepjson.specs.Around.{around_from}
use Rattle.pm_stepjson.specs.Mark.{range_from}
use Rattle.pm_stepjson.specs.NodeMark.{node_from}
use Rattle.pm_stepjson.specs.Attr.{attr_from}
use Rattle.pm_stepjson.specs.DocAttr.{doc_attr_from}
use Rattle.pm_stepjson.specs.Reading.{kind_from, step_read}
use Rattle.pm_stepjson.specs.Writable.{CanBeWritten, IsCount, HasCounts}

-- ---- fields

small : (o : Option ℕ) (n : ℕ) → option_and_then bounded_count o ≡ Some n → IsCount n
small None n h = absurd (cc)
small (Some k) n h = from (nat_lt (2 ^ 32 - 1) k) refl h
  where
    from : (b : Bool) → nat_lt (2 ^ 32 - 1) k ≡ b → cond b None (Some k) ≡ Some n → IsCount n
    from true is e = absurd (cc)
    from false is e = let same : k ≡ n = cc in subst IsCount same (below k is)
      where
        below : (m : ℕ) → nat_lt (2 ^ 32 - 1) m ≡ false → m < 2 ^ 32
        below m f = grind (arith, nat_tests)

number-read : (k : List ℕ) (d : Data) (n : ℕ) → number_at k d ≡ Ok n → IsCount n
number-read k d n h = from (get k d) (there Shape (option_and_then as_count (get k d)) n h)
  where
    from : (o : Option Data) → option_and_then as_count o ≡ Some n → IsCount n
    from None e = absurd (cc)
    from (Some x) e = small (option_and_then as_u64 (as_number x)) n e

slice-kept : (r : Result Slice DocReadError) (sl : Slice) → as_slice r ≡ Ok sl → r ≡ Ok sl
slice-kept (Ok x) sl h = let same : x ≡ sl = cc in ap Ok same
slice-kept (Err e) sl h = absurd (cc)

mark-kept : (r : Result (Mark Attrs) DocReadError) (m : Mark Attrs) → as_mark r ≡ Ok m → r ≡ Ok m
mark-kept (Ok x) m h = let same : x ≡ m = cc in ap Ok same
mark-kept (Err e) m h = absurd (cc)

value-kept : (r : Result Plain ValueError) (v : Plain) → as_value r ≡ Ok v → r ≡ Ok v
value-kept (Ok x) v h = let same : x ≡ v = cc in ap Ok same
value-kept (Err e) v h = absurd (cc)

value-found : (d : Data) (v : Plain) → value_at d ≡ Ok v → depth v ≤ 4
value-found d v h =
    let a = first-read (or_fault Shape (get (codes "value") d)) (λ x. as_value (value_of x)) v h in
    value-shallow a.0 4 v (value-kept (value_of a.0) v a.1.1)

set-texts : (o : Option Data) (e : Data) → ((x : Data) → o ≡ Some x → HasTexts x) → option_and_then non_null o ≡ Some e → HasTexts e
set-texts None e all h = absurd (cc)
set-texts (Some x) e all h = from (is_some (as_null x)) h
  where
    from : (b : Bool) → cond b None (Some x) ≡ Some e → HasTexts e
    from true g = absurd (cc)
    from false g = let same : x ≡ e = cc in subst HasTexts same (all x refl)

module _ (s : SchemaSpec) (sh : KnownDefaults s) where
  mark-found : (d : Data) (m : Mark Attrs) → mark_at s d ≡ Ok m → mark_fits s m ≡ true
  mark-found d m h =
      let a = first-read (or_fault Shape (get (codes "mark") d)) (λ x. as_mark (mark_of s x)) m h in
      mark-read s a.0 m sh (mark-kept (mark_of s a.0) m a.1.1)

  range-read : (d : Data) (r : Ranged) → range_from s d ≡ Ok r → (mark_fits s r.mark ≡ true) × (IsCount r.from × IsCount r.to)
  unfolding range_from
  range-read d r h =
      let a = first-read (number_at (codes "from") d) (λ from. number_at (codes "to") d >>= λ to. mark_at s d >>= λ mark. Ok (record { from = from; to = to; mark = mark })) r h in
      let b = first-read (number_at (codes "to") d) (λ to. mark_at s d >>= λ mark. Ok (record { from = a.0; to = to; mark = mark })) r a.1.1 in
      let c = first-read (mark_at s d) (λ mark. Ok (record { from = a.0; to = b.0; mark = mark })) r b.1.1 in
      let made : Ranged = record { from = a.0; to = b.0; mark = c.0 } in
      let same : made ≡ r = cc c.1.1 in
      subst (λ (x : Ranged). (mark_fits s x.mark ≡ true) × (IsCount x.from × IsCount x.to)) same
      (mark-found d c.0 c.1.0, (number-read (codes "from") d a.0 a.1.0, number-read (codes "to") d b.0 b.1.0))

  at_node-read : (d : Data) (r : AtNode) → node_from s d ≡ Ok r → (mark_fits s r.mark ≡ true) × IsCount r.pos
  unfolding node_from
  at_node-read d r h =
      let a = first-read (number_at (codes "pos") d) (λ pos. mark_at s d >>= λ mark. Ok (record { pos = pos; mark = mark })) r h in
      let c = first-read (mark_at s d) (λ mark. Ok (record { pos = a.0; mark = mark })) r a.1.1 in
      let made : AtNode = record { pos = a.0; mark = c.0 } in
      let same : made ≡ r = cc c.1.1 in
      subst (λ (x : AtNode). (mark_fits s x.mark ≡ true) × IsCount x.pos) same (mark-found d c.0 c.1.0, number-read (codes "pos") d a.0 a.1.0)

  module _ (plain : (node_at s (documents_of s).text).attrs ≡ []) where
    slice-found : (d : Data) (sl : Slice) → HasTexts d → slice_at s d ≡ Ok sl → AreWritable s sl.content
    slice-found d sl t h = from (field (codes "slice") d) (λ e is. set-texts (get (codes "slice") d) e (λ x g. field-texts (codes "slice") d x t g) is) h
      where
        from : (o : Option Data) → ((e : Data) → o ≡ Some e → HasTexts e) → slice_in s o ≡ Ok sl → AreWritable s sl.content
        from None all e = let same : no_slice ≡ sl = cc in subst (λ (x : Slice). AreWritable s x.content) same (none-writable s)
        from (Some x) all e = slice-read s sh plain x sl (all x refl) (slice-kept (slice_of s x) sl e)

    -- a step can be written and its numbers are small
    abbrev Back : Step → Type 0
    Back step = CanBeWritten s step × HasCounts step

    replace-back : (d : Data) (step : Step) → HasTexts d → replace_from s d ≡ Ok step → Back step
    unfolding replace_from
    replace-back d step t h =
        let a = first-read (number_at (codes "from") d) (λ from. number_at (codes "to") d >>= λ to. slice_at s d >>= λ slice. structure_at d >>= λ structure. Ok (steps.Replace from to slice structure)) step h in
        let b = first-read (number_at (codes "to") d) (λ to. slice_at s d >>= λ slice. structure_at d >>= λ structure. Ok (steps.Replace a.0 to slice structure)) step a.1.1 in
        let c = first-read (slice_at s d) (λ slice. structure_at d >>= λ structure. Ok (steps.Replace a.0 b.0 slice structure)) step b.1.1 in
        let e = first-read (structure_at d) (λ structure. Ok (steps.Replace a.0 b.0 c.0 structure)) step c.1.1 in
        let made : Step = steps.Replace a.0 b.0 c.0 e.0 in
        let same : made ≡ step = cc e.1.1 in
        subst Back same (slice-found d c.0 t c.1.0, (number-read (codes "from") d a.0 a.1.0, number-read (codes "to") d b.0 b.1.0))

    around-back : (d : Data) (step : Step) → HasTexts d → around_from s d ≡ Ok step → Back step
    unfolding around_from
    around-back d step t h =
        let a = first-read (number_at (codes "from") d) (λ from. number_at (codes "to") d >>= λ to. number_at (codes "gapFrom") d >>= λ gap_from. number_at (codes "gapTo") d >>= λ gap_to. number_at (codes "insert") d >>= λ insert. slice_at s d >>= λ slice. structure_at d >>= λ structure. Ok (steps.ReplaceAround from to gap_from gap_to slice insert structure)) step h in
        let b = first-read (number_at (codes "to") d) (λ to. number_at (codes "gapFrom") d >>= λ gap_from. number_at (codes "gapTo") d >>= λ gap_to. number_at (codes "insert") d >>= λ insert. slice_at s d >>= λ slice. structure_at d >>= λ structure. Ok (steps.ReplaceAround a.0 to gap_from gap_to slice insert structure)) step a.1.1 in
        let c = first-read (number_at (codes "gapFrom") d) (λ gap_from. number_at (codes "gapTo") d >>= λ gap_to. number_at (codes "insert") d >>= λ insert. slice_at s d >>= λ slice. structure_at d >>= λ structure. Ok (steps.ReplaceAround a.0 b.0 gap_from gap_to slice insert structure)) step b.1.1 in
        let e = first-read (number_at (codes "gapTo") d) (λ gap_to. number_at (codes "insert") d >>= λ insert. slice_at s d >>= λ slice. structure_at d >>= λ structure. Ok (steps.ReplaceAround a.0 b.0 c.0 gap_to slice insert structure)) step c.1.1 in
        let f = first-read (number_at (codes "insert") d) (λ insert. slice_at s d >>= λ slice. structure_at d >>= λ structure. Ok (steps.ReplaceAround a.0 b.0 c.0 e.0 slice insert structure)) step e.1.1 in
        let g = first-read (slice_at s d) (λ slice. structure_at d >>= λ structure. Ok (steps.ReplaceAround a.0 b.0 c.0 e.0 slice f.0 structure)) step f.1.1 in
        let i = first-read (structure_at d) (λ structure. Ok (steps.ReplaceAround a.0 b.0 c.0 e.0 g.0 f.0 structure)) step g.1.1 in
        let made : Step = steps.ReplaceAround a.0 b.0 c.0 e.0 g.0 f.0 i.0 in
        let same : made ≡ step = cc i.1.1 in
        subst Back same (
          slice-found d g.0 t g.1.0,
          (number-read (codes "from") d a.0 a.1.0, number-read (codes "to") d b.0 b.1.0, number-read (codes "gapFrom") d c.0 c.1.0, number-read (codes "gapTo") d e.0 e.1.0, number-read (codes "insert") d f.0 f.1.0),
        )

    attr-back : (d : Data) (step : Step) → attr_from d ≡ Ok step → Back step
    unfolding attr_from
    attr-back d step h =
        let a = first-read (number_at (codes "pos") d) (λ pos. text_at (codes "attr") d >>= λ name. value_at d >>= λ value. Ok (steps.Attr pos name value)) step h in
        let b = first-read (text_at (codes "attr") d) (λ name. value_at d >>= λ value. Ok (steps.Attr a.0 name value)) step a.1.1 in
        let c = first-read (value_at d) (λ value. Ok (steps.Attr a.0 b.0 value)) step b.1.1 in
        let made : Step = steps.Attr a.0 b.0 c.0 in
        let same : made ≡ step = cc c.1.1 in
        subst Back same (value-found d c.0 c.1.0, number-read (codes "pos") d a.0 a.1.0)

    doc-attr-back : (d : Data) (step : Step) → doc_attr_from d ≡ Ok step → Back step
    unfolding doc_attr_from
    doc-attr-back d step h =
        let b = first-read (text_at (codes "attr") d) (λ name. value_at d >>= λ value. Ok (steps.DocAttr name value)) step h in
        let c = first-read (value_at d) (λ value. Ok (steps.DocAttr b.0 value)) step b.1.1 in
        let made : Step = steps.DocAttr b.0 c.0 in
        let same : made ≡ step = cc c.1.1 in
        subst Back same (value-found d c.0 c.1.0, tt)

    kind-back : (k : Kind) (d : Data) (step : Step) → HasTexts d → kind_from s k d ≡ Ok step → Back step
    kind-back Replace d step t h = replace-back d step t h
    kind-back ReplaceAround d step t h = around-back d step t h
    kind-back AddMark d step t h =
        let a = first-read (range_from s d) (λ (r : Ranged). Ok (steps.AddMark r.from r.to r.mark)) step h in
        let same : steps.AddMark a.0.from a.0.to a.0.mark ≡ step = cc a.1.1 in
        subst Back same (range-read d a.0 a.1.0)
    kind-back RemoveMark d step t h =
        let a = first-read (range_from s d) (λ (r : Ranged). Ok (steps.RemoveMark r.from r.to r.mark)) step h in
        let same : steps.RemoveMark a.0.from a.0.to a.0.mark ≡ step = cc a.1.1 in
        subst Back same (range-read d a.0 a.1.0)
    kind-back AddNodeMark d step t h =
        let a = first-read (node_from s d) (λ (r : AtNode). Ok (steps.AddNodeMark r.pos r.mark)) step h in
        let same : steps.AddNodeMark a.0.pos a.0.mark ≡ step = cc a.1.1 in
        subst Back same (at_node-read d a.0 a.1.0)
    kind-back RemoveNodeMark d step t h =
        let a = first-read (node_from s d) (λ (r : AtNode). Ok (steps.RemoveNodeMark r.pos r.mark)) step h in
        let same : steps.RemoveNodeMark a.0.pos a.0.mark ≡ step = cc a.1.1 in
        subst Back same (at_node-read d a.0 a.1.0)
    kind-back Attr d step t h = attr-back d step h
    kind-back DocAttr d step t h = doc-attr-back d step h

    pub step-back : (d : Data) (step : Step) → HasTexts d → step_read s d ≡ Ok step → Back step
    unfolding step_read
    step-back d step t h =
        let a = first-read (text_at (codes "stepType") d) (λ name. or_fault UnknownKind (kind_named name) >>= λ kind. kind_from s kind d) step h in
        let b = first-read (or_fault UnknownKind (kind_named a.0)) (λ kind. kind_from s kind d) step a.1.1 in
        kind-back b.0 d step t b.1.1
