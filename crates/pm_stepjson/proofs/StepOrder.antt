-- The keys of a step's JSON value stand in byte order.
use Rattle.std.proofs.Common.{◌≡◌, ◌==◌, ℕ, List, Bool, true, false, cond, refl, Less, nat_cmp}
use Rattle.std.specs.Prelude.{codes}
use Rattle.std.specs.Cmp.Lexicographic.{slice_cmp}
use Rattle.serde_json.specs.Data.{null, array, number, unsigned, no_members, member}
use Rattle.pm_tokens.specs.Slices.{Slice, slice_size}
use Rattle.pm_schema.specs.declared.spec.SchemaSpec.{SchemaSpec}
use Rattle.pm_docjson.specs.KeyOrder.{AllAfter, HasOrderedKeys, AreOrderedByKey}
use Rattle.pm_docjson.specs.Writing.{nodes_written}
use Rattle.pm_docjson.proofs.KeyOrder.{mark-ordered, nodes-ordered}
use Rattle.pm_slicejson.specs.Writing.{sides_written, slice_written}
use Rattle.pm_meaning.specs.Steps.{Step, Replace, ReplaceAround, AddMark, RemoveMark, AddNodeMark, RemoveNodeMark, Attr, DocAttr}
use Rattle.pm_stepjson.specs.Fields.{count, typed, with_structure, replaced}
use Rattle.pm_stepjson.specs.Writing.{step_written}
use Rattle.pm_stepjson.proofs.WrittenValues.{value-ordered}

module _ (s : SchemaSpec) where
  slice-ordered : (sl : Slice) → HasOrderedKeys (slice_written s sl)
  slice-ordered sl = pick (slice_size sl == 0)
    where
      sides : (e o : Bool) → AreOrderedByKey (member (codes "content") (array (nodes_written s sl.content)) (cond e (cond o no_members (member (codes "openStart") (number (unsigned sl.open_start)) no_members)) (member (codes "openEnd") (number (unsigned sl.open_end)) (cond o no_members (member (codes "openStart") (number (unsigned sl.open_start)) no_members)))))
      sides true true = (nodes-ordered s sl.content, tt, tt)
      sides true false = (nodes-ordered s sl.content, (refl, tt), (tt, tt, tt))
      sides false true = (nodes-ordered s sl.content, (refl, tt), (tt, tt, tt))
      sides false false = (nodes-ordered s sl.content, (refl, (refl, tt)), (tt, (refl, tt), (tt, tt, tt)))

      pick : (b : Bool) → HasOrderedKeys (cond b null (sides_written s sl))
      pick true = tt
      pick false = sides (sl.open_end == 0) (sl.open_start == 0)

  -- a key before those that are written from `slice` on
  record IsFirst (k : List ℕ) : Type 0 where
    slice : slice_cmp nat_cmp k (codes "slice") ≡ Less
    kind : slice_cmp nat_cmp k (codes "stepType") ≡ Less
    structure : slice_cmp nat_cmp k (codes "structure") ≡ Less
    to : slice_cmp nat_cmp k (codes "to") ≡ Less

  replaced-after : (k name : List ℕ) (to : ℕ) (sl : Slice) (structure : Bool) → IsFirst k → AllAfter k (replaced s name to sl structure)
  replaced-after k name to sl structure f = pick (slice_size sl == 0) structure
    where
      pick : (b c : Bool) → AllAfter k (cond b (typed name (with_structure c (member (codes "to") (count to) no_members))) (member (codes "slice") (slice_written s sl) (typed name (with_structure c (member (codes "to") (count to) no_members)))))
      pick true true = (f.kind, (f.structure, (f.to, tt)))
      pick true false = (f.kind, (f.to, tt))
      pick false true = (f.slice, (f.kind, (f.structure, (f.to, tt))))
      pick false false = (f.slice, (f.kind, (f.to, tt)))

  replaced-ordered : (name : List ℕ) (to : ℕ) (sl : Slice) (structure : Bool) → AreOrderedByKey (replaced s name to sl structure)
  replaced-ordered name to sl structure = pick (slice_size sl == 0) structure
    where
      kind : (c : Bool) → AreOrderedByKey (typed name (with_structure c (member (codes "to") (count to) no_members)))
      kind true = (tt, (refl, (refl, tt)), (tt, (refl, tt), (tt, tt, tt)))
      kind false = (tt, (refl, tt), (tt, tt, tt))

      pick : (b c : Bool) → AreOrderedByKey (cond b (typed name (with_structure c (member (codes "to") (count to) no_members))) (member (codes "slice") (slice_written s sl) (typed name (with_structure c (member (codes "to") (count to) no_members)))))
      pick true c = kind c
      pick false true = (slice-ordered sl, (refl, (refl, (refl, tt))), kind true)
      pick false false = (slice-ordered sl, (refl, (refl, tt)), kind false)

  from-first : IsFirst (codes "from")
  from-first = record { slice = refl; kind = refl; structure = refl; to = refl }

  gap_from-first : IsFirst (codes "gapFrom")
  gap_from-first = record { slice = refl; kind = refl; structure = refl; to = refl }

  gap_to-first : IsFirst (codes "gapTo")
  gap_to-first = record { slice = refl; kind = refl; structure = refl; to = refl }

  insert-first : IsFirst (codes "insert")
  insert-first = record { slice = refl; kind = refl; structure = refl; to = refl }

  pub step-ordered : (step : Step) → HasOrderedKeys (step_written s step)
  step-ordered (Replace from to sl structure) = (tt, replaced-after (codes "from") (codes "replace") to sl structure from-first, replaced-ordered (codes "replace") to sl structure)
  step-ordered (ReplaceAround from to gap_from gap_to sl insert structure) =
      let name = codes "replaceAround" in (
        tt,
        (refl, (refl, (refl, replaced-after (codes "from") name to sl structure from-first))),
        (
          tt,
          (refl, (refl, replaced-after (codes "gapFrom") name to sl structure gap_from-first)),
          (
            tt,
            (refl, replaced-after (codes "gapTo") name to sl structure gap_to-first),
            (tt, replaced-after (codes "insert") name to sl structure insert-first, replaced-ordered name to sl structure),
          ),
        ),
      )
  step-ordered (AddMark from to mark) = (tt, (refl, (refl, (refl, tt))), (mark-ordered s mark, (refl, (refl, tt)), (tt, (refl, tt), (tt, tt, tt))))
  step-ordered (RemoveMark from to mark) = (tt, (refl, (refl, (refl, tt))), (mark-ordered s mark, (refl, (refl, tt)), (tt, (refl, tt), (tt, tt, tt))))
  step-ordered (AddNodeMark pos mark) = (mark-ordered s mark, (refl, (refl, tt)), (tt, (refl, tt), (tt, tt, tt)))
  step-ordered (RemoveNodeMark pos mark) = (mark-ordered s mark, (refl, (refl, tt)), (tt, (refl, tt), (tt, tt, tt)))
  step-ordered (Attr pos name value) = (tt, (refl, (refl, (refl, tt))), (tt, (refl, (refl, tt)), (tt, (refl, tt), (value-ordered value, tt, tt))))
  step-ordered (DocAttr name value) = (tt, (refl, (refl, tt)), (tt, (refl, tt), (value-ordered value, tt, tt)))
