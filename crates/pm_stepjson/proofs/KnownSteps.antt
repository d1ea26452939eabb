-- A step that can be written is one that the schema knows.
use Rattle.std.specs.Prelude.{◌≡◌, ℕ, ◌==◌, true, ◌&&◌, not, nat_lt, List, [], ◌∷◌, length, take}
use Rattle.std.specs.List.{list_all}
use Rattle.std.proofs.lemmas.Bool.{and_parts, and_from}
use Rattle.std.proofs.Common.{refl, subst, ◌∙◌}
use Rattle.pm_tokens.specs.Tokens.{Attrs, Marks, Token, Open, Close, Leaf, CodeUnit}
use Rattle.pm_tokens.specs.Schemas.{node_attrs, mark_attrs}
use Rattle.pm_tokens.specs.Scan.{are_opens}
use Rattle.pm_tokens.specs.Marks.{is_set, have_attrs}
use Rattle.pm_tokens.specs.Slices.{Slice, is_slice}
use Rattle.pm_tokens.proofs.PartLaws.{slice-is, slice-split}
use Rattle.pm_schema.specs.declared.spec.SchemaSpec.{SchemaSpec}
use Rattle.pm_schema.specs.Types.{node_at, fit_attrs}
use Rattle.pm_schema.specs.Documents.{documents_of}
use Rattle.pm_docjson.specs.Writable.{mark_fits, marks_fit, type_fits, is_writable, are_writable, AreWritable}
use Rattle.pm_meaning.specs.Known.{knows_mark, knows_open, knows_slice, knows_step}
use Rattle.pm_meaning.specs.Steps.{Step, Replace, ReplaceAround, AddMark, RemoveMark, AddNodeMark, RemoveNodeMark, Attr, DocAttr}
use Rattle.pm_marks.specs.declared.mark.Mark.{Mark}
use Rattle.pm_stepjson.specs.Writable.{CanBeWritten, HasSlice}
use Rattle.pm_stepjson.proofs.SlicesWritten.{mark-as, type-as, can-front}

module _ (s : SchemaSpec) where
  mark-known : (m : Mark Attrs) → mark_fits s m ≡ true → knows_mark (documents_of s) m ≡ true
  mark-known m h = mark-as s m ∙ h

  marks-known : (ms : Marks) → list_all (mark_fits s) ms ≡ true → have_attrs (documents_of s) ms ≡ true
  marks-known [] h = refl
  marks-known (m ∷ ms) h =
      let p = and_parts (mark_fits s m) (list_all (mark_fits s) ms) h in
      and_from (mark_attrs (documents_of s) m.kind m.attrs) (have_attrs (documents_of s) ms) (mark-known m p.0) (marks-known ms p.1)

  type-known : (k : ℕ) (a : Attrs) → type_fits s k a ≡ true → (node_attrs (documents_of s) k a ≡ true) × (not (k == (documents_of s).text) ≡ true)
  type-known k a h =
      let p = and_parts (nat_lt k (length s.nodes)) (not (k == (documents_of s).text) && fit_attrs (node_at s k).attrs a) h in
      let q = and_parts (not (k == (documents_of s).text)) (fit_attrs (node_at s k).attrs a) p.1 in
      (type-as s k a ∙ and_from (nat_lt k (length s.nodes)) (fit_attrs (node_at s k).attrs a) p.0 q.1, q.0)

  opens-known : (o : List Token) → are_opens o ≡ true → are_writable s o ≡ true → list_all (knows_open (documents_of s)) o ≡ true
  opens-known [] h w = refl
  opens-known (Open k a m ∷ o) h w =
      let d = documents_of s in
      let b = and_parts (is_writable s (Open k a m)) (are_writable s o) w in
      let x = and_parts (type_fits s k a) (not (d.is_leaf k) && marks_fit s m) b.0 in
      let y = and_parts (not (d.is_leaf k)) (marks_fit s m) x.1 in
      let z = and_parts (list_all (mark_fits s) m) (is_set d m) y.1 in
      let t = type-known k a x.0 in
      and_from (knows_open d (Open k a m)) (list_all (knows_open d) o)
      (and_from (node_attrs d k a && (not (k == d.text) && not (d.is_leaf k))) (have_attrs d m && is_set d m)
      (and_from (node_attrs d k a) (not (k == d.text) && not (d.is_leaf k)) t.0 (and_from (not (k == d.text)) (not (d.is_leaf k)) t.1 y.0))
      (and_from (have_attrs d m) (is_set d m) (marks-known m z.0) z.1))
      (opens-known o h b.1)
  opens-known (Close ∷ o) h w = absurd (cc)
  opens-known (Leaf k a m ∷ o) h w = absurd (cc)
  opens-known (CodeUnit u m ∷ o) h w = absurd (cc)

  slice-known : (sl : Slice) → is_slice sl ≡ true → AreWritable s sl.content → knows_slice (documents_of s) sl ≡ true
  slice-known sl h w =
      let i = slice-is sl h in
      let o = take sl.open_start sl.content in
      let c = subst (λ z. are_writable s z ≡ true) (slice-split sl i).is w.tokens in
      opens-known o i.opens (can-front s o _ c)

  pub step-known : (step : Step) → HasSlice step → CanBeWritten s step → knows_step (documents_of s) step ≡ true
  step-known (Replace from to sl structure) h w = slice-known sl h w
  step-known (ReplaceAround from to gap_from gap_to sl insert structure) h w = slice-known sl h w
  step-known (AddMark from to mark) h w = mark-known mark w
  step-known (RemoveMark from to mark) h w = mark-known mark w
  step-known (AddNodeMark pos mark) h w = mark-known mark w
  step-known (RemoveNodeMark pos mark) h w = mark-known mark w
  step-known (Attr pos name value) h w = refl
  step-known (DocAttr name value) h w = refl
