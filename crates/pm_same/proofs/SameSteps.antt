-- An op makes the same step, or is refused alike, by two schemas that were built of the same types.
use Rattle.std.proofs.Common.{◌≡◌, ℕ, true, List, [], ◌∷◌, map, refl, ap, ◌∙◌}
use Rattle.std.specs.Prelude.{◌+◌, ◌-◌, ◌==◌, ◌&&◌, ◌||◌, not, length, Option, Some, None, Ok}
use Rattle.pm_text.specs.Units.{utf16}
use Rattle.pm_tokens.specs.Tokens.{Token, Doc}
use Rattle.pm_tokens.specs.Slices.{Slice, slice_size}
use Rattle.pm_tokens.specs.Scan.{is_whole, part}
use Rattle.pm_schema.specs.declared.spec.SchemaSpec.{SchemaSpec}
use Rattle.pm_schema.specs.declared.schema.Schema.{Schema}
use Rattle.pm_schema.specs.Types as types
use Rattle.pm_schema.specs.Built.{IsBuilt}
use Rattle.pm_schemajson.specs.Views.{types_of_spec}
use Rattle.pm_schemajson.proofs.SameTypes.{node-alike}
use Rattle.pm_schemajson.proofs.SameDocuments.{leaf-alike, mark-alike, documents-alike}
use Rattle.pm_node.specs.Trees.{node_tokens}
use Rattle.pm_resolve.specs.Places.{marks_at, inclusive_in}
use Rattle.pm_slice.specs.Sides.{no_slice}
use Rattle.pm_meaning.specs.Steps.{ReplaceAround}
use Rattle.pm_ops.specs.declared.op.Op.{Op}
use Rattle.pm_ops.specs.declared.op.Op.TheVariants as op
use Rattle.pm_fit.specs.Paths.{first_some}
use Rattle.pm_fit.specs.Candidates.{Candidate, Sided, Wrapped, candidates}
use Rattle.pm_fit.specs.Fits.{sided, wrapped, slice_of, step_with, step_by, fit_step}
use Rattle.pm_fit.specs.Wrappings.{wrapping_at}
use Rattle.pm_change.specs.declared.no_step.NoStep.TheVariants.{NotThere}
use Rattle.pm_edit.specs.Nodes.{node_at, behind, closed, text_slice, empty_node}
use Rattle.pm_edit.specs.Edits.{refuse, in_range, fitted, of_node, is_leaf}
use Rattle.pm_edit.specs.Ops.{answer_of, one, steps_of}
use Rattle.pm_making.specs.Making.{makes}
use Rattle.pm_same.proofs.SameWrappings.{in-nodes-alike, wrapping-alike}

wrapped-alike : (s t : SchemaSpec) → types_of_spec s ≡ types_of_spec t → (o : Option (List ℕ)) (content : List Token) → wrapped s o content ≡ wrapped t o content
wrapped-alike s t h None content = refl
wrapped-alike s t h (Some []) content = refl
wrapped-alike s t h (Some (k ∷ ks)) content = ap (λ ts. sided ts 0 0) (in-nodes-alike s t h (k ∷ ks) content)

module _ (s t : Schema) (h : types_of_spec s.spec ≡ types_of_spec t.spec) (bs : IsBuilt s) (bt : IsBuilt t) where
  slice-alike : (d : Doc) (from : ℕ) (c : Candidate) → slice_of s d from c ≡ slice_of t d from c
  slice-alike d from (Sided content open_start open_end) = refl
  slice-alike d from (Wrapped content) =
      ap (λ o. wrapped s.spec o content) (wrapping-alike s t h bs bt d from content)
      ∙ wrapped-alike s.spec t.spec h (wrapping_at t d from content) content

  by-alike : (d : Doc) (from to : ℕ) (c : Candidate) → step_by s d from to c ≡ step_by t d from to c
  by-alike d from to c = λ i. step_with (documents-alike s.spec t.spec h i) d from to (slice-alike d from c i)

  fit-alike : (d : Doc) (from to : ℕ) (sl : Slice) → fit_step s d from to sl ≡ fit_step t d from to sl
  unfolding fit_step
  fit-alike d from to sl = λ i. first_some (map (λ c. by-alike d from to c i) (candidates d from to sl))

  leaf-same : (kind : ℕ) → is_leaf s kind ≡ is_leaf t kind
  leaf-same kind = leaf-alike (types.node_at s.spec kind) (types.node_at t.spec kind) (node-alike s.spec t.spec kind h)

  inclusive-same : (m : ℕ) → inclusive_in s.spec m ≡ inclusive_in t.spec m
  inclusive-same m = ap (λ x. x.inclusive) (mark-alike s.spec t.spec h m)

  answer-alike : (d : Doc) (o : Op) → answer_of s d o ≡ answer_of t d o
  answer-alike d (op.InsertText from to text) =
      λ i. in_range d (from ∷ to ∷ [])
      (refuse NotThere ((from == to) && (length (utf16 text) == 0))
      (fitted (fit-alike d from to (text_slice (marks_at (λ m. inclusive-same m i) d from) (utf16 text)) i)))
  answer-alike d (op.Delete from to) = λ i. in_range d (from ∷ to ∷ []) (refuse NotThere (from == to) (fitted (fit-alike d from to no_slice i)))
  answer-alike d (op.Paste from to slice) =
      λ i. in_range d (from ∷ to ∷ []) (refuse NotThere ((from == to) && (slice_size slice == 0)) (fitted (fit-alike d from to slice i)))
  answer-alike d (op.InsertNode pos node) = λ i. in_range d (pos ∷ []) (fitted (fit-alike d pos pos (closed (node_tokens node)) i))
  answer-alike d (op.Split pos depth) = refl
  answer-alike d (op.Join pos depth) = refl
  answer-alike d (op.Wrap from to kind attrs) =
      λ i. in_range d (from ∷ to ∷ [])
      (refuse NotThere ((from == to) || not (is_whole (part from to d.tokens)) || leaf-same kind i)
      (Ok (ReplaceAround from to from to (empty_node kind attrs []) 1 true)))
  answer-alike d (op.Lift pos) = refl
  answer-alike d (op.SetType pos kind attrs) =
      λ i. in_range d (pos ∷ [])
      (refuse NotThere (leaf-same kind i)
      (of_node (λ node. let end = behind pos node in Ok (ReplaceAround pos end (pos + 1) (end - 1) (empty_node kind attrs node.marks) 1 true)) (node_at d pos)))
  answer-alike d (op.AddMark from to mark) = refl
  answer-alike d (op.RemoveMark from to mark) = refl
  answer-alike d (op.SetAttr pos attr value) = refl
  answer-alike d (op.SetDocAttr attr value) = refl
  answer-alike d (op.Step step) = refl

  pub makes-alike : (d : Doc) (o : Op) → makes s d o ≡ makes t d o
  unfolding steps_of
  makes-alike d o = λ i. one (answer-alike d o i)
