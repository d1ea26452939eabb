-- In a loose schema the inverse of a step that applied applies right after it; that of an attribute step in any.
use Rattle.std.specs.Prelude.{◌≡◌, ℕ, Bool, true, false, ◌&&◌, not, cond, List, [], ◌∷◌, ◌++◌, length, take, drop, Some, None, Result, Ok, Err}
use Rattle.std.proofs.lemmas.List.{take-append-drop}
use Rattle.std.proofs.Common.{refl, ap, sym, ◌∙◌, subst, arith, length-take}
use Rattle.std.proofs.lemmas.List.{append-nil}
use Rattle.pm_change.specs.Changes.{fold, then_some}
use Rattle.pm_attrs.specs.Attrs.{same_attrs}
use Rattle.pm_marks.specs.Sets.{has}
use Rattle.pm_tokens.specs.Tokens.{Marks, Token, Open, Close, Leaf, CodeUnit, Doc, with_tokens}
use Rattle.pm_tokens.specs.Schemas.{Schema}
use Rattle.pm_tokens.specs.Scan.{head_of, unclosed, ends_high, starts_low, parts_pair}
use Rattle.pm_tokens.specs.Marks.{is_set}
use Rattle.pm_tokens.specs.Faults.{Valid}
use Rattle.pm_tokens.specs.Loose.{IsLoose}
use Rattle.pm_tokens.proofs.ValidLaws.{valid-tokens, pair-free}
use Rattle.pm_meaning.specs.declared.reason.Reason.{Reason}
use Rattle.pm_meaning.specs.declared.reason.Reason.TheVariants.{Range, Pair, NoNode}
use Rattle.pm_meaning.specs.Steps.{Step, Replace, ReplaceAround, AddMark, RemoveMark, AddNodeMark, RemoveNodeMark, Attr, DocAttr}
use Rattle.pm_meaning.specs.Marked.{add, remove, mark_added, mark_removed, marked, starts_node, with_node_marks, node_marked}
use Rattle.pm_meaning.specs.Outcomes.{checked, and_unless, in_order, parts_no_pair, range_outcome, node_outcome, outcome}
use Rattle.pm_meaning.specs.Runs.{node_steps, run_steps}
use Rattle.pm_meaning.specs.Inverses.{gives, one_or, one_or_runs, node_marks, add_node_back, inverse, replace_back, around_back, attr_back, doc_attr_back}
use Rattle.pm_meaning.specs.Meanings.{meaning}
use Rattle.pm_meaning.proofs.OutcomeLaws.{unless-ok, made-ok}
use Rattle.pm_meaning.proofs.MarkSuits.{are_suited}
use Rattle.pm_meaning.proofs.ReplaceLaws.{replaced, replace-restored}
use Rattle.pm_meaning.proofs.AroundLaws.{moved, around-restored}
use Rattle.pm_meaning.proofs.MarkStepLaws.{Fits, fits-rest, doc-fits, range-alike, range-effect, node-effect, node-order, node-stands}
use Rattle.pm_meaning.proofs.LooseLaws.{Shaped, Paired, paired-token}
use Rattle.pm_meaning.proofs.PairedLaws.{paired-of}
use Rattle.pm_meaning.proofs.MixedLaws.{shaped-self, paired-rest}
use Rattle.pm_meaning.proofs.MixedNodes.{node-applies}
use Rattle.pm_meaning.proofs.LooseRuns.{runs-apply}
use Rattle.pm_meaning.proofs.AttributeLaws.{attr-restored, doc-restored}
use Rattle.pm_meaning.proofs.StepLaws.{good}
use Rattle.std.proofs.lemmas.Bool.{and_parts}

-- the steps apply one after another
abbrev pub Apply : Schema → List Step → Doc → Type 0
Apply s cs d = (back : Doc) × (fold meaning s d cs ≡ Some back)

one-applies : (s : Schema) (c : Step) (d next : Doc) → outcome s c d ≡ Ok next → Apply s (c ∷ []) d
one-applies s c d next h = (next, ap (λ z. then_some meaning s z (λ x. Some x)) h)

-- the one step applies where it gives the document back, and else the others do
one-or-applies : (s : Schema) (one : Step) (others : List Step) (d next : Doc) → fold meaning s next others ≡ Some d → Apply s (one_or s one others d next) next
one-or-applies s one others d next h = by (outcome s one next) refl
  where
    by : (x : Result Doc Reason) → outcome s one next ≡ x → Apply s (cond (gives x d.tokens) (one ∷ []) others) next
    by (Err e) i = (d, h)
    by (Ok y) i = at (gives (Ok y) d.tokens)
      where
        at : (b : Bool) → Apply s (cond b (one ∷ []) others) next
        at true = one-applies s one next y i
        at false = (d, h)

shaped-itself : (ts : List Token) → Shaped ts ts
shaped-itself ts = subst (λ z. Shaped z z) (append-nil ts) (shaped-self ts [] [] tt)

-- after a front that ends in no half of a pair
paired-behind : (xs zs : List Token) → ends_high xs ≡ false → Paired None (xs ++ zs) → Paired None zs
paired-behind [] zs e h = h
paired-behind (x ∷ xs) zs e h = paired-rest x None xs zs e h

not-not : (b : Bool) → not b ≡ true → b ≡ false
not-not true h = absurd (cc)
not-not false h = refl

module _ (s : Schema) (l : IsLoose s) (d : Doc) (v : Valid s d) where
  abbrev ps : List ℕ
  ps = d.kind ∷ []

  paired : (n : Doc) → Valid s n → Paired None n.tokens
  paired n w = paired-of s (n.kind ∷ []) None n.tokens (valid-tokens s n w)

  range-undoes : (f : ℕ → Token → Marks → Marks) (from to : ℕ) (one : Step) (next : Doc) → Valid s next → range_outcome s f from to d ≡ Ok next → Apply s (one_or_runs s one d (marked f from to d)) next
  range-undoes f from to one next w h =
      let e = range-effect s f from to d next h in
      let n = marked f from to d in
      let wn : Valid s n = subst (Valid s) e w in
      subst (λ z. Apply s (one_or_runs s one d n) z) (sym e)
      (one-or-applies s one (run_steps s 0 None d.tokens n.tokens) d n (runs-apply s l d v n.tokens (range-alike s d v f from to next h) (doc-fits s n wn) (paired d v) (paired n wn)))

  -- one node, with its old marks and new ones
  node-undoes-at : (f : Marks → Marks) (p : ℕ) (a r : List Token) → length a ≡ p → d.tokens ≡ a ++ r → ends_high a ≡ false → starts_node r ≡ true
      → Fits s (unclosed ps a) r → Fits s (unclosed ps a) (with_node_marks f r) → Paired None r
      → fold meaning s (with_tokens d (a ++ with_node_marks f r)) (node_steps p (node_marks r) (f (node_marks r))) ≡ Some d
  node-undoes-at f p a [] i e hp b w x y = absurd (cc)
  node-undoes-at f p a (Close ∷ q) i e hp b w x y = absurd (cc)
  node-undoes-at f p a (CodeUnit u m ∷ q) i e hp b w x y = absurd (cc)
  node-undoes-at f p a (Open j c m ∷ q) i e hp b w x y =
      let g = node-applies s l d v a (Open j c m) q q m e hp refl (shaped-itself q) w.1 (paired-token None (Open j c m) q y).1 p i refl (f m) [] (and_parts (is_set s m) (are_suited s (head_of (unclosed ps a)) m) w.0).0 x.0 w.0 in
      ap (λ z. fold meaning s (with_tokens d (a ++ (Open j c (f m) ∷ q))) z) (sym (append-nil (node_steps p m (f m)))) ∙ (g ∙ ap (λ z. Some (with_tokens d z)) (sym e))
  node-undoes-at f p a (Leaf j c m ∷ q) i e hp b w x y =
      let g = node-applies s l d v a (Leaf j c m) q q m e hp refl (shaped-itself q) w.1 (paired-token None (Leaf j c m) q y).1 p i refl (f m) [] (and_parts (is_set s m) (are_suited s (head_of (unclosed ps a)) m) w.0).0 x.0 w.0 in
      ap (λ z. fold meaning s (with_tokens d (a ++ (Leaf j c (f m) ∷ q))) z) (sym (append-nil (node_steps p m (f m)))) ∙ (g ∙ ap (λ z. Some (with_tokens d z)) (sym e))

  node-undoes : (f : Marks → Marks) (p : ℕ) (one : Step) (next : Doc) → Valid s next → node_outcome s f p d ≡ Ok next
      → Apply s (one_or s one (node_steps p (node_marks (drop p d.tokens)) (f (node_marks (drop p d.tokens)))) d (node_marked f p d)) next
  node-undoes f p one next w h =
      let e = node-effect s f p d next h in
      let n = node_marked f p d in
      let wn : Valid s n = subst (Valid s) e w in
      let a = take p d.tokens in
      let r = drop p d.tokens in
      let all : d.tokens ≡ a ++ r = sym (take-append-drop p d.tokens) in
      let len : length a ≡ p = omega (arith, node-order s f p d next h, length-take p d.tokens) in
      let u₁ = unless-ok (in_order (p ∷ []) (length d.tokens)) Range _ next h in
      let u₂ = unless-ok (parts_no_pair d.tokens (p ∷ [])) Pair (and_unless (starts_node r) NoNode (checked s (node_marked f p d))) next u₁.1 in
      let apart : (ends_high a && starts_low r) ≡ false = not-not (parts_pair d.tokens p) (and_parts (not (parts_pair d.tokens p)) true u₂.0).0 in
      let clear = pair-free s d a r v all apart in
      let old_fits : Fits s (unclosed ps a) r = fits-rest s ps a r (subst (Fits s ps) all (doc-fits s d v)) in
      let new_fits : Fits s (unclosed ps a) (with_node_marks f r) = fits-rest s ps a (with_node_marks f r) (doc-fits s n wn) in
      let pairs : Paired None r = paired-behind a r clear.0 (subst (Paired None) all (paired d v)) in
      let others = node_steps p (node_marks r) (f (node_marks r)) in
      subst (λ z. Apply s (one_or s one others d n) z) (sym e)
      (one-or-applies s one others d n (node-undoes-at f p a r len all clear.0 (node-stands s f p d next h) old_fits new_fits pairs))

pub undoes : (s : Schema) (c : Step) (d next : Doc) → IsLoose s → Valid s d → outcome s c d ≡ Ok next → Apply s (inverse s c d) next
undoes s (Replace from to sl st) d next l v h = one-applies s (replace_back d from to sl) next d (replace-restored s from to sl d next v (replaced s from to sl st d next h))
undoes s (ReplaceAround from to gf gt sl ins st) d next l v h =
    one-applies s (around_back d from to gf gt sl ins st) next d (around-restored s from to gf gt sl ins st d next v (moved s from to gf gt sl ins st d next h))
undoes s (AddMark from to m) d next l v h = range-undoes s l d v (mark_added s m) from to (RemoveMark from to m) next (good s (AddMark from to m) d next v h) (made-ok s (AddMark from to m) d next h).1
undoes s (RemoveMark from to m) d next l v h = range-undoes s l d v (mark_removed s m) from to (AddMark from to m) next (good s (RemoveMark from to m) d next v h) (made-ok s (RemoveMark from to m) d next h).1
undoes s (AddNodeMark p m) d next l v h =
    let old = node_marks (drop p d.tokens) in
    node-undoes s l d v (add s m) p (add_node_back p m old (add s m old)) next (good s (AddNodeMark p m) d next v h) (made-ok s (AddNodeMark p m) d next h).1
undoes s (RemoveNodeMark p m) d next l v h =
    let old = node_marks (drop p d.tokens) in
    node-undoes s l d v (remove m) p (cond (has same_attrs old m) (AddNodeMark p m) (RemoveNodeMark p m)) next (good s (RemoveNodeMark p m) d next v h) (made-ok s (RemoveNodeMark p m) d next h).1
undoes s (Attr p name value) d next l v h = one-applies s (attr_back s p name d) next d (attr-restored s p name value d next v h)
undoes s (DocAttr name value) d next l v h = one-applies s (doc_attr_back s name d) next d (doc-restored s name value d next v h)
