-- The steps for one node apply, in a loose schema: p and t are tokens of a valid document, and news are the new tokens after
-- them.
use Rattle.std.specs.Prelude.{◌≡◌, ℕ, ◌+◌, Bool, true, false, not, List, [], ◌∷◌, ◌++◌, map, length, drop, Option, None, Result, Ok}
use Rattle.std.proofs.lemmas.Bool.{le-leb, and_parts, and_from}
use Rattle.std.proofs.Common.{refl, ap, sym, ◌∙◌, subst, arith, append_assoc}
use Rattle.pm_change.specs.Changes.{fold, then_some}
use Rattle.pm_tokens.specs.Tokens.{Marks, Token, Open, Close, Leaf, CodeUnit, Doc, with_tokens}
use Rattle.pm_tokens.specs.Schemas.{Schema, mark_attrs}
use Rattle.pm_tokens.specs.Scan.{head_of, unclosed, ends_high, parts_pair}
use Rattle.pm_tokens.specs.Marks.{is_set, have_attrs}
use Rattle.pm_tokens.specs.Faults.{Valid}
use Rattle.pm_tokens.specs.Loose.{IsLoose}
use Rattle.pm_tokens.proofs.PairLaws.{no-left}
use Rattle.pm_tokens.proofs.PartLaws.{Split, split-front, split-rest, split-length}
use Rattle.pm_meaning.specs.declared.reason.Reason.{Reason}
use Rattle.pm_meaning.specs.declared.reason.Reason.TheVariants.{Range, Pair, NoNode}
use Rattle.pm_meaning.specs.Steps.{Step, AddNodeMark, RemoveNodeMark}
use Rattle.pm_meaning.specs.Marked.{add, remove, starts_node, node_marked}
use Rattle.pm_meaning.specs.Outcomes.{checked, and_unless, parts_no_pair, in_order, node_outcome}
use Rattle.pm_meaning.specs.Runs.{node_steps}
use Rattle.pm_meaning.specs.Meanings.{meaning}
use Rattle.pm_meaning.proofs.OutcomeLaws.{ok-unless, known-made}
use Rattle.pm_meaning.proofs.TokenMarks.{set_marks}
use Rattle.pm_meaning.proofs.MarkSuits.{marks_suit, suit-known, known-behind, fit-removed, fit-front}
use Rattle.pm_meaning.proofs.RunLaws.{remove_each, removed-all, add-last}
use Rattle.pm_meaning.proofs.EffectLaws.{is_node, node-one}
use Rattle.pm_meaning.proofs.MarkStepLaws.{Fits}
use Rattle.pm_meaning.proofs.LooseLaws.{Shaped, Paired}
use Rattle.pm_meaning.proofs.MixedLaws.{mixed}
use Rattle.pm_meaning.proofs.ReplaceLaws.{no-pair-at}

passes-all : (b : Bool) (r : Reason) (x : Result Doc Reason) (n : Doc) → b ≡ true → x ≡ Ok n → and_unless b r x ≡ Ok n
passes-all b r x n h e = rw (e, h) refl

starts-set : (s : Schema) (k : ℕ) (t : Token) (ms : Marks) (q : List Token) → is_node s k t ≡ true → starts_node (set_marks ms t ∷ q) ≡ true
starts-set s k (Open j a m) ms q h = refl
starts-set s k Close ms q h = absurd (cc)
starts-set s k (Leaf j a m) ms q h = refl
starts-set s k (CodeUnit u m) ms q h = absurd (cc)

module _ (s : Schema) (l : IsLoose s) (d : Doc) (v : Valid s d) (p : List Token) (t : Token) (olds news : List Token) (o : Marks)
    (ds : d.tokens ≡ p ++ (set_marks o t ∷ olds)) (hp : ends_high p ≡ false) (hr : ends_high (t ∷ []) ≡ false)
    (sh : Shaped olds news) (fn : Fits s (unclosed (unclosed (d.kind ∷ []) p) (t ∷ [])) news) (pn : Paired None news)
    (pos : ℕ) (lp : length p ≡ pos) (n : is_node s d.kind t ≡ true) where
  abbrev ps : List ℕ
  ps = unclosed (d.kind ∷ []) p

  abbrev mix : Marks → Doc
  mix cur = with_tokens d (p ++ (set_marks cur t ∷ news))

  abbrev Suits : Marks → Type 0
  Suits cur = marks_suit s (head_of ps) cur ≡ true

  here : (cur : Marks) → Split (p ++ (set_marks cur t ∷ news)) p (set_marks cur t ∷ []) news pos (pos + 1)
  here cur = record { is = refl; at_from = lp; at_to = refl }

  passes : (cur : Marks) → Suits cur → checked s (mix cur) ≡ Ok (mix cur)
  passes cur w = mixed s l d v p t [] olds news o ds hp hr sh fn pn pos (pos + 1) lp refl cur (w, tt)

  outcome-is : (f : Marks → Marks) (cur : Marks) → Suits (f cur) → node_outcome s f pos (mix cur) ≡ Ok (mix (f cur))
  outcome-is f cur w =
      let x = p ++ (set_marks cur t ∷ news) in
      let sp = here cur in
      let e : (node_marked f pos (mix cur)).tokens ≡ (mix (f cur)).tokens = rw (split-front sp, split-rest sp) (ap (λ z. p ++ z) (node-one s d.kind f cur t news n)) in
      let passed : checked s (node_marked f pos (mix cur)) ≡ Ok (mix (f cur)) = ap (λ z. checked s (with_tokens d z)) e ∙ passes (f cur) w in
      let stands : starts_node (drop pos x) ≡ true = ap starts_node (split-rest sp) ∙ starts-set s d.kind t cur news n in
      ok-unless (in_order (pos ∷ []) (length x)) Range _ (mix (f cur)) (le-leb pos (length x) (omega (arith, split-length sp)))
      (ok-unless (parts_no_pair x (pos ∷ [])) Pair _ (mix (f cur))
      (and_from (not (parts_pair x pos)) true (no-pair-at x p (set_marks cur t ∷ news) pos (split-front sp) (split-rest sp) (no-left p (set_marks cur t ∷ news) hp)) refl)
      (passes-all (starts_node (drop pos x)) NoNode (checked s (node_marked f pos (mix cur))) (mix (f cur)) stands passed))

  abbrev go : List Step → Doc → Option Doc
  go cs x = fold meaning s x cs

  removes-apply : (ms cur : Marks) (rest : List Step) → have_attrs s ms ≡ true → Suits cur → go (map (λ m. RemoveNodeMark pos m) ms ++ rest) (mix cur) ≡ go rest (mix (remove_each ms cur))
  removes-apply [] cur rest kn w = refl
  removes-apply (m ∷ ms) cur rest kn w =
      let next : Suits (remove m cur) = fit-removed s (head_of ps) m cur w in
      let k = and_parts (mark_attrs s m.kind m.attrs) (have_attrs s ms) kn in
      ap (λ z. then_some meaning s z (λ x. go (map (λ m. RemoveNodeMark pos m) ms ++ rest) x)) (known-made s (RemoveNodeMark pos m) (mix cur) k.0 ∙ outcome-is (remove m) cur next)
      ∙ removes-apply ms (remove m cur) rest k.1 next

  nothing-more : (xs : Marks) → xs ≡ xs ++ []
  nothing-more [] = refl
  nothing-more (x ∷ xs) = ap (λ z. x ∷ z) (nothing-more xs)

  adds-apply : (ms cur : Marks) (rest : List Step) → is_set s (cur ++ ms) ≡ true → Suits (cur ++ ms) → go (map (λ m. AddNodeMark pos m) ms ++ rest) (mix cur) ≡ go rest (mix (cur ++ ms))
  adds-apply [] cur rest h w = ap (λ z. go rest (mix z)) (nothing-more cur)
  adds-apply (m ∷ ms) cur rest h w =
      let e : add s m cur ≡ cur ++ (m ∷ []) = add-last s m cur ms h in
      let k : cur ++ (m ∷ ms) ≡ (cur ++ (m ∷ [])) ++ ms = sym (append_assoc cur (m ∷ []) ms) in
      let g : Suits ((cur ++ (m ∷ [])) ++ ms) = subst Suits k w in
      let next : Suits (add s m cur) = subst Suits (sym e) (fit-front s (head_of ps) (cur ++ (m ∷ [])) ms g) in
      let kn = and_parts (mark_attrs s m.kind m.attrs) (have_attrs s ms) (known-behind s cur (m ∷ ms) (suit-known s (head_of ps) (cur ++ (m ∷ ms)) w)) in
      ap (λ z. then_some meaning s z (λ x. go (map (λ m. AddNodeMark pos m) ms ++ rest) x)) (known-made s (AddNodeMark pos m) (mix cur) kn.0 ∙ outcome-is (add s m) cur next)
      ∙ (ap (λ z. go (map (λ m. AddNodeMark pos m) ms ++ rest) (mix z)) e
      ∙ (adds-apply ms (cur ++ (m ∷ [])) rest (subst (λ z. is_set s z ≡ true) k h) g ∙ ap (λ z. go rest (mix z)) (sym k)))

  -- the steps for the node apply, and it has its old marks then
  pub node-applies : (new : Marks) (rest : List Step) → is_set s o ≡ true → Suits new → Suits o → go (node_steps pos o new ++ rest) (mix new) ≡ go rest (mix o)
  node-applies new rest h wn wo =
      ap (λ z. go z (mix new)) (append_assoc (map (λ m. RemoveNodeMark pos m) new) (map (λ m. AddNodeMark pos m) o) rest)
      ∙ (removes-apply new new (map (λ m. AddNodeMark pos m) o ++ rest) (suit-known s (head_of ps) new wn) wn
      ∙ (ap (λ z. go (map (λ m. AddNodeMark pos m) o ++ rest) (mix z)) (removed-all new) ∙ adds-apply o [] rest h wo))
