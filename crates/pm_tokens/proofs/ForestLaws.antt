-- The relation that gives the types of children, and the reading that computes them: they agree, both ways.
use Rattle.std.specs.Prelude.{◌≡◌, ℕ, Bool, true, false, None, List, [], ◌∷◌, ◌++◌}
use Rattle.std.proofs.Common.{refl, ap, sym, ◌∙◌, subst}
use Rattle.pm_marks.specs.Sets.{same_marks}
use Rattle.pm_tokens.specs.Tokens.{Marks, Token, CodeUnit}
use Rattle.pm_tokens.specs.Scan.{Balanced, none, leaf, unit, node}
use Rattle.pm_attrs.specs.Attrs.{same_attrs}
use Rattle.pm_tokens.specs.Kids.{text_tokens, Forest, empty, atom, block, run, kids}
use Rattle.pm_tokens.proofs.MarkLaws.{marks-equal, marks-itself}
use Rattle.pm_tokens.proofs.BalanceLaws.{balanced-append}
use Rattle.pm_tokens.proofs.KidLaws.{balanced-text, kids-node, kids-text}
use Rattle.pm_tokens.proofs.PairLaws.{true-false}

module _ (text : ℕ) where
  -- such lists are whole numbers of nodes
  pub forest-balanced : {ts : List Token} {ks : List ℕ} → Forest text ts ks → Balanced ts
  forest-balanced empty = none
  forest-balanced (atom k a m f) = leaf k a m (forest-balanced f)
  forest-balanced (block k a m i f) = node k a m (forest-balanced i) (forest-balanced f)
  forest-balanced (run m u us f e) = balanced-append (balanced-text m (u ∷ us)) (forest-balanced f)

  -- the types are those that are computed
  pub forest-kids : {ts : List Token} {ks : List ℕ} → Forest text ts ks → kids text 0 None ts ≡ ks
  forest-kids empty = refl
  forest-kids (atom k a m f) = ap (λ z. k ∷ z) (forest-kids f)
  forest-kids (block k a m {ts = ts} i f) = kids-node text None k a m (forest-balanced i) ts ∙ ap (λ z. k ∷ z) (forest-kids f)
  forest-kids (run m u us {ts = ts} f e) = kids-text text m u us ts e ∙ ap (λ z. text ∷ z) (forest-kids f)

  -- so a list has the types of one list of children alone
  pub forest-one : {ts : List Token} {js ks : List ℕ} → Forest text ts js → Forest text ts ks → js ≡ ks
  forest-one f g = sym (forest-kids f) ∙ forest-kids g

  HasForest : List Token → Type 0
  HasForest ts = (ks : List ℕ) × Forest text ts ks

  unit-first : (u : ℕ) (m : Marks) {ts : List Token} {ks : List ℕ} → Forest text ts ks → HasForest (CodeUnit u m ∷ ts)
  unfolding HasForest
  unit-first u m empty = (text ∷ [], run m u [] empty tt)
  unit-first u m (atom k a n {ks = ks} f) = (text ∷ k ∷ ks, run m u [] (atom k a n f) tt)
  unit-first u m (block k a n {ks = ks} i f) = (text ∷ k ∷ ks, run m u [] (block k a n i f) tt)
  unit-first u m (run n v vs {ts = ts} {ks = ks} f e) = by (same_marks same_attrs m n) refl
    where
      by : (b : Bool) → same_marks same_attrs m n ≡ b → HasForest (CodeUnit u m ∷ (text_tokens n (v ∷ vs) ++ ts))
      by true h = (text ∷ ks, subst (λ z. Forest text (CodeUnit u z ∷ (text_tokens n (v ∷ vs) ++ ts)) (text ∷ ks)) (sym (marks-equal m n h)) (run n u (v ∷ vs) f e))
      by false h = (
        text ∷ text ∷ ks,
        run m u [] (run n v vs f e) (λ same. true-false (same_marks same_attrs m n) (subst (λ z. same_marks same_attrs m z ≡ true) same (marks-itself m)) h),
      )

  has-forest : {ts : List Token} → Balanced ts → HasForest ts
  unfolding HasForest
  has-forest none = ([], empty)
  has-forest (leaf k a m b) = let f = has-forest b in (k ∷ f.0, atom k a m f.1)
  has-forest (unit u m b) = unit-first u m (has-forest b).1
  has-forest (node k a m i b) = let f = has-forest b in (k ∷ f.0, block k a m (has-forest i).1 f.1)

  -- each whole number of nodes is such a list, of the types that are computed
  pub balanced-forest : {ts : List Token} → Balanced ts → Forest text ts (kids text 0 None ts)
  unfolding HasForest
  balanced-forest {ts = ts} b = let f = has-forest b in subst (Forest text ts) (sym (forest-kids f.1)) f.1
