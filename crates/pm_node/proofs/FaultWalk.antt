-- A walk over children that looks for a fault of attributes, marks or children.
use Rattle.std.specs.Prelude.{◌≡◌, ℕ, ◌+◌, ◌<◌, ◌≤◌, Bool, true, false, ◌&&◌, not, ◌==◌, Option, Some, None, List, [], ◌∷◌, length}
use Rattle.std.specs.declared.sync.Arc.{Arc}
use Rattle.std.proofs.Common.{refl, ap, sym, ◌∙◌, subst, arith}
use Rattle.pm_tokens.specs.Tokens.{Marks, Token}
use Rattle.pm_tokens.specs.Schemas.{Schema, node_attrs}
use Rattle.pm_tokens.specs.Scan.{Balanced}
use Rattle.pm_tokens.specs.Kids.{text_tokens, kids}
use Rattle.pm_tokens.specs.Marks.{have_attrs, is_set, are_allowed}
use Rattle.pm_tokens.specs.Faults.{Fault, BadMarks, BadContent, first_some, first_fault, fault_unless}
use Rattle.pm_tokens.proofs.FaultLaws.{fault-append, fault-node}
use Rattle.pm_node.specs.declared.node.Node.{Node}
use Rattle.pm_node.specs.declared.node.Body.TheVariants.{Text, Children}
use Rattle.pm_node.specs.declared.fault.CheckError.{CheckError}
use Rattle.pm_node.specs.declared.fault.CheckError.TheVariants as error
use Rattle.pm_node.specs.Trees.{node_tokens, list_tokens}
use Rattle.pm_node.specs.Checks.{Tells}
use Rattle.pm_node.proofs.TreeLaws.{node_tokens_at}
use Rattle.pm_node.proofs.WalkLaws.{rest, rest-end, rest-length, Child}

-- ---- answers

-- an error that is there stays the first fault
pub tells-first : (e : CheckError) (x y : Option Fault) → Tells e x → Tells e (first_some x y)
tells-first (error.Content at) x y h = ap (λ z. first_some z y) h
tells-first (error.Marks at) x y h = ap (λ z. first_some z y) h
tells-first (error.Attrs at) x y h = ap (λ z. first_some z y) h
tells-first error.Deep x y h = ap (λ z. first_some z y) h
tells-first error.Large x y h = ap (λ z. first_some z y) h
tells-first (error.Pair at) x y h = ap (λ z. first_some z y) h
tells-first error.NoMemory x y h = tt

-- ---- one token

pub no-content : (a m k : Bool) (at : ℕ) → fault_unless a m true at ≡ None → fault_unless a m k at ≡ fault_unless true true k at
no-content true true k at h = refl
no-content true false k at h = absurd (cc)
no-content false m k at h = absurd (cc)

pub bad-marks : (f h m : Bool) (at : ℕ) → f ≡ true → h ≡ true → m ≡ false → fault_unless (f && h) m true at ≡ Some (BadMarks at)
bad-marks f h m at a b e = rw (a, b, e) refl

pub good-marks : (f h m : Bool) (at : ℕ) → f ≡ true → h ≡ true → m ≡ true → fault_unless (f && h) m true at ≡ None
good-marks f h m at a b e = rw (a, b, e) refl

module _ (s : Schema) (parent : ℕ) where
  -- a text has the fault of its first unit
  pub text-fault : (at : ℕ) (ps : List ℕ) (m : Marks) (u : ℕ) (us : List ℕ) → first_fault s at (parent ∷ ps) (text_tokens m (u ∷ us)) ≡ fault_unless (have_attrs s m) (is_set s m && are_allowed s parent m) true at
  text-fault at ps m u us = by (have_attrs s m) (is_set s m && are_allowed s parent m) refl refl
    where
      fine : (p : ℕ) (vs : List ℕ) → have_attrs s m ≡ true → (is_set s m && are_allowed s parent m) ≡ true → first_fault s p (parent ∷ ps) (text_tokens m vs) ≡ None
      fine p [] a b = refl
      fine p (v ∷ vs) a b = rw (a, b) (fine (p + 1) vs a b)

      by : (a b : Bool) → have_attrs s m ≡ a → (is_set s m && are_allowed s parent m) ≡ b → first_fault s at (parent ∷ ps) (text_tokens m (u ∷ us)) ≡ fault_unless (have_attrs s m) (is_set s m && are_allowed s parent m) true at
      by true true e f = rw (e, f) (fine (at + 1) us e f)
      by true false e f = rw (e, f) refl
      by false b e f = rw e refl

  pub fault-text : (at : ℕ) (ps : List ℕ) (n : Node) (us : List ℕ) → n.body ≡ Text us → 0 < length us → first_fault s at (parent ∷ ps) (node_tokens n) ≡ fault_unless (have_attrs s n.marks) (is_set s n.marks && are_allowed s parent n.marks) true at
  fault-text at ps n us is p = ap (first_fault s at (parent ∷ ps)) (node_tokens_at n (Text us) is) ∙ by us p
    where
      by : (vs : List ℕ) → 0 < length vs → first_fault s at (parent ∷ ps) (text_tokens n.marks vs) ≡ fault_unless (have_attrs s n.marks) (is_set s n.marks && are_allowed s parent n.marks) true at
      by [] p = absurd (omega arith)
      by (v ∷ vs) p = text-fault at ps n.marks v vs

  -- the type and the content of a node that is no leaf fit
  abbrev pub open_fits : ℕ → List Token → Bool
  open_fits k inner = not (k == s.text) && not (s.is_leaf k) && s.accepts k (kids s.text 0 None inner)

  -- a node's own fault, or the first in its content
  node-fault : (at : ℕ) (ps : List ℕ) (n : Node) (inner : List Token) (f : Bool) → n.body ≡ Children inner → Balanced inner → f ≡ node_attrs s n.kind n.attrs
      → first_fault s at (parent ∷ ps) (node_tokens n) ≡ first_some (fault_unless (f && have_attrs s n.marks) (is_set s n.marks && are_allowed s parent n.marks) (open_fits n.kind inner) at) (first_fault s (at + 1) (n.kind ∷ parent ∷ ps) inner)
  node-fault at ps n inner f is b fit =
      ap (first_fault s at (parent ∷ ps)) (node_tokens_at n (Children inner) is)
      ∙ (fault-node s at (parent ∷ ps) n.kind n.attrs n.marks b
      ∙ ap (λ z. first_some (fault_unless (z && have_attrs s n.marks) (is_set s n.marks && are_allowed s parent n.marks) (open_fits n.kind inner) at) (first_fault s (at + 1) (n.kind ∷ parent ∷ ps) inner)) (sym fit))

  module _ (at : ℕ) (ps : List ℕ) (n : Node) (inner : List Token) (f : Bool) (is : n.body ≡ Children inner) (b : Balanced inner) (fit : f ≡ node_attrs s n.kind n.attrs) where
    pub node-bad-content : fault_unless (f && have_attrs s n.marks) (is_set s n.marks && are_allowed s parent n.marks) true at ≡ None → open_fits n.kind inner ≡ false → first_fault s at (parent ∷ ps) (node_tokens n) ≡ Some (BadContent at)
    node-bad-content h e =
        node-fault at ps n inner f is b fit ∙ (ap (λ z. first_some z (first_fault s (at + 1) (n.kind ∷ parent ∷ ps) inner)) (no-content (f && have_attrs s n.marks) (is_set s n.marks && are_allowed s parent n.marks) (open_fits n.kind inner) at h)
        ∙ ap (λ z. first_some (fault_unless true true z at) (first_fault s (at + 1) (n.kind ∷ parent ∷ ps) inner)) e)

    pub node-inner : fault_unless (f && have_attrs s n.marks) (is_set s n.marks && are_allowed s parent n.marks) true at ≡ None → open_fits n.kind inner ≡ true → first_fault s at (parent ∷ ps) (node_tokens n) ≡ first_fault s (at + 1) (n.kind ∷ parent ∷ ps) inner
    node-inner h e =
        node-fault at ps n inner f is b fit ∙ (ap (λ z. first_some z (first_fault s (at + 1) (n.kind ∷ parent ∷ ps) inner)) (no-content (f && have_attrs s n.marks) (is_set s n.marks && are_allowed s parent n.marks) (open_fits n.kind inner) at h)
        ∙ ap (λ z. first_some (fault_unless true true z at) (first_fault s (at + 1) (n.kind ∷ parent ∷ ps) inner)) e)

  -- ---- the walk

  -- the children before child i have no fault, and `at` is the place of its first token
  pub record Sound {Z : Type 0} (xs : List (Arc Node Z)) (i from at : ℕ) : Type 0 where
    pub sound : (ps : List ℕ) → first_fault s from (parent ∷ ps) (list_tokens xs) ≡ first_fault s at (parent ∷ ps) (rest xs i)
    pub place : at + length (rest xs i) ≡ from + length (list_tokens xs)

  pub sound-start : {Z : Type 0} (xs : List (Arc Node Z)) (at : ℕ) → Sound xs 0 at at
  sound-start xs at = record { sound = λ ps. refl; place = refl }

  module _ {Z : Type 0} (xs : List (Arc Node Z)) (i : ℕ) (n : Node) (c : Child xs i n) where
    child-fault : (at : ℕ) (ps : List ℕ) → first_fault s at (parent ∷ ps) (rest xs i) ≡ first_some (first_fault s at (parent ∷ ps) (node_tokens n)) (first_fault s (at + length (node_tokens n)) (parent ∷ ps) (rest xs (i + 1)))
    child-fault at ps = ap (first_fault s at (parent ∷ ps)) c.tokens ∙ fault-append s at (parent ∷ ps) c.whole (rest xs (i + 1))

    pub sound-more : (from at : ℕ) → Sound xs i from at → ((ps : List ℕ) → first_fault s at (parent ∷ ps) (node_tokens n) ≡ None) → Sound xs (i + 1) from (at + length (node_tokens n))
    sound-more from at w h = record {
      sound = λ ps. w.sound ps ∙ (child-fault at ps ∙ ap (λ z. first_some z (first_fault s (at + length (node_tokens n)) (parent ∷ ps) (rest xs (i + 1)))) (h ps));
      place = omega (arith, w.place, rest-length c);
    }

    pub sound-fault : (from at : ℕ) (e : CheckError) → Sound xs i from at → ((ps : List ℕ) → Tells e (first_fault s at (parent ∷ ps) (node_tokens n))) → (ps : List ℕ) → Tells e (first_fault s from (parent ∷ ps) (list_tokens xs))
    sound-fault from at e w h ps =
        subst (Tells e) (sym (w.sound ps ∙ child-fault at ps)) (tells-first e (first_fault s at (parent ∷ ps) (node_tokens n)) (first_fault s (at + length (node_tokens n)) (parent ∷ ps) (rest xs (i + 1))) (h ps))

    pub sound-room : (from at : ℕ) → Sound xs i from at → at + length (node_tokens n) ≤ from + length (list_tokens xs)
    sound-room from at w = omega (arith, w.place, rest-length c)

  pub sound-end : {Z : Type 0} (xs : List (Arc Node Z)) (i from at : ℕ) → Sound xs i from at → length xs ≤ i → (ps : List ℕ) → first_fault s from (parent ∷ ps) (list_tokens xs) ≡ None
  sound-end xs i from at w h ps = w.sound ps ∙ ap (first_fault s at (parent ∷ ps)) (rest-end xs i h)
