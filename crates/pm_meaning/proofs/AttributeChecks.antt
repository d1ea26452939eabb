-- A valid document in which an attribute gets a value of a kind that it allows stays valid, unless the value nests too deep.
use Rattle.std.specs.Prelude.{◌≡◌, ℕ, zero, suc, ◌+◌, ◌≤◌, ◌<◌, max, Bool, true, false, ◌&&◌, not, nat_le, cond, ◌==◌, List, [], ◌∷◌, ◌++◌, length, take, drop, slice_set, Option, Some, None, Ok}
use Rattle.std.specs.Char.Utf16.{is_high_surrogate, is_low_surrogate}
use Rattle.std.proofs.lemmas.Bool.{and_parts, and_from}
use Rattle.std.proofs.lemmas.List.{take-append-drop}
use Rattle.std.proofs.Common.{refl, ap, ◌∙◌, arith, length-take}
use Rattle.pm_value.specs.Plain.{Plain, depth}
use Rattle.pm_tokens.specs.Tokens.{Attrs, Marks, Token, Open, Close, Leaf, CodeUnit, Doc}
use Rattle.pm_tokens.specs.Schemas.{Schema, Declared, takes, fit_declared, fit_type, node_attrs, max_size, max_depth}
use Rattle.pm_tokens.specs.Scan.{head_of, deepest}
use Rattle.pm_tokens.specs.Kids.{kids, goes_on}
use Rattle.pm_tokens.specs.Marks.{have_attrs}
use Rattle.pm_tokens.specs.Faults.{attrs_fit, marks_fit, content_fits, low_next, high_of, under, token_fits, one_on, place_unless, place_from, no_marks, top_fits, fault_place, Valid}
use Rattle.pm_tokens.proofs.PairLaws.{first-none, none-first}
use Rattle.pm_tokens.proofs.ValidLaws.{token-fits, fits-token, valid-top, valid-tokens, valid-size, valid-depth}
use Rattle.pm_meaning.specs.declared.reason.Reason.TheVariants.{Content}
use Rattle.pm_meaning.specs.Marked.{starts_node}
use Rattle.pm_meaning.specs.Attributes.{place_among, allows_at, allows_among, node_kind, node_values, with_node_value, node_valued, top_valued}
use Rattle.pm_meaning.specs.Outcomes.{unless, unless_fault, checked}
use Rattle.pm_meaning.proofs.AttributeLaws.{place-below, valued-size}

-- ---- values

both-true : (b : Bool) → ((b && true) && true) ≡ b
both-true true = refl
both-true false = refl

-- with an allowed value at one place, values that fit still fit where it is shallow
fit-set : (as' : List Declared) (values : Attrs) (i : ℕ) (v : Plain) → fit_declared as' values ≡ true → i < length as' → allows_at as' i v ≡ true → fit_declared as' (slice_set values i v) ≡ nat_le (depth v) 4
fit-set [] values i v h l a = absurd (omega (arith, l))
fit-set (d ∷ as') [] i v h l a = absurd (cc)
fit-set (d ∷ as') (w ∷ values) zero v h l a =
    let x = and_parts (takes d w) (fit_declared as' values) h in
    rw (a, x.1) (both-true (nat_le (depth v) 4))
fit-set (d ∷ as') (w ∷ values) (suc i) v h l a =
    let x = and_parts (takes d w) (fit_declared as' values) h in
    ap (λ z. z && fit_declared as' (slice_set values i v)) x.0 ∙ fit-set as' values i v x.1 (omega (arith, l)) a

pub type-set : (o : Option (List Declared)) (values : Attrs) (name : List ℕ) (i : ℕ) (v : Plain) → fit_type o values ≡ true → place_among o name ≡ Some i → allows_among o i v ≡ true → fit_type o (slice_set values i v) ≡ nat_le (depth v) 4
type-set None values name i v h e a = absurd (cc)
type-set (Some as') values name i v h e a = fit-set as' values i v h (place-below as' name i e) a

-- ---- tokens

module _ (i : ℕ) (value : Plain) where
  kids-here : (text d : ℕ) (q : Option Marks) (r : List Token) → kids text d q (with_node_value i value r) ≡ kids text d q r
  kids-here text d q [] = refl
  kids-here text zero q (Open k x m ∷ r) = refl
  kids-here text (suc d) q (Open k x m ∷ r) = refl
  kids-here text d q (Close ∷ r) = refl
  kids-here text zero q (Leaf k x m ∷ r) = refl
  kids-here text (suc d) q (Leaf k x m ∷ r) = refl
  kids-here text d q (CodeUnit u m ∷ r) = refl

  kids-valued : (text d : ℕ) (q : Option Marks) (a r : List Token) → kids text d q (a ++ with_node_value i value r) ≡ kids text d q (a ++ r)
  kids-valued text d q [] r = kids-here text d q r
  kids-valued text zero q (Open k x m ∷ a) r = ap (λ z. k ∷ z) (kids-valued text 1 None a r)
  kids-valued text (suc d) q (Open k x m ∷ a) r = kids-valued text (suc (suc d)) None a r
  kids-valued text zero q (Close ∷ a) r = refl
  kids-valued text (suc d) q (Close ∷ a) r = kids-valued text d None a r
  kids-valued text zero q (Leaf k x m ∷ a) r = ap (λ z. k ∷ z) (kids-valued text zero None a r)
  kids-valued text (suc d) q (Leaf k x m ∷ a) r = kids-valued text (suc d) None a r
  kids-valued text zero q (CodeUnit u m ∷ a) r = ap (λ z. cond (goes_on q m) z (text ∷ z)) (kids-valued text zero (Some m) a r)
  kids-valued text (suc d) q (CodeUnit u m ∷ a) r = kids-valued text (suc d) None a r

  deepest-valued : (d : ℕ) (a r : List Token) → deepest d (a ++ with_node_value i value r) ≡ deepest d (a ++ r)
  deepest-valued d [] [] = refl
  deepest-valued d [] (Open k x m ∷ r) = refl
  deepest-valued d [] (Close ∷ r) = refl
  deepest-valued d [] (Leaf k x m ∷ r) = refl
  deepest-valued d [] (CodeUnit u m ∷ r) = refl
  deepest-valued d (Open k x m ∷ a) r = deepest-valued (suc d) a r
  deepest-valued zero (Close ∷ a) r = deepest-valued zero a r
  deepest-valued (suc d) (Close ∷ a) r = ap (λ z. max (suc d) z) (deepest-valued d a r)
  deepest-valued d (Leaf k x m ∷ a) r = deepest-valued d a r
  deepest-valued d (CodeUnit u m ∷ a) r = deepest-valued d a r

  low-valued : (n : Marks) (a r : List Token) → low_next n (a ++ with_node_value i value r) ≡ low_next n (a ++ r)
  low-valued n [] [] = refl
  low-valued n [] (Open k x m ∷ r) = refl
  low-valued n [] (Close ∷ r) = refl
  low-valued n [] (Leaf k x m ∷ r) = refl
  low-valued n [] (CodeUnit u m ∷ r) = refl
  low-valued n (Open k x m ∷ a) r = refl
  low-valued n (Close ∷ a) r = refl
  low-valued n (Leaf k x m ∷ a) r = refl
  low-valued n (CodeUnit u m ∷ a) r = refl

  module _ (s : Schema) where
    -- a token before the node has no fault where it had none
    token-valued : (parent : ℕ) (high : Option Marks) (t : Token) (a r : List Token) → token_fits s parent high t (a ++ with_node_value i value r) ≡ token_fits s parent high t (a ++ r)
    token-valued parent high (Open k x m) a r =
        ap (λ z. attrs_fit s (Open k x m) && marks_fit s parent (Open k x m) && (not (k == s.text) && not (s.is_leaf k) && s.accepts k z) && true) (kids-valued s.text 0 None a r)
    token-valued parent high Close a r = refl
    token-valued parent high (Leaf k x m) a r = refl
    token-valued parent high (CodeUnit u m) a r =
        ap (λ z. attrs_fit s (CodeUnit u m) && marks_fit s parent (CodeUnit u m) && true && cond (is_high_surrogate u) z (cond (is_low_surrogate u) (goes_on high m) true)) (low-valued m a r)

    -- the node itself has a fault exactly where its values do not fit
    abbrev place_where : Bool → ℕ → Option ℕ
    place_where b n = cond b None (Some n)

    abbrev new_fit : List Token → Bool
    new_fit r = node_attrs s (node_kind r) (slice_set (node_values r) i value)

    open-valued : (ps : List ℕ) (high : Option Marks) (k : ℕ) (x : Attrs) (m : Marks) (q : List Token) → place_from s ps high (Open k x m ∷ q) ≡ None
        → (b : Bool) → node_attrs s k (slice_set x i value) ≡ b → place_from s ps high (Open k (slice_set x i value) m ∷ q) ≡ place_where b 0
    open-valued ps high k x m q h true e =
        let f = first-none (token_fits s (head_of ps) high (Open k x m) q) (place_from s (k ∷ ps) None q) h in
        let w = token-fits s (head_of ps) high (Open k x m) q f.0 in
        let n = Open k (slice_set x i value) m in
        none-first (token_fits s (head_of ps) high n q) (place_from s (k ∷ ps) None q)
        (fits-token s (head_of ps) high n q (record {
          attrs = and_from (node_attrs s k (slice_set x i value)) (have_attrs s m) e (and_parts (node_attrs s k x) (have_attrs s m) w.attrs).1;
          marks = w.marks;
          content = w.content;
          pair = w.pair;
        })) f.1
    open-valued ps high k x m q h false e =
        ap (λ z. place_unless ((z && have_attrs s m) && marks_fit s (head_of ps) (Open k x m) && content_fits s (Open k x m) q && true) (place_from s (k ∷ ps) None q)) e

    leaf-valued : (ps : List ℕ) (high : Option Marks) (k : ℕ) (x : Attrs) (m : Marks) (q : List Token) → place_from s ps high (Leaf k x m ∷ q) ≡ None
        → (b : Bool) → node_attrs s k (slice_set x i value) ≡ b → place_from s ps high (Leaf k (slice_set x i value) m ∷ q) ≡ place_where b 0
    leaf-valued ps high k x m q h true e =
        let f = first-none (token_fits s (head_of ps) high (Leaf k x m) q) (place_from s ps None q) h in
        let w = token-fits s (head_of ps) high (Leaf k x m) q f.0 in
        let n = Leaf k (slice_set x i value) m in
        none-first (token_fits s (head_of ps) high n q) (place_from s ps None q)
        (fits-token s (head_of ps) high n q (record {
          attrs = and_from (node_attrs s k (slice_set x i value)) (have_attrs s m) e (and_parts (node_attrs s k x) (have_attrs s m) w.attrs).1;
          marks = w.marks;
          content = w.content;
          pair = w.pair;
        })) f.1
    leaf-valued ps high k x m q h false e =
        ap (λ z. place_unless ((z && have_attrs s m) && marks_fit s (head_of ps) (Leaf k x m) && content_fits s (Leaf k x m) q && true) (place_from s ps None q)) e

    one-more : (b : Bool) (n : ℕ) → one_on (place_where b n) ≡ place_where b (suc n)
    one-more true n = refl
    one-more false n = ap Some (let e : n + 1 ≡ suc n = omega arith in e)

    places-valued : (ps : List ℕ) (high : Option Marks) (a r : List Token) → starts_node r ≡ true → place_from s ps high (a ++ r) ≡ None
        → place_from s ps high (a ++ with_node_value i value r) ≡ place_where (new_fit r) (length a)
    places-valued ps high [] [] n h = absurd (cc)
    places-valued ps high [] (Open k x m ∷ r) n h = open-valued ps high k x m r h (new_fit (Open k x m ∷ r)) refl
    places-valued ps high [] (Close ∷ r) n h = absurd (cc)
    places-valued ps high [] (Leaf k x m ∷ r) n h = leaf-valued ps high k x m r h (new_fit (Leaf k x m ∷ r)) refl
    places-valued ps high [] (CodeUnit u m ∷ r) n h = absurd (cc)
    places-valued ps high (t ∷ a) r n h =
        let f = first-none (token_fits s (head_of ps) high t (a ++ r)) (place_from s (under ps t) (high_of t) (a ++ r)) h in
        ap (λ z. place_unless z (place_from s (under ps t) (high_of t) (a ++ with_node_value i value r))) (token-valued (head_of ps) high t a r ∙ f.0)
        ∙ (ap one_on (places-valued (under ps t) (high_of t) a r n f.1) ∙ one-more (new_fit r) (length a))

-- ---- documents

by-place : (s : Schema) (d : Doc) → nat_le (length d.tokens) (max_size s) ≡ true → nat_le (deepest 0 d.tokens) max_depth ≡ true → checked s d ≡ unless_fault (fault_place s d) d
by-place s d h k = rw (h, k) refl

after-place : (b : Bool) (n : ℕ) (d : Doc) → unless_fault (one_on (cond b None (Some n))) d ≡ unless b (Content (n + 1)) (Ok d)
after-place true n d = refl
after-place false n d = refl

-- the check of a document in which an attribute of a node got a value that it allows
pub node-checked : (s : Schema) (d : Doc) (p i : ℕ) (name : List ℕ) (value : Plain) → Valid s d → p ≤ length d.tokens → starts_node (drop p d.tokens) ≡ true
    → place_among (s.node_declares (node_kind (drop p d.tokens))) name ≡ Some i → allows_among (s.node_declares (node_kind (drop p d.tokens))) i value ≡ true
    → node_attrs s (node_kind (drop p d.tokens)) (node_values (drop p d.tokens)) ≡ true
    → checked s (node_valued i value p d) ≡ unless (nat_le (depth value) 4) (Content (p + 1)) (Ok (node_valued i value p d))
node-checked s d p i name value v l n e w f =
    let a = take p d.tokens in
    let r = drop p d.tokens in
    let all : a ++ r ≡ d.tokens = take-append-drop p d.tokens in
    let next = node_valued i value p d in
    let size : nat_le (length next.tokens) (max_size s) ≡ true = ap (λ z. nat_le z (max_size s)) (valued-size i value a r ∙ ap length all) ∙ valid-size s d v in
    let deep : nat_le (deepest 0 next.tokens) max_depth ≡ true = ap (λ z. nat_le z max_depth) (deepest-valued i value 0 a r ∙ ap (deepest 0) all) ∙ valid-depth s d v in
    let top : top_fits s next ≡ true = ap (λ z. node_attrs s d.kind d.attrs && no_marks d.marks && s.accepts d.kind z) (kids-valued i value s.text 0 None a r ∙ ap (kids s.text 0 None) all) ∙ valid-top s d v in
    let was : place_from s (d.kind ∷ []) None (a ++ r) ≡ None = ap (place_from s (d.kind ∷ []) None) all ∙ valid-tokens s d v in
    let fit : node_attrs s (node_kind r) (slice_set (node_values r) i value) ≡ nat_le (depth value) 4 = type-set (s.node_declares (node_kind r)) (node_values r) name i value f e w in
    let at : length a ≡ p = omega (arith, l, length-take p d.tokens) in
    let place : fault_place s next ≡ one_on (cond (nat_le (depth value) 4) None (Some p)) =
    ap (λ z. place_unless z (place_from s (d.kind ∷ []) None next.tokens)) top
    ∙ (ap one_on (places-valued i value s (d.kind ∷ []) None a r n was)
    ∙ (ap (λ z. one_on (cond z None (Some (length a)))) fit ∙ ap (λ z. one_on (cond (nat_le (depth value) 4) None (Some z))) at)) in
    by-place s next size deep ∙ (ap (λ z. unless_fault z next) place ∙ after-place (nat_le (depth value) 4) p next)

after-top : (b : Bool) (o : Option ℕ) (d : Doc) → o ≡ None → unless_fault (place_unless b o) d ≡ unless b (Content 0) (Ok d)
after-top true o d h = ap (λ z. unless_fault (one_on z) d) h
after-top false o d h = refl

-- the same of the top node
pub top-checked : (s : Schema) (d : Doc) (i : ℕ) (name : List ℕ) (value : Plain) → Valid s d
    → place_among (s.node_declares d.kind) name ≡ Some i → allows_among (s.node_declares d.kind) i value ≡ true
    → checked s (top_valued i value d) ≡ unless (nat_le (depth value) 4) (Content 0) (Ok (top_valued i value d))
top-checked s d i name value v e w =
    let next = top_valued i value d in
    let fit : node_attrs s d.kind (slice_set d.attrs i value) ≡ nat_le (depth value) 4 = type-set (s.node_declares d.kind) d.attrs name i value v.top_attrs e w in
    let marks : no_marks d.marks ≡ true = ap no_marks v.top_marks in
    let top : top_fits s next ≡ nat_le (depth value) 4 =
    ap (λ z. node_attrs s d.kind (slice_set d.attrs i value) && z && s.accepts d.kind (kids s.text 0 None d.tokens)) marks
    ∙ (ap (λ z. node_attrs s d.kind (slice_set d.attrs i value) && true && z) v.top_content ∙ (both-true (node_attrs s d.kind (slice_set d.attrs i value)) ∙ fit)) in
    by-place s next (valid-size s d v) (valid-depth s d v)
    ∙ (ap (λ z. unless_fault (place_unless z (place_from s (d.kind ∷ []) None d.tokens)) next) top
    ∙ after-top (nat_le (depth value) 4) (place_from s (d.kind ∷ []) None d.tokens) next (valid-tokens s d v))
