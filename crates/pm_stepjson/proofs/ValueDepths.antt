-- The value that a step puts into a valid document nests at most four levels deep.
use Rattle.std.specs.Prelude.{◌≡◌, ℕ, zero, suc, ◌≤◌, ◌<◌, true, nat_le, List, [], ◌∷◌, ◌++◌, length, take, drop, slice_set, slice_index_or, Option, Some, None, Ok}
use Rattle.std.proofs.lemmas.Bool.{leb-true, and_parts}
use Rattle.std.proofs.lemmas.List.{take-append-drop, get_or-set_same, length-set}
use Rattle.std.proofs.Common.{ap, sym, subst, arith}
use Rattle.pm_value.specs.Plain.{Plain, null, depth}
use Rattle.pm_value.specs.Kinds.{is_allowed}
use Rattle.pm_tokens.specs.Tokens.{Attrs, Token, Open, Close, Leaf, CodeUnit, Doc}
use Rattle.pm_tokens.specs.Schemas.{Schema, Declared, takes, fit_declared, fit_type, node_attrs}
use Rattle.pm_tokens.specs.Marks.{have_attrs}
use Rattle.pm_tokens.specs.Faults.{Valid}
use Rattle.pm_meaning.specs.Steps.{Attr, DocAttr}
use Rattle.pm_meaning.specs.Marked.{starts_node}
use Rattle.pm_meaning.specs.Attributes.{place_among, node_kind, with_node_value}
use Rattle.pm_meaning.specs.Outcomes.{outcome}
use Rattle.pm_meaning.proofs.AttributeLaws.{type-place, attr-made, attr-valid, doc-made, doc-valid}

-- ---- among the values of a type

fit-shallow : (as' : List Declared) (values : Attrs) (i : ℕ) → fit_declared as' values ≡ true → i < length values → depth (slice_index_or values i null) ≤ 4
fit-shallow [] [] i h l = absurd (omega (arith, l))
fit-shallow [] (v ∷ values) i h l = absurd (cc)
fit-shallow (a ∷ as') [] i h l = absurd (cc)
fit-shallow (a ∷ as') (v ∷ values) zero h l = leb-true (depth v) 4 (and_parts (nat_le (depth v) 4) (is_allowed a.kinds v) (and_parts (takes a v) (fit_declared as' values) h).0).0
fit-shallow (a ∷ as') (v ∷ values) (suc i) h l = fit-shallow as' values i (and_parts (takes a v) (fit_declared as' values) h).1 (omega (arith, l))

-- a value that was put among them
set-shallow : (o : Option (List Declared)) (values : Attrs) (i : ℕ) (value : Plain) → fit_type o (slice_set values i value) ≡ true → i < length values → depth value ≤ 4
set-shallow None values i value h l = absurd (cc)
set-shallow (Some as') values i value h l =
    let n : i < length (slice_set values i value) = omega (arith, l, length-set values i value) in
    subst (λ v. depth v ≤ 4) (get_or-set_same values i value null l) (fit-shallow as' (slice_set values i value) i h n)

-- ---- in a document

module _ (s : Schema) (d next : Doc) (v : Valid s d) (w : Valid s next) (i : ℕ) (name : List ℕ) (value : Plain) where
  head-shallow : (a r : List Token) → d.tokens ≡ a ++ r → next.tokens ≡ a ++ with_node_value i value r → starts_node r ≡ true → place_among (s.node_declares (node_kind r)) name ≡ Some i → depth value ≤ 4
  head-shallow a [] e f h p = absurd (cc)
  head-shallow a (Open k x m ∷ ts) e f h p =
      let old = (and_parts (node_attrs s k x) (have_attrs s m) (v.attrs a (Open k x m) ts e)).0 in
      let new = (and_parts (node_attrs s k (slice_set x i value)) (have_attrs s m) (w.attrs a (Open k (slice_set x i value) m) ts f)).0 in
      set-shallow (s.node_declares k) x i value new (type-place (s.node_declares k) x name i old p)
  head-shallow a (Close ∷ ts) e f h p = absurd (cc)
  head-shallow a (Leaf k x m ∷ ts) e f h p =
      let old = (and_parts (node_attrs s k x) (have_attrs s m) (v.attrs a (Leaf k x m) ts e)).0 in
      let new = (and_parts (node_attrs s k (slice_set x i value)) (have_attrs s m) (w.attrs a (Leaf k (slice_set x i value) m) ts f)).0 in
      set-shallow (s.node_declares k) x i value new (type-place (s.node_declares k) x name i old p)
  head-shallow a (CodeUnit u m ∷ ts) e f h p = absurd (cc)

pub attr-shallow : (s : Schema) (p : ℕ) (name : List ℕ) (value : Plain) (d next : Doc) → Valid s d → outcome s (Attr p name value) d ≡ Ok next → depth value ≤ 4
attr-shallow s p name value d next v h =
    let made = attr-made s p name value d next v h in
    let at = made.settled in
    head-shallow s d next v (attr-valid s p name value d next v h) at.place name value (take p d.tokens) (drop p d.tokens)
    (sym (take-append-drop p d.tokens)) (ap (λ z. z.tokens) at.is) made.stands at.found

pub doc-attr-shallow : (s : Schema) (name : List ℕ) (value : Plain) (d next : Doc) → Valid s d → outcome s (DocAttr name value) d ≡ Ok next → depth value ≤ 4
doc-attr-shallow s name value d next v h =
    let at = doc-made s name value d next v h in
    let w = doc-valid s name value d next v h in
    let fits : fit_type (s.node_declares d.kind) (slice_set d.attrs at.place value) ≡ true =
    subst (λ (z : Doc). fit_type (s.node_declares z.kind) z.attrs ≡ true) at.is w.top_attrs in
    set-shallow (s.node_declares d.kind) d.attrs at.place value fits (type-place (s.node_declares d.kind) d.attrs name at.place v.top_attrs at.found)
