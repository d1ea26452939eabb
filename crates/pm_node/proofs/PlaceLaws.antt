-- The least place with a fault is the lesser of that of the first broken unit and that of the first other fault.
use Rattle.std.specs.Prelude.{◌≡◌, ℕ, ◌+◌, ◌≤◌, min, Bool, true, false, ◌&&◌, cond, Option, Some, None, option_map, List, [], ◌∷◌}
use Rattle.std.proofs.Common.{refl, ap, sym, ◌∙◌, arith}
use Rattle.pm_tokens.specs.Tokens.{Marks, Token}
use Rattle.pm_tokens.specs.Schemas.{Schema, node_attrs}
use Rattle.pm_tokens.specs.Scan.{head_of}
use Rattle.pm_tokens.specs.Kids.{kids}
use Rattle.pm_tokens.specs.Faults.{Fault, Pair, attrs_fit, marks_fit, content_fits, pair_fits, high_of, under, fault_unless, first_some, first_fault, first_broken, one_on, place_unless, place_from, top_fits, fault_place}
use Rattle.pm_node.specs.Places.{place_in, least}
use Rattle.pm_node.specs.declared.node.Node.{Node}
use Rattle.pm_node.specs.Documents.{doc_with}

-- counted from another start
abbrev pub moved : ℕ → Option ℕ → Option ℕ
moved at None = None
moved at (Some p) = Some (at + p)

moved-on : (at : ℕ) (o : Option ℕ) → moved at (one_on o) ≡ moved (at + 1) o
moved-on at None = refl
moved-on at (Some p) = ap Some (let e : at + (p + 1) ≡ (at + 1) + p = omega arith in e)

abbrev AtLeast : ℕ → Option ℕ → Type 0
AtLeast n None = Unit {0}
AtLeast n (Some p) = n ≤ p

lower : (n m : ℕ) (o : Option ℕ) → n ≤ m → AtLeast m o → AtLeast n o
lower n m None h k = tt
lower n m (Some p) h k = omega (arith, h, k)

broken-late : (at : ℕ) (high : Option Marks) (ts : List Token) → AtLeast at (place_in (first_broken at high ts))
broken-late at high [] = tt
broken-late at high (t ∷ ts) =
    elim (pair_fits high t ts) as (λ b. AtLeast at (place_in (cond b (first_broken (at + 1) (high_of t) ts) (Some (Pair at))))) [
      | true ↦ lower at (at + 1) (place_in (first_broken (at + 1) (high_of t) ts)) (omega arith) (broken-late (at + 1) (high_of t) ts)
      | false ↦ (let h : at ≤ at = omega arith in h)
    ]

first-late : (a m k : Bool) (at : ℕ) (later : Option Fault) → AtLeast (at + 1) (place_in later) → AtLeast at (place_in (first_some (fault_unless a m k at) later))
first-late false m k at later h = let g : at ≤ at = omega arith in g
first-late true false k at later h = let g : at ≤ at = omega arith in g
first-late true true false at later h = let g : at ≤ at = omega arith in g
first-late true true true at later h = lower at (at + 1) (place_in later) (omega arith) h

fault-late : (s : Schema) (at : ℕ) (ps : List ℕ) (ts : List Token) → AtLeast at (place_in (first_fault s at ps ts))
fault-late s at ps [] = tt
fault-late s at ps (t ∷ ts) =
    first-late (attrs_fit s t) (marks_fit s (head_of ps) t) (content_fits s t ts) at (first_fault s (at + 1) (under ps t) ts) (fault-late s (at + 1) (under ps t) ts)

least-left : (at : ℕ) (o : Option ℕ) → AtLeast at o → least (Some at) o ≡ Some (at + 0)
least-left at None h = ap Some (let e : at ≡ at + 0 = omega arith in e)
least-left at (Some p) h = ap Some (let e : min at p ≡ at + 0 = omega (arith, h) in e)

least-right : (at : ℕ) (o : Option ℕ) → AtLeast at o → least o (Some at) ≡ Some (at + 0)
least-right at None h = ap Some (let e : at ≡ at + 0 = omega arith in e)
least-right at (Some p) h = ap Some (let e : min p at ≡ at + 0 = omega (arith, h) in e)

-- one token, with what is after it
one : (a m k p : Bool) (at : ℕ) (place : Option ℕ) (broken fault : Option Fault) → AtLeast (at + 1) (place_in broken) → AtLeast (at + 1) (place_in fault)
    → moved (at + 1) place ≡ least (place_in broken) (place_in fault)
    → moved at (place_unless (a && m && k && p) place) ≡ least (place_in (cond p broken (Some (Pair at)))) (place_in (first_some (fault_unless a m k at) fault))
one true true true true at place broken fault x y h = moved-on at place ∙ h
one true true true false at place broken fault x y h = sym (least-left at (place_in fault) (lower at (at + 1) (place_in fault) (omega arith) y))
one true true false true at place broken fault x y h = sym (least-right at (place_in broken) (lower at (at + 1) (place_in broken) (omega arith) x))
one true true false false at place broken fault x y h = sym (least-right at (Some at) (let g : at ≤ at = omega arith in g))
one true false k true at place broken fault x y h = sym (least-right at (place_in broken) (lower at (at + 1) (place_in broken) (omega arith) x))
one true false k false at place broken fault x y h = sym (least-right at (Some at) (let g : at ≤ at = omega arith in g))
one false m k true at place broken fault x y h = sym (least-right at (place_in broken) (lower at (at + 1) (place_in broken) (omega arith) x))
one false m k false at place broken fault x y h = sym (least-right at (Some at) (let g : at ≤ at = omega arith in g))

pub place-least : (s : Schema) (at : ℕ) (ps : List ℕ) (high : Option Marks) (ts : List Token) → moved at (place_from s ps high ts) ≡ least (place_in (first_broken at high ts)) (place_in (first_fault s at ps ts))
place-least s at ps high [] = refl
place-least s at ps high (t ∷ ts) =
    one (attrs_fit s t) (marks_fit s (head_of ps) t) (content_fits s t ts) (pair_fits high t ts) at (place_from s (under ps t) (high_of t) ts) (first_broken (at + 1) (high_of t) ts) (first_fault s (at + 1) (under ps t) ts)
    (broken-late (at + 1) (high_of t) ts) (fault-late s (at + 1) (under ps t) ts) (place-least s (at + 1) (under ps t) (high_of t) ts)

one-moved : (o : Option ℕ) → one_on o ≡ moved 1 o
one-moved None = refl
one-moved (Some p) = ap Some (let e : p + 1 ≡ 1 + p = omega arith in e)

-- ---- a document

pub bad-first : (a m k : Bool) → a ≡ false → (a && m && k) ≡ false
bad-first a m k e = rw e refl

-- else it is the least below it
pub below-top : (s : Schema) (n : Node) (ts : List Token) (broken : Option ℕ) → node_attrs s n.kind n.attrs ≡ true → n.marks ≡ [] → s.accepts n.kind (kids s.text 0 None ts) ≡ true
    → option_map Pair broken ≡ first_broken 1 None ts → least broken (place_in (first_fault s 1 (n.kind ∷ []) ts)) ≡ fault_place s (doc_with n ts)
below-top s n ts broken a m k e =
    let top : top_fits s (doc_with n ts) ≡ true = rw (a, m, k) refl in
    let b : broken ≡ place_in (first_broken 1 None ts) = placed broken ∙ ap place_in e in
    ap (λ z. least z (place_in (first_fault s 1 (n.kind ∷ []) ts))) b
    ∙ (sym (place-least s 1 (n.kind ∷ []) None ts) ∙ (sym (one-moved (place_from s (n.kind ∷ []) None ts)) ∙ sym (ap (λ z. place_unless z (place_from s (n.kind ∷ []) None ts)) top)))
  where
    placed : (o : Option ℕ) → o ≡ place_in (option_map Pair o)
    placed None = refl
    placed (Some p) = refl
