-- The readings of faults give the first one: it is there, and there is none before it.
use Rattle.std.specs.Prelude.{◌≡◌, ℕ, ◌+◌, ◌<◌, ◌⊎◌, Bool, true, false, ◌&&◌, not, cond, if◌then◌else◌, nat_le, List, [], ◌∷◌, ◌++◌, length, Option, Some, None}
use Rattle.std.proofs.lemmas.Bool.{leb-true, leb-false}
use Rattle.std.proofs.Common.{suc, refl, ap, sym, ◌∙◌, subst, arith, inl, inr}
use Rattle.pm_tokens.specs.Tokens.{Marks, Token, Doc}
use Rattle.pm_tokens.specs.Schemas.{Schema, max_size, max_depth}
use Rattle.pm_tokens.specs.Scan.{head_of, unclosed, deepest}
use Rattle.pm_tokens.specs.Faults.{attrs_fit, marks_fit, content_fits, high_of, pair_fits, last_high, StandsIn, Fault, Large, Deep, Pair, first_some, fault_unless, under, first_fault, first_broken, top_fault, fault, place_unless, token_fits, place_from, top_fits, fault_place}
use Rattle.pm_tokens.specs.FirstFaults.{IsFirst, fits_at, pair_at, sound_at, FaultAt, FirstFault, IsFault, large, deep, broken, top, inside, IsLeastPlace}
use Rattle.pm_tokens.proofs.ValidLaws.{under-is}

-- one token more at the front, which the test does not refuse
one-more : (test later : List Token → Token → List Token → Bool) (x : Token) (ts : List Token) (n : ℕ) → test [] x ts ≡ true → ((b : List Token) (t : Token) (f : List Token) → test (x ∷ b) t f ≡ later b t f)
    → IsFirst later ts n → IsFirst test (x ∷ ts) (suc n)
one-more test later x ts n h same i = record {
  before = x ∷ i.before;
  token = i.token;
  behind = i.behind;
  stands = ap (λ z. x ∷ z) i.stands;
  place = ap suc i.place;
  refused = same i.before i.token i.behind ∙ i.refused;
  earlier = earlier;
}
  where
    head : (y z : Token) (ys zs : List Token) → y ∷ ys ≡ z ∷ zs → (y ≡ z) × (ys ≡ zs)
    head y z ys zs e = (cc, cc)

    earlier : (b : List Token) (t : Token) (f : List Token) → StandsIn (x ∷ ts) b t f → length b < suc n → test b t f ≡ true
    earlier [] t f e l = let p = head x t ts f e in subst (λ z. test [] z f ≡ true) p.0 (subst (λ z. test [] x z ≡ true) p.1 h)
    earlier (y ∷ b) t f e l =
        let p = head x y ts (b ++ (t ∷ f)) e in
        subst (λ z. test (z ∷ b) t f ≡ true) p.0 (same b t f ∙ i.earlier b t f p.1 (omega (arith, l)))

-- the first token is refused
at-once : (test : List Token → Token → List Token → Bool) (x : Token) (ts : List Token) → test [] x ts ≡ false → IsFirst test (x ∷ ts) 0
at-once test x ts h = record { before = []; token = x; behind = ts; stands = refl; place = refl; refused = h; earlier = λ b t f e l. absurd (omega (arith, l)) }

-- ---- the least place

place-cases : (b : Bool) (later : Option ℕ) (p : ℕ) → place_unless b later ≡ Some p → ((b ≡ false) × (p ≡ 0)) ⊎ ((b ≡ true) × ((q : ℕ) × (later ≡ Some q) × (p ≡ suc q)))
place-cases true None p h = absurd (cc)
place-cases true (Some q) p h = inr (refl, (q, refl, (let e : q + 1 ≡ p = cc in omega (arith, e))))
place-cases false later p h = inl (refl, (let e : 0 ≡ p = cc in sym e))

pub place-first : (s : Schema) (ps : List ℕ) (high : Option Marks) (ts : List Token) (p : ℕ) → place_from s ps high ts ≡ Some p → IsFirst (fits_at s ps high) ts p
place-first s ps high [] p h = absurd (cc)
place-first s ps high (x ∷ ts) p h =
    elim (place-cases (token_fits s (head_of ps) high x ts) (place_from s (under ps x) (high_of x) ts) p h) [
      | inl e ↦ subst (IsFirst (fits_at s ps high) (x ∷ ts)) (sym e.1) (at-once (fits_at s ps high) x ts e.0)
      | inr e ↦ subst (IsFirst (fits_at s ps high) (x ∷ ts)) (sym e.1.2)
          (one-more (fits_at s ps high) (fits_at s (under ps x) (high_of x)) x ts e.1.0 e.0
          (λ b t f. ap (λ z. token_fits s (head_of z) (last_high (high_of x) b) t f) (under-is ps x b)) (place-first s (under ps x) (high_of x) ts e.1.0 e.1.1))
    ]

-- the least faulty place of a document: the top node's, or the first token that has a fault
pub fault-place-least : (s : Schema) (d : Doc) (p : ℕ) → fault_place s d ≡ Some p → IsLeastPlace s d p
fault-place-least s d p h =
    elim (place-cases (top_fits s d) (place_from s (d.kind ∷ []) None d.tokens) p h) [
      | inl e ↦ inl e
      | inr e ↦ inr (e.0, (e.1.0, place-first s (d.kind ∷ []) None d.tokens e.1.0 e.1.1, e.1.2))
    ]

-- ---- the first broken unit

pub broken-first : (at : ℕ) (high : Option Marks) (ts : List Token) (f : Fault) → first_broken at high ts ≡ Some f → (n : ℕ) × IsFirst (pair_at high) ts n × (f ≡ Pair (at + n))
broken-first at high [] f h = absurd (cc)
broken-first at high (x ∷ ts) f h = by (λ k. broken-first (at + 1) (high_of x) ts f k) (pair_fits high x ts) refl h
  where
    by : (first_broken (at + 1) (high_of x) ts ≡ Some f → (n : ℕ) × IsFirst (pair_at (high_of x)) ts n × (f ≡ Pair ((at + 1) + n)))
        → (b : Bool) → pair_fits high x ts ≡ b → cond b (first_broken (at + 1) (high_of x) ts) (Some (Pair at)) ≡ Some f → (n : ℕ) × IsFirst (pair_at high) (x ∷ ts) n × (f ≡ Pair (at + n))
    by rest true e k =
        let i = rest k in
        (suc i.0, one-more (pair_at high) (pair_at (high_of x)) x ts i.0 e (λ b t g. refl) i.1, i.2 ∙ ap Pair (let z : (at + 1) + i.0 ≡ at + suc i.0 = omega arith in z))
    by rest false e k = (0, at-once (pair_at high) x ts e, (let z : Pair at ≡ f = cc in sym z) ∙ ap Pair (let y : at ≡ at + 0 = omega arith in y))

-- ---- the first fault of attributes, marks or content

unless-cases : (a m c : Bool) (at : ℕ) (later : Option Fault) (f : Fault) → first_some (fault_unless a m c at) later ≡ Some f → (((a && m && c) ≡ false) × FaultAt a m c at f) ⊎ (((a && m && c) ≡ true) × (later ≡ Some f))
unless-cases true true true at later f h = inr (refl, h)
unless-cases true true false at later f h = inl (refl, h)
unless-cases true false c at later f h = inl (refl, h)
unless-cases false m c at later f h = inl (refl, h)

pub fault-first : (s : Schema) (ps : List ℕ) (at : ℕ) (ts : List Token) (f : Fault) → first_fault s at ps ts ≡ Some f → FirstFault s ps at ts f
unfolding at-once one-more
fault-first s ps at [] f h = absurd (cc)
fault-first s ps at (x ∷ ts) f h =
    elim (unless-cases (attrs_fit s x) (marks_fit s (head_of ps) x) (content_fits s x ts) at (first_fault s (at + 1) (under ps x) ts) f h) [
      | inl e ↦ record {
        place = 0;
        first = at-once (sound_at s ps) x ts e.0;
        which = ap (fault_unless (attrs_fit s x) (marks_fit s (head_of ps) x) (content_fits s x ts)) (let y : at + 0 ≡ at = omega arith in y) ∙ e.1;
      }
      | inr e ↦
          let i = fault-first s (under ps x) (at + 1) ts f e.1 in
          record {
            place = suc i.place;
            first = one-more (sound_at s ps) (sound_at s (under ps x)) x ts i.place e.0 (λ b t g. ap (λ z. attrs_fit s t && marks_fit s (head_of z) t && content_fits s t g) (under-is ps x b)) i.first;
            which =
                ap (λ z. fault_unless (attrs_fit s i.first.token) (marks_fit s (head_of z) i.first.token) (content_fits s i.first.token i.first.behind) (at + suc i.place)) (under-is ps x i.first.before)
                ∙ (ap (fault_unless (attrs_fit s i.first.token) (marks_fit s (head_of (unclosed (under ps x) i.first.before)) i.first.token) (content_fits s i.first.token i.first.behind)) (let y : at + suc i.place ≡ (at + 1) + i.place = omega arith in y) ∙ i.which);
          }
    ]

-- ---- the first fault of a document

some-cases : (x y : Option Fault) (f : Fault) → first_some x y ≡ Some f → (x ≡ Some f) ⊎ ((x ≡ None) × (y ≡ Some f))
some-cases None y f h = inr (refl, h)
some-cases (Some x) y f h = inl h

pub fault-is : (s : Schema) (d : Doc) (f : Fault) → fault s d ≡ Some f → IsFault s d f
fault-is s d f h = sized (nat_le (length d.tokens) (max_size s)) (nat_le (deepest 0 d.tokens) max_depth) refl refl h
  where
    sized : (b c : Bool) → nat_le (length d.tokens) (max_size s) ≡ b → nat_le (deepest 0 d.tokens) max_depth ≡ c
        → (if not b then Some Large else (if not c then Some Deep else first_some (first_broken 1 None d.tokens) (first_some (top_fault s d) (first_fault s 1 (d.kind ∷ []) d.tokens)))) ≡ Some f → IsFault s d f
    sized false c e g k = subst (IsFault s d) (let z : Large ≡ f = cc in z) (large (leb-false (length d.tokens) (max_size s) e))
    sized true false e g k = subst (IsFault s d) (let z : Deep ≡ f = cc in z) (deep (leb-true (length d.tokens) (max_size s) e) (leb-false (deepest 0 d.tokens) max_depth g))
    sized true true e g k =
        let l = leb-true (length d.tokens) (max_size s) e in
        let p = leb-true (deepest 0 d.tokens) max_depth g in
        elim (some-cases (first_broken 1 None d.tokens) (first_some (top_fault s d) (first_fault s 1 (d.kind ∷ []) d.tokens)) f k) [
          | inl x ↦ (let y = broken-first 1 None d.tokens f x in subst (IsFault s d) (sym y.2) (broken l p y.0 y.1))
          | inr x ↦ elim (some-cases (top_fault s d) (first_fault s 1 (d.kind ∷ []) d.tokens) f x.1) [
            | inl y ↦ top l p x.0 f y
            | inr y ↦ inside l p x.0 y.0 f (fault-first s (d.kind ∷ []) 1 d.tokens f y.1)
          ]
        ]
