-- The test for equal tokens.
use Rattle.std.specs.Prelude.{◌≡◌, ℕ, Bool, true, false, ◌&&◌, ◌==◌, List, [], ◌∷◌, ◌++◌, length, Result, Ok, Err}
use Rattle.std.proofs.Common.{refl, ap, sym, ◌∙◌, arith}
use Rattle.std.proofs.lemmas.Bool.{eq-eqb, and_from}
use Rattle.pm_attrs.specs.Attrs.{same_attrs}
use Rattle.pm_marks.specs.Sets.{same_marks}
use Rattle.pm_tokens.specs.Tokens.{Attrs, Marks, Token, Open, Close, Leaf, CodeUnit, Doc, with_tokens}
use Rattle.pm_tokens.specs.Schemas.{Schema}
use Rattle.pm_tokens.specs.Faults.{Valid}
use Rattle.pm_tokens.proofs.MarkLaws.{attrs-itself, marks-itself}
use Rattle.pm_meaning.specs.declared.reason.Reason.{Reason}
use Rattle.pm_meaning.specs.Inverses.{same_token, same_tokens, gives}
use Rattle.pm_meaning.specs.Outcomes.{checked}
use Rattle.pm_meaning.proofs.OutcomeLaws.{valid-checks, checked-ok}
use Rattle.pm_meaning.proofs.MarkStepLaws.{same-tokens}

-- ---- conjunctions

and-assoc : (a b c : Bool) → ((a && b) && c) ≡ (a && (b && c))
and-assoc true b c = refl
and-assoc false b c = refl

pub and-yes-right : (a : Bool) → (a && true) ≡ a
and-yes-right true = refl
and-yes-right false = refl

-- ---- a token

heads-same : (k : ℕ) (a : Attrs) → ((k == k) && same_attrs a a) ≡ true
heads-same k a = and_from (k == k) (same_attrs a a) (eq-eqb k k refl) (attrs-itself a)

-- two tokens that differ in their marks alone are the same where these are
pub open-same : (k : ℕ) (a : Attrs) (m n : Marks) → same_token (Open k a m) (Open k a n) ≡ same_marks same_attrs m n
open-same k a m n = ap (λ z. z && same_marks same_attrs m n) (heads-same k a)

pub leaf-same : (k : ℕ) (a : Attrs) (m n : Marks) → same_token (Leaf k a m) (Leaf k a n) ≡ same_marks same_attrs m n
leaf-same k a m n = ap (λ z. z && same_marks same_attrs m n) (heads-same k a)

pub unit-same : (u : ℕ) (m n : Marks) → same_token (CodeUnit u m) (CodeUnit u n) ≡ same_marks same_attrs m n
unit-same u m n = ap (λ z. z && same_marks same_attrs m n) (eq-eqb u u refl)

pub token-itself : (t : Token) → same_token t t ≡ true
token-itself (Open k a m) = open-same k a m m ∙ marks-itself m
token-itself Close = refl
token-itself (Leaf k a m) = leaf-same k a m m ∙ marks-itself m
token-itself (CodeUnit u m) = unit-same u m m ∙ marks-itself m

-- ---- tokens

pub tokens-itself : (ts : List Token) → same_tokens ts ts ≡ true
tokens-itself [] = refl
tokens-itself (t ∷ ts) = and_from (same_token t t) (same_tokens ts ts) (token-itself t) (tokens-itself ts)

pub same-append : (xs xs' ys ys' : List Token) → length xs ≡ length xs' → same_tokens (xs ++ ys) (xs' ++ ys') ≡ (same_tokens xs xs' && same_tokens ys ys')
same-append [] [] ys ys' h = refl
same-append [] (x' ∷ xs') ys ys' h = absurd (omega (arith, h))
same-append (x ∷ xs) [] ys ys' h = absurd (omega (arith, h))
same-append (x ∷ xs) (x' ∷ xs') ys ys' h =
    ap (λ z. same_token x x' && z) (same-append xs xs' ys ys' (omega (arith, h)))
    ∙ sym (and-assoc (same_token x x') (same_tokens xs xs') (same_tokens ys ys'))

-- ---- outcomes

-- where other tokens are checked, they give a valid document's exactly where they are these
pub checked-gives : (s : Schema) (d : Doc) (ts : List Token) → Valid s d → gives (checked s (with_tokens d ts)) d.tokens ≡ same_tokens ts d.tokens
checked-gives s d ts v = by (same_tokens ts d.tokens) refl (checked s (with_tokens d ts)) refl
  where
    by : (b : Bool) → same_tokens ts d.tokens ≡ b → (r : Result Doc Reason) → checked s (with_tokens d ts) ≡ r → gives r d.tokens ≡ same_tokens ts d.tokens
    by true e r c =
        let t : ts ≡ d.tokens = same-tokens ts d.tokens e in
        let k : r ≡ Ok d = sym c ∙ (ap (λ z. checked s (with_tokens d z)) t ∙ valid-checks s d v) in
        ap (λ z. gives z d.tokens) k ∙ (tokens-itself d.tokens ∙ sym e)
    by false e (Ok n) c = ap (λ z. same_tokens z.tokens d.tokens) (checked-ok s (with_tokens d ts) n c).0
    by false e (Err x) c = sym e
