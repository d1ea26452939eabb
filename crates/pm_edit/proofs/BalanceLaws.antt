-- A range is a whole number of nodes where its ends share all the nodes around them.
use Rattle.std.specs.Prelude.{◌≡◌, ℕ, ◌+◌, ◌≤◌, true, false, ◌&&◌, ◌==◌, List, [], length}
use Rattle.std.proofs.Common.{ap, sym, ◌∙◌, arith, inl, inr}
use Rattle.std.proofs.lemmas.Bool.{eq-eqb, ne_eqb, cases_eq}
use Rattle.pm_tokens.specs.Tokens.{Token, Doc}
use Rattle.pm_tokens.specs.Scan.{is_whole, unmet, unclosed, part, depth_at, shared_depth}
use Rattle.pm_tokens.proofs.ScanLaws.{whole-of}
use Rattle.pm_tokens.proofs.DepthLaws.{cut-sides}

-- a number with another added is that one where the added one is 0
sum-test : (a b n : ℕ) → a + b ≡ n → (n == b) ≡ (a == 0)
sum-test a b n e = elim (cases_eq a 0) as (λ _. (n == b) ≡ (a == 0)) [
  | inl z ↦ eq-eqb n b (omega (arith, e, z)) ∙ sym (eq-eqb a 0 z)
  | inr z ↦ ne_eqb n b (λ f. z (omega (arith, e, f))) ∙ sym (ne_eqb a 0 z)
]

balanced-test : (ts : List Token) (from to : ℕ) → is_whole ts ≡ true → from ≤ to → to ≤ length ts
    → ((depth_at ts from == shared_depth ts from to) && (depth_at ts to == shared_depth ts from to)) ≡ is_whole (part from to ts)
balanced-test ts from to w h i =
    let shared = shared_depth ts from to in
    let x = part from to ts in
    let sides = cut-sides ts from to (whole-of ts w).met h i in
    ap (λ b. b && (depth_at ts to == shared)) (sum-test (unmet 0 x) shared (depth_at ts from) sides.0) ∙ ap (λ b. (unmet 0 x == 0) && b) (sum-test (length (unclosed [] x)) shared (depth_at ts to) sides.1)

module _ (ts : List Token) (from to : ℕ) (w : is_whole ts ≡ true) (h : from ≤ to) (i : to ≤ length ts) (shared left right : ℕ) (s : shared ≡ shared_depth ts from to) (l : left ≡ depth_at ts from) (r : right ≡ depth_at ts to) where
  same : ((left == shared) && (right == shared)) ≡ is_whole (part from to ts)
  same = ap (λ n. (n == shared) && (right == shared)) l ∙ (ap (λ n. (depth_at ts from == shared) && (n == shared)) r ∙ (ap (λ n. (depth_at ts from == n) && (depth_at ts to == n)) s ∙ balanced-test ts from to w h i))

  pub balanced-then : left ≡ shared → (right == shared) ≡ is_whole (part from to ts)
  balanced-then e = sym (ap (λ t. t && (right == shared)) (eq-eqb left shared e)) ∙ same

  pub balanced-else : (left ≡ shared → ⊥) → false ≡ is_whole (part from to ts)
  balanced-else e = sym (ap (λ t. t && (right == shared)) (ne_eqb left shared e)) ∙ same

-- of the same document and position
pub shared-as : (x y : Doc) (p q to : ℕ) → x ≡ y → p ≡ q → shared_depth x.tokens p to ≡ shared_depth y.tokens q to
shared-as x y p q to e f = ap (λ (z : Doc). shared_depth z.tokens p to) e ∙ ap (λ i. shared_depth y.tokens i to) f
