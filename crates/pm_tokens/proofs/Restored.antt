-- What was replaced can be put back: the joins, the depths and the owners, over pieces of token lists.
use Rattle.std.specs.Prelude.{◌≡◌, ℕ, ◌+◌, ◌≤◌, Bool, true, List, [], ◌++◌, length, take, drop}
use Rattle.std.proofs.lemmas.List.{take-append-drop, nil_from_length}
use Rattle.std.proofs.Common.{refl, ap, sym, ◌∙◌, subst, arith, length-take}
use Rattle.pm_tokens.specs.Tokens.{Token}
use Rattle.pm_tokens.specs.Scan.{Owned, unclosed, unmet, owned, joins}
use Rattle.pm_tokens.proofs.ScanLaws.{unclosed-append, unmet-append, opens, closes, opens-append, closes-append, level, unmet-from, unclosed-under, owned-under, Whole, unclosed-whole, owned-whole, joins-put, joins-taken, joins-met, joins-self, joins-swap}

-- the tokens t = x ++ y that stand after a, with a whole gap between x and y: what a cut of them needs
module _ (a x y t : List Token) (e : t ≡ x ++ y) (mx : unmet (length (unclosed [] a)) x ≡ 0) (my : unmet (length (unclosed (unclosed [] a) x)) y ≡ 0) where
  abbrev n : ℕ
  n = unmet 0 t

  abbrev k : List ℕ
  k = unclosed [] a

  abbrev pub cut_stack : List ℕ
  cut_stack = take n k

  n-is : n ≡ unmet 0 x + unmet (length (unclosed [] x)) y
  n-is = ap (unmet 0) e ∙ unmet-append [] x y

  pub cut-within : n ≤ length k
  cut-within = omega (arith, n-is, mx, my, unmet-from (length k) x, unmet-from (length (unclosed k x)) y, unmet-from (length (unclosed [] x)) y, level k x, level [] x)

  stack-length : length cut_stack ≡ n
  stack-length = omega (arith, cut-within, length-take n k)

  stack-split : cut_stack ++ drop n k ≡ k
  stack-split = take-append-drop n k

  met-x : unmet (length cut_stack) x ≡ 0
  met-x = omega (arith, stack-length, n-is, unmet-from (length cut_stack) x)

  met-y : unmet (length (unclosed cut_stack x)) y ≡ 0
  met-y = omega (arith, stack-length, n-is, met-x, unmet-from (length (unclosed cut_stack x)) y, unmet-from (length (unclosed [] x)) y, level cut_stack x, level [] x)

  pub cut-first : owned cut_stack x ≡ owned k x
  cut-first = sym (owned-under cut_stack (drop n k) x met-x) ∙ ap (λ z. owned z x) stack-split

  pub cut-second : owned (unclosed cut_stack x) y ≡ owned (unclosed k x) y
  cut-second =
      sym (owned-under (unclosed cut_stack x) (drop n k) y met-y)
      ∙ ap (λ z. owned z y) (sym (unclosed-under cut_stack (drop n k) x met-x) ∙ ap (λ z. unclosed z x) stack-split)

  pub cut-level : length k + length (unclosed [] t) ≡ length (unclosed (unclosed k x) y) + n
  cut-level = omega (arith, mx, my, level [] t, level k x, level (unclosed k x) y, ap opens e, ap closes e, opens-append x y, closes-append x y)

module _ (c : ℕ → ℕ → Bool) (a x g y b s₁ s₂ : List Token) (st : List ℕ) (w : Whole g) where
  abbrev old₀ : List ℕ
  old₀ = unclosed [] a

  abbrev old₁ : List ℕ
  old₁ = unclosed old₀ x

  abbrev old₂ : List ℕ
  old₂ = unclosed old₁ y

  abbrev new₁ : List ℕ
  new₁ = unclosed old₀ s₁

  abbrev new₂ : List ℕ
  new₂ = unclosed new₁ s₂

  abbrev pub forward : List Owned
  forward = owned [] a ++ (owned st s₁ ++ (owned old₁ g ++ (owned (unclosed st s₁) s₂ ++ owned old₂ b)))

  pub record Went : Type 0 where
    pub met_first : unmet (length old₀) s₁ ≡ 0
    pub met_second : unmet (length new₁) s₂ ≡ 0
    pub last : joins c new₂ (owned old₂ b) ≡ true

  pub went : joins c [] forward ≡ true → Went
  went h =
      let t₁ = joins-taken c [] [] a (owned st s₁ ++ (owned old₁ g ++ (owned (unclosed st s₁) s₂ ++ owned old₂ b))) h in
      let t₂ = joins-taken c old₀ st s₁ (owned old₁ g ++ (owned (unclosed st s₁) s₂ ++ owned old₂ b)) t₁.1 in
      let t₃ = joins-taken c new₁ old₁ g (owned (unclosed st s₁) s₂ ++ owned old₂ b) t₂.1 in
      let t₄ = joins-taken c new₁ (unclosed st s₁) s₂ (owned old₂ b) (subst (λ z. joins c z (owned (unclosed st s₁) s₂ ++ owned old₂ b) ≡ true) (unclosed-whole new₁ g w) t₃.1) in
      record { met_first = joins-met c old₀ st s₁ t₂.0; met_second = joins-met c new₁ (unclosed st s₁) s₂ t₄.0; last = t₄.1 }

  -- the depth after the inserted pieces is that after the replaced ones
  pub same-level : (os oe : ℕ) → Went → (opens s₁ + opens s₂) + os ≡ (closes s₁ + closes s₂) + oe → length old₀ + oe ≡ length old₂ + os → length new₂ ≡ length old₂
  same-level os oe f h d = omega (arith, h, d, f.met_first, f.met_second, level old₀ s₁, level new₁ s₂)

  module _ (itself : (k : ℕ) → c k k ≡ true) (both_ways : (k l : ℕ) → c k l ≡ c l k) (t : List ℕ) where
    pub back-joins : Went → unmet 0 a ≡ 0 → unmet (length old₀) x ≡ 0 → unmet (length old₁) y ≡ 0 → length new₂ ≡ length old₂
        → owned t x ≡ owned old₀ x → owned (unclosed t x) y ≡ owned old₁ y
        → joins c [] (owned [] a ++ (owned t x ++ (owned new₁ g ++ (owned (unclosed t x) y ++ owned new₂ b)))) ≡ true
    back-joins f ma mx my l e₁ e₂ =
        let swapped : joins c old₂ (owned new₂ b) ≡ true = sym (joins-swap c itself both_ways new₂ old₂ b l) ∙ f.last in
        let p₄ : joins c old₁ (owned old₁ y ++ owned new₂ b) ≡ true = joins-put c old₁ old₁ y (owned new₂ b) (joins-self c itself old₁ y my) swapped in
        let q₄ : joins c old₁ (owned (unclosed t x) y ++ owned new₂ b) ≡ true = subst (λ z. joins c old₁ (z ++ owned new₂ b) ≡ true) (sym e₂) p₄ in
        let mg : unmet (length old₁) g ≡ 0 = omega (arith, w.met, unmet-from (length old₁) g) in
        let jg : joins c old₁ (owned new₁ g) ≡ true = subst (λ z. joins c old₁ z ≡ true) (owned-whole old₁ g w ∙ sym (owned-whole new₁ g w)) (joins-self c itself old₁ g mg) in
        let p₃ : joins c old₁ (owned new₁ g ++ (owned (unclosed t x) y ++ owned new₂ b)) ≡ true = joins-put c old₁ new₁ g (owned (unclosed t x) y ++ owned new₂ b) jg (subst (λ z. joins c z (owned (unclosed t x) y ++ owned new₂ b) ≡ true) (sym (unclosed-whole old₁ g w)) q₄) in
        let p₂ : joins c old₀ (owned t x ++ (owned new₁ g ++ (owned (unclosed t x) y ++ owned new₂ b))) ≡ true = joins-put c old₀ t x (owned new₁ g ++ (owned (unclosed t x) y ++ owned new₂ b)) (subst (λ z. joins c old₀ z ≡ true) (sym e₁) (joins-self c itself old₀ x mx)) p₃ in
        joins-put c [] [] a (owned t x ++ (owned new₁ g ++ (owned (unclosed t x) y ++ owned new₂ b))) (joins-self c itself [] a ma) p₂

-- what is known of the pieces of a whole list
pub record Stands (a x g y b : List Token) : Type 0 where
  pub met_a : unmet 0 a ≡ 0
  pub met_x : unmet (length (unclosed [] a)) x ≡ 0
  pub met_y : unmet (length (unclosed (unclosed [] a) x)) y ≡ 0
  pub met_b : unmet (length (unclosed (unclosed (unclosed [] a) x) y)) b ≡ 0
  pub ended : unclosed (unclosed (unclosed (unclosed [] a) x) y) b ≡ []

pub stands : (a x g y b : List Token) → Whole g → Whole (a ++ (x ++ (g ++ (y ++ b)))) → Stands a x g y b
stands a x g y b w all =
    let k₀ = unclosed [] a in
    let k₁ = unclosed k₀ x in
    let k₂ = unclosed k₁ y in
    let ug : unclosed k₁ g ≡ k₁ = unclosed-whole k₁ g w in
    let m₀ = unmet-append [] a (x ++ (g ++ (y ++ b))) in
    let m₁ = unmet-append k₀ x (g ++ (y ++ b)) in
    let m₂ : unmet (length k₁) (g ++ (y ++ b)) ≡ unmet (length k₁) g + unmet (length k₁) (y ++ b) = unmet-append k₁ g (y ++ b) ∙ ap (λ z. unmet (length k₁) g + unmet (length z) (y ++ b)) ug in
    let m₃ = unmet-append k₁ y b in
    record {
      met_a = omega (arith, all.met, m₀);
      met_x = omega (arith, all.met, m₀, m₁);
      met_y = omega (arith, all.met, m₀, m₁, m₂, m₃);
      met_b = omega (arith, all.met, m₀, m₁, m₂, m₃);
      ended =
          sym (unclosed-append [] a (x ++ (g ++ (y ++ b))) ∙ (unclosed-append k₀ x (g ++ (y ++ b)) ∙ (unclosed-append k₁ g (y ++ b) ∙ (ap (λ z. unclosed z (y ++ b)) ug ∙ unclosed-append k₁ y b))))
          ∙ all.ended;
    }

-- the result is a whole number of nodes
pub whole-after : (c : ℕ → ℕ → Bool) (a x g y b s₁ s₂ : List Token) (st : List ℕ) (w : Whole g) → Stands a x g y b → Went c a x g y b s₁ s₂ st w
    → length (unclosed (unclosed (unclosed [] a) s₁) s₂) ≡ length (unclosed (unclosed (unclosed [] a) x) y) → Whole (a ++ (s₁ ++ (g ++ (s₂ ++ b))))
whole-after c a x g y b s₁ s₂ st w o f l =
    let k₀ = unclosed [] a in
    let n₁ = unclosed k₀ s₁ in
    let n₂ = unclosed n₁ s₂ in
    let o₂ = unclosed (unclosed k₀ x) y in
    let ug : unclosed n₁ g ≡ n₁ = unclosed-whole n₁ g w in
    let m₀ = unmet-append [] a (s₁ ++ (g ++ (s₂ ++ b))) in
    let m₁ = unmet-append k₀ s₁ (g ++ (s₂ ++ b)) in
    let m₂ : unmet (length n₁) (g ++ (s₂ ++ b)) ≡ unmet (length n₁) g + unmet (length n₁) (s₂ ++ b) = unmet-append n₁ g (s₂ ++ b) ∙ ap (λ z. unmet (length n₁) g + unmet (length z) (s₂ ++ b)) ug in
    let m₃ = unmet-append n₁ s₂ b in
    let mb : unmet (length n₂) b ≡ 0 = ap (λ n. unmet n b) l ∙ o.met_b in
    let u : unclosed [] (a ++ (s₁ ++ (g ++ (s₂ ++ b)))) ≡ unclosed n₂ b = unclosed-append [] a (s₁ ++ (g ++ (s₂ ++ b))) ∙ (unclosed-append k₀ s₁ (g ++ (s₂ ++ b)) ∙ (unclosed-append n₁ g (s₂ ++ b) ∙ (ap (λ z. unclosed z (s₂ ++ b)) ug ∙ unclosed-append n₁ s₂ b))) in
    record {
      met = omega (arith, o.met_a, f.met_first, f.met_second, mb, m₀, m₁, m₂, m₃, w.met, unmet-from (length n₁) g);
      ended = u ∙ nil_from_length (unclosed n₂ b) (omega (arith, l, mb, o.met_b, ap length o.ended, level n₂ b, level o₂ b));
    }

-- the empty gap
pub nothing : Whole []
nothing = record { met = refl; ended = refl }
