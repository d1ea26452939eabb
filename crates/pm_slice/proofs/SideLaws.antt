-- A content with open sides is a slice exactly where its first tokens are opens and its last ones closes.
use Rattle.std.specs.Prelude.{◌≡◌, ℕ, ◌+◌, ◌-◌, ◌≤◌, Bool, true, false, ◌&&◌, cond, List, [], ◌∷◌, ◌++◌, length, take, drop, reverse}
use Rattle.std.proofs.Common.{zero, suc, refl, ap, sym, ◌∙◌, subst, arith, length-drop}
use Rattle.std.proofs.lemmas.Bool.{eq-eqb, ne_eqb}
use Rattle.std.proofs.lemmas.List.{reverse-append, length-reverse, take-append-drop, take_at}
use Rattle.pm_tokens.specs.Tokens.{Token, Open, Close, Leaf, CodeUnit}
use Rattle.pm_tokens.specs.Scan.{are_opens, are_closes, Balanced}
use Rattle.pm_tokens.specs.Slices.{is_slice, slice_size}
use Rattle.pm_tokens.proofs.ScanLaws.{of-whole}
use Rattle.pm_tokens.proofs.BalanceLaws.{balanced-whole}
use Rattle.pm_tokens.proofs.PartLaws.{slice-is, is-slice}
use Rattle.pm_slice.specs.Sides.{sides, no_slice, or_none, opens_first, closes_first, closes_last}

pub record First (test : Bool) (d n : ℕ) : Type 0 where
  pub there : d ≤ n
  pub pass : test ≡ true

opens-are : (d : ℕ) (ts : List Token) → opens_first d ts ≡ true → First (are_opens (take d ts)) d (length ts)
opens-are zero ts h = record { there = omega arith; pass = refl }
opens-are (suc d) [] h = absurd (cc)
opens-are (suc d) (Open k a m ∷ ts) h = let r = opens-are d ts h in record { there = omega (arith, r.there); pass = r.pass }
opens-are (suc d) (Close ∷ ts) h = absurd (cc)
opens-are (suc d) (Leaf k a m ∷ ts) h = absurd (cc)
opens-are (suc d) (CodeUnit u m ∷ ts) h = absurd (cc)

are-opens-first : (d : ℕ) (ts : List Token) → d ≤ length ts → are_opens (take d ts) ≡ true → opens_first d ts ≡ true
are-opens-first zero ts h p = refl
are-opens-first (suc d) [] h p = absurd (omega (arith, h))
are-opens-first (suc d) (Open k a m ∷ ts) h p = are-opens-first d ts (omega (arith, h)) p
are-opens-first (suc d) (Close ∷ ts) h p = absurd (cc)
are-opens-first (suc d) (Leaf k a m ∷ ts) h p = absurd (cc)
are-opens-first (suc d) (CodeUnit u m ∷ ts) h p = absurd (cc)

closes-are : (d : ℕ) (ts : List Token) → closes_first d ts ≡ true → First (are_closes (take d ts)) d (length ts)
closes-are zero ts h = record { there = omega arith; pass = refl }
closes-are (suc d) [] h = absurd (cc)
closes-are (suc d) (Open k a m ∷ ts) h = absurd (cc)
closes-are (suc d) (Close ∷ ts) h = let r = closes-are d ts h in record { there = omega (arith, r.there); pass = r.pass }
closes-are (suc d) (Leaf k a m ∷ ts) h = absurd (cc)
closes-are (suc d) (CodeUnit u m ∷ ts) h = absurd (cc)

are-closes-first : (d : ℕ) (ts : List Token) → d ≤ length ts → are_closes (take d ts) ≡ true → closes_first d ts ≡ true
are-closes-first zero ts h p = refl
are-closes-first (suc d) [] h p = absurd (omega (arith, h))
are-closes-first (suc d) (Open k a m ∷ ts) h p = absurd (cc)
are-closes-first (suc d) (Close ∷ ts) h p = are-closes-first d ts (omega (arith, h)) p
are-closes-first (suc d) (Leaf k a m ∷ ts) h p = absurd (cc)
are-closes-first (suc d) (CodeUnit u m ∷ ts) h p = absurd (cc)

-- closes read backwards

pub closes-both : (xs ys : List Token) → are_closes (xs ++ ys) ≡ (are_closes xs && are_closes ys)
closes-both [] ys = refl
closes-both (Open k a m ∷ xs) ys = refl
closes-both (Close ∷ xs) ys = closes-both xs ys
closes-both (Leaf k a m ∷ xs) ys = refl
closes-both (CodeUnit u m ∷ xs) ys = refl

pub and-swap : (a b : Bool) → (a && b) ≡ (b && a)
and-swap true true = refl
and-swap true false = refl
and-swap false true = refl
and-swap false false = refl

pub closes-reverse : (xs : List Token) → are_closes (reverse xs) ≡ are_closes xs
closes-reverse [] = refl
closes-reverse (x ∷ xs) =
    ap are_closes (reverse-append (x ∷ []) xs) ∙ (closes-both (reverse xs) (x ∷ []) ∙ (ap (λ z. z && are_closes (x ∷ [])) (closes-reverse xs)
    ∙ (and-swap (are_closes xs) (are_closes (x ∷ [])) ∙ sym (closes-both (x ∷ []) xs))))

-- the last d tokens, backwards
last-turned : (d : ℕ) (ts : List Token) → d ≤ length ts → take d (reverse ts) ≡ reverse (drop (length ts - d) ts)
last-turned d ts h =
    let n = length ts - d in
    let b = drop n ts in
    ap (λ z. take d (reverse z)) (sym (take-append-drop n ts)) ∙ (ap (take d) (reverse-append (take n ts) b)
    ∙ take_at (reverse b) (reverse (take n ts)) d (omega (arith, h, length-reverse b, length-drop n ts)))

last-are : (d : ℕ) (ts : List Token) → closes_last d ts ≡ true → First (are_closes (drop (length ts - d) ts)) d (length ts)
last-are d ts h =
    let r = closes-are d (reverse ts) h in
    let le : d ≤ length ts = omega (arith, r.there, length-reverse ts) in
    record { there = le; pass = sym (closes-reverse (drop (length ts - d) ts)) ∙ (ap are_closes (sym (last-turned d ts le)) ∙ r.pass) }

are-last : (d : ℕ) (ts : List Token) → d ≤ length ts → are_closes (drop (length ts - d) ts) ≡ true → closes_last d ts ≡ true
are-last d ts h p =
    are-closes-first d (reverse ts) (omega (arith, h, length-reverse ts)) (ap are_closes (last-turned d ts h) ∙ (closes-reverse (drop (length ts - d) ts) ∙ p))

-- opens come before closes
apart : (d e : ℕ) (ts : List Token) → opens_first d ts ≡ true → are_closes (drop (length ts - e) ts) ≡ true → e ≤ length ts → d + e ≤ length ts
apart zero e ts h p le = omega (arith, le)
apart (suc d) e [] h p le = absurd (cc)
apart (suc d) e (Open k a m ∷ ts) h p le = step (length (Open k a m ∷ ts) - e) refl (λ q i. apart d e ts h q i)
  where
    step : (n : ℕ) → n ≡ length (Open k a m ∷ ts) - e → (are_closes (drop (length ts - e) ts) ≡ true → e ≤ length ts → d + e ≤ length ts) → suc d + e ≤ length (Open k a m ∷ ts)
    step zero q rec = absurd (let g : are_closes (Open k a m ∷ ts) ≡ true = subst (λ z. are_closes (drop z (Open k a m ∷ ts)) ≡ true) (sym q) p in cc)
    step (suc n) q rec =
        let rest : are_closes (drop n ts) ≡ true = subst (λ z. are_closes (drop z (Open k a m ∷ ts)) ≡ true) (sym q) p in
        let same : n ≡ length ts - e = omega (arith, q) in
        let i = rec (subst (λ z. are_closes (drop z ts) ≡ true) same rest) (omega (arith, q)) in
        omega (arith, i)
apart (suc d) e (Close ∷ ts) h p le = absurd (cc)
apart (suc d) e (Leaf k a m ∷ ts) h p le = absurd (cc)
apart (suc d) e (CodeUnit u m ∷ ts) h p le = absurd (cc)

module _ (ts : List Token) (os oe : ℕ) where
  pub made-slice : Balanced ts → opens_first os ts ≡ true → closes_last oe ts ≡ true → is_slice (sides ts os oe) ≡ true
  made-slice b h k =
      let o = opens-are os ts h in
      let c = last-are oe ts k in
      is-slice (sides ts os oe) (record { whole = of-whole ts (balanced-whole b); within = apart os oe ts h c.pass c.there; opens = o.pass; closes = c.pass })

  pub sides-fit : is_slice (sides ts os oe) ≡ true → (opens_first os ts ≡ true) × (closes_last oe ts ≡ true)
  sides-fit h =
      let w = slice-is (sides ts os oe) h in
      (are-opens-first os ts (omega (arith, w.within)) w.opens, are-last oe ts (omega (arith, w.within)) w.closes)

  -- no tokens are left
  pub none-left : is_slice (sides ts os oe) ≡ true → os + oe ≡ length ts → no_slice ≡ or_none (sides ts os oe)
  none-left h e =
      let z : slice_size (sides ts os oe) ≡ 0 = omega (arith, e) in
      sym (ap (λ b. cond b no_slice (sides ts os oe)) (eq-eqb (slice_size (sides ts os oe)) 0 z))

  pub some-left : is_slice (sides ts os oe) ≡ true → (os + oe ≡ length ts → ⊥) → sides ts os oe ≡ or_none (sides ts os oe)
  some-left h n =
      let w = slice-is (sides ts os oe) h in
      sym (ap (λ b. cond b no_slice (sides ts os oe)) (ne_eqb (slice_size (sides ts os oe)) 0 (λ z. n (omega (arith, z, w.within)))))
