-- Where texts are joined or cut, only the units beside the seam can become lone.
use Rattle.std.specs.Prelude.{◌≡◌, ℕ, ◌+◌, ◌-◌, ◌≤◌, ◌<◌, Bool, true, false, not, ◌&&◌, ◌||◌, List, ◌++◌, length, slice_index, zero, suc}
use Rattle.std.proofs.Common.{refl, ap, sym, ◌∙◌, arith, ◌⊎◌, inl, inr}
use Rattle.std.proofs.lemmas.List.{get_or_append_left, get_or-append-add, get_or_past}
use Rattle.std.proofs.lemmas.Bool.Decides.{nat_tests}
use Rattle.std.specs.Char.Utf16.{is_high_surrogate, is_low_surrogate}
use Rattle.pm_text.specs.Lone.{is_pair, is_lone, is_lone_at, unit_before, HasNoLone}

hi : ℕ → Bool
hi u = is_high_surrogate u

-- a unit is as lone beside other units, where it makes as few pairs with them
same-lone : (b c u a d : ℕ) → is_pair b u ≡ is_pair c u → is_pair u a ≡ is_pair u d → is_lone b u a ≡ is_lone c u d
same-lone b c u a d p q = ap (λ x. (is_high_surrogate u || is_low_surrogate u) && not x && not (is_pair u a)) p ∙ ap (λ x. (is_high_surrogate u || is_low_surrogate u) && not (is_pair c u) && not x) q

and-false : (x y : Bool) → y ≡ false → (x && y) ≡ false
and-false true y e = e
and-false false y e = refl

false-and : (x y : Bool) → x ≡ false → (x && y) ≡ false
false-and x y e = ap (λ z. z && y) e

-- no low surrogate makes no pair with any unit before it
not-low : (b c u : ℕ) → is_low_surrogate u ≡ false → is_pair b u ≡ is_pair c u
not-low b c u e = and-false (is_high_surrogate b) _ e ∙ sym (and-false (is_high_surrogate c) _ e)

-- no high surrogate makes no pair with any unit after it
not-high : (u a d : ℕ) → is_high_surrogate u ≡ false → is_pair u a ≡ is_pair u d
not-high u a d e = false-and _ (is_low_surrogate a) e ∙ sym (false-and _ (is_low_surrogate d) e)

-- a unit that is not lone with nothing after it is no high surrogate, and with nothing before it no low one
end-not-high : (b u : ℕ) → is_lone b u 0 ≡ false → is_high_surrogate u ≡ false
end-not-high b u h = grind (arith, nat_tests)

start-not-low : (u a : ℕ) → is_lone 0 u a ≡ false → is_low_surrogate u ≡ false
start-not-low u a h = grind (arith, nat_tests)

-- the unit before the place after the first n ones
before-next : (us : List ℕ) (n j : ℕ) → unit_before us (n + suc j) ≡ slice_index us (n + j)
before-next us n j = ap (λ m. unit_before us m) {x = n + suc j} {y = suc (n + j)} (omega arith)

none-past : (us : List ℕ) (i : ℕ) → length us ≤ i → is_lone_at us i ≡ false
none-past us i h = ap (λ u. is_lone (unit_before us i) u (slice_index us (suc i))) (get_or_past us i 0 h)

-- as lone at one place of one text as at another place of another one
same-at : (us vs : List ℕ) (i j : ℕ) → slice_index us i ≡ slice_index vs j → is_pair (unit_before us i) (slice_index us i) ≡ is_pair (unit_before vs j) (slice_index us i) → is_pair (slice_index us i) (slice_index us (suc i)) ≡ is_pair (slice_index us i) (slice_index vs (suc j)) → is_lone_at us i ≡ is_lone_at vs j
same-at us vs i j e p q =
    same-lone (unit_before us i) (unit_before vs j) (slice_index us i) (slice_index us (suc i)) (slice_index vs (suc j)) p q
    ∙ ap (λ u. is_lone (unit_before vs j) u (slice_index vs (suc j))) e

module _ (f p r : List ℕ) (h : HasNoLone (f ++ (p ++ r))) (low : is_low_surrogate (slice_index p 0) ≡ false) (high : is_high_surrogate (slice_index p (length p - 1)) ≡ false) where
  here : (j : ℕ) → j < length p → slice_index (f ++ (p ++ r)) (length f + j) ≡ slice_index p j
  here j k = get_or-append-add f (p ++ r) j 0 ∙ get_or_append_left p r 0 j k

  part-before : (i : ℕ) → i < length p → is_pair (unit_before p i) (slice_index p i) ≡ is_pair (unit_before (f ++ (p ++ r)) (length f + i)) (slice_index p i)
  part-before zero k = not-low (unit_before p 0) (unit_before (f ++ (p ++ r)) (length f + 0)) (slice_index p 0) low
  part-before (suc j) k = ap (λ u. is_pair u (slice_index p (suc j))) (sym (before-next (f ++ (p ++ r)) (length f) j ∙ here j (omega arith)))

  part-after : (i : ℕ) → i < length p → is_pair (slice_index p i) (slice_index p (suc i)) ≡ is_pair (slice_index p i) (slice_index (f ++ (p ++ r)) (suc (length f + i)))
  part-after i k = from (grind arith)
    where
      from : (suc i < length p) ⊎ (i ≡ length p - 1) → is_pair (slice_index p i) (slice_index p (suc i)) ≡ is_pair (slice_index p i) (slice_index (f ++ (p ++ r)) (suc (length f + i)))
      from (inl m) = ap (λ u. is_pair (slice_index p i) u) (sym (ap (λ n. slice_index (f ++ (p ++ r)) n) {x = suc (length f + i)} {y = length f + suc i} (omega arith) ∙ here (suc i) m))
      from (inr e) = not-high (slice_index p i) (slice_index p (suc i)) (slice_index (f ++ (p ++ r)) (suc (length f + i))) (ap (λ n. is_high_surrogate (slice_index p n)) e ∙ high)

  -- a part of a text without a lone surrogate, which parts no pair at its ends, has none
  pub part-whole : HasNoLone p
  part-whole i = from (grind arith)
    where
      from : (i < length p) ⊎ (length p ≤ i) → is_lone_at p i ≡ false
      from (inr k) = none-past p i k
      from (inl k) = same-at p (f ++ (p ++ r)) i (length f + i) (sym (here i k)) (part-before i k) (part-after i k) ∙ h (length f + i)

module _ (a b : List ℕ) (g : HasNoLone a) (h : HasNoLone b) where
  front-before : (i : ℕ) → i < length a → unit_before (a ++ b) i ≡ unit_before a i
  front-before zero k = refl
  front-before (suc j) k = get_or_append_left a b 0 j (omega arith)

  last-not-high : (i : ℕ) → i + 1 ≡ length a → is_high_surrogate (slice_index a i) ≡ false
  last-not-high i e = end-not-high (unit_before a i) (slice_index a i) (ap (λ u. is_lone (unit_before a i) (slice_index a i) u) (sym (get_or_past a (suc i) 0 (omega arith))) ∙ g i)

  front-after : (i : ℕ) → i < length a → is_pair (slice_index a i) (slice_index (a ++ b) (suc i)) ≡ is_pair (slice_index a i) (slice_index a (suc i))
  front-after i k = from (grind arith)
    where
      from : (suc i < length a) ⊎ (i + 1 ≡ length a) → is_pair (slice_index a i) (slice_index (a ++ b) (suc i)) ≡ is_pair (slice_index a i) (slice_index a (suc i))
      from (inl m) = ap (λ u. is_pair (slice_index a i) u) (get_or_append_left a b 0 (suc i) m)
      from (inr e) = not-high (slice_index a i) (slice_index (a ++ b) (suc i)) (slice_index a (suc i)) (last-not-high i e)

  at-front : (i : ℕ) → i < length a → is_lone_at (a ++ b) i ≡ false
  at-front i k =
      let unit = get_or_append_left a b 0 i k in
      same-at (a ++ b) a i i unit (ap (λ u. is_pair u (slice_index (a ++ b) i)) (front-before i k))
      (ap (λ u. is_pair u (slice_index (a ++ b) (suc i))) unit ∙ (front-after i k ∙ ap (λ u. is_pair u (slice_index a (suc i))) (sym unit)))
      ∙ g i

  first-not-low : is_low_surrogate (slice_index b 0) ≡ false
  first-not-low = start-not-low (slice_index b 0) (slice_index b 1) (h 0)

  back-before : (j : ℕ) → is_pair (unit_before (a ++ b) (length a + j)) (slice_index b j) ≡ is_pair (unit_before b j) (slice_index b j)
  back-before zero = not-low (unit_before (a ++ b) (length a + 0)) (unit_before b 0) (slice_index b 0) first-not-low
  back-before (suc j) = ap (λ u. is_pair u (slice_index b (suc j))) (before-next (a ++ b) (length a) j ∙ get_or-append-add a b j 0)

  at-back : (j : ℕ) → is_lone_at (a ++ b) (length a + j) ≡ false
  at-back j =
      let unit = get_or-append-add a b j 0 in
      same-at (a ++ b) b (length a + j) j unit
      (ap (λ u. is_pair (unit_before (a ++ b) (length a + j)) u) unit ∙ (back-before j ∙ ap (λ u. is_pair (unit_before b j) u) (sym unit)))
      (ap (λ u. is_pair (slice_index (a ++ b) (length a + j)) u) (ap (λ n. slice_index (a ++ b) n) {x = suc (length a + j)} {y = length a + suc j} (omega arith) ∙ get_or-append-add a b (suc j) 0))
      ∙ h j

  -- two texts without a lone surrogate have none when they are joined
  pub join-whole : HasNoLone (a ++ b)
  join-whole i = from (grind arith)
    where
      from : (i < length a) ⊎ (length a ≤ i) → is_lone_at (a ++ b) i ≡ false
      from (inl k) = at-front i k
      from (inr k) = ap (λ n. is_lone_at (a ++ b) n) {x = i} {y = length a + (i - length a)} (omega arith) ∙ at-back (i - length a)
