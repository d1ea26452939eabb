-- Two lists with the same elements, both in increasing order of numbers that differ, are equal. An order of lines has each once.
use Rattle.std.specs.List.{AllByRecursion as Each}
use Rattle.std.specs.List.Sorted.{IsPermutation, IsNonDecreasingBy}
use Rattle.std.specs.Prelude.{◌⊎◌, ◌==◌, slice_get, slice_set, Some, All, slice_index_or}
use Rattle.std.proofs.Common.{◌≡◌, ℕ, zero, suc, ◌+◌, ◌<◌, ◌≤◌, Bool, true, false, cond, List, [], ◌∷◌, length, map, inl, inr, refl, sym, ap, ap₂, subst, ◌∙◌, arith}
use Rattle.std.proofs.lemmas.Bool.{eqb-true, eqb-false}
use Rattle.std.proofs.lemmas.List.Sorted.{All-permutation, IsPermutation-sym, sum_by-IsPermutation}
use Rattle.std.proofs.lemmas.List.Sums.{sum_by-cons}
use Rattle.std.specs.List.{sum_by}
use Rattle.pm_session.specs.declared.line.Line.{Line}
use Rattle.pm_workers.specs.Merges.{numbers, IsOrder}
use Rattle.pm_workers.specs.Merges.IsOrder.{nothing, next}
use Rattle.pm_workers.specs.Threads.{presents, lines_of, by_client}

-- ---- each item once

abbrev pub bit : Bool → ℕ
bit true = 1
bit false = 0

-- how often v stands among these
abbrev pub hit : ℕ → ℕ → ℕ
hit v k = bit (k == v)

abbrev pub tally : ℕ → List ℕ → ℕ
tally v [] = 0
tally v (k ∷ ks) = hit v k + tally v ks

-- in all of these lists
abbrev tallies : ℕ → List (List ℕ) → ℕ
tallies v [] = 0
tallies v (ks ∷ left) = tally v ks + tallies v left

hit-self : (v : ℕ) → hit v v ≡ 1
hit-self v = by (v == v) refl
  where
    by : (b : Bool) → (v == v) ≡ b → bit b ≡ 1
    by true e = refl
    by false e = absurd (eqb-false v v e refl)

hit-other : (v k : ℕ) → (k ≡ v → ⊥) → hit v k ≡ 0
hit-other v k ne = by (k == v) refl
  where
    by : (b : Bool) → (k == v) ≡ b → bit b ≡ 0
    by true e = absurd (ne (eqb-true k v e))
    by false e = refl

hit-is : (v k : ℕ) → 0 < hit v k → k ≡ v
hit-is v k h = by (k == v) refl h
  where
    by : (b : Bool) → (k == v) ≡ b → 0 < bit b → k ≡ v
    by true e l = eqb-true k v e
    by false e l = absurd (omega (arith, l))

hit-small : (v k : ℕ) → hit v k ≤ 1
hit-small v k = by (k == v)
  where
    by : (b : Bool) → bit b ≤ 1
    by true = omega arith
    by false = omega arith

-- none of the items is this one
abbrev pub Misses : ℕ → List ℕ → Type 0
Misses v ks = Each (λ k. k ≡ v → ⊥) ks

-- no item stands twice
abbrev pub Differ : List ℕ → Type 0
Differ [] = Unit {0}
Differ (k ∷ ks) = Misses k ks × Differ ks

misses : (v : ℕ) (ks : List ℕ) → tally v ks ≡ 0 → Misses v ks
misses v [] h = tt
misses v (k ∷ ks) h = ((λ e. let one : hit v k ≡ 1 = subst (λ z. hit v z ≡ 1) (sym e) (hit-self v) in absurd (omega (arith, one, h))), misses v ks (omega (arith, h)))

pub differ : (ks : List ℕ) → ((v : ℕ) → tally v ks ≤ 1) → Differ ks
differ [] h = tt
differ (k ∷ ks) h = (misses k ks (omega (arith, h k, hit-self k)), differ ks (λ v. omega (arith, h v)))

-- ---- an order of lines has each once

taken : (v : ℕ) (left : List (List ℕ)) (client number : ℕ) (lines : List ℕ) → slice_get left client ≡ Some (number ∷ lines)
    → tallies v left ≡ hit v number + tallies v (slice_set left client lines)
taken v [] client number lines h = absurd (cc)
taken v (ks ∷ left) zero number lines h =
    let same : ks ≡ number ∷ lines = cc in
    ap (λ l. tally v l + tallies v left) same ∙ (let e : hit v number + tally v lines + tallies v left ≡ hit v number + (tally v lines + tallies v left) = omega arith in e)
taken v (ks ∷ left) (suc client) number lines h =
    let i : tallies v left ≡ hit v number + tallies v (slice_set left client lines) = taken v left client number lines h in
    omega (arith, i)

nothing-left : (v : ℕ) (left : List (List ℕ)) → Each (λ lines. lines ≡ []) left → tallies v left ≡ 0
nothing-left v [] h = refl
nothing-left v (ks ∷ left) h = omega (arith, ap (tally v) h.0, nothing-left v left h.1)

order-tally : (v : ℕ) {left : List (List ℕ)} {order : List ℕ} → IsOrder left order → tally v order ≡ tallies v left
order-tally v (nothing left none) = sym (nothing-left v left none)
order-tally v (next left client number lines rest at h) =
    let i : tally v rest ≡ tallies v (slice_set left client lines) = order-tally v h in
    omega (arith, i, taken v left client number lines at)

module _ {Op C : Type 0} where
  -- the place v is that of a line of the client
  abbrev Owned : ℕ → ℕ → ℕ → List (Line Op C) → Type 0
  Owned v client k lines = (j : ℕ) × (l : Line Op C) × (k + j ≡ v) × (slice_get lines j ≡ Some l) × (l.client ≡ client)

  record Has (v client k : ℕ) (lines : List (Line Op C)) (n : ℕ) : Type 0 where
    pub small : n ≤ 1
    pub owned : 0 < n → Owned v client k lines

  further : (v client k : ℕ) (l : Line Op C) (lines : List (Line Op C)) → Owned v client (k + 1) lines → Owned v client k (l ∷ lines)
  further v client k l lines o = (suc o.0, o.1, (let e : k + suc o.0 ≡ v = omega (arith, o.2) in e), o.3, o.4)

  past : (v client k : ℕ) (lines : List (Line Op C)) → Owned v client (k + 1) lines → k < v
  past v client k lines o = omega (arith, o.2)

  step-tally : (v client k : ℕ) (l : Line Op C) (lines : List (Line Op C)) → Has v client (k + 1) lines (tally v (numbers (lines_of client (k + 1) lines)))
      → Has v client k (l ∷ lines) (tally v (numbers (lines_of client k (l ∷ lines))))
  step-tally v client k l lines rest = by (l.client == client) refl
    where
      by : (b : Bool) → (l.client == client) ≡ b → Has v client k (l ∷ lines) (tally v (numbers (cond b ((k, presents l.act) ∷ lines_of client (k + 1) lines) (lines_of client (k + 1) lines))))
      by false e = record { small = rest.small; owned = λ h. further v client k l lines (rest.owned h) }
      by true e = at (k == v) refl
        where
          at : (b : Bool) → (k == v) ≡ b → Has v client k (l ∷ lines) (bit b + tally v (numbers (lines_of client (k + 1) lines)))
          at false f = record { small = omega (arith, rest.small); owned = λ h. further v client k l lines (rest.owned (omega (arith, h))) }
          at true f =
              let same : k ≡ v = eqb-true k v f in
              record {
                small = first rest same;
                owned = λ h. (0, l, (let e₁ : k + 0 ≡ v = omega (arith, same) in e₁), refl, eqb-true l.client client e);
              }
            where
              zero-or : (n : ℕ) → (0 < n → ⊥) → n ≡ 0
              zero-or zero h = refl
              zero-or (suc n) h = absurd (h (omega arith))

              first : {n : ℕ} → Has v client (k + 1) lines n → k ≡ v → 1 + n ≤ 1
              first {n = n} r same = let none : n ≡ 0 = zero-or n (λ h. omega (arith, past v client k lines (r.owned h), same)) in omega (arith, none)

  own-tally : (v client k : ℕ) (lines : List (Line Op C)) → Has v client k lines (tally v (numbers (lines_of client k lines)))
  own-tally v client k [] = record { small = omega arith; owned = λ h. absurd (omega (arith, h)) }
  own-tally v client k (l ∷ lines) = step-tally v client k l lines (own-tally v client (k + 1) lines)

  -- all clients from the first on: at most one has the line, and it is one of them
  record HasAmong (v first : ℕ) (lines : List (Line Op C)) (n : ℕ) : Type 0 where
    pub small : n ≤ 1
    pub owned : 0 < n → (client : ℕ) × (first ≤ client) × Owned v client 0 lines

  same-owner : (v c d : ℕ) (lines : List (Line Op C)) → Owned v c 0 lines → Owned v d 0 lines → c ≡ d
  same-owner v c d lines x y =
      let place : x.0 ≡ y.0 = omega (arith, x.2, y.2) in
      let at : slice_get lines y.0 ≡ Some x.1 = subst (λ j. slice_get lines j ≡ Some x.1) place x.3 in
      let line : x.1 ≡ y.1 = some-same x.1 y.1 (sym at ∙ y.3) in
      sym x.4 ∙ (ap (λ l. l.client) line ∙ y.4)
    where
      some-same : (l m : Line Op C) → Some l ≡ Some m → l ≡ m
      some-same l m h = cc

  all-tally : (v first n : ℕ) (lines : List (Line Op C)) → HasAmong v first lines (tallies v (map numbers (by_client first n lines)))
  all-tally v first zero lines = record { small = omega arith; owned = λ h. absurd (omega (arith, h)) }
  all-tally v first (suc n) lines = both (own-tally v first 0 lines) (all-tally v (first + 1) n lines)
    where
      both : {a b : ℕ} → Has v first 0 lines a → HasAmong v (first + 1) lines b → HasAmong v first lines (a + b)
      both {a = zero} {b = b} x y = record { small = omega (arith, y.small); owned = λ h. let o = y.owned (omega (arith, h)) in (o.0, (let e : first ≤ o.0 = omega (arith, o.1) in e), o.2) }
      both {a = suc a} {b = zero} x y = record { small = omega (arith, x.small); owned = λ h. (first, (let e : first ≤ first = omega arith in e), x.owned (omega arith)) }
      both {a = suc a} {b = suc b} x y =
          let o = y.owned (omega arith) in
          let e : first ≡ o.0 = same-owner v first o.0 lines (x.owned (omega arith)) o.2 in
          absurd (omega (arith, e, o.1))

  pub order-differs : (n : ℕ) (lines : List (Line Op C)) (order : List ℕ) → IsOrder (map numbers (by_client 0 n lines)) order → Differ order
  order-differs n lines order h = differ order (λ v. omega (arith, order-tally v h, (all-tally v 0 n lines).small))

-- ---- lists in order

module _ {X : Type 0} (n : X → ℕ) where
  -- each number is below those of the later ones
  abbrev pub Rises : List X → Type 0
  Rises [] = Unit {0}
  Rises (x ∷ xs) = Each (λ y. n x < n y) xs × Rises xs

  -- no two have one number
  abbrev pub Apart : List X → Type 0
  Apart [] = Unit {0}
  Apart (x ∷ xs) = Each (λ y. n y ≡ n x → ⊥) xs × Apart xs

  tail-sorted : (x : X) (xs : List X) → IsNonDecreasingBy n (x ∷ xs) → IsNonDecreasingBy n xs
  tail-sorted x xs h = λ i j d le lt. h (suc i) (suc j) d (omega (arith, le)) (omega (arith, lt))

  head-least : (x : X) (xs : List X) → IsNonDecreasingBy n (x ∷ xs) → Each (λ y. n x ≤ n y) xs
  head-least x xs h = all xs (λ k d lt. h 0 (suc k) d (omega arith) (omega (arith, lt)))
    where
      all : (ys : List X) → ((k : ℕ) (d : X) → k < length ys → n x ≤ n (slice_index_or ys k d)) → Each (λ y. n x ≤ n y) ys
      all [] f = tt
      all (y ∷ ys) f = (f 0 y (omega arith), all ys (λ k d lt. f (suc k) d (omega (arith, lt))))

  pub rises : (xs : List X) → IsNonDecreasingBy n xs → Apart xs → Rises xs
  rises [] h a = tt
  rises (x ∷ xs) h a = (strict xs (head-least x xs h) a.0, rises xs (tail-sorted x xs h) a.1)
    where
      strict : (ys : List X) → Each (λ y. n x ≤ n y) ys → Each (λ y. n y ≡ n x → ⊥) ys → Each (λ y. n x < n y) ys
      strict [] u w = tt
      strict (y ∷ ys) u w = (lt (n x) (n y) u.0 w.0, strict ys u.1 w.1)
        where
          lt : (a b : ℕ) → a ≤ b → (b ≡ a → ⊥) → a < b
          lt a b le ne = omega (arith, le, ne)

  -- the item is one of these
  abbrev pub Is_one : X → List X → Type 0
  Is_one z [] = ⊥
  Is_one z (x ∷ xs) = (z ≡ x) ⊎ Is_one z xs

  above : (a : ℕ) (xs : List X) (z : X) → Each (λ y. a < n y) xs → Is_one z xs → a < n z
  above a [] z e i = absurd i
  above a (x ∷ xs) z e (inl s) = subst (λ w. a < n w) (sym s) e.0
  above a (x ∷ xs) z e (inr i) = above a xs z e.1 i

  -- two lists that rise and have the same elements
  pub same-list : (xs ys : List X) → Rises xs → Rises ys → ((z : X) → Is_one z xs → Is_one z ys) → ((z : X) → Is_one z ys → Is_one z xs) → xs ≡ ys
  same-list [] [] r q f g = refl
  same-list [] (y ∷ ys) r q f g = absurd (g y (inl refl))
  same-list (x ∷ xs) [] r q f g = absurd (f x (inl refl))
  same-list (x ∷ xs) (y ∷ ys) r q f g = ap₂ (λ a l. a ∷ l) heads (same-list xs ys r.1 q.1 down up)
    where
      heads : x ≡ y
      heads = by (f x (inl refl)) (g y (inl refl))
        where
          by : Is_one x (y ∷ ys) → Is_one y (x ∷ xs) → x ≡ y
          by (inl e) i = e
          by (inr i) (inl e) = sym e
          by (inr i) (inr j) = let lt : n y < n x = above (n y) ys x q.0 i in let gt : n x < n y = above (n x) xs y r.0 j in absurd (omega (arith, lt, gt))

      down : (z : X) → Is_one z xs → Is_one z ys
      down z i = by (f z (inr i))
        where
          by : Is_one z (y ∷ ys) → Is_one z ys
          by (inr j) = j
          by (inl e) = let lt : n x < n z = above (n x) xs z r.0 i in absurd (omega (arith, lt, ap n (e ∙ sym heads)))

      up : (z : X) → Is_one z ys → Is_one z xs
      up z i = by (g z (inr i))
        where
          by : Is_one z (x ∷ xs) → Is_one z xs
          by (inr j) = j
          by (inl e) = let lt : n y < n z = above (n y) ys z q.0 i in absurd (omega (arith, lt, ap n (e ∙ heads)))

  -- ---- permutations

  -- each of these is one of those
  among : (ys xs : List X) → ((z : X) → Is_one z xs → Is_one z ys) → All (λ z. Is_one z ys) xs
  among ys xs f = λ k d lt. f (slice_index_or xs k d) (at xs k d lt)
    where
      at : (xs : List X) (k : ℕ) (d : X) → k < length xs → Is_one (slice_index_or xs k d) xs
      at [] k d lt = absurd (omega (arith, lt))
      at (x ∷ xs) zero d lt = inl refl
      at (x ∷ xs) (suc k) d lt = inr (at xs k d (omega (arith, lt)))

  from-all : (P : X → Type 0) (xs : List X) → All P xs → (z : X) → Is_one z xs → P z
  from-all P [] h z i = absurd i
  from-all P (x ∷ xs) h z (inl e) = subst P (sym e) (h 0 x (omega arith))
  from-all P (x ∷ xs) h z (inr i) = from-all P xs (λ k d lt. h (suc k) d (omega (arith, lt))) z i

  moved-one : (xs ys : List X) → IsPermutation xs ys → (z : X) → Is_one z xs → Is_one z ys
  moved-one xs ys p = from-all (λ z. Is_one z ys) xs (All-permutation (λ z. Is_one z ys) ys xs (IsPermutation-sym xs ys p) (among ys ys (λ z i. i)))

  -- ---- numbers that differ stay different in another order

  tally-by : (v : ℕ) (xs : List X) → sum_by (λ x. hit v (n x)) xs ≡ tally v (map n xs)
  tally-by v [] = refl
  tally-by v (x ∷ xs) = sum_by-cons (λ x. hit v (n x)) x xs ∙ ap (λ t. hit v (n x) + t) (tally-by v xs)

  apart-tally : (xs : List X) → Apart xs → (v : ℕ) → tally v (map n xs) ≤ 1
  apart-tally [] a v = omega arith
  apart-tally (x ∷ xs) a v = by (n x == v) refl (apart-tally xs a.1 v)
    where
      none : (ys : List X) → Each (λ y. n y ≡ n x → ⊥) ys → tally (n x) (map n ys) ≡ 0
      none [] e = refl
      none (y ∷ ys) e = omega (arith, hit-other (n x) (n y) e.0, none ys e.1)

      by : (b : Bool) → (n x == v) ≡ b → tally v (map n xs) ≤ 1 → bit b + tally v (map n xs) ≤ 1
      by false e h = omega (arith, h)
      by true e h = let no : tally v (map n xs) ≡ 0 = subst (λ w. tally w (map n xs) ≡ 0) (eqb-true (n x) v e) (none xs a.0) in omega (arith, no)

  tally-apart : (xs : List X) → ((v : ℕ) → tally v (map n xs) ≤ 1) → Apart xs
  tally-apart [] h = tt
  tally-apart (x ∷ xs) h = (others xs (omega (arith, h (n x), hit-self (n x))), tally-apart xs (λ v. omega (arith, h v)))
    where
      others : (ys : List X) → tally (n x) (map n ys) ≡ 0 → Each (λ y. n y ≡ n x → ⊥) ys
      others [] e = tt
      others (y ∷ ys) e = ((λ s. let one : hit (n x) (n y) ≡ 1 = subst (λ w. hit (n x) w ≡ 1) (sym s) (hit-self (n x)) in absurd (omega (arith, one, e))), others ys (omega (arith, e)))

  moved-apart : (xs ys : List X) → IsPermutation xs ys → Apart xs → Apart ys
  moved-apart xs ys p a =
      tally-apart ys (λ v. omega (arith, apart-tally xs a v, sym (tally-by v ys) ∙ (sum_by-IsPermutation (λ x. hit v (n x)) xs ys p ∙ tally-by v xs)))

  -- one list in order of what differs
  pub one-sorting : (xs ys zs : List X) → Apart xs → IsPermutation xs ys → IsNonDecreasingBy n ys → IsPermutation xs zs → IsNonDecreasingBy n zs → ys ≡ zs
  one-sorting xs ys zs a p s q r =
      same-list ys zs (rises ys s (moved-apart xs ys p a)) (rises zs r (moved-apart xs zs q a))
      (λ z i. moved-one xs zs q z (moved-one ys xs (IsPermutation-sym xs ys p) z i))
      (λ z i. moved-one xs ys p z (moved-one zs xs (IsPermutation-sym xs zs q) z i))
