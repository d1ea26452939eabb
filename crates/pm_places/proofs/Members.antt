-- Members of lists of numbers.
use Rattle.std.proofs.Common.{◌≡◌, ℕ, zero, suc, ◌+◌, ◌<◌, ◌≤◌, List, [], ◌∷◌, length, get_or, Bool, true, false, cond, eqb, refl, ap, sym, ◌∙◌, subst, arith, inl, inr, ◌⊎◌}
use Rattle.std.specs.Prelude.{Contains}
use Rattle.std.proofs.lemmas.Bool.{eqb-true, eq-eqb}
use Rattle.pm_auto.specs.declared.places.Row.{Row}
use Rattle.pm_auto.specs.States.{has, in_order}
use Rattle.pm_auto.proofs.HasLaws.{Has, or-split, or-left, or-right}

-- the number is in the list
abbrev pub Is_in : ℕ → List ℕ → Type 0
Is_in k xs = Has (λ (y : ℕ). y ≡ k) xs

pub has-is : (k : ℕ) (xs : List ℕ) → has k xs ≡ true → Is_in k xs
has-is k [] h = absurd (cc)
has-is k (x ∷ xs) h = at (or-split (eqb x k) (has k xs) h) (has-is k xs)
  where
    at : (eqb x k ≡ true) ⊎ (has k xs ≡ true) → (has k xs ≡ true → Is_in k xs) → Is_in k (x ∷ xs)
    at (inl e) f = inl (eqb-true x k e)
    at (inr e) f = inr (f e)

pub is-has : (k : ℕ) (xs : List ℕ) → Is_in k xs → has k xs ≡ true
is-has k [] h = absurd h
is-has k (x ∷ xs) (inl e) = or-left (eqb x k) (has k xs) (eq-eqb x k e)
is-has k (x ∷ xs) (inr h) = or-right (eqb x k) (has k xs) (is-has k xs h)

pub in-contains : (k : ℕ) (xs : List ℕ) → Is_in k xs → Contains xs k
in-contains k [] h = absurd h
in-contains k (x ∷ xs) (inl e) = (0, omega arith, e)
in-contains k (x ∷ xs) (inr h) = let c = in-contains k xs h in let l : c.0 < length xs = c.1 in (suc c.0, omega (arith, l), c.2)

pub contains-in : (k : ℕ) (xs : List ℕ) → Contains xs k → Is_in k xs
contains-in k xs c = at xs c.0 c.1 c.2
  where
    at : (xs : List ℕ) (i : ℕ) → i < length xs → get_or xs i k ≡ k → Is_in k xs
    at [] i l e = absurd (omega arith)
    at (x ∷ xs) zero l e = inl e
    at (x ∷ xs) (suc i) l e = inr (at xs i (omega arith) e)

-- the numbers rise from n on
abbrev pub Rising : ℕ → List ℕ → Type 0
Rising n [] = Unit {0}
Rising n (x ∷ xs) = (n ≤ x) × Rising (suc x) xs

pub rising-lower : (n m : ℕ) (xs : List ℕ) → n ≤ m → Rising m xs → Rising n xs
rising-lower n m [] l h = tt
rising-lower n m (x ∷ xs) l h = let r : m ≤ x = h.0 in (omega (arith, l, r), h.1)

pub rising-least : (n k : ℕ) (xs : List ℕ) → Rising n xs → Is_in k xs → n ≤ k
rising-least n k [] h i = absurd i
rising-least n k (x ∷ xs) h (inl e) = subst (λ (z : ℕ). n ≤ z) e h.0
rising-least n k (x ∷ xs) h (inr i) = let l : n ≤ x = h.0 in let r : suc x ≤ k = rising-least (suc x) k xs h.1 i in omega (arith, l, r)

pub rising-next : (n : ℕ) (xs : List ℕ) → Rising n xs → (k : ℕ) → k + 1 < length xs → get_or xs k 0 < get_or xs (k + 1) 0
rising-next n [] h k l = absurd (omega arith)
rising-next n (x ∷ []) h k l = absurd (omega arith)
rising-next n (x ∷ y ∷ xs) h zero l = let r : suc x ≤ y = h.1.0 in omega (arith, r)
rising-next n (x ∷ y ∷ xs) h (suc k) l =
    let i : get_or (y ∷ xs) k 0 < get_or (y ∷ xs) (k + 1) 0 = rising-next (suc x) (y ∷ xs) h.1 k (omega arith) in
    let e : suc k + 1 ≡ suc (k + 1) = omega arith in
    subst (λ (z : ℕ). get_or (y ∷ xs) k 0 < get_or (x ∷ y ∷ xs) z 0) (sym e) i

-- rising lists with the same members are equal
pub rising-same : (n m : ℕ) (xs ys : List ℕ) → Rising n xs → Rising m ys → ((k : ℕ) → Is_in k xs → Is_in k ys) → ((k : ℕ) → Is_in k ys → Is_in k xs) → xs ≡ ys
rising-same n m [] [] h i f g = refl
rising-same n m [] (y ∷ ys) h i f g = absurd (g y (inl refl))
rising-same n m (x ∷ xs) [] h i f g = absurd (f x (inl refl))
rising-same n m (x ∷ xs) (y ∷ ys) h i f g =
    let low : y ≤ x = rising-least y x (y ∷ ys) (omega arith, i.1) (f x (inl refl)) in
    let high : x ≤ y = rising-least x y (x ∷ xs) (omega arith, h.1) (g y (inl refl)) in
    let e : x ≡ y = omega (arith, low, high) in
    ap (λ z. z ∷ xs) e ∙ ap (λ (z : List ℕ). y ∷ z) (rising-same (suc x) (suc y) xs ys h.1 i.1 (λ k j. behind k x y xs ys e (rising-least (suc x) k xs h.1 j) (f k (inr j))) (λ k j. behind k y x ys xs (sym e) (rising-least (suc y) k ys i.1 j) (g k (inr j))))
  where
    behind : (k x y : ℕ) (xs ys : List ℕ) → x ≡ y → suc x ≤ k → (y ≡ k) ⊎ Is_in k ys → Is_in k ys
    behind k x y xs ys e l (inl d) = absurd (omega (arith, e, d, l))
    behind k x y xs ys e l (inr h) = h

-- the members of a list in order are those that have a row
pub order-in : (ns : List ℕ) (n m : ℕ) (rs : List Row) → Is_in m (in_order ns n rs) → Is_in m ns × (n ≤ m) × (m < n + length rs)
order-in ns n m [] h = absurd h
order-in ns n m (r ∷ rs) h = at (has n ns) refl h (order-in ns (suc n) m rs)
  where
    later : Is_in m ns × (suc n ≤ m) × (m < suc n + length rs) → Is_in m ns × (n ≤ m) × (m < n + suc (length rs))
    later h = let l : suc n ≤ m = h.1 in let u : m < suc n + length rs = h.2 in (h.0, omega (arith, l), omega (arith, u))

    at : (b : Bool) → has n ns ≡ b → Is_in m (cond b (n ∷ in_order ns (suc n) rs) (in_order ns (suc n) rs))
        → (Is_in m (in_order ns (suc n) rs) → Is_in m ns × (suc n ≤ m) × (m < suc n + length rs)) → Is_in m ns × (n ≤ m) × (m < n + suc (length rs))
    at true e (inl q) f = (subst (λ (z : ℕ). Is_in z ns) q (has-is n ns e), omega (arith, q), omega (arith, q))
    at true e (inr h) f = later (f h)
    at false e h f = later (f h)

pub in-order : (ns : List ℕ) (n m : ℕ) (rs : List Row) → Is_in m ns → n ≤ m → m < n + length rs → Is_in m (in_order ns n rs)
in-order ns n m [] h l u = absurd (omega arith)
in-order ns n m (r ∷ rs) h l u = at (has n ns) refl (eqb n m) refl (in-order ns (suc n) m rs h)
  where
    at : (b : Bool) → has n ns ≡ b → (c : Bool) → eqb n m ≡ c → (suc n ≤ m → m < suc n + length rs → Is_in m (in_order ns (suc n) rs)) → Is_in m (cond b (n ∷ in_order ns (suc n) rs) (in_order ns (suc n) rs))
    at true e true q f = inl (eqb-true n m q)
    at true e false q f = inr (f (omega (arith, l, apart q)) (omega (arith, u)))
      where
        apart : eqb n m ≡ false → n ≡ m → ⊥
        apart q d = let t : true ≡ false = sym (eq-eqb n m d) ∙ q in cc
    at false e true q f = absurd (let t : true ≡ false = sym (is-has m ns h) ∙ ap (λ (z : ℕ). has z ns) (sym (eqb-true n m q)) ∙ e in cc)
    at false e false q f = f (omega (arith, l, apart q)) (omega (arith, u))
      where
        apart : eqb n m ≡ false → n ≡ m → ⊥
        apart q d = let t : true ≡ false = sym (eq-eqb n m d) ∙ q in cc

pub order-rising : (ns : List ℕ) (n : ℕ) (rs : List Row) → Rising n (in_order ns n rs)
order-rising ns n [] = tt
order-rising ns n (r ∷ rs) = at (has n ns) (order-rising ns (suc n) rs)
  where
    at : (b : Bool) → Rising (suc n) (in_order ns (suc n) rs) → Rising n (cond b (n ∷ in_order ns (suc n) rs) (in_order ns (suc n) rs))
    at true h = (omega arith, h)
    at false h = rising-lower n (suc n) (in_order ns (suc n) rs) (omega arith) h
