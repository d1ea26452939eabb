-- Sets of numbers as bits of words.
use Rattle.std.proofs.Common.{◌≡◌, ℕ, zero, suc, ◌+◌, ◌*◌, ◌/◌, ◌%◌, ◌^◌, ◌<◌, ◌≤◌, ◌⊎◌, inl, inr, List, [], ◌∷◌, ◌++◌, length, drop, get_or, set, replicate, Bool, false, ◌||◌, eqb, eq-eqb, ne_eqb, w64, bit_or, refl, ap, sym, ◌∙◌, arith, get_or-set_same, get_or-set_other, add-one}
use Rattle.std.specs.Prelude.{max}
use Rattle.std.specs.Int.{bit_at}
use Rattle.std.proofs.lemmas.Bool.{cases_eq, or_right}
use Rattle.std.proofs.lemmas.List.{get_or-replicate, get_or_past, length-replicate}
use Rattle.std.proofs.lemmas.Nat.Bits.{bit_at-lt, bit_at-zero, bit_at_or, bit_at_set_same, bit_at_set_other}
use Rattle.pm_auto.specs.declared.places.Row.{Row}
use Rattle.pm_auto.specs.States.{has, in_order}
use Rattle.pm_auto.specs.Members.{is_in}
use Rattle.pm_auto.specs.Bits.{Holds, picked}
use Rattle.pm_auto.proofs.Orders.{le_or_lt}
use Rattle.std.proofs.Math.Seq.{drop-cons}
use Rattle.pm_auto.proofs.SetLaws.{or-false, or-assoc, has-append}

-- no number is in the set of no bits
pub zeros-at : (n k : ℕ) → ◌≡◌ {A = ℕ} (get_or (replicate {A = ℕ} n 0) k 0) 0
zeros-at n k = at (le_or_lt n k)
  where
    at : (n ≤ k) ⊎ (k < n) → ◌≡◌ {A = ℕ} (get_or (replicate {A = ℕ} n 0) k 0) 0
    at (inl h) = get_or_past (replicate {A = ℕ} n 0) k 0 (omega (arith, length-replicate {A = ℕ} n 0))
    at (inr h) = get_or-replicate n k 0 0 h

pub none-in : (n j : ℕ) → is_in (replicate n 0) j ≡ false
none-in n j = ap (λ w. eqb (bit_at w (j % 64)) 1) (zeros-at n (j / 64)) ∙ ap (λ b. eqb b 1) (bit_at-zero (j % 64))

-- a number is in a union where it is in one of the sets
max-one : (x y : ℕ) → x < 2 → y < 2 → eqb (max x y) 1 ≡ eqb x 1 || eqb y 1
max-one zero zero p q = refl
max-one zero (suc zero) p q = refl
max-one (suc zero) zero p q = refl
max-one (suc zero) (suc zero) p q = refl
max-one zero (suc (suc y)) p q = absurd (omega arith)
max-one (suc zero) (suc (suc y)) p q = absurd (omega arith)
max-one (suc (suc x)) y p q = absurd (omega arith)

pub in-union : (a b c : List ℕ) (j : ℕ) → get_or c (j / 64) 0 ≡ bit_or (get_or a (j / 64) 0) (get_or b (j / 64) 0) → is_in c j ≡ is_in a j || is_in b j
in-union a b c j e =
    ap (λ w. eqb (bit_at w (j % 64)) 1) e
    ∙ ap (λ x. eqb x 1) (bit_at_or (get_or a (j / 64) 0) (get_or b (j / 64) 0) (j % 64))
    ∙ max-one (bit_at (get_or a (j / 64) 0) (j % 64)) (bit_at (get_or b (j / 64) 0) (j % 64)) (bit_at-lt (get_or a (j / 64) 0) (j % 64)) (bit_at-lt (get_or b (j / 64) 0) (j % 64))

-- a number more
pub in-put : (ws : List ℕ) (n j : ℕ) → n < 64 * length ws → is_in (set ws (n / 64) (bit_or (get_or ws (n / 64) 0) (1 * 2 ^ (n % 64) % 2 ^ 64))) j ≡ is_in ws j || eqb n j
in-put ws n j room = at (cases_eq j n)
  where
    v : ℕ
    v = bit_or (get_or ws (n / 64) 0) (1 * 2 ^ (n % 64) % 2 ^ 64)

    low : n % 64 < 64
    low = omega arith

    inside : n / 64 < length ws
    inside = omega arith

    row : (j ≡ n → ⊥) → (j / 64 ≡ n / 64) ⊎ (j / 64 ≡ n / 64 → ⊥) → is_in (set ws (n / 64) v) j ≡ is_in ws j
    row o (inl e) =
        ap (λ x. eqb (bit_at (get_or (set ws (n / 64) v) x 0) (j % 64)) 1) e
        ∙ ap (λ x. eqb (bit_at x (j % 64)) 1) (get_or-set_same ws (n / 64) v 0 inside)
        ∙ ap (λ x. eqb x 1) (bit_at_set_other w64 (get_or ws (n / 64) 0) (n % 64) low (j % 64) (omega arith))
        ∙ ap (λ x. eqb (bit_at (get_or ws x 0) (j % 64)) 1) (sym e)
    row o (inr a) = ap (λ x. eqb (bit_at x (j % 64)) 1) (get_or-set_other ws (n / 64) (j / 64) v 0 a)

    at : (j ≡ n) ⊎ (j ≡ n → ⊥) → is_in (set ws (n / 64) v) j ≡ is_in ws j || eqb n j
    at (inl e) =
        ap (is_in (set ws (n / 64) v)) e
        ∙ ap (λ x. eqb (bit_at x (n % 64)) 1) (get_or-set_same ws (n / 64) v 0 inside)
        ∙ eq-eqb (bit_at v (n % 64)) 1 (bit_at_set_same w64 (get_or ws (n / 64) 0) (n % 64) low)
        ∙ sym (or_right (is_in ws j) (eqb n j) (eq-eqb n j (sym e)))
    at (inr o) = row o (cases_eq (j / 64) (n / 64)) ∙ sym (ap (λ b. is_in ws j || b) (ne_eqb n j (λ e. o (sym e))) ∙ or-false (is_in ws j))

-- the numbers of a set, in order
pub picked-order : (ns ws : List ℕ) (n : ℕ) (rs : List Row) → ((j : ℕ) → n ≤ j → j < n + length rs → is_in ws j ≡ has j ns) → picked ws n rs ≡ in_order ns n rs
picked-order ns ws n [] f = refl
picked-order ns ws n (r ∷ rs) f =
    let e : is_in ws n ≡ has n ns = f n (omega arith) (omega arith) in
    let i : picked ws (suc n) rs ≡ in_order ns (suc n) rs = picked-order ns ws (suc n) rs (λ j l h. f j (omega arith) (omega arith)) in
    rw (e, i) refl

pub holds-order : (ns ws : List ℕ) (rs : List Row) → Holds (length rs) ws ns → picked ws 0 rs ≡ in_order ns 0 rs
holds-order ns ws rs h = picked-order ns ws 0 rs (λ j l m. h.same j (omega arith))

-- a number of a list that is put into the set, or left out
module _ (ns a : List ℕ) (i j : ℕ) (l : i < length ns) (all : Bool) (is : all ≡ (is_in a j || has j (drop i ns))) where
  front : drop i ns ≡ get_or ns i 0 ∷ drop (i + 1) ns
  front = drop-cons ns i 0 l ∙ rw add-one refl

  here : has j (drop i ns) ≡ eqb (get_or ns i 0) j || has j (drop (i + 1) ns)
  here = ap (has j) front

  pub held-put : (b : List ℕ) → is_in b j ≡ (is_in a j || eqb (get_or ns i 0) j) → all ≡ (is_in b j || has j (drop (i + 1) ns))
  held-put b e = is ∙ rw (here, e) (or-assoc (is_in a j) (eqb (get_or ns i 0) j) (has j (drop (i + 1) ns)))

  pub held-skip : eqb (get_or ns i 0) j ≡ false → all ≡ (is_in a j || has j (drop (i + 1) ns))
  held-skip e = is ∙ rw (here, e) refl

-- the followers of one place more
pub held-join : (b x y f ns : List ℕ) (j : ℕ) (all : Bool) → is_in b j ≡ (is_in x j || is_in y j) → is_in y j ≡ has j f → all ≡ (is_in x j || has j (f ++ ns)) → all ≡ (is_in b j || has j ns)
held-join b x y f ns j all e g h = h ∙ rw (has-append j f ns, e, g) (or-assoc (is_in x j) (has j f) (has j ns))
