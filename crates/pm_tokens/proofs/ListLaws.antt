-- Parts of joined lists.
use Rattle.std.specs.Prelude.{◌≡◌, ℕ, ◌-◌, ◌≤◌, List, [], ◌∷◌, ◌++◌, length, take, drop}
use Rattle.std.proofs.Common.{refl, ap, ◌∙◌, arith, zero, suc, length-drop}
use Rattle.std.proofs.lemmas.List.{take_all, drop_all}
use Rattle.pm_tokens.specs.Scan.{part}

pub drop-nil : {A : Type 0} (n : ℕ) → ◌≡◌ {A = List A} (drop n []) []
drop-nil zero = refl
drop-nil (suc n) = refl

pub take-nil : {A : Type 0} (n : ℕ) → ◌≡◌ {A = List A} (take n []) []
take-nil zero = refl
take-nil (suc n) = refl

pub drop_over : {A : Type 0} (n : ℕ) (xs ys : List A) → drop n (xs ++ ys) ≡ drop n xs ++ drop (n - length xs) ys
drop_over n [] ys = rw (drop-nil n) (ap (λ k. drop k ys) (omega arith))
drop_over zero (x ∷ xs) ys = ap (λ k. x ∷ (xs ++ drop k ys)) (let e : 0 ≡ 0 - suc (length xs) = omega arith in e)
drop_over (suc n) (x ∷ xs) ys = drop_over n xs ys ∙ ap (λ k. drop n xs ++ drop k ys) (omega arith)

pub take_over : {A : Type 0} (n : ℕ) (xs ys : List A) → take n (xs ++ ys) ≡ take n xs ++ take (n - length xs) ys
take_over n [] ys = rw (take-nil n) (ap (λ k. take k ys) (omega arith))
take_over zero (x ∷ xs) ys = ap (λ k. take k ys) (let e : 0 ≡ 0 - suc (length xs) = omega arith in e)
take_over (suc n) (x ∷ xs) ys = ap (λ z. x ∷ z) (take_over n xs ys ∙ ap (λ k. take n xs ++ take k ys) (omega arith))

pub part-append : {A : Type 0} (f t : ℕ) (xs ys : List A) → part f t (xs ++ ys) ≡ part f t xs ++ part (f - length xs) (t - length xs) ys
part-append f t xs ys =
    let e : (t - f) - length (drop f xs) ≡ (t - length xs) - (f - length xs) = omega (arith, length-drop f xs) in
    ap (λ z. take (t - f) z) (drop_over f xs ys) ∙ (take_over (t - f) (drop f xs) (drop (f - length xs) ys) ∙ ap (λ k. take (t - f) (drop f xs) ++ take k (drop (f - length xs) ys)) e)

-- the part that covers a list is the list
pub part_all : {A : Type 0} (f t : ℕ) (xs : List A) → f ≡ 0 → length xs ≤ t → part f t xs ≡ xs
part_all f t xs e h = rw e (take_all (t - 0) xs (omega arith))

-- a part from past the end is empty
pub part_past : {A : Type 0} (f t : ℕ) (xs : List A) → length xs ≤ f → part f t xs ≡ []
part_past f t xs h = rw (drop_all f xs h) (take-nil (t - f))

-- a part that ends where it starts is empty
pub part_none : {A : Type 0} (f t : ℕ) (xs : List A) → t ≤ f → part f t xs ≡ []
part_none f t xs h = let e : t - f ≡ 0 = omega arith in rw e refl
