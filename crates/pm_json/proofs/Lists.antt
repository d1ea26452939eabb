-- References that are gathered one after another, beside what they refer to.
use Rattle.std.proofs.Common.{◌≡◌, ℕ, zero, suc, ◌+◌, ◌<◌, ◌≤◌, List, [], ◌∷◌, ◌++◌, length, drop, drop-cons, get_or, map, add-one, append-nil, refl, sym, ap, ◌∙◌, arith}
use Rattle.std.proofs.lemmas.List.{map-append, append_assoc}

module _ {A B C : Type 0} (f : A → C) (g : B → C) where
  -- one more reference, to the first of the rest
  pub one-more : (old new : List A) (r : A) (x : B) (xs : List B) (all : List C) → new ≡ old ++ r ∷ [] → f r ≡ g x → map f old ++ map g (x ∷ xs) ≡ all → map f new ++ map g xs ≡ all
  one-more old new r x xs all more same before =
      ap (λ l. map f l ++ map g xs) more ∙ ap (λ l. l ++ map g xs) (map-append f old (r ∷ []))
      ∙ append_assoc (map f old) (f r ∷ []) (map g xs) ∙ ap (λ y. map f old ++ y ∷ map g xs) same ∙ before

  split-at : (xs : List B) (i : ℕ) (x : B) → i < length xs → x ≡ get_or xs i x → drop i xs ≡ x ∷ drop (i + 1) xs
  split-at xs i x within is = rw add-one (drop-cons xs i x within ∙ ap (λ y. y ∷ drop (suc i) xs) (sym is))

  -- one more reference, to the one of this place
  pub next-more : (old new : List A) (r : A) (xs : List B) (i : ℕ) (x : B) (all : List C) → i < length xs → x ≡ get_or xs i x → new ≡ old ++ r ∷ [] → f r ≡ g x
      → map f old ++ map g (drop i xs) ≡ all → map f new ++ map g (drop (i + 1) xs) ≡ all
  next-more old new r xs i x all within is more same before =
      one-more old new r x (drop (i + 1) xs) all more same (ap (λ l. map f old ++ map g l) (sym (split-at xs i x within is)) ∙ before)

  none-left : (xs : List B) (i : ℕ) → length xs ≤ i → drop i xs ≡ []
  none-left [] zero h = refl
  none-left [] (suc i) h = refl
  none-left (x ∷ xs) zero h = absurd (omega (arith, h))
  none-left (x ∷ xs) (suc i) h = none-left xs i (omega (arith, h))

  -- nothing is left
  pub all-done : (refs : List A) (xs : List B) (i : ℕ) (all : List C) → length xs ≤ i → map f refs ++ map g (drop i xs) ≡ all → map f refs ≡ all
  all-done refs xs i all past before = sym (ap (λ l. map f refs ++ map g l) (none-left xs i past) ∙ append-nil (map f refs)) ∙ before
