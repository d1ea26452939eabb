-- Items of a list at their places, of which one is put in anew.
use Rattle.std.proofs.Common.{◌≡◌, ◌≢◌, ◌<◌, ◌+◌, ℕ, zero, suc, Bool, true, false, List, [], ◌∷◌, ◌++◌, length, map, refl, ap, sym, ◌∙◌, arith}
use Rattle.std.specs.Prelude.{slice_get, slice_set, slice_index_or, Some, position, not, cond, All}
use Rattle.std.specs.List.{prefix_len}
use Rattle.std.proofs.lemmas.List.{length-map}
use Rattle.std.proofs.Math.ListN.{get_or}
use Rattle.std.proofs.lemmas.List.Quantifiers.{position-Some}
use Rattle.std.proofs.lemmas.List.Elements.{All-nil, All-cons}

module _ {A : Type 0} where
  pub set-there : (xs : List A) (i : ℕ) (v x : A) → slice_get xs i ≡ Some x → slice_get (slice_set xs i v) i ≡ Some v
  set-there [] i v x h = absurd (cc)
  set-there (y ∷ ys) zero v x h = refl
  set-there (y ∷ ys) (suc i) v x h = set-there ys i v x h

  pub set-elsewhere : (xs : List A) (i j : ℕ) (v : A) → i ≢ j → slice_get (slice_set xs i v) j ≡ slice_get xs j
  set-elsewhere [] i j v ne = refl
  set-elsewhere (x ∷ xs) zero zero v ne = absurd (ne refl)
  set-elsewhere (x ∷ xs) zero (suc j) v ne = refl
  set-elsewhere (x ∷ xs) (suc i) zero v ne = refl
  set-elsewhere (x ∷ xs) (suc i) (suc j) v ne = set-elsewhere xs i j v (λ e. ne (ap suc e))

  pub length-set : (xs : List A) (i : ℕ) (v : A) → length (slice_set xs i v) ≡ length xs
  length-set [] i v = refl
  length-set (x ∷ xs) zero v = refl
  length-set (x ∷ xs) (suc i) v = ap suc (length-set xs i v)

  got : (xs : List A) (i : ℕ) (x : A) → slice_get xs i ≡ Some x → get_or xs i x ≡ x
  got [] i x h = refl
  got (y ∷ ys) zero x h = cc
  got (y ∷ ys) (suc i) x h = got ys i x h

  -- the item at the place of the first that passes does
  pub position-at : (p : A → Bool) (xs : List A) (i : ℕ) (x : A) → position p xs ≡ Some i → slice_get xs i ≡ Some x → p x ≡ true
  position-at p xs i x is at = sym (ap p (got xs i x at)) ∙ (position-Some p xs i x is).1

  -- an item before others
  pub get-front : (xs ys : List A) (i : ℕ) (x : A) → slice_get xs i ≡ Some x → slice_get (xs ++ ys) i ≡ Some x
  get-front [] ys i x h = absurd (cc)
  get-front (y ∷ xs) ys zero x h = h
  get-front (y ∷ xs) ys (suc i) x h = get-front xs ys i x h

  -- the last item
  pub get-last : (xs : List A) (x : A) → slice_get (xs ++ x ∷ []) (length xs) ≡ Some x
  get-last [] x = refl
  get-last (y ∷ xs) x = get-last xs x

pub index-get : {A : Type 0} (xs : List A) (i : ℕ) (d : A) → i < length xs → slice_get xs i ≡ Some (slice_index_or xs i d)
index-get [] i d h = absurd (omega arith)
index-get (x ∷ xs) zero d h = refl
index-get (x ∷ xs) (suc i) d h = index-get xs i d (omega arith)

module _ {A B : Type 0} (p : B → Bool) (f : A → B) where
  prefix-map : (q : B → Bool) (xs : List A) → prefix_len q (map f xs) ≡ prefix_len (λ x. q (f x)) xs
  prefix-map q [] = refl
  prefix-map q (x ∷ xs) = ap (λ n. cond (q (f x)) (1 + n) 0) (prefix-map q xs)

  pub position-map : (xs : List A) → position p (map f xs) ≡ position (λ x. p (f x)) xs
  position-map xs = rw (prefix-map (λ y. not (p y)) xs, length-map xs f) refl

module _ {A B : Type 0} (f : A → B) where
  pub map-set : (xs : List A) (i : ℕ) (v : A) → map f (slice_set xs i v) ≡ slice_set (map f xs) i (f v)
  map-set [] i v = refl
  map-set (x ∷ xs) zero v = refl
  map-set (x ∷ xs) (suc i) v = ap (λ l. f x ∷ l) (map-set xs i v)

  pub map-get : (xs : List A) (i : ℕ) (x : A) → slice_get xs i ≡ Some x → slice_get (map f xs) i ≡ Some (f x)
  map-get [] i x h = absurd (cc)
  map-get (y ∷ ys) zero x h = let one : y ≡ x = cc in ap (λ z. Some (f z)) one
  map-get (y ∷ ys) (suc i) x h = map-get ys i x h

  -- an item that f can't tell from the one that was there
  pub map-same : (xs : List A) (i : ℕ) (v x : A) → slice_get xs i ≡ Some x → f v ≡ f x → map f (slice_set xs i v) ≡ map f xs
  map-same [] i v x h e = refl
  map-same (y ∷ ys) zero v x h e = let one : y ≡ x = cc in ap (λ z. z ∷ map f ys) (e ∙ sym (ap f one))
  map-same (y ∷ ys) (suc i) v x h e = ap (λ l. f y ∷ l) (map-same ys i v x h e)

  -- what is there after f was there before
  pub map-got : (xs : List A) (i : ℕ) (y : B) → slice_get (map f xs) i ≡ Some y → (x : A) × (slice_get xs i ≡ Some x)
  map-got [] i y h = absurd (cc)
  map-got (x ∷ xs) zero y h = (x, refl)
  map-got (x ∷ xs) (suc i) y h = map-got xs i y h

-- what holds of the item at each place holds of all
pub all-at : {A : Type 0} (P : A → Type 0) (xs : List A) → ((i : ℕ) (x : A) → slice_get xs i ≡ Some x → P x) → All P xs
all-at P [] h = All-nil P
all-at P (x ∷ xs) h = All-cons P x xs (h 0 x refl) (all-at P xs (λ i y at. h (suc i) y at))
