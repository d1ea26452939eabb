-- Parts of printable text are printable.
use Rattle.std.proofs.Common.{◌≡◌, ℕ, zero, suc, Bool, true, false, List, [], ◌∷◌, ◌++◌, take, drop, refl}
use Rattle.std.specs.Prelude.{◌&&◌}
use Rattle.std.proofs.lemmas.List.Folds.{list_all-append}
use Rattle.pm_flat.specs.Letters.{is_printable, all_printable}
use Rattle.std.proofs.lemmas.Bool.{and_from}

left : (a b : Bool) → (a && b) ≡ true → a ≡ true
left true b h = refl
left false b h = absurd (cc)

right : (a b : Bool) → (a && b) ≡ true → b ≡ true
right true b h = h
right false b h = absurd (cc)

pub all-take : (n : ℕ) (xs : List ℕ) → all_printable xs ≡ true → all_printable (take n xs) ≡ true
all-take zero xs h = refl
all-take (suc n) [] h = refl
all-take (suc n) (x ∷ xs) h = and_from (is_printable x) _ (left _ _ h) (all-take n xs (right _ _ h))

pub all-drop : (n : ℕ) (xs : List ℕ) → all_printable xs ≡ true → all_printable (drop n xs) ≡ true
all-drop zero xs h = h
all-drop (suc n) [] h = refl
all-drop (suc n) (x ∷ xs) h = all-drop n xs (right _ _ h)

pub all-append : (xs ys : List ℕ) → all_printable xs ≡ true → all_printable ys ≡ true → all_printable (xs ++ ys) ≡ true
all-append xs ys g h = rw (list_all-append is_printable xs ys, g, h) refl

pub ruleset printable = (all-take, all-drop, all-append)
