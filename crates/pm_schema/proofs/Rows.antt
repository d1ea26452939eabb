-- Rows with one entry for each mark type.
use Rattle.std.proofs.Common.{◌≡◌, ◌<◌, ℕ, zero, suc, Bool, true, false, ◌||◌, ◌∷◌, [], List, length, map, get_or, take, ◌≤◌, replicate, refl, ap, sym, arith}
use Rattle.std.specs.List.{list_any}
use Rattle.pm_schema.specs.declared.spec.MarkSpec.{MarkSpec}
use Rattle.pm_schema.specs.Types.{no_mark}
use Rattle.pm_schema.specs.MarkTexts.{is_all, means, words, names}

-- a row that has the value of each type at its place
pub row-is : (P : MarkSpec → Bool) (ms : List MarkSpec) (row : List Bool) → length row ≡ length ms → ((i : ℕ) → i < length ms → get_or row i false ≡ P (get_or ms i no_mark)) → row ≡ map P ms
row-is P [] [] l h = refl
row-is P [] (b ∷ row) l h = absurd (omega arith)
row-is P (m ∷ ms) [] l h = absurd (omega arith)
row-is P (m ∷ ms) (b ∷ row) l h =
    let z : 0 < suc (length ms) = omega arith in
    let k : length row ≡ length ms = omega (arith, l) in
    let e : b ≡ P m = h 0 z in
    rw (e, row-is P ms row k (λ i j. h (suc i) (omega (arith, j)))) refl

-- a text for all names each type
pub all-named : (marks ms : List MarkSpec) (text : List ℕ) → is_all text ≡ true → replicate (length ms) true ≡ map (names marks text) ms
all-named marks [] text h = refl
all-named marks (m ∷ ms) text h =
    let e : true ≡ names marks text m = sym (ap (λ b. b || list_any (λ w. means marks w m) (words text)) h) in
    rw (← e, all-named marks ms text h) refl

pub take-all : {X : Type 0} (xs : List X) (n : ℕ) → length xs ≤ n → take n xs ≡ xs
take-all [] zero l = refl
take-all [] (suc n) l = refl
take-all (x ∷ xs) zero l = absurd (omega arith)
take-all (x ∷ xs) (suc n) l = ap (λ ys. x ∷ ys) (take-all xs n (omega arith))
