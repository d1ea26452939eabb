-- The expression with places for types has the same table, but for the types, and each place's number as its type.
use Rattle.std.proofs.Common.{◌≡◌, ℕ, zero, suc, ◌+◌, ◌<◌, List, [], ◌∷◌, map, length, Bool, refl, ap, sym, ◌∙◌, arith, inl, inr, length-append}
use Rattle.std.proofs.lemmas.List.{length-map}
use Rattle.std.specs.Prelude.{slice_index_or}
use Rattle.pm_auto.specs.declared.places.Row.{Row}
use Rattle.pm_auto.specs.Core.{Core, Never, Empty, One, Alt, Cat, Loop, Place, kind, nullable}
use Rattle.pm_auto.specs.Table.{width, rows, firsts, onward, again}
use Rattle.pm_auto.specs.Numbers.{number}
use Rattle.pm_auto.specs.Runs.{look}
use Rattle.pm_places.specs.Words.{numbered, place_types}
use Rattle.pm_auto.proofs.TableLaws.{map-join}

pub width-numbered : (n : ℕ) (e : Core) → width (numbered n e) ≡ width e
width-numbered n Never = refl
width-numbered n Empty = refl
width-numbered n (One k) = refl
width-numbered n (Alt a b) = rw (width-numbered n a, width-numbered (n + width a) b) refl
width-numbered n (Cat a b) = rw (width-numbered n a, width-numbered (n + width a) b) refl
width-numbered n (Loop a) = width-numbered n a

nullable-numbered : (n : ℕ) (e : Core) → nullable (numbered n e) ≡ nullable e
nullable-numbered n Never = refl
nullable-numbered n Empty = refl
nullable-numbered n (One k) = refl
nullable-numbered n (Alt a b) = rw (nullable-numbered n a, nullable-numbered (n + width a) b) refl
nullable-numbered n (Cat a b) = rw (nullable-numbered n a, nullable-numbered (n + width a) b) refl
nullable-numbered n (Loop a) = nullable-numbered n a

pub kind-number : (n : ℕ) (e : Core) (p : Place (numbered n e)) → kind (numbered n e) p ≡ number n (numbered n e) p
kind-number n Never p = absurd p
kind-number n Empty p = absurd p
kind-number n (One k) p = refl
kind-number n (Alt a b) (inl p) = kind-number n a p
kind-number n (Alt a b) (inr p) = kind-number (n + width a) b p ∙ ap (λ z. number (n + z) (numbered (n + width a) b) p) (sym (width-numbered n a))
kind-number n (Cat a b) (inl p) = kind-number n a p
kind-number n (Cat a b) (inr p) = kind-number (n + width a) b p ∙ ap (λ z. number (n + z) (numbered (n + width a) b) p) (sym (width-numbered n a))
kind-number n (Loop a) p = kind-number n a p

pub number-below : (n : ℕ) (e : Core) (p : Place e) → number n e p < n + width e
number-below n Never p = absurd p
number-below n Empty p = absurd p
number-below n (One k) p = omega arith
number-below n (Alt a b) (inl p) = omega (arith, number-below n a p)
number-below n (Alt a b) (inr p) = omega (arith, number-below (n + width a) b p)
number-below n (Cat a b) (inl p) = omega (arith, number-below n a p)
number-below n (Cat a b) (inr p) = omega (arith, number-below (n + width a) b p)
number-below n (Loop a) p = number-below n a p

pub length-rows : (n : ℕ) (e : Core) → length (rows n e) ≡ width e
length-rows n Never = refl
length-rows n Empty = refl
length-rows n (One k) = refl
length-rows n (Alt a b) = length-append (rows n a) (rows (n + width a) b) ∙ rw (length-rows n a, length-rows (n + width a) b) refl
length-rows n (Cat a b) = length-append (map (onward (firsts (n + width a) b) (nullable b)) (rows n a)) (rows (n + width a) b)
    ∙ rw (length-map (rows n a) (onward (firsts (n + width a) b) (nullable b)), length-rows n a, length-rows (n + width a) b) refl
length-rows n (Loop a) = length-map (rows n a) (again (firsts n a)) ∙ length-rows n a

pub firsts-numbered : (m n : ℕ) (e : Core) → firsts m (numbered n e) ≡ firsts m e
firsts-numbered m n Never = refl
firsts-numbered m n Empty = refl
firsts-numbered m n (One k) = refl
firsts-numbered m n (Alt a b) = rw (width-numbered n a, firsts-numbered m n a, firsts-numbered (m + width a) (n + width a) b) refl
firsts-numbered m n (Cat a b) = rw (width-numbered n a, nullable-numbered n a, firsts-numbered m n a, firsts-numbered (m + width a) (n + width a) b) refl
firsts-numbered m n (Loop a) = firsts-numbered m n a

-- a row without its type
abbrev pub bare : Row → Row
bare r = record { kind = 0; follow = r.follow; ends = r.ends }

bare-onward : (fs : List ℕ) (b : Bool) (rs : List Row) → map bare (map (onward fs b) rs) ≡ map (onward fs b) (map bare rs)
bare-onward fs b [] = refl
bare-onward fs b (r ∷ rs) = ap (λ z. onward fs b (bare r) ∷ z) (bare-onward fs b rs)

bare-again : (fs : List ℕ) (rs : List Row) → map bare (map (again fs) rs) ≡ map (again fs) (map bare rs)
bare-again fs [] = refl
bare-again fs (r ∷ rs) = ap (λ z. again fs (bare r) ∷ z) (bare-again fs rs)

rows-numbered : (m n : ℕ) (e : Core) → map bare (rows m (numbered n e)) ≡ map bare (rows m e)
rows-numbered m n Never = refl
rows-numbered m n Empty = refl
rows-numbered m n (One k) = refl
rows-numbered m n (Alt a b) =
    map-join bare (rows m (numbered n a)) (rows (m + width (numbered n a)) (numbered (n + width a) b))
    ∙ rw (width-numbered n a, rows-numbered m n a, rows-numbered (m + width a) (n + width a) b) (sym (map-join bare (rows m a) (rows (m + width a) b)))
rows-numbered m n (Cat a b) =
    map-join bare (map (onward (firsts (m + width (numbered n a)) (numbered (n + width a) b)) (nullable (numbered (n + width a) b))) (rows m (numbered n a))) (rows (m + width (numbered n a)) (numbered (n + width a) b))
    ∙ rw (bare-onward (firsts (m + width (numbered n a)) (numbered (n + width a) b)) (nullable (numbered (n + width a) b)) (rows m (numbered n a)), width-numbered n a, firsts-numbered (m + width a) (n + width a) b, nullable-numbered (n + width a) b, rows-numbered m n a, rows-numbered (m + width a) (n + width a) b)
    (rw (← bare-onward (firsts (m + width a) b) (nullable b) (rows m a)) (sym (map-join bare (map (onward (firsts (m + width a) b) (nullable b)) (rows m a)) (rows (m + width a) b))))
rows-numbered m n (Loop a) = bare-again (firsts m (numbered n a)) (rows m (numbered n a)) ∙ rw (firsts-numbered m n a, rows-numbered m n a) (sym (bare-again (firsts m a) (rows m a)))

look-bare : (rs : List Row) (k : ℕ) → (look (map bare rs) k).follow ≡ (look rs k).follow
look-bare [] k = refl
look-bare (r ∷ rs) zero = refl
look-bare (r ∷ rs) (suc k) = look-bare rs k

-- the places that may come next are the same
pub follow-numbered : (n : ℕ) (e : Core) (k : ℕ) → (look (rows 0 (numbered n e)) k).follow ≡ (look (rows 0 e) k).follow
follow-numbered n e k = sym (look-bare (rows 0 (numbered n e)) k) ∙ ap (λ (rs : List Row). (look rs k).follow) (rows-numbered 0 n e) ∙ look-bare (rows 0 e) k

-- the types of rows
abbrev row_types : List Row → List ℕ
row_types rs = map (λ (r : Row). r.kind) rs

types-onward : (fs : List ℕ) (b : Bool) (rs : List Row) → row_types (map (onward fs b) rs) ≡ row_types rs
types-onward fs b [] = refl
types-onward fs b (r ∷ rs) = ap (λ z. r.kind ∷ z) (types-onward fs b rs)

types-again : (fs : List ℕ) (rs : List Row) → row_types (map (again fs) rs) ≡ row_types rs
types-again fs [] = refl
types-again fs (r ∷ rs) = ap (λ z. r.kind ∷ z) (types-again fs rs)

rows-types : (n : ℕ) (e : Core) → row_types (rows n e) ≡ place_types e
rows-types n Never = refl
rows-types n Empty = refl
rows-types n (One k) = refl
rows-types n (Alt a b) = map-join (λ (r : Row). r.kind) (rows n a) (rows (n + width a) b) ∙ rw (rows-types n a, rows-types (n + width a) b) refl
rows-types n (Cat a b) = map-join (λ (r : Row). r.kind) (map (onward (firsts (n + width a) b) (nullable b)) (rows n a)) (rows (n + width a) b)
    ∙ rw (types-onward (firsts (n + width a) b) (nullable b) (rows n a), rows-types n a, rows-types (n + width a) b) refl
rows-types n (Loop a) = types-again (firsts n a) (rows n a) ∙ rows-types n a

look-types : (rs : List Row) (k : ℕ) → slice_index_or (row_types rs) k 0 ≡ (look rs k).kind
look-types [] k = refl
look-types (r ∷ rs) zero = refl
look-types (r ∷ rs) (suc k) = look-types rs k

-- the type at a place is that of its row
pub kind-type : (e : Core) (k : ℕ) → (look (rows 0 e) k).kind ≡ slice_index_or (place_types e) k 0
kind-type e k = sym (look-types (rows 0 e) k) ∙ ap (λ (ts : List ℕ). slice_index_or ts k 0) (rows-types 0 e)
