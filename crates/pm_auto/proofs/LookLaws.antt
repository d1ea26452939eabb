-- The row of a place stands at its number.
use Rattle.std.specs.Prelude.{◌≡◌, ℕ, zero, suc, ◌+◌, length, List, [], ◌∷◌, ◌++◌, map, ◌⊎◌}
use Rattle.std.proofs.Common.{refl, ap, sym, ◌∙◌, inl, inr, arith, append_assoc, append-nil}
use Rattle.pm_auto.specs.Core.{Core, Never, Empty, One, Alt, Cat, Loop, Place}
use Rattle.pm_auto.specs.Table.{width, rows}
use Rattle.pm_auto.specs.Numbers.{places, number, row}
use Rattle.pm_auto.specs.Runs.{look}
use Rattle.pm_auto.specs.declared.places.Row.{Row}
use Rattle.pm_auto.proofs.TableLaws.{map-join, map-over, rows-places}

length-join : (u v : List Row) → length (u ++ v) ≡ length u + length v
length-join [] v = omega arith
length-join (x ∷ u) v = omega (arith, length-join u v)

length-map : {A : Type 0} (f : A → Row) (u : List A) → length (map f u) ≡ length u
length-map f [] = refl
length-map f (x ∷ u) = ap suc (length-map f u)

look-at : (xs ys : List Row) (r : Row) (n : ℕ) → length xs ≡ n → look (xs ++ r ∷ ys) n ≡ r
look-at [] ys r zero e = refl
look-at [] ys r (suc n) e = absurd (omega (arith, e))
look-at (x ∷ xs) ys r zero e = absurd (omega (arith, e))
look-at (x ∷ xs) ys r (suc n) e = look-at xs ys r n (omega (arith, e))

length-places : (e : Core) (f : Place e → Row) → length (map f (places e)) ≡ width e
length-places Never f = refl
length-places Empty f = refl
length-places (One k) f = omega arith
length-places (Alt a b) f = ap length (map-join f (map inl (places a)) (map inr (places b))) ∙ rw (map-over f inl (λ p. f (inl p)) (λ p. refl) (places a), map-over f inr (λ p. f (inr p)) (λ p. refl) (places b), length-join (map (λ p. f (inl p)) (places a)) (map (λ p. f (inr p)) (places b)), length-places a (λ p. f (inl p)), length-places b (λ p. f (inr p))) refl
length-places (Cat a b) f = ap length (map-join f (map inl (places a)) (map inr (places b))) ∙ rw (map-over f inl (λ p. f (inl p)) (λ p. refl) (places a), map-over f inr (λ p. f (inr p)) (λ p. refl) (places b), length-join (map (λ p. f (inl p)) (places a)) (map (λ p. f (inr p)) (places b)), length-places a (λ p. f (inl p)), length-places b (λ p. f (inr p))) refl
length-places (Loop a) f = length-places a f

-- the rows of two parts, with what stands before and after
two-parts : {A : Type 0} {B : Type 0} (f : A ⊎ B → Row) (as_ : List A) (bs : List B) (ys : List Row) → map f (map inl as_ ++ map inr bs) ++ ys ≡ map (λ p. f (inl p)) as_ ++ (map (λ p. f (inr p)) bs ++ ys)
two-parts f as_ bs ys = ap (λ z. z ++ ys) (map-join f (map inl as_) (map inr bs)) ∙ rw (map-over f inl (λ p. f (inl p)) (λ p. refl) as_, map-over f inr (λ p. f (inr p)) (λ p. refl) bs) (append_assoc (map (λ p. f (inl p)) as_) (map (λ p. f (inr p)) bs) ys)

look-place : (e : Core) (p : Place e) (f : Place e → Row) (n : ℕ) (xs ys : List Row) → length xs ≡ n → look (xs ++ (map f (places e) ++ ys)) (number n e p) ≡ f p
look-place Never p f n xs ys h = absurd p
look-place Empty p f n xs ys h = absurd p
look-place (One k) p f n xs ys h = look-at xs ys (f tt) n h
look-place (Alt a b) (inl p) f n xs ys h = ap (λ z. look (xs ++ z) (number n a p)) (two-parts f (places a) (places b) ys) ∙ look-place a p (λ q. f (inl q)) n xs (map (λ q. f (inr q)) (places b) ++ ys) h
look-place (Alt a b) (inr p) f n xs ys h = ap (λ z. look z (number (n + width a) b p)) (ap (λ z. xs ++ z) (two-parts f (places a) (places b) ys) ∙ sym (append_assoc xs (map (λ q. f (inl q)) (places a)) (map (λ q. f (inr q)) (places b) ++ ys)))
    ∙ look-place b p (λ q. f (inr q)) (n + width a) (xs ++ map (λ q. f (inl q)) (places a)) ys (omega (arith, h, length-join xs (map (λ q. f (inl q)) (places a)), length-places a (λ q. f (inl q))))
look-place (Cat a b) (inl p) f n xs ys h = ap (λ z. look (xs ++ z) (number n a p)) (two-parts f (places a) (places b) ys) ∙ look-place a p (λ q. f (inl q)) n xs (map (λ q. f (inr q)) (places b) ++ ys) h
look-place (Cat a b) (inr p) f n xs ys h = ap (λ z. look z (number (n + width a) b p)) (ap (λ z. xs ++ z) (two-parts f (places a) (places b) ys) ∙ sym (append_assoc xs (map (λ q. f (inl q)) (places a)) (map (λ q. f (inr q)) (places b) ++ ys)))
    ∙ look-place b p (λ q. f (inr q)) (n + width a) (xs ++ map (λ q. f (inl q)) (places a)) ys (omega (arith, h, length-join xs (map (λ q. f (inl q)) (places a)), length-places a (λ q. f (inl q))))
look-place (Loop a) p f n xs ys h = look-place a p f n xs ys h

-- the table has the row of each place at its number
pub look-row : (e : Core) (p : Place e) → look (rows 0 e) (number 0 e p) ≡ row 0 e p
look-row e p = ap (λ z. look z (number 0 e p)) (sym (rows-places 0 e) ∙ sym (append-nil (map (row 0 e) (places e)))) ∙ look-place e p (row 0 e) 0 [] [] refl
