-- The number of places of an expansion.
use Rattle.std.proofs.Common.{◌≡◌, ℕ, zero, suc, ◌+◌, ◌-◌, ◌*◌, ◌≤◌, min, max, ◌<◌, List, [], ◌∷◌, map, Option, Some, None, refl, ap, ◌∙◌, arith, inl, inr, ◌⊎◌}
use Rattle.std.proofs.Math.Nat.{mul-le-mul_left, mul_comm, add-mul}
use Rattle.pm_auto.proofs.Orders.{le_or_lt}
use Rattle.pm_auto.specs.Core.{Core, Empty, Cat, Alt}
use Rattle.pm_auto.specs.Expand.{optional, in_turn, one_of, and_copies, range, written, expand, expand_all}
use Rattle.pm_auto.specs.Table.{width, widths}
use Rattle.pm_auto.specs.declared.expr.Expr.{Row_of-Expr, end_of-Expr, more_of-Expr, items-the_row-Expr}

pub expand_all-items : (n : _) (es : Row_of-Expr n) → expand_all es ≡ map expand (items-the_row-Expr n es)
expand_all-items n end_of-Expr = refl
expand_all-items n (more_of-Expr e es) = ap (λ z. expand e ∷ z) (expand_all-items _ es)

pub width-in_turn : (e : Core) (ds : List Core) → width (in_turn e ds) ≡ width e + widths ds
width-in_turn e [] = omega arith
width-in_turn e (d ∷ ds) = omega (arith, width-in_turn (Cat e d) ds)

pub width-one_of : (e : Core) (ds : List Core) → width (one_of e ds) ≡ width e + widths ds
width-one_of e [] = omega arith
width-one_of e (d ∷ ds) = omega (arith, width-one_of (Alt e d) ds)

pub width-and_copies : (n : ℕ) (e d : Core) → width (and_copies e n d) ≡ width e + n * width d
width-and_copies zero e d = omega arith
width-and_copies (suc n) e d = omega (arith, width-and_copies n (Cat e d) d)

pub width-range : (e : Core) (n : ℕ) (m : Option ℕ) → width (range e n m) ≡ written n m * width e
width-range e n None = omega (arith, width-and_copies n Empty e)
width-range e n (Some m) =
    let a = width-and_copies n Empty e in
    let b = width-and_copies (m - n) (and_copies Empty n e) (optional e) in
    let c : n + (m - n) ≡ max n m = omega arith in
    b ∙ ap (λ z. z + (m - n) * width (optional e)) a ∙ rw (← c) (omega (arith, add-mul n (m - n) (width e)))

-- a product above the cap stays above it
pub min-times : (w k c : ℕ) → w ≡ min c 4097 → min (w * k) 4097 ≡ min (k * c) 4097
min-times w zero c is = omega arith
min-times w (suc k) c is = at (le_or_lt c 4097)
  where
    at : (c ≤ 4097) ⊎ (4097 < c) → min (w * suc k) 4097 ≡ min (suc k * c) 4097
    at (inl l) = let e : w ≡ c = omega arith in rw e (ap (λ z. min z 4097) (mul_comm c (suc k)))
    at (inr l) = let e : w ≡ 4097 = omega arith in let big : k * 4097 ≤ k * c = mul-le-mul_left k (omega arith) in rw e (omega arith)

pub min-more : (a b s w : ℕ) → w ≡ min a 4097 → min (s + (a + b)) 4097 ≡ min (min (s + w) 4097 + b) 4097
min-more a b s w is = omega arith
