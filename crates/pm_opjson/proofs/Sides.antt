-- The two sides of a cursor.
use Rattle.std.proofs.Common.{◌≡◌, ℤ, pos, negsuc, Bool, true, false, refl, ap, Some, None}
use Rattle.std.specs.Prelude.{◌==◌, if◌then◌else◌}
use Rattle.std.proofs.lemmas.Bool.{eqb-true}
use Rattle.pm_map.specs.declared.side.Side.TheVariants.{Before, After}
use Rattle.pm_opjson.specs.Fields.{as_side}

-- no other number is a side
pub no_side : (z : ℤ) → (z ≡ pos 1 → ⊥) → (z ≡ negsuc 0 → ⊥) → as_side z ≡ None
no_side (pos n) h k = from (n == 1) refl
  where
    from : (b : Bool) → (n == 1) ≡ b → (if b then Some After else None) ≡ None
    from true e = absurd (h (ap pos (eqb-true n 1 e)))
    from false e = refl
no_side (negsuc n) h k = from (n == 0) refl
  where
    from : (b : Bool) → (n == 0) ≡ b → (if b then Some Before else None) ≡ None
    from true e = absurd (k (ap negsuc (eqb-true n 0 e)))
    from false e = refl

pub ruleset sides = (no_side)
