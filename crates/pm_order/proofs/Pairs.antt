-- Lists that are no pair.
use Rattle.std.proofs.Common.{◌≡◌, ◌≤◌, ◌<◌, List, [], ◌∷◌, length, refl, arith, Err}
use Rattle.serde_json.specs.View.{items_view}
use Rattle.serde_json.specs.declared.value.Value.{Value}
use Rattle.pm_head.specs.declared.code.Code.TheVariants.{WrongShape}
use Rattle.pm_order.specs.Positions.{pair_from}

pub too-short : (items : List Value) → length items < 2 → pair_from (items_view items) ≡ Err WrongShape
too-short [] h = refl
too-short (x ∷ []) h = refl
too-short (x ∷ y ∷ rest) h = absurd (omega (arith, h))

pub too-long : (items : List Value) → 3 ≤ length items → pair_from (items_view items) ≡ Err WrongShape
too-long [] h = absurd (omega (arith, h))
too-long (x ∷ []) h = absurd (omega (arith, h))
too-long (x ∷ y ∷ []) h = absurd (omega (arith, h))
too-long (x ∷ y ∷ z ∷ rest) h = refl
