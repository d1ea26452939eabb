-- What was found, or not.
use Rattle.std.specs.Prelude.{◌≡◌, Option, Some, None, option_map}
use Rattle.std.proofs.Common.{refl}

module _ {X Y : Type 0} (g : X → Y) where
  pub not-found : (o : Option X) → ((x : X) → o ≡ Some x → ⊥) → option_map g o ≡ None
  not-found None h = refl
  not-found (Some x) h = absurd (h x refl)

pub is-none : {X : Type 0} (o : Option X) → ((x : X) → o ≡ Some x → ⊥) → o ≡ None
is-none None h = refl
is-none (Some x) h = absurd (h x refl)
