-- Choices and sequences of parts.
use Rattle.std.proofs.Common.{◌≡◌, List, [], ◌∷◌, length, refl}
use Rattle.pm_auto.specs.Tree.{Tree, Trees, gathered}
use Rattle.pm_expr.specs.Names.{joined}

-- other than one part
pub joined-many : (f : Trees → Tree) (ts : List Tree) → (length ts ≡ 1 → ⊥) → f (gathered ts) ≡ joined f ts
joined-many f [] h = refl
joined-many f (t ∷ []) h = absurd (h refl)
joined-many f (t ∷ u ∷ ts) h = refl
