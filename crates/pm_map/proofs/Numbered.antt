-- The map of a number in a mapping.
use Rattle.std.specs.Prelude.{◌≡◌, ℕ, zero, suc, ◌<◌, List, [], ◌∷◌, length, get_or}
use Rattle.std.proofs.Common.{ap, arith}
use Rattle.pm_map.specs.declared.mapping.Mirrored.{Mirrored}
use Rattle.pm_map.specs.Through.{partner}

pub partner-at : (ms : List Mirrored) (i : ℕ) (e : Mirrored) → i < length ms → e ≡ get_or ms i e → e.map ≡ partner ms i
partner-at [] i e h is = absurd (omega arith)
partner-at (d ∷ ms) zero e h is = ap (λ (x : Mirrored). x.map) is
partner-at (d ∷ ms) (suc i) e h is = partner-at ms i e (omega arith) is
