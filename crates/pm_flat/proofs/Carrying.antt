-- Positions that maps lead to, below 2^32.
use Rattle.std.proofs.Common.{◌≡◌, ◌≤◌, ◌<◌, ◌^◌, ℕ, List, [], ◌∷◌, ap, arith}
use Rattle.pm_map.specs.declared.side.Side.{Side}
use Rattle.pm_map.specs.declared.step_map.Moved.{Moved}
use Rattle.pm_map.specs.declared.mapping.Mirrored.{Mirrored}
use Rattle.pm_map.specs.Through.{ArePaired, through}
use Rattle.pm_map.specs.Fits.{FitBetween}
use Rattle.pm_map.proofs.Sizes.{position-fits}

last-small : (ms : List Mirrored) (n k : ℕ) → FitBetween ms n k → k < 2 ^ 32
last-small [] n k h = omega (arith, h.0, h.1)
last-small (e ∷ es) n k (mid, h) = last-small es mid k h.2

pub lands-small : (ms : List Mirrored) (n k p : ℕ) (side : Side) (m : Moved) → ArePaired ms × FitBetween ms n k → p ≤ n → m ≡ through ms p side → m.pos < 2 ^ 32
lands-small ms n k p side m h within is =
    let there = (position-fits ms n k p side h.0 h.1 within).1 in
    omega (arith, ap (λ (x : Moved). x.pos) is, there, last-small ms n k h.1)
