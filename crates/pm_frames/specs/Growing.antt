-- Mappings that grow, for which a value stands.
use Rattle.std.specs.Prelude.{ℕ, ◌<◌, ◌^◌, List}
use Rattle.pm_map.specs.declared.step_map.Span.{Span}
use Rattle.pm_map.specs.declared.mapping.Mirrored.{Mirrored}
use Rattle.pm_map.specs.Mirrors.{pushed, fronted, enclosed}
use Rattle.pm_map.specs.Fits.{FitsSizes}

-- A map was put after each mapping for which the value stood, where the sizes fit.
abbrev pub HasPushed : {P : Type 0} → (P → List Mirrored → ℕ → ℕ → Type 0) → P → List Span → P → Type 0
HasPushed leads old map new =
    (ms : List Mirrored) (n l k : ℕ) → k < 2 ^ 32 → FitsSizes map l k → leads old ms n l → leads new (pushed ms map) n k

-- and one at the front
abbrev pub HasFronted : {P : Type 0} → (P → List Mirrored → ℕ → ℕ → Type 0) → P → List Span → P → Type 0
HasFronted leads old front new =
    (ms : List Mirrored) (n m k : ℕ) → n < 2 ^ 32 → FitsSizes front n m → leads old ms m k → leads new (fronted ms front) n k

-- and a pair around it
abbrev pub HasEnclosed : {P : Type 0} → (P → List Mirrored → ℕ → ℕ → Type 0) → P → List Span → List Span → P → Type 0
HasEnclosed leads old front behind new =
    (ms : List Mirrored) (n m l k : ℕ) → n < 2 ^ 32 → k < 2 ^ 32 → FitsSizes front n m → FitsSizes behind l k
    → leads old ms m l → leads new (enclosed ms front behind) n k
