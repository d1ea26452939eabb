-- What tells where positions go over a mapping.
use Rattle.std.specs.Prelude.{◌≡◌, ℕ, List}
use Rattle.pm_map.specs.declared.mapping.Mirrored.{Mirrored}
use Rattle.pm_map.specs.Through.{ArePaired}
use Rattle.pm_map.specs.Fits.{FitBetween}

-- A value p stands for mappings by `leads`, each of which leads from a document of one size to one of another. It may lead x
-- where x is within a document from which one of these mappings leads.
abbrev pub MayLead : {X P : Type 0} → (X → ℕ → Type 0) → (P → List Mirrored → ℕ → ℕ → Type 0) → X → P → Type 0
MayLead within leads x p = (ms : List Mirrored) × (n : ℕ) × (k : ℕ) × (leads p ms n k × within x n)

-- the fact holds of each of these mappings that leads from a document that x is within
abbrev pub EachLed : {X P : Type 0} → (X → ℕ → Type 0) → (P → List Mirrored → ℕ → ℕ → Type 0) → X → P → (List Mirrored → Type 0) → Type 0
EachLed within leads x p holds = (ms : List Mirrored) (n k : ℕ) → leads p ms n k → within x n → holds ms

-- A mapping stands for itself, between sizes that it fits.
pub record IsItself (m ms : List Mirrored) (n k : ℕ) : Type 0 where
  pub is : m ≡ ms
  pub paired : ArePaired ms
  pub fits : FitBetween ms n k
