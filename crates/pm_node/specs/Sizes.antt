-- The sizes of filled nodes, of which those that are too large are told from no other.
use Rattle.std.specs.Prelude.{◌≡◌, ◌<◌, ◌≤◌, ℕ, min, Option, Some, None, option_map, List, length, slice_index_or}
use Rattle.pm_tokens.specs.Tokens.{Token}
use Rattle.pm_schema.specs.declared.spec.SchemaSpec.{SchemaSpec}
use Rattle.pm_node.specs.Filled.{filled_tokens}

-- the size, if there are tokens; any size above 1,000,000, which no schema allows, counts as 1,000,001
abbrev pub measured : Option (List Token) → Option ℕ
measured o = option_map (λ ts. min (length ts) 1000001) o

-- the table has the size of each type's filled node
abbrev pub Sizes : SchemaSpec → List (List ℕ) → (levels : ℕ) → List (Option ℕ) → Type 0
Sizes s fills n sizes = (k : ℕ) → k < length s.nodes → slice_index_or sizes k None ≡ measured (filled_tokens s fills n k)

-- there are tokens, at most 1,000,000
abbrev pub Small : Option (List Token) → Type 0
Small None = ⊥
Small (Some ts) = length ts ≤ 1000000
