-- Nodes that are made from their type alone.
use Rattle.std.specs.Prelude.{◌≡◌, ◌<◌, ℕ, zero, suc, Bool, true, false, cond, Option, Some, None, option_map, unwrap_or, List, [], ◌∷◌, ◌++◌, map, length, slice_index_or}
use Rattle.pm_auto.specs.declared.auto.Auto.{Auto}
use Rattle.pm_auto.specs.Graph.{Shortest}
use Rattle.pm_auto.specs.Fills.{makeable, filled}
use Rattle.pm_auto.specs.Finish.{all_can}
use Rattle.pm_value.specs.Plain.{null}
use Rattle.pm_value.specs.Views.{plain}
use Rattle.pm_tokens.specs.Tokens.{Attrs, Token, Open, Close, Leaf}
use Rattle.pm_schema.specs.declared.spec.AttrSpec.{AttrSpec}
use Rattle.pm_schema.specs.declared.spec.SchemaSpec.{SchemaSpec}
use Rattle.pm_schema.specs.declared.schema.Schema.{Schema}
use Rattle.pm_tokens.specs.Schemas.{max_size}
use Rattle.pm_schema.specs.Types.{node_at, is_leaf}
use Rattle.pm_schema.specs.Documents.{documents_of}
use Rattle.pm_schema.specs.Made.{can_be_made}
use Rattle.pm_node.specs.declared.filled.FillError.{FillError}
use Rattle.pm_node.specs.declared.filled.FillError.TheVariants.{NotGeneratable, Deep, Large, NoMemory}

-- the list is the shortest of types that can be made which leads from the start to a valid end, the first by the order of edges
abbrev pub IsFill : List Bool → Auto → List ℕ → Type 0
IsFill can a w = Shortest (makeable can a.edges) (filled a true []) 0 w

-- the fill of each type, which has only types that can be made
pub record AreFills (s : Schema) (fills : List (List ℕ)) : Type 0 where
  pub full : length fills ≡ length s.spec.nodes
  pub shortest : (k : ℕ) (d : Auto) → k < length s.spec.nodes → IsFill s.generatable (slice_index_or s.autos k d) (slice_index_or fills k [])
  pub made : (k : ℕ) → k < length s.spec.nodes → all_can s.generatable (slice_index_or fills k []) ≡ true

-- the default of each attribute
abbrev pub defaults : List AttrSpec → Attrs
defaults attrs = map (λ a. unwrap_or (option_map plain a.default) null) attrs

-- a leaf of the type with its default attributes
abbrev pub leaf_tokens : SchemaSpec → ℕ → List Token
leaf_tokens s k = Leaf k (defaults (node_at s k).attrs) [] ∷ []

-- a node of the type with its default attributes around this content
abbrev pub around : SchemaSpec → ℕ → List Token → List Token
around s k ts = Open k (defaults (node_at s k).attrs) [] ∷ (ts ++ (Close ∷ []))

-- one after the other, if both are there
abbrev pub both : Option (List Token) → Option (List Token) → Option (List Token)
both None o = None
both (Some ts) o = option_map (λ us. ts ++ us) o

-- one after another, if all are there
abbrev pub joined : List (Option (List Token)) → Option (List Token)
joined [] = Some []
joined (o ∷ os) = both o (joined os)

-- The tokens of a node of the type that is filled with its fill, of which each node is filled in turn. It is None where
-- more than `levels` nodes would stand one in another, the leaves not counted.
unfoldable pub filled_tokens : SchemaSpec → List (List ℕ) → (levels : ℕ) → ℕ → Option (List Token)
filled_tokens s fills zero k = cond (is_leaf (node_at s k)) (Some (leaf_tokens s k)) None
filled_tokens s fills (suc n) k = cond (is_leaf (node_at s k)) (Some (leaf_tokens s k)) (option_map (around s k) (joined (map (filled_tokens s fills n) (slice_index_or fills k []))))

-- what filling a node of the type gives: these tokens, or None where it nests more than 48 levels below the node
pub record Filling (s : Schema) (k : ℕ) (o : Option (List Token)) : Type 0 where
  pub fills : List (List ℕ)
  pub of_types : AreFills s fills
  pub tokens : filled_tokens s.spec fills 49 k ≡ o

-- the type can be made
abbrev pub CanBeMade : Schema → ℕ → Type 0
CanBeMade s k = can_be_made (node_at s.spec k) ≡ true

-- the filled node has more tokens than the schema allows a document
pub record TooLarge (s : Schema) (k : ℕ) : Type 0 where
  pub tokens : List Token
  pub filling : Filling s k (Some tokens)
  pub large : max_size (documents_of s.spec) < length tokens

-- Why there is no filled node: the type can't be made; else it nests too deep; else it is too large; running out of memory
-- at any time.
abbrev pub IsFillFault : Schema → ℕ → FillError → Type 0
IsFillFault s k NotGeneratable = can_be_made (node_at s.spec k) ≡ false
IsFillFault s k Deep = CanBeMade s k × Filling s k None
IsFillFault s k Large = CanBeMade s k × TooLarge s k
IsFillFault s k NoMemory = Unit {0}
