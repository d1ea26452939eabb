-- What documents need of a schema.
use Rattle.std.specs.Prelude.{ℕ, ◌==◌, nat_le, Bool, true, false, ◌&&◌, ◌||◌, if◌then◌else◌, List, [], ◌∷◌, Option, Some, None, position}
use Rattle.std.specs.List.{list_any}
use Rattle.std.specs.Str.{bytes_eq}
use Rattle.pm_value.specs.Plain.{Plain, depth}
use Rattle.pm_value.specs.Kinds.{is_allowed}
use Rattle.pm_value.specs.declared.kinds.Kinds.{Kinds}

-- an attribute that a type declares: its name as bytes, and the kinds of values that it may have, any where none are named
pub record Declared : Type 0 where
  pub name : List ℕ
  pub kinds : Option Kinds

-- Node types and mark types are numbers, by their places in the schema.
pub record Schema : Type 0 where
  -- the type of texts
  pub text : ℕ
  -- these types may stand in this order as the children of a node of the type
  pub accepts : ℕ → List ℕ → Bool
  -- the types that may stand first in a node of the type
  pub starts : ℕ → List ℕ
  pub is_leaf : ℕ → Bool
  pub is_inline : ℕ → Bool
  pub is_atom : ℕ → Bool
  -- the parent's type allows marks of the mark type
  pub allows : ℕ → ℕ → Bool
  -- which mark types exclude which: row a says at place b whether type a excludes type b
  pub excludes : List (List Bool)
  -- the attributes that the type declares, in byte order of their names; None where there is no such type
  pub node_declares : ℕ → Option (List Declared)
  pub mark_declares : ℕ → Option (List Declared)
  -- of the session file: 1 or 2
  pub version : ℕ

-- a value of depth at most 4, of a named kind where kinds are named
abbrev pub takes : Declared → Plain → Bool
takes a v = nat_le (depth v) 4 && is_allowed a.kinds v

-- the values are one for each attribute, and each takes its value
abbrev pub fit_declared : List Declared → List Plain → Bool
fit_declared [] [] = true
fit_declared (a ∷ as') (v ∷ vs) = takes a v && fit_declared as' vs
fit_declared _ _ = false

-- there is such a type, and the values are those of its attributes
abbrev pub fit_type : Option (List Declared) → List Plain → Bool
fit_type None values = false
fit_type (Some as') values = fit_declared as' values

-- the values are those of the attributes that the node type declares
abbrev pub node_attrs : Schema → ℕ → List Plain → Bool
node_attrs s k values = fit_type (s.node_declares k) values

-- those that the mark type declares
abbrev pub mark_attrs : Schema → ℕ → List Plain → Bool
mark_attrs s m values = fit_type (s.mark_declares m) values

-- the place of the attribute of the name
abbrev pub attr_place : List ℕ → List Declared → Option ℕ
attr_place name as' = position (λ a. bytes_eq name a.name) as'

-- some type stands in both lists
abbrev pub share : List ℕ → List ℕ → Bool
share ks js = list_any (λ k. list_any (λ j. k == j) js) ks

-- two types are compatible where they are one type, or some type may stand first in both
abbrev pub compatible : Schema → ℕ → ℕ → Bool
compatible s a b = (a == b) || share (s.starts a) (s.starts b)

-- how many tokens a document may have: 500,000 in version 1, and 1,000,000 in version 2
abbrev pub max_size : Schema → ℕ
max_size s = if s.version == 1 then 500000 else 1000000

-- how many nodes may be open at a position
abbrev pub max_depth : ℕ
max_depth = 48
