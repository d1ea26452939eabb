-- What defaults have to be: of the kinds that are named, and values that JSON gives.
use Rattle.std.specs.Prelude.{◌≡◌, nat_le, Bool, true, List, Option, Some, None}
use Rattle.std.specs.List.{list_all}
use Rattle.pm_value.specs.Plain.{depth}
use Rattle.pm_value.specs.Kinds.{is_allowed}
use Rattle.pm_value.specs.declared.kinds.Kinds.{Kinds}
use Rattle.pm_value.specs.Views.{plain}
use Rattle.pm_value.specs.declared.value.Value.{Value}
use Rattle.pm_schema.specs.declared.spec.AttrSpec.{AttrSpec}
use Rattle.pm_schema.specs.declared.spec.SchemaSpec.{SchemaSpec}

-- a default, if there is one, is of a kind that is named
abbrev pub is_kind_of_default : Option Kinds → Option Value → Bool
is_kind_of_default ks None = true
is_kind_of_default ks (Some v) = is_allowed ks (plain v)

-- the default of each attribute is
abbrev pub have_kinds : List AttrSpec → Bool
have_kinds attrs = list_all (λ a. is_kind_of_default a.validate a.default) attrs

-- the default of each attribute of each node type is
abbrev pub nodes_have_kinds : SchemaSpec → Bool
nodes_have_kinds s = list_all (λ n. have_kinds n.attrs) s.nodes

-- and of each mark type
abbrev pub marks_have_kinds : SchemaSpec → Bool
marks_have_kinds s = list_all (λ m. have_kinds m.attrs) s.marks

-- a default, if there is one, nests at most four levels deep
abbrev pub is_shallow : Option Value → Bool
is_shallow None = true
is_shallow (Some v) = nat_le (depth (plain v)) 4

-- the default of each attribute does
abbrev pub are_shallow : List AttrSpec → Bool
are_shallow attrs = list_all (λ a. is_shallow a.default) attrs

-- the default of each attribute of each type does
pub record HasShallowDefaults (s : SchemaSpec) : Type 0 where
  pub nodes : list_all (λ n. are_shallow n.attrs) s.nodes ≡ true
  pub marks : list_all (λ m. are_shallow m.attrs) s.marks ≡ true
