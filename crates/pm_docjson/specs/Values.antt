-- The attributes of a type by their names.
use Rattle.std.specs.Prelude.{ℕ, List, [], ◌∷◌, map, Option, Some, None, option_and_then, option_map, if◌then◌else◌}
use Rattle.std.specs.List.{list_any}
use Rattle.pm_value.specs.Plain.{Plain}
use Rattle.pm_schema.specs.declared.spec.AttrSpec.{AttrSpec}
use Rattle.pm_schema.specs.Attrs.{value_for, is_unknown, is_other_kind}

-- values, each under its name
abbrev pub Given : Type 0
Given = List (List ℕ × Plain)

-- the names of attributes, in their order
abbrev pub keys : List AttrSpec → List (List ℕ)
keys attrs = map (λ a. a.name) attrs

-- each attribute's value: the one that is given for it, else its default; None where one has neither
abbrev pub all_values : Given → List AttrSpec → Option (List Plain)
all_values given [] = Some []
all_values given (a ∷ more) = option_and_then (λ v. option_map (λ vs. v ∷ vs) (all_values given more)) (value_for given a)

-- the attributes where these values are given; None also where a value is given for an attribute that is not declared, or of
-- a kind that its attribute does not name
unfoldable pub values_for : List AttrSpec → Given → Option (List Plain)
values_for attrs given = if list_any (is_unknown attrs) given then None else (if list_any (is_other_kind given) attrs then None else all_values given attrs)
