-- The attributes that a type declares, by their names.
use Rattle.std.specs.Prelude.{ℕ, List, map}
use Rattle.pm_value.specs.Kept.{InOrder}
use Rattle.pm_schema.specs.declared.spec.AttrSpec.{AttrSpec}

-- their names, in their order
abbrev pub attr_names : List AttrSpec → List (List ℕ)
attr_names attrs = map (λ a. a.name) attrs

-- they stand in strict byte order of their names, so no name stands twice
abbrev pub AreInOrder : List AttrSpec → Type 0
AreInOrder attrs = InOrder (attr_names attrs)
