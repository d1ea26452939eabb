-- Which types can be made without being told anything.
use Rattle.std.specs.Prelude.{Bool, not, ◌&&◌}
use Rattle.std.specs.List.{list_any}
use Rattle.pm_schema.specs.declared.spec.NodeSpec.{NodeSpec}
use Rattle.pm_schema.specs.Types.{is_text, is_leaf, is_required}

-- the type has an attribute without default
abbrev pub needs_attrs : NodeSpec → Bool
needs_attrs n = list_any is_required n.attrs

-- not the type of texts, and no attribute without default
abbrev pub can_be_made : NodeSpec → Bool
can_be_made n = not (is_text n) && not (needs_attrs n)

-- no leaf, and no attribute without default
abbrev pub can_wrap : NodeSpec → Bool
can_wrap n = not (is_leaf n) && not (needs_attrs n)
