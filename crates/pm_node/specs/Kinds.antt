-- The types that nodes count as among their parent's children.
use Rattle.std.specs.Prelude.{ℕ, List, [], ◌∷◌}
use Rattle.std.specs.declared.sync.Arc.{Arc}
use Rattle.std.specs.Arc.{arc_value}
use Rattle.pm_node.specs.declared.node.Node.{Node}
use Rattle.pm_node.specs.declared.node.Body.{Body}
use Rattle.pm_node.specs.declared.node.Body.TheVariants.{Text, Leaf as Childless, Children}

abbrev pub body_kind : (text kind : ℕ) → Body → ℕ
body_kind text kind (Text us) = text
body_kind text kind Childless = kind
body_kind text kind (Children ts) = kind

-- a text counts as a text, whatever its type says
abbrev pub kind_in : ℕ → Node → ℕ
kind_in text n = body_kind text n.kind n.body

-- the types of the children
abbrev pub kinds : {Z : Type 0} → ℕ → List (Arc Node Z) → List ℕ
kinds text [] = []
kinds text (x ∷ xs) = kind_in text (arc_value x) ∷ kinds text xs
