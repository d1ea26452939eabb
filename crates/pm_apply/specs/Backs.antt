-- The one step that may take a marking back.
use Rattle.std.specs.Prelude.{ℕ, cond, List}
use Rattle.pm_attrs.specs.Attrs.{same_attrs}
use Rattle.pm_marks.specs.Sets.{has}
use Rattle.pm_tokens.specs.Tokens.{Marks, Token}
use Rattle.pm_tokens.specs.Schemas.{Schema}
use Rattle.pm_meaning.specs.Steps.{Step, AddNodeMark, RemoveNodeMark}
use Rattle.pm_meaning.specs.Inverses.{add_node_back}
use Rattle.pm_step.specs.declared.marking.Marking.{Marking}
use Rattle.pm_step.specs.declared.marking.Marking.TheVariants.{Add, Remove}
use Rattle.pm_apply.specs.declared.marking.Reach.TheVariants.{Inline}
use Rattle.pm_apply.specs.Markings.{marked_in, new_marks}

-- for the node at a position, by its old and its new marks
abbrev pub back_step : Marking → ℕ → Marks → Marks → Step
back_step (Add m) pos old new = add_node_back pos m old new
back_step (Remove m) pos old new = cond (has same_attrs old m) (AddNodeMark pos m) (RemoveNodeMark pos m)

-- the marks of a token under a parent of the type, changed and changed back
abbrev pub twice : Schema → Marking → Marking → ℕ → Token → Marks → Marks
twice s marking back parent t old = new_marks s back Inline parent t (new_marks s marking Inline parent t old)

-- the tokens with the marks in from..to changed, and changed back
abbrev pub marked_twice : Schema → Marking → Marking → List ℕ → ℕ → ℕ → List Token → List Token
marked_twice s marking back ps from to ts = marked_in (new_marks s back Inline) ps from to (marked_in (new_marks s marking Inline) ps from to ts)
