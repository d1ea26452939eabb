-- Steps, as documents see them.
use Rattle.std.specs.Prelude.{ℕ, ◌<◌, ◌^◌}
use Rattle.pm_value.specs.Views.{plain}
use Rattle.pm_marks.specs.declared.mark.Mark.{Mark}
use Rattle.pm_tokens.specs.Tokens.{Attrs}
use Rattle.pm_meaning.specs.Steps as steps
use Rattle.pm_meaning.specs.Maps.{is_within}
use Rattle.pm_step.specs.declared.marking.Marking.{Marking}
use Rattle.pm_step.specs.declared.marking.Marking.TheVariants.{Add, Remove}
use Rattle.pm_step.specs.declared.step.Step.{Step}
use Rattle.pm_step.specs.declared.step.Step.TheVariants.{Replace, ReplaceAround, Mark as OfMark, NodeMark, Attr, DocAttr}
use Rattle.pm_step.specs.Values.{as_value}

-- the mark that is added, or taken away
abbrev pub mark_in : Marking → Mark Attrs
mark_in (Add m) = m
mark_in (Remove m) = m

-- the step that does this to a range, or to the node that begins at a position
abbrev pub range_step : Marking → ℕ → ℕ → steps.Step
range_step (Add m) from to = steps.AddMark from to m
range_step (Remove m) from to = steps.RemoveMark from to m

abbrev pub node_step : Marking → ℕ → steps.Step
node_step (Add m) pos = steps.AddNodeMark pos m
node_step (Remove m) pos = steps.RemoveNodeMark pos m

-- what takes the marking of a range back, where one step does
abbrev pub opposite : Marking → Marking
opposite (Add m) = Remove m
opposite (Remove m) = Add m

-- what the step is among the steps that are given a meaning
abbrev pub step_of : Step → steps.Step
step_of (Replace s) = steps.Replace s.from s.to s.slice s.structure
step_of (ReplaceAround s) = steps.ReplaceAround s.from s.to s.gap_from s.gap_to s.slice s.insert s.structure
step_of (OfMark s) = range_step s.marking s.from s.to
step_of (NodeMark s) = node_step s.marking s.pos
step_of (Attr s) = steps.Attr s.pos s.attr (plain s.value)
step_of (DocAttr s) = steps.DocAttr s.attr (plain s.value)

-- and the step that is given this meaning
abbrev pub as_step : steps.Step → Step
as_step (steps.Replace from to slice structure) = Replace (record { from = from; to = to; slice = slice; structure = structure })
as_step (steps.ReplaceAround from to gap_from gap_to slice insert structure) =
    ReplaceAround (record { from = from; to = to; gap_from = gap_from; gap_to = gap_to; slice = slice; insert = insert; structure = structure })
as_step (steps.AddMark from to mark) = OfMark (record { from = from; to = to; marking = Add mark })
as_step (steps.RemoveMark from to mark) = OfMark (record { from = from; to = to; marking = Remove mark })
as_step (steps.AddNodeMark pos mark) = NodeMark (record { pos = pos; marking = Add mark })
as_step (steps.RemoveNodeMark pos mark) = NodeMark (record { pos = pos; marking = Remove mark })
as_step (steps.Attr pos name value) = Attr (record { pos = pos; attr = name; value = as_value value })
as_step (steps.DocAttr name value) = DocAttr (record { attr = name; value = as_value value })

-- the step is within some size below 2^32
abbrev pub HasSize : steps.Step → Type 0
HasSize s = (n : ℕ) × (n < 2 ^ 32) × is_within s n
