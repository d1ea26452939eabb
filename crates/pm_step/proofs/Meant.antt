-- A step is the one that has its meaning.
use Rattle.std.proofs.Common.{◌≡◌, ℕ, refl, ap}
use Rattle.pm_step.specs.declared.marking.Marking.{Marking}
use Rattle.pm_step.specs.declared.marking.Marking.TheVariants.{Add, Remove}
use Rattle.pm_step.specs.declared.step.Step.{Step}
use Rattle.pm_step.specs.declared.step.Step.TheVariants.{Replace, ReplaceAround, Mark, NodeMark, Attr, DocAttr}
use Rattle.pm_step.specs.Steps.{as_step, node_step, range_step, step_of}
use Rattle.pm_step.specs.Values.{value-meant}

range-meant : (m : Marking) (from to : ℕ) → as_step (range_step m from to) ≡ Mark (record { from = from; to = to; marking = m })
range-meant (Add m) from to = refl
range-meant (Remove m) from to = refl

node-meant : (m : Marking) (pos : ℕ) → as_step (node_step m pos) ≡ NodeMark (record { pos = pos; marking = m })
node-meant (Add m) pos = refl
node-meant (Remove m) pos = refl

pub step-meant : (s : Step) → as_step (step_of s) ≡ s
step-meant (Replace s) = refl
step-meant (ReplaceAround s) = refl
step-meant (Mark s) = range-meant s.marking s.from s.to
step-meant (NodeMark s) = node-meant s.marking s.pos
step-meant (Attr s) = ap (λ v. Attr (record { pos = s.pos; attr = s.attr; value = v })) (value-meant s.value)
step-meant (DocAttr s) = ap (λ v. DocAttr (record { attr = s.attr; value = v })) (value-meant s.value)
