use Rattle.std.proofs.Common.{◌∙◌, sym}
use Rattle.pm_selective.proofs.Readings.{first-end, splice-two, splice-one, splice-none}
use Rattle.pm_selective.proofs.telling.is_splice_map.Goals as goal

pub reach_of-requires : goal.reach_of-requires
reach_of-requires c = first-end c.args.map.now c.in-Some-Some.first c.ordered.ensures (sym c.span.ensures ∙ c.in-Some-Some.is-0)

pub returns-in-Some-Some : goal.returns-in-Some-Some
returns-in-Some-Some c =
    splice-two c.args.map.now c.in-Some-Some.first c.in-Some-Some.second c.few.ensures (sym c.span.ensures ∙ c.in-Some-Some.is-0) (sym c.span-2.ensures ∙ c.in-Some-Some.is-1)
    c.reach_of.result.to c.reach_of.ensures.to

pub returns-in-Some-None : goal.returns-in-Some-None
returns-in-Some-None c =
    splice-one c.args.map.now c.in-Some-None.field-0-0 (sym c.span.ensures ∙ c.in-Some-None.is-0) (sym c.span-2.ensures ∙ c.in-Some-None.is-1)

pub returns-in_default : goal.returns-in_default
returns-in_default c = splice-none c.args.map.now (sym c.span.ensures ∙ c.in_default.is-0)
