use Rattle.std.proofs.Common.{◌∙◌, sym}
use Rattle.pm_selective.proofs.Readings.{first-end, second-end, reaches-two, reaches-one, reaches-none}
use Rattle.pm_selective.proofs.telling.add_ranges.Goals as goal

pub reach_of-requires : goal.reach_of-requires
reach_of-requires c = first-end c.args.map.now c.in-Some-Some.first c.ordered.ensures (sym c.span.ensures ∙ c.in-Some-Some.is-0)

pub reach_of-requires-in-Some-Some : goal.reach_of-requires-in-Some-Some
reach_of-requires-in-Some-Some c = second-end c.args.map.now c.in-Some-Some.second c.ordered.ensures (sym c.span-2.ensures ∙ c.in-Some-Some.is-1)

pub reach_of-requires-in-Some-None : goal.reach_of-requires-in-Some-None
reach_of-requires-in-Some-None c = first-end c.args.map.now c.in-Some-None.first c.ordered.ensures (sym c.span.ensures ∙ c.in-Some-None.is-0)

pub returns-in_ok-push-in-Some-Some-2 : goal.returns-in_ok-push-in-Some-Some-2
returns-in_ok-push-in-Some-Some-2 c =
    reaches-two c.args.map.now c.in-Some-Some.first c.in-Some-Some.second c.reach_of.result c.reach_of-in-Some-Some.result c.args.found.now.items c.push.new.self.items c.push-in-Some-Some.new.self.items
    c.few.ensures (sym c.span.ensures ∙ c.in-Some-Some.is-0) (sym c.span-2.ensures ∙ c.in-Some-Some.is-1)
    c.reach_of.ensures.from c.reach_of.ensures.to c.reach_of-in-Some-Some.ensures.from c.reach_of-in-Some-Some.ensures.to c.in_ok-push-in-Some-Some.ensures.items c.in_ok-push-in-Some-Some-2.ensures.items

pub returns-in_ok-push-in-Some-None : goal.returns-in_ok-push-in-Some-None
returns-in_ok-push-in-Some-None c =
    reaches-one c.args.map.now c.in-Some-None.first c.reach_of-in-Some-None.result c.args.found.now.items c.push-in-Some-None.new.self.items
    (sym c.span.ensures ∙ c.in-Some-None.is-0) (sym c.span-2.ensures ∙ c.in-Some-None.is-1)
    c.reach_of-in-Some-None.ensures.from c.reach_of-in-Some-None.ensures.to c.in_ok-push-in-Some-None.ensures.items

pub returns-in_default : goal.returns-in_default
returns-in_default c = reaches-none c.args.map.now c.args.found.now.items (sym c.span.ensures ∙ c.in_default.is-0)
