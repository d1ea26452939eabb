use Rattle.std.proofs.Common.{◌∙◌, sym, refl, true, false}
use Rattle.pm_selective.specs.Tests.{beyond_all}
use Rattle.pm_selective.proofs.Readings.{first-end, second-end, apart-two, apart-one, apart-none}
use Rattle.pm_selective.proofs.telling.apart_from.Goals as goal

pub beyond_all-requires : goal.beyond_all-requires
beyond_all-requires c = first-end c.args.map.now c.in-Some-Some.first c.ordered.ensures (sym c.span.ensures ∙ c.in-Some-Some.is-0)

pub beyond_all-requires-then-beyond_all : goal.beyond_all-requires-then-beyond_all
beyond_all-requires-then-beyond_all c = second-end c.args.map.now c.in-Some-Some.second c.ordered.ensures (sym c.span-2.ensures ∙ c.in-Some-Some.is-1)

pub beyond_all-requires-in-Some-None : goal.beyond_all-requires-in-Some-None
beyond_all-requires-in-Some-None c = first-end c.args.map.now c.in-Some-None.first c.ordered.ensures (sym c.span.ensures ∙ c.in-Some-None.is-0)

pub returns-then-beyond_all : goal.returns-then-beyond_all
returns-then-beyond_all c =
    apart-two c.args.map.now c.in-Some-Some.first c.in-Some-Some.second c.args.reaches.now true c.beyond_all-then-beyond_all.result c.few.ensures
    (sym c.span.ensures ∙ c.in-Some-Some.is-0) (sym c.span-2.ensures ∙ c.in-Some-Some.is-1) (sym c.if-beyond_all.true ∙ c.beyond_all.ensures) c.beyond_all-then-beyond_all.ensures

pub returns-else-beyond_all : goal.returns-else-beyond_all
returns-else-beyond_all c =
    c.if-beyond_all.false
    ∙ apart-two c.args.map.now c.in-Some-Some.first c.in-Some-Some.second c.args.reaches.now false (beyond_all c.in-Some-Some.second c.args.reaches.now) c.few.ensures
    (sym c.span.ensures ∙ c.in-Some-Some.is-0) (sym c.span-2.ensures ∙ c.in-Some-Some.is-1) (sym c.if-beyond_all.false ∙ c.beyond_all.ensures) refl

pub returns-in-Some-None : goal.returns-in-Some-None
returns-in-Some-None c =
    c.beyond_all-in-Some-None.ensures ∙ apart-one c.args.map.now c.in-Some-None.first c.args.reaches.now (sym c.span.ensures ∙ c.in-Some-None.is-0) (sym c.span-2.ensures ∙ c.in-Some-None.is-1)

pub returns-in_default : goal.returns-in_default
returns-in_default c = apart-none c.args.map.now c.args.reaches.now (sym c.span.ensures ∙ c.in_default.is-0)
