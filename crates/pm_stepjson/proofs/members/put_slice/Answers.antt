use Rattle.std.proofs.Common.{ap, sym, ◌∙◌}
use Rattle.pm_slicejson.specs.Reading.{slice_of}
use Rattle.pm_stepjson.proofs.Again.{none-again, some-again}
use Rattle.pm_stepjson.proofs.members.put_slice.Goals as goal

pub returns-then-size-eq0-clause-again : goal.returns-then-size-eq0-clause-again
returns-then-size-eq0-clause-again c =
    λ can. none-again c.args.schema.now.spec c.args.slice.now c.size.ensures.one (sym c.size.ensures.size ∙ c.if-size-eq0.true)

pub returns-clause-again : goal.returns-clause-again
returns-clause-again c =
    λ can. some-again c.args.schema.now.spec c.args.slice.now (λ h. c.if-size-eq0.false (c.size.ensures.size ∙ h))
    (ap (slice_of c.args.schema.now.spec) (sym c.in_ok-json.ensures.written) ∙ c.in_ok-json.ensures.again can)
