use Rattle.pm_session.specs.Events.{state_of}
use Rattle.pm_session.proofs.Lefts.{left-err}
use Rattle.pm_selective.proofs.Playings.{told-apart, told-leaves}
use Rattle.pm_selective.proofs.Unplayed.{left-same}
use Rattle.pm_selective.proofs.playing.play.Goals as goal

pub returns-in_err-steps-clause-left : goal.returns-in_err-steps-clause-left
returns-in_err-steps-clause-left g c =
    let e = c.in_err-steps.ensures.err in
    left-err c.from_residual.result (left-same c.args.schema.now (state_of c.args.room.now) c.args.line.now e.0 e.1 c.requires.suits)

pub returns-clause-apart : goal.returns-clause-apart
returns-clause-apart g c =
    told-apart c.args.schema.now (state_of c.args.room.now) c.args.line.now c.in_ok-outcome.outcome c.in_ok-steps.steps c.has_made-apart.result c.in_ok-steps.ensures.found c.has_made-apart.ensures

pub returns-clause-leaves : goal.returns-clause-leaves
returns-clause-leaves g c =
    let s = state_of c.args.room.now in
    let told = told-apart c.args.schema.now s c.args.line.now c.in_ok-outcome.outcome c.in_ok-steps.steps c.has_made-apart.result c.in_ok-steps.ensures.found c.has_made-apart.ensures in
    told-leaves c.args.schema.now s c.args.line.now (g.K.Maker.makes c.args.maker.now c.args.schema.now) c.in_ok-outcome.outcome (state_of c.play.new.self) c.has_made-apart.result
    c.in_ok-outcome.ensures.plays told
