use Rattle.pm_kept.proofs.Heard.{held_so, held_good}
use Rattle.pm_kept.proofs.kept.take.Goals as goal

pub returns-clause-taken : goal.returns-clause-taken
returns-clause-taken g c =
    held_so c.args.service.now c.hear.new.self c.args.line.now c.in_ok-reply.field-0.changed c.args.held.now c.hold.new.held c.in_ok-more.more
    c.in_ok-reply.ensures.changed c.in_ok-more.ensures.lines c.hold.ensures

pub returns-clause-held : goal.returns-clause-held
returns-clause-held g c =
    held_good c.in_ok-reply.field-0.changed c.args.held.now c.hold.new.held c.in_ok-more.more c.requires.held c.in_ok-more.ensures.holds c.hold.ensures
