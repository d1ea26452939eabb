use Rattle.std.proofs.Common.{sym}
use Rattle.std.proofs.lemmas.Bool.{true≢false}
use Rattle.pm_selective.proofs.Numbered.{numbered-any, numbered-there, not-counted}
use Rattle.pm_selective.proofs.standing.count_apart.Goals as goal

pub returns-in_default : goal.returns-in_default
returns-in_default c = λ event t there apart. true≢false (sym (c.in_default.ensures.none.1 (numbered-any c.args.number c.args.history.now.undo event there)))

pub apart-requires-clause-event : goal.apart-requires-clause-event
apart-requires-clause-event c = numbered-there c.args.number c.args.history.now.undo c.in-Some.event.now c.in-Some.ensures.value

pub returns-else-branch : goal.returns-else-branch
returns-else-branch c =
    not-counted c.args.history.now c.args.number c.in-Some.event.now c.in_ok-apart.field-0 c.in-Some.ensures.value c.in_ok-apart.ensures c.if-branch.false
