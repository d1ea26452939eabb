use Rattle.pm_tokens.specs.Tokens.{Doc}
use Rattle.pm_schema.specs.declared.schema.Schema.{Schema}
use Rattle.pm_meaning.specs.Steps.{Step}
use Rattle.pm_meaning.specs.declared.reason.Reason.{Reason}
use Rattle.pm_head.specs.Clients.{raw_flags}
use Rattle.pm_session.proofs.Openings.{opened-suits}
use Rattle.pm_call.proofs.summing.summarize.Goals as goal

pub play_all-requires-clause-suit : goal.play_all-requires-clause-suit
play_all-requires-clause-suit c =
    let s = c.args.session.now in
    rw (c.in_ok-room.ensures.opens, c.as_slice-lines.ensures) (opened-suits Schema Doc Reason Step s.head.doc (raw_flags s.head.clients) s.lines c.requires.suit)
