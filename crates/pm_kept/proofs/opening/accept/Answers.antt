use Rattle.std.proofs.Common.{string_bytes}
use Rattle.pm_kept.proofs.opening.accept.Goals as goal

pub returns-clause-tried : goal.returns-clause-tried
returns-clause-tried g c = record {
  text = string_bytes c.in_ok-changed.field-0.reply.text;
  more = c.in_ok-changed.field-0.reply.more;
  replies = c.in_ok-changed.ensures.told;
  decides = c.in_ok-changed.ensures.changed;
}
