use Rattle.std.proofs.Common.{string_bytes}
use Rattle.pm_kept.proofs.TalkChanges.{limited_changed}
use Rattle.pm_kept.proofs.talks.LimitedKeepable.hear.Goals as goal

pub returns-clause-changed : goal.returns-clause-changed
returns-clause-changed c =
    limited_changed c.args.self.now c.tell.new.self c.args.line.now (string_bytes c.in_ok-reply.reply.text) c.in_ok-reply.reply.more c.is_changed-changed.result
    c.in_ok-reply.ensures.told (c.is_changed-changed.ensures c.args.self.now.talk c.sizes_of-before.ensures)
