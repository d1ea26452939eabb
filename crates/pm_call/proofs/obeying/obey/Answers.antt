use Rattle.std.proofs.Common.{string_bytes}
use Rattle.pm_call.specs.Finding.{found_of}
use Rattle.pm_call.proofs.Obeyed.{no-fault, out-of-memory, delivered}
use Rattle.pm_call.proofs.obeying.obey.Goals as goal

pub returns-in-Ok-answer_to : goal.returns-in-Ok-answer_to
returns-in-Ok-answer_to g c =
    delivered c.args.command (string_bytes c.in-Ok-answer_to.answer.text) (found_of c.in-Ok.found) c.in-Ok-answer_to.answer.status c.deliver.result _ _ _ _ _ _ _ _
    (record { is = c.in-Ok.ensures.is; took = c.in-Ok.ensures.took; to_end = c.in-Ok.ensures.to_end })
    (no-fault c.in-Ok.found _ c.in-Ok.ensures.no_fault) c.found_for.ensures.unread
    c.in-Ok-answer_to.ensures.text c.in-Ok-answer_to.ensures.says c.deliver.ensures.writes c.deliver.ensures.agrees
    c.deliver.ensures.fault c.deliver.ensures.no_fault c.deliver.ensures.no_usage c.deliver.ensures.no_read c.deliver.ensures.memory

pub returns : goal.returns
returns g c = out-of-memory c.args.command _ _ _ _ _ _ (no-fault c.in-Ok.found _ c.in-Ok.ensures.no_fault) c.found_for.ensures.unread
