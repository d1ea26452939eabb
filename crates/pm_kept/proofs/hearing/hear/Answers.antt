use Rattle.std.proofs.Common.{inl, string_bytes}
use Rattle.pm_kept.proofs.hearing.hear.Goals as goal

pub returns-in-Ok-clause-told : goal.returns-in-Ok-clause-told
returns-in-Ok-clause-told g c =
    let taken = c.in-Ok.ensures.taken in
    (string_bytes c.in-Ok.reply.text, taken.0, inl (c.in-Ok.ensures.told, taken.1), c.put.ensures, taken.2)
