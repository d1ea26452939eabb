use Rattle.std.proofs.Common.{◌≡◌, length, subst, string_bytes}
use Rattle.pm_talk.specs.Live.{answer_text, is_accepted}
use Rattle.pm_talk.proofs.Submitting.{gives, first-text, first-after, first-ids, room-lt}
use Rattle.pm_talk.proofs.live.Live.submit_first.Goals as goal

pub returns-in-Ok-clause-text : goal.returns-in-Ok-clause-text
returns-in-Ok-clause-text c =
    let live = c.args.self.now in
    let number : c.len-number.result ≡ length live.ids = c.len-number.ensures.len in
    let text : string_bytes c.in-Ok.field-0.text ≡ answer_text (gives live (length live.ids) c.args.version c.args.steps.now).0 =
    subst (λ n. string_bytes c.in-Ok.field-0.text ≡ answer_text (gives live n c.args.version c.args.steps.now).0) number c.in-Ok.ensures.told.0 in
    first-text live c.args.version c.args.id.now c.args.steps.now (string_bytes c.in-Ok.field-0.text) c.requires.absent (room-lt live.ids c.requires.room) text

pub returns-in-Ok-clause-after : goal.returns-in-Ok-clause-after
returns-in-Ok-clause-after c =
    let live = c.args.self.now in
    let number : c.len-number.result ≡ length live.ids = c.len-number.ensures.len in
    first-after live c.args.version c.args.id.now c.args.steps.now c.present.new.authority c.in-Ok.field-0.accepted c.keep_last.new.ids
    c.requires.absent (room-lt live.ids c.requires.room)
    (subst (λ n. c.present.new.authority ≡ (gives live n c.args.version c.args.steps.now).1) number c.in-Ok.ensures.after)
    (subst (λ n. c.in-Ok.field-0.accepted ≡ is_accepted (gives live n c.args.version c.args.steps.now).0) number c.in-Ok.ensures.told.1)
    (first-ids live.ids c.args.id.now c.len-number.result c.in-Ok.field-0.accepted c.add.new.self c.keep_last.new.ids number c.in_ok-add.ensures.ok c.keep_last.ensures)
