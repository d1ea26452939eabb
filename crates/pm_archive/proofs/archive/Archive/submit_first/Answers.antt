use Rattle.std.proofs.Common.{◌≡◌, ◌∙◌, ap, length, subst, string_bytes}
use Rattle.pm_talk.specs.Live.{is_accepted}
use Rattle.pm_talk.proofs.Submitting.{first-ids}
use Rattle.pm_archive.specs.declared.archive.Archive.{Archive}
use Rattle.pm_archive.specs.Answers.{answer_text}
use Rattle.pm_archive.proofs.Submitting.{gives, first-text, first-after, room-lt}
use Rattle.pm_archive.proofs.archive.Archive.submit_first.Goals as goal

pub returns-in-Ok-clause-text : goal.returns-in-Ok-clause-text
returns-in-Ok-clause-text c =
    let a = c.args.self.now in
    let number : c.len-number.result ≡ length a.ids = c.len-number.ensures.len in
    let text : string_bytes c.in-Ok.field-0.text ≡ answer_text a.from (gives a (length a.ids) c.args.version c.args.steps.now).0 =
    subst (λ n. string_bytes c.in-Ok.field-0.text ≡ answer_text a.from (gives a n c.args.version c.args.steps.now).0) number c.in-Ok.ensures.told.0 in
    first-text a c.args.version c.args.id.now c.args.steps.now (string_bytes c.in-Ok.field-0.text) c.requires.absent (room-lt a.ids c.requires.room) text

pub returns-in-Ok-clause-after : goal.returns-in-Ok-clause-after
returns-in-Ok-clause-after c =
    let a = c.args.self.now in
    let number : c.len-number.result ≡ length a.ids = c.len-number.ensures.len in
    let kept = c.keep_last.new.ids in
    let given = gives a c.len-number.result c.args.version c.args.steps.now in
    let whole = ap (λ (x : Archive). record x { ids = kept }) c.in-Ok.ensures.after in
    let added = ap (λ (x : Archive). x.ids) c.in-Ok.ensures.after ∙ c.in_ok-add.ensures.ok in
    whole
    ∙ first-after a c.args.version c.args.id.now c.args.steps.now given.1 c.in-Ok.field-0.accepted kept
    c.requires.absent (room-lt a.ids c.requires.room)
    (ap (λ n. (gives a n c.args.version c.args.steps.now).1) number)
    (c.in-Ok.ensures.told.1 ∙ ap (λ n. is_accepted (gives a n c.args.version c.args.steps.now).0) number)
    (first-ids a.ids c.args.id.now c.len-number.result c.in-Ok.field-0.accepted c.present.new.self.ids kept number added c.keep_last.ensures)
