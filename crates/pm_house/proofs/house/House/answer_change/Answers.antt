use Rattle.std.proofs.Common.{◌∙◌, ap, string_bytes}
use Rattle.serde_json.specs.View.{view}
use Rattle.pm_house.specs.declared.mark.Mark.{Mark}
use Rattle.pm_house.specs.Marks.{mark_of, same_mark}
use Rattle.pm_house.proofs.Marking.{changed-by}
use Rattle.pm_house.proofs.house.House.answer_change.Goals as goal

pub returns-clause-changed : goal.returns-clause-changed
returns-clause-changed c =
    let place = c.in_ok-place.place in
    changed-by c.args.self.now (view c.args.json.now) place (string_bytes c.in_ok-text.text) c.answer.new.self c.is_same-same.result c.in_ok-place.ensures c.in_ok-text.ensures.told
    (c.is_same-same.ensures ∙ (ap (λ (m : Mark). same_mark m c.mark.result) c.mark-before.ensures ∙ ap (same_mark (mark_of c.args.self.now place)) c.mark.ensures))
