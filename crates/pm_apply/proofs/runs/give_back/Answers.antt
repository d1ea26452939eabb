use Rattle.std.proofs.Common.{[], ◌++◌, ap, ◌∙◌}
use Rattle.std.proofs.lemmas.Result.{on_ok_weaker}
use Rattle.pm_apply.specs.Walks.{given_back}
use Rattle.pm_apply.proofs.FirstLost.{given-both}
use Rattle.pm_apply.proofs.runs.give_back.Goals as goal

pub returns : goal.returns
returns c =
    on_ok_weaker c.add_all.result
    (λ e. given-both c.args.target c.args.old.now c.args.new.now c.args.steps.now.items c.remove_all.new.steps.items c.add_all.new.steps.items
    (c.in_ok-remove_all.ensures ∙ ap (λ z. c.args.steps.now.items ++ given_back c.args.target [] z) c.marks.ensures)
    (e ∙ ap (λ z. c.remove_all.new.steps.items ++ given_back c.args.target z []) c.marks-2.ensures))
    c.add_all.ensures
