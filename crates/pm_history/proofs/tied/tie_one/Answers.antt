use Rattle.std.proofs.Common.{◌∙◌, ap}
use Rattle.pm_history.specs.Tied.{undoes_of}
use Rattle.pm_history.proofs.Smalls.{none-undone}
use Rattle.pm_history.proofs.tied.tie_one.Goals as goal

pub tie-requires : goal.tie-requires
tie-requires g c = λ e. c.undoes_of-undoes.ensures ∙ ap (λ n. undoes_of n c.args.old.now) (c.name.ensures ∙ e) ∙ none-undone c.args.old.now
