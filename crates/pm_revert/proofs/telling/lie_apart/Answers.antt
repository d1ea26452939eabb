use Rattle.std.proofs.Common.{◌++◌, ap, ◌∙◌}
use Rattle.pm_apply.specs.Changes.{meaning}
use Rattle.pm_revert.specs.Items.{other_items}
use Rattle.pm_revert.proofs.Tellings.{told-own, told-later, told-fit, told-differ, told-exactly}
use Rattle.pm_revert.proofs.telling.lie_apart.Goals as goal

pub told_of-requires : goal.told_of-requires
told_of-requires c = told-own c.args.entries.now c.args.later.now c.requires

pub add_others-requires : goal.add_others-requires
add_others-requires c = told-later c.args.entries.now c.args.later.now c.requires

pub tells_apart-requires-clause-fits : goal.tells_apart-requires-clause-fits
tells_apart-requires-clause-fits c =
    told-fit c.args.entries.now c.args.later.now c.requires c.as_slice-2.result.now
    (c.as_slice-2.ensures.value ∙ c.in_ok-add_others.ensures ∙ ap (λ is. is ++ other_items meaning c.args.later.now) c.in_ok-told.ensures.items)

pub tells_apart-requires-clause-differ : goal.tells_apart-requires-clause-differ
tells_apart-requires-clause-differ c =
    told-differ c.args.entries.now c.args.later.now c.as_slice-2.result.now
    (c.as_slice-2.ensures.value ∙ c.in_ok-add_others.ensures ∙ ap (λ is. is ++ other_items meaning c.args.later.now) c.in_ok-told.ensures.items)

pub returns : goal.returns
returns c =
    told-exactly c.args.entries.now c.args.later.now c.requires c.tells_apart.result c.as_slice.result.now c.as_slice-2.result.now (c.as_slice.ensures.value ∙ c.in_ok-told.ensures.names)
    (c.as_slice-2.ensures.value ∙ c.in_ok-add_others.ensures ∙ ap (λ is. is ++ other_items meaning c.args.later.now) c.in_ok-told.ensures.items) c.tells_apart.ensures
