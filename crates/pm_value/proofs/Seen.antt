-- JSON values, level by level.
use Rattle.serde_json.proofs.Views.{view-Array, view-Object}
use Rattle.serde_json.specs.declared.value.Value.{the_lemmas}

pub ruleset seen = (view-Array, view-Object, the_lemmas)
