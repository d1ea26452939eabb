use Rattle.std.proofs.Common.{◌≡◌, true, take}
use Rattle.std.specs.List.{list_all}
use Rattle.pm_schema.specs.Defaults.{have_kinds}
use Rattle.pm_schema.proofs.build.node_defaults.Given as goal

abbrev pub invariant-loop-node : goal.invariant-loop-node
invariant-loop-node l = list_all (λ x. have_kinds x.attrs) (take l.node-index l.nodes) ≡ true
