use Rattle.std.proofs.Common.{subst, sym}
use Rattle.pm_client.specs.Rebasables.{NamedHasMap}
use Rattle.pm_client.proofs.making.step_maps.Goals as goal

pub step_map-requires : goal.step_map-requires
step_map-requires g c =
    subst (λ n. NamedHasMap g.C.Change.means n) (sym c.step-item.is) (c.requires c.loop-step.step-index c.step-item.result c.loop-step-test.true)
