use Rattle.std.proofs.Common.{sym, subst, map, List, ◌++◌, ◌∷◌, []}
use Rattle.pm_auto.specs.declared.places.Row.{Row}
use Rattle.pm_auto.specs.Table.{again}
use Rattle.pm_auto.specs.Alike.{Alike_rows}
use Rattle.pm_auto.proofs.AlikeLaws.{rows-more}
use Rattle.pm_auto.proofs.places.begin_again.Goals as goal

pub loop-row-preserved : goal.loop-row-preserved
loop-row-preserved c =
    subst (λ (rs : List Row). Alike_rows rs (map (again c.args.first.now) (c.loop-row.yielded ++ c.in-Some.row ∷ []))) (sym c.in_ok-push.ensures.ok)
    (rows-more (again c.args.first.now) c.loop-row.all c.loop-row.yielded c.in-Some.row c.in_ok-begin_again_from.field-0 c.loop-row.invariant c.in_ok-begin_again_from.ensures)
