use Rattle.std.proofs.Common.{sym, subst, map, List, ◌++◌, ◌∷◌, []}
use Rattle.pm_auto.specs.declared.places.Row.{Row}
use Rattle.pm_auto.specs.Table.{onward}
use Rattle.pm_auto.specs.Alike.{Alike_rows}
use Rattle.pm_auto.proofs.AlikeLaws.{rows-more}
use Rattle.pm_auto.proofs.places.go_on.Goals as goal

pub loop-row-preserved : goal.loop-row-preserved
loop-row-preserved c =
    subst (λ (rs : List Row). Alike_rows rs (map (onward c.args.first.now c.args.ends) (c.loop-row.yielded ++ c.in-Some.row ∷ []))) (sym c.in_ok-push.ensures.ok)
    (rows-more (onward c.args.first.now c.args.ends) c.loop-row.all c.loop-row.yielded c.in-Some.row c.in_ok-go_on_from.field-0 c.loop-row.invariant c.in_ok-go_on_from.ensures)
