use Rattle.std.proofs.Common.{◌≡◌, ◌+◌, ◌++◌, ◌∷◌, [], arith, length, length-append, refl}
use Rattle.pm_client.proofs.Names.{named-push}
use Rattle.pm_client.proofs.naming.name_steps.Goals as goal

pub loop-change-preserved : goal.loop-change-preserved
loop-change-preserved g c =
    let i = c.loop-change.invariant in
    let n : length (c.loop-change.yielded ++ c.in-Some.change ∷ []) ≡ length c.loop-change.yielded + 1 = length-append c.loop-change.yielded (c.in-Some.change ∷ []) in
    (tt, tt, rw (c.in_ok-push.ensures.ok, named-push c.args.client c.args.serial c.loop-change.yielded c.in-Some.change, i.2, i.3) refl, omega arith, omega (arith, c.in-Some.ensures.steps.1))
