use Rattle.std.proofs.Common.{refl, inl}
use Rattle.pm_auto.proofs.KnownLaws.{recalled, known-placed}
use Rattle.pm_auto.proofs.explore.reach.Goals as goal

pub returns-in-Some-clause-ok : goal.returns-in-Some-clause-ok
returns-in-Some-clause-ok c =
    let r = recalled c.args.rows.now c.args.sets.now c.args.next c.in-Some.state c.args.known.now.states c.requires.known c.in-Some.ensures in
    inl (refl, r.0, r.1)

pub returns-clause-known : goal.returns-clause-known
returns-clause-known c =
    rw c.in_ok-remember.ensures (known-placed c.args.rows.now c.args.sets.now c.place.new.sets c.args.known.now.states record { set = c.args.next; print = c.print-print.result; state = c.in-Ok.state } c.in_ok-set.set c.requires.known c.in_ok-set.ensures c.in-Ok.ensures.ok)
