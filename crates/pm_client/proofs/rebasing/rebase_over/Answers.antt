use Rattle.pm_client.specs.Rebases.{maps_of}
use Rattle.pm_client.proofs.Rebasers.{if-ok-then}
use Rattle.pm_client.proofs.rebasing.rebase_over.Goals as goal

pub returns : goal.returns
returns g c =
    let m = g.C.Change.means in
    let foreign = c.args.foreign.now in
    let rebased = rw c.in_ok-copy_doc.ensures at c.rebase.ensures in
    if-ok-then c.rebase.result
    (λ r at end over.
    at over.old end (maps_of m foreign) over.can over.ends (c.in_ok-route.ensures (m.size over.old) (m.size c.args.base.now) over.can.fits))
    rebased
