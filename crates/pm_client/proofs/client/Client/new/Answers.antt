use Rattle.pm_client.proofs.Keeps.{kin-new}
use Rattle.pm_client.proofs.client.Client.new.Goals as goal

pub returns-clause-kin : goal.returns-clause-kin
returns-clause-kin g c rules good =
    rw (c.in_ok-copy_doc.ensures, c.new.ensures, c.new-2.ensures, c.new-3.ensures, c.new-4.ensures, c.new-5.ensures, c.new-6.ensures)
    (kin-new g.C.Change.means rules c.args.name c.args.doc good)
