use Rattle.pm_auto.proofs.PrintLaws.{prints-end}
use Rattle.pm_auto.proofs.explore.place.Goals as goal

pub returns-clause-prints : goal.returns-clause-prints
returns-clause-prints c = rw (c.in_ok-push.ensures.ok, c.in_ok-push-2.ensures.ok) (prints-end c.args.sets.now c.args.prints.now c.args.set c.print_of_list-print.result c.requires c.print_of_list-print.ensures)
