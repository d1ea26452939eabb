use Rattle.pm_sized.proofs.FewLaws.{few-steps}
use Rattle.pm_sized.proofs.chunks.Chunks.find.Goals as goal

pub returns-in-Few-clause-steps : goal.returns-in-Few-clause-steps
returns-in-Few-clause-steps g c = few-steps c.args.self.now c.in-Few.few c.args.steps.now c.find.new.steps c.in-Few.is c.requires.laid c.find.ensures.steps
