use Rattle.pm_sized.proofs.FewLaws.{few-push}
use Rattle.std.proofs.Common.{refl}
use Rattle.pm_sized.proofs.few.Few.push.Goals as goal

pub returns-clause-few : goal.returns-clause-few
returns-clause-few g c = few-push c.args.self.now _ c.args.item c.args.measure c.in_ok-push.ensures.items refl c.requires.few c.requires.fewer c.requires.some c.requires.room
