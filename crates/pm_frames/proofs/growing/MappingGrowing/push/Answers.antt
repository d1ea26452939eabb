use Rattle.pm_frames.proofs.Growings.{mapping-behind}
use Rattle.pm_frames.proofs.growing.MappingGrowing.push.Goals as goal

pub returns : goal.returns
returns c = mapping-behind c.args.self.now c.push.new.self c.args.map.now (rw c.copy.ensures at c.in_ok-push.ensures.ok) c.paired.ensures
