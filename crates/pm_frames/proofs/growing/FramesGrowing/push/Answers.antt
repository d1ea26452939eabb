use Rattle.pm_frames.proofs.Growings.{on-ok-then, frames-behind}
use Rattle.pm_frames.proofs.growing.FramesGrowing.push.Goals as goal

pub returns : goal.returns
returns c = on-ok-then c.push.result (frames-behind c.args.self.now c.push.new.self c.args.map.now) c.push.ensures
