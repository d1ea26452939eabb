use Rattle.pm_frames.proofs.Growings.{on-ok-then, frames-around}
use Rattle.pm_frames.proofs.growing.FramesGrowing.enclose.Goals as goal

pub returns : goal.returns
returns c = on-ok-then c.enclose.result (frames-around c.args.self.now c.enclose.new.self c.args.front.now c.args.behind.now) c.enclose.ensures
