use Rattle.pm_frames.proofs.Growings.{on-ok-then, frames-in-front}
use Rattle.pm_frames.proofs.growing.FramesGrowing.put_front.Goals as goal

pub returns : goal.returns
returns c = on-ok-then c.put_front.result (frames-in-front c.args.self.now c.put_front.new.self c.args.front.now) c.put_front.ensures
