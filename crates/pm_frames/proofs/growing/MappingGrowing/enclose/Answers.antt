use Rattle.pm_frames.proofs.Growings.{mapping-around}
use Rattle.pm_frames.proofs.growing.MappingGrowing.enclose.Goals as goal

pub returns : goal.returns
returns c =
    mapping-around c.args.self.now c.enclose.new.self c.args.front.now c.args.behind.now (rw (c.copy.ensures, c.copy-2.ensures) at c.in_ok-enclose.ensures.ok) c.paired.ensures
