use Rattle.std.specs.Arc.{arc_value}
use Rattle.pm_sized.proofs.SharingLaws.{shared-room, shared-values}
use Rattle.pm_sized.proofs.grouping.Groups+Arc+T+Global.share.Goals as goal

pub add-requires-clause-room : goal.add-requires-clause-room
add-requires-clause-room g c =
    shared-room c.args.self.now c.close.new.self (arc_value c.args.part.now) c.in_ok-try_clone.field-0 c.in_ok-close.ensures.same c.in_ok-try_clone.ensures c.requires.room

pub returns-clause-ok : goal.returns-clause-ok
returns-clause-ok g c =
    shared-values c.args.self.now c.close.new.self (arc_value c.args.part.now) c.in_ok-try_clone.field-0 c.in_ok-close.ensures.same c.in_ok-try_clone.ensures
    c.add.new.self c.in_ok-close.ensures.laid c.if-self-gt0.false c.in_ok-add.ensures.parts c.in_ok-add.ensures.rest
