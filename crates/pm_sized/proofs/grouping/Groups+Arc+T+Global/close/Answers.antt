use Rattle.std.proofs.Common.{arith}
use Rattle.pm_sized.proofs.SharingLaws.{closed-part, closed-room}
use Rattle.pm_sized.proofs.grouping.Groups+Arc+T+Global.close.Goals as goal

pub add-requires-clause-part : goal.add-requires-clause-part
add-requires-clause-part g c =
    let s = c.args.self.now in
    closed-part s c.in_ok-copy.field-0 c.in_ok-part.part c.requires.laid c.in_ok-part.ensures.ok (c.ends_short.ensures.no c.if-ends_short.false) (omega (arith, c.if-len-lt-PART.false, c.len.ensures, s.rest.chunks.ok.0)) c.in_ok-copy.ensures.laid c.in_ok-copy.ensures.chunks

pub add-requires-clause-room : goal.add-requires-clause-room
add-requires-clause-room g c =
    closed-room c.args.self.now c.in_ok-copy.field-0 c.in_ok-part.part c.requires.laid c.in_ok-part.ensures.ok c.in_ok-copy.ensures.pairs
