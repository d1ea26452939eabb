use Rattle.std.proofs.Common.{sym, arith}
use Rattle.pm_edit.proofs.MeetLaws.{none-before, none-behind, meet-then, meet-else}
use Rattle.pm_edit.proofs.joining.meet.Goals as goal

pub returns-then-depth-pos-clause-meet : goal.returns-then-depth-pos-clause-meet
returns-then-depth-pos-clause-meet c = sym (none-before c.args.doc.now.tokens c.args.pos c.args.depth c.requires.within c.if-depth-pos.true)

pub returns-then-depth-size-clause-meet : goal.returns-then-depth-size-clause-meet
returns-then-depth-size-clause-meet c = sym (none-behind c.args.doc.now.tokens c.args.pos c.args.depth (omega (arith, c.size-size.ensures, c.if-depth-size.true)))

pub returns-then-before-here-clause-meet : goal.returns-then-before-here-clause-meet
returns-then-before-here-clause-meet c =
    meet-then c.args.doc.now.tokens c.args.pos c.args.depth c.requires.whole (omega (arith, c.if-depth-pos.false)) (omega (arith, c.if-depth-size.false, c.size-size.ensures, c.requires.within))
    c.in_ok-here.here c.in_ok-before.before c.in_ok-behind.behind c.in_ok-here.ensures.depth c.in_ok-before.ensures.depth c.in_ok-behind.ensures.depth c.if-before-here.true

pub returns-else-before-here-clause-meet : goal.returns-else-before-here-clause-meet
returns-else-before-here-clause-meet c =
    meet-else c.args.doc.now.tokens c.args.pos c.args.depth c.requires.whole (omega (arith, c.if-depth-pos.false)) (omega (arith, c.if-depth-size.false, c.size-size.ensures, c.requires.within))
    c.in_ok-here.here c.in_ok-before.before c.in_ok-behind.behind c.in_ok-here.ensures.depth c.in_ok-before.ensures.depth c.in_ok-behind.ensures.depth c.if-before-here.false
