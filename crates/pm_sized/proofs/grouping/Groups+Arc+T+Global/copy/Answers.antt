use Rattle.pm_sized.proofs.SharingLaws.{copied-none, copied-part, copied-room, copied-part-more, copied-pairs, copied-laid}
use Rattle.pm_sized.proofs.grouping.Groups+Arc+T+Global.copy.Goals as goal

pub loop-part-init : goal.loop-part-init
loop-part-init g c =
    let p = c.deref-part-items in
    copied-none c.args.self.now p.result.now c.requires.laid p.ensures.value c.in_ok-made.made c.new.result c.in_ok-made.ensures.laid c.in_ok-made.ensures.pairs c.new.ensures.pairs

pub add-requires-clause-part : goal.add-requires-clause-part
add-requires-clause-part g c =
    let p = c.deref-part-items in
    let l = c.loop-part in
    copied-part c.args.self.now p.result.now c.requires.laid p.ensures.value l.made l.part-index c.in_ok-try_clone.field-0 c.part-item.result l.invariant c.in_ok-try_clone.ensures c.loop-part-test.true c.part-item.is

pub add-requires-clause-room : goal.add-requires-clause-room
add-requires-clause-room g c =
    let p = c.deref-part-items in
    let l = c.loop-part in
    copied-room c.args.self.now p.result.now c.requires.laid p.ensures.value l.made l.part-index c.in_ok-try_clone.field-0 c.part-item.result l.invariant c.in_ok-try_clone.ensures c.loop-part-test.true c.part-item.is

pub loop-part-preserved : goal.loop-part-preserved
loop-part-preserved g c =
    let p = c.deref-part-items in
    let l = c.loop-part in
    copied-part-more c.args.self.now p.result.now c.requires.laid p.ensures.value l.made l.part-index c.in_ok-try_clone.field-0 c.part-item.result l.invariant c.in_ok-try_clone.ensures c.loop-part-test.true c.part-item.is
    c.add.new.self c.in_ok-add.ensures.laid c.in_ok-add.ensures.parts

pub returns-clause-pairs : goal.returns-clause-pairs
returns-clause-pairs g c =
    let p = c.deref-part-items in
    let l = c.loop-part in
    copied-pairs c.args.self.now p.result.now c.requires.laid p.ensures.value l.made c.in_ok-made-2.field-0 l.part-index l.invariant c.loop-part-test.false c.in_ok-made-2.ensures.pairs

pub returns-clause-laid : goal.returns-clause-laid
returns-clause-laid g c =
    let p = c.deref-part-items in
    let l = c.loop-part in
    copied-laid c.args.self.now p.result.now c.requires.laid p.ensures.value l.made c.in_ok-made-2.field-0 l.part-index l.invariant c.loop-part-test.false c.in_ok-made-2.ensures.pairs c.in_ok-made-2.ensures.laid c.in_ok-made-2.ensures.chunks
