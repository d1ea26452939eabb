use Rattle.std.proofs.Common.{length, take, drop, arith, ap, length-append}
use Rattle.pm_tokens.specs.Kids.{text_tokens}
use Rattle.pm_tokens.specs.Scan.{part}
use Rattle.std.proofs.lemmas.Result.{on_ok_weaker}
use Rattle.pm_node.proofs.TreeLaws.{length-text_tokens}
use Rattle.pm_tokens.proofs.OwnedParts.{length-part}
use Rattle.pm_apply.proofs.MarkedNodes.{three-texts, front_is, middle_is, behind_is}
use Rattle.pm_apply.proofs.marks.mark_text.Goals as goal

pub push_with-requires : goal.push_with-requires
push_with-requires c =
    let us = c.args.units.now in
    omega (arith, c.requires.room, c.len-len.ensures, c.min-start.ensures, ap length c.in_ok-before.ensures, length-part 0 c.min-start.result us, length-text_tokens c.in_ok-copy.field-0 c.in_ok-before.before)

pub push_with-requires-2 : goal.push_with-requires-2
push_with-requires-2 c =
    let us = c.args.units.now in
    omega (
      arith,
      c.requires.room,
      c.requires.some,
      c.len-len.ensures,
      c.min-start.ensures,
      c.min-end.ensures,
      ap length c.in_ok-before.ensures,
      length-part 0 c.min-start.result us,
      length-text_tokens c.in_ok-copy.field-0 c.in_ok-before.before,
      ap length c.in_ok-between.ensures,
      length-part c.min-start.result c.min-end.result us,
      length-text_tokens c.in_ok-copy-2.field-0 c.in_ok-between.between,
      ap length c.in_ok-push_with.ensures,
      length-append c.args.made.now (text_tokens c.in_ok-copy.field-0 c.in_ok-before.before),
    )

pub push_with-requires-3 : goal.push_with-requires-3
push_with-requires-3 c =
    let us = c.args.units.now in
    omega (
      arith,
      c.requires.room,
      c.requires.some,
      c.len-len.ensures,
      c.min-start.ensures,
      c.min-end.ensures,
      ap length c.in_ok-before.ensures,
      length-part 0 c.min-start.result us,
      length-text_tokens c.in_ok-copy.field-0 c.in_ok-before.before,
      ap length c.in_ok-between.ensures,
      length-part c.min-start.result c.min-end.result us,
      length-text_tokens c.in_ok-copy-2.field-0 c.in_ok-between.between,
      ap length c.in_ok-behind.ensures,
      length-part c.min-end.result c.len-len.result us,
      length-text_tokens c.in_ok-copy-3.field-0 c.in_ok-behind.behind,
      ap length c.in_ok-push_with.ensures,
      length-append c.args.made.now (text_tokens c.in_ok-copy.field-0 c.in_ok-before.before),
      ap length c.in_ok-push_with-2.ensures,
      length-append c.push_with.new.made (text_tokens c.in_ok-copy-2.field-0 c.in_ok-between.between),
    )

pub returns : goal.returns
returns c =
    let us = c.args.units.now in
    on_ok_weaker c.push_with-3.result
    (λ e. three-texts c.args.head.now.marks c.args.marks.now c.in_ok-copy.field-0 c.in_ok-copy-2.field-0 c.in_ok-copy-3.field-0
    c.in_ok-before.before c.in_ok-between.between c.in_ok-behind.behind
    (take c.args.from us) (part c.args.from c.args.to us) (drop c.args.to us)
    c.args.made.now c.push_with.new.made c.push_with-2.new.made _
    c.in_ok-push_with.ensures c.in_ok-push_with-2.ensures e c.in_ok-copy.ensures c.in_ok-copy-2.ensures c.in_ok-copy-3.ensures
    (front_is us c.in_ok-before.before c.args.from _ _ c.in_ok-before.ensures c.min-start.ensures c.len-len.ensures)
    (middle_is us c.in_ok-between.between c.args.from c.args.to _ _ _ c.in_ok-between.ensures c.min-start.ensures c.min-end.ensures c.len-len.ensures)
    (behind_is us c.in_ok-behind.behind c.args.to _ _ c.in_ok-behind.ensures c.min-end.ensures c.len-len.ensures))
    c.push_with-3.ensures
