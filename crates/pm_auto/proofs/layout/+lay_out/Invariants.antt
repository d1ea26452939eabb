use Rattle.std.proofs.Common.{map, take}
use Rattle.pm_auto.specs.Core.{Never, Empty}
use Rattle.pm_auto.specs.Expand.{expand, and_copies, optional, one_of, in_turn}
use Rattle.pm_auto.specs.Table.{part}
use Rattle.pm_auto.specs.Trim.{trim}
use Rattle.pm_auto.specs.Alike.{Alike}
use Rattle.pm_auto.proofs.layout.+lay_out.Given as goal

abbrev pub invariant-lay_out_choice-loop-item : goal.invariant-lay_out_choice-loop-item
invariant-lay_out_choice-loop-item l = Alike l.part (part l.from (trim (one_of Never (map expand (take l.item-index l.items)))))

abbrev pub invariant-lay_out_sequence-loop-item : goal.invariant-lay_out_sequence-loop-item
invariant-lay_out_sequence-loop-item l = Alike l.part (part l.from (trim (in_turn Empty (map expand (take l.item-index l.items)))))

abbrev pub invariant-lay_out_copies-loop-i : goal.invariant-lay_out_copies-loop-i
invariant-lay_out_copies-loop-i l = Alike l.part (part l.from (trim (and_copies Empty l._i (expand l.inner))))

abbrev pub invariant-lay_out_more-loop-i : goal.invariant-lay_out_more-loop-i
invariant-lay_out_more-loop-i l = Alike l.part (part l.from (trim (and_copies (and_copies Empty l.low (expand l.inner)) l._i (optional (expand l.inner)))))
