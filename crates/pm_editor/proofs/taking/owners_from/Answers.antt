use Rattle.std.proofs.Common.{sym}
use Rattle.std.proofs.lemmas.List.{take_rest, drop_all}
use Rattle.pm_editor.proofs.taking.owners_from.Goals as goal

pub returns-then-place-count : goal.returns-then-place-count
returns-then-place-count c = take_rest c.args.owners.now c.args.place

pub returns-else-place-count : goal.returns-else-place-count
returns-else-place-count c = sym (drop_all c.args.place c.args.owners.now c.if-place-count.false)
