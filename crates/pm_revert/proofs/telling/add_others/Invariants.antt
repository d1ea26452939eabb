use Rattle.std.proofs.Common.{◌≡◌, ◌++◌, drop}
use Rattle.pm_revert.specs.Items.{other_items}
use Rattle.pm_revert.proofs.telling.add_others.Given as goal

abbrev pub invariant-loop-entry : goal.invariant-loop-entry
invariant-loop-entry g l = l.items.items ++ other_items g.C.Change.means (drop l.entry-index l.entries) ≡ l.fn.items.items ++ other_items g.C.Change.means l.entries
