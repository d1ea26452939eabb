use Rattle.std.proofs.Common.{◌≡◌, ◌+◌, ◌-◌, ◌≤◌, drop}
use Rattle.pm_editor.specs.Editors.{front}
use Rattle.pm_editor.proofs.taking.front.Given as goal

abbrev pub invariant-loop-own : goal.invariant-loop-own
invariant-loop-own l = (l.count + front (drop l.own-index l.owners) (l.most - l.count) ≡ front l.owners l.most) × (l.count ≡ l.own-index) × (l.count ≤ l.most)
