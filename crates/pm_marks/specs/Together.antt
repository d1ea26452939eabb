-- Which marks stand together in a set.
use Rattle.std.specs.Prelude.{◌≡◌, ◌≢◌, ◌≤◌, Bool, false, List}
use Rattle.pm_marks.specs.Rules.{excludes}
use Rattle.pm_marks.specs.declared.mark.Mark.{Mark}

-- One mark may stand before the other: it has no higher rank, they differ, and neither excludes the other. So two marks
-- of one type stand together only where the type does not exclude itself.
pub record StandsBefore {A : Type 0} (table : List (List Bool)) (m n : Mark A) : Type 0 where
  pub in_rank : m.kind ≤ n.kind
  pub differ : m ≢ n
  pub lets_second : excludes table m.kind n.kind ≡ false
  pub lets_first : excludes table n.kind m.kind ≡ false
