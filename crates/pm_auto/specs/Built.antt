-- When an automaton is refused.
use Rattle.std.specs.Prelude.{◌<◌, List, Bool, ◌⊎◌}
use Rattle.pm_auto.specs.declared.error.AutoError.{AutoError}
use Rattle.pm_auto.specs.declared.error.AutoError.TheVariants.{Mixed, TooWide, NoMemory}
use Rattle.pm_auto.specs.declared.expr.Expr.{Expr}
use Rattle.pm_auto.specs.Expand.{expand}
use Rattle.pm_auto.specs.Trim.{trimmed}
use Rattle.pm_auto.specs.Table.{width, rows}
use Rattle.pm_auto.specs.States.{start_of, Too_many}
use Rattle.pm_auto.specs.Types.{Is_mixed}

-- Mixed where both an inline and a block type occur; TooWide where not, and the expansion has more than 4,096 occurrences of types or more
-- than 1,000 states can be reached; running out of memory at any time
abbrev pub Is_fault : Expr → List Bool → AutoError → Type 0
Is_fault e inline Mixed = Is_mixed e inline
Is_fault e inline TooWide = (Is_mixed e inline → ⊥) × ((4096 < width (expand e)) ⊎ Too_many (rows 0 (trimmed e)) (start_of (trimmed e)))
Is_fault e inline NoMemory = Unit {0}
