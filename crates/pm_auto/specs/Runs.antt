-- Runs over the table of places.
use Rattle.std.specs.Prelude.{ℕ, zero, suc, List, [], ◌∷◌, ◌++◌, Bool, false, ◌&&◌, ◌||◌, eqb}
use Rattle.pm_auto.specs.declared.places.Row.{Row}
use Rattle.pm_auto.specs.declared.expr.Expr.{Expr}
use Rattle.pm_auto.specs.Core.{Core, nullable, when}
use Rattle.pm_auto.specs.Trim.{trimmed}
use Rattle.pm_auto.specs.Table.{rows, firsts}

-- the k-th row
abbrev pub look : List Row → ℕ → Row
look [] k = record { kind = 0; follow = []; ends = false }
look (r ∷ rs) zero = r
look (r ∷ rs) (suc k) = look rs k

-- the places that may come after those of the type
abbrev pub next_rows : List Row → ℕ → List ℕ → List ℕ
next_rows rs k [] = []
next_rows rs k (n ∷ ns) = when (eqb (look rs n).kind k) (look rs n).follow ++ next_rows rs k ns

-- one of the places of the type may be the last
abbrev pub end_rows : List Row → ℕ → List ℕ → Bool
end_rows rs k [] = false
end_rows rs k (n ∷ ns) = (eqb (look rs n).kind k && (look rs n).ends) || end_rows rs k ns

-- the list leads from these places to an end
abbrev pub runs_rows : List Row → List ℕ → Bool → List ℕ → Bool
runs_rows rs ns end [] = end
runs_rows rs ns end (k ∷ w) = runs_rows rs (next_rows rs k ns) (end_rows rs k ns) w

-- the list leads from the first places to an end
abbrev pub accepts_rows : Core → List ℕ → Bool
accepts_rows e w = runs_rows (rows 0 e) (firsts 0 e) (nullable e) w

-- the list of types is in the language of the expression, decided
abbrev pub fits : Expr → List ℕ → Bool
fits e w = accepts_rows (trimmed e) w
