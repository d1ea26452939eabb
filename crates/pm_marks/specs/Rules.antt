-- Which types of marks exclude which.
use Rattle.std.specs.Prelude.{ℕ, Bool, false, List, [], slice_index_or}

-- Type a excludes type b where row a of the table says so at place b. Where the table has no such entry, it does not.
abbrev pub excludes : List (List Bool) → ℕ → ℕ → Bool
excludes table a b = slice_index_or (slice_index_or table a []) b false
