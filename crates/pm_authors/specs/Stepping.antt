-- Who put each token in, over the map of one step.
use Rattle.std.specs.Prelude.{ℕ, ◌+◌, ◌-◌, List, [], ◌∷◌, ◌++◌, take, drop, replicate}
use Rattle.pm_map.specs.declared.step_map.Span.{Span}
use Rattle.pm_authors.specs.Runs.{Author}

-- The authors of the tokens after a step, from the position `at` of the document before it on: those up to the next range as
-- they were, the step's for all that the range puts in, and so on from the range's end.
abbrev pub over : Author → List Span → ℕ → List Author → List Author
over a [] at xs = drop at xs
over a (r ∷ rs) at xs = take (r.start - at) (drop at xs) ++ replicate r.new_size a ++ over a rs (r.start + r.old_size) xs
