-- For private clauses: which clients have entered, as the lines of a file are looked through.
use Rattle.std.specs.Prelude.{ℕ, nat_eq, Bool, ◌||◌, List, map}
use Rattle.std.specs.Cmp.Lexicographic.{pointwise}
use Rattle.std.specs.List.{zip}
use Rattle.pm_head.specs.declared.clients.ClientEntry.{ClientEntry}
use Rattle.pm_script.specs.Entrants.{enters_on}

-- which have by the end of this line, where these had by its beginning
abbrev pub after_line : List ℕ → List ClientEntry → List Bool → List Bool
after_line line clients entered = map (λ p. p.1 || enters_on p.0.name line) (zip clients entered)

-- which have once the client of this name has, where these had before
abbrev pub after_entrant : List ℕ → List ClientEntry → List Bool → List Bool
after_entrant name clients entered = map (λ p. p.1 || pointwise nat_eq name p.0.name) (zip clients entered)
