-- Runs of tokens of one author.
use Rattle.std.specs.Prelude.{◌≢◌, ℕ, ◌+◌, ◌<◌, Bool, true, false, ◌&&◌, ◌==◌, if◌then◌else◌, List, [], ◌∷◌, ◌++◌, replicate, Option, Some, None}
use Rattle.std.specs.List.{sum_by}
use Rattle.pm_change.specs.declared.name.Name.{Name}
use Rattle.pm_authors.specs.declared.run.Run.{Run}

-- Who put a token in: the name of the step, or None where the token was in the document before the steps.
abbrev pub Author : Type 0
Author = Option Name

abbrev pub same_author : Author → Author → Bool
same_author None None = true
same_author (Some a) (Some b) = (a.client == b.client) && (a.serial == b.serial)
same_author _ _ = false

-- the author of each token of these runs
abbrev pub spelled : List Run → List Author
spelled [] = []
spelled (r ∷ rs) = replicate r.count r.author ++ spelled rs

-- how many tokens these runs have
abbrev pub tokens_of : List Run → ℕ
tokens_of rs = sum_by (λ r. r.count) rs

-- One token more in front of runs: it joins the first where that has its author, and else is a run of its own.
abbrev pub fronted : Author → List Run → List Run
fronted a [] = record { author = a; count = 1 } ∷ []
fronted a (r ∷ rs) =
    if same_author a r.author
    then record { author = a; count = r.count + 1 } ∷ rs
    else record { author = a; count = 1 } ∷ r ∷ rs

-- tokens, of each of which this is the author, in runs as long as can be
abbrev pub grouped : List Author → List Run
grouped [] = []
grouped (a ∷ others) = fronted a (grouped others)

-- No run is empty, and no two neighbours have one author.
abbrev pub AreMaximal : List Run → Type 0
AreMaximal [] = Unit {0}
AreMaximal (r ∷ []) = 0 < r.count
AreMaximal (r ∷ s ∷ rs) = (0 < r.count) × (r.author ≢ s.author) × AreMaximal (s ∷ rs)
