-- Who put each token in, over the steps of a log.
use Rattle.std.specs.Prelude.{◌≡◌, ℕ, List, [], ◌∷◌, replicate, Some, None}
use Rattle.pm_change.specs.Changes.{Meaning}
use Rattle.pm_authority.specs.declared.named.Named.{Named}
use Rattle.pm_authority.specs.Runs.{AllApply}
use Rattle.pm_authors.specs.Runs.{Author}
use Rattle.pm_authors.specs.Stepping.{over}

module _ {Rules Doc Reason C : Type 0} (m : Meaning Rules Doc Reason C) where
  -- The steps apply one after another to a good document of this size.
  pub record ApplyFrom (steps : List (Named C)) (size : ℕ) : Type 0 where
    pub rules : Rules
    pub first : Doc
    pub last : Doc
    pub good : m.is_good rules first
    pub apply : AllApply m rules first steps last
    pub sized : m.size first ≡ size

  -- the author of each token after the steps, where these are the authors before them
  abbrev pub authors_from : List (Named C) → List Author → List Author
  authors_from [] xs = xs
  authors_from (n ∷ ns) xs = authors_from ns (over (Some n.name) (m.step_map n.change) 0 xs)

  -- and where the tokens before them, so many, are of no step
  abbrev pub authors_of : List (Named C) → ℕ → List Author
  authors_of steps size = authors_from steps (replicate size None)
