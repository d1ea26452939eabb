-- One more field of an object that is read field by field.
use Rattle.std.proofs.Common.{◌≡◌, ℕ, List, [], ◌∷◌, ◌++◌}
use Rattle.std.specs.Prelude.{Ok}
use Rattle.serde_json.specs.Data.{Data, Members, member}
use Rattle.pm_list.specs.Readings.{with_front, with_front-more}
use Rattle.pm_value.specs.Plain.{Plain}
use Rattle.pm_value.specs.Reading.{value_at, pairs_at}

pub pairs_at-more : (front : List (List ℕ × Plain)) (k : List ℕ) (d : Data) (v : Plain) (ms : Members) (levels : ℕ) → value_at d levels ≡ Ok v
    → with_front (front ++ (k, v) ∷ []) (pairs_at ms levels) ≡ with_front front (pairs_at (member k d ms) levels)
unfolding pairs_at
pairs_at-more front k d v ms levels is = rw is (with_front-more front (k, v) (pairs_at ms levels))

pub ruleset pairs = pairs_at-more
