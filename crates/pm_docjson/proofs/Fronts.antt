-- One more value of an object that is read member by member.
use Rattle.std.proofs.Common.{◌≡◌, ℕ, List, [], ◌∷◌, ◌++◌}
use Rattle.std.specs.Prelude.{Ok}
use Rattle.serde_json.specs.Data.{Data, Members, member}
use Rattle.pm_list.specs.Readings.{with_front, with_front-more}
use Rattle.pm_value.specs.Plain.{Plain}
use Rattle.pm_value.specs.Reading.{value_of}
use Rattle.pm_docjson.specs.Values.{Given}
use Rattle.pm_docjson.specs.Reading.{as_attr, given_in}

pub given_in-more : (front : Given) (k : List ℕ) (d : Data) (v : Plain) (ms : Members) → as_attr (value_of d) ≡ Ok v
    → with_front (front ++ (k, v) ∷ []) (given_in ms) ≡ with_front front (given_in (member k d ms))
unfolding given_in
given_in-more front k d v ms is = rw is (with_front-more front (k, v) (given_in ms))

pub ruleset given = given_in-more
