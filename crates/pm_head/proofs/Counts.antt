-- How many items there are.
use Rattle.std.proofs.Common.{◌≡◌, ◌<◌, ◌≤◌, ℕ, List, [], ◌∷◌, length, suc, true, refl, ap, arith}
use Rattle.std.proofs.lemmas.Bool.Decides.{nat_tests}
use Rattle.std.specs.Prelude.{nat_lt, nat_le, Some}
use Rattle.serde_json.specs.Data.{Data}
use Rattle.serde_json.specs.Find.{as_array}
use Rattle.serde_json.specs.declared.value.Value.{Value}
use Rattle.serde_json.specs.View.{items_view}
use Rattle.pm_head.specs.declared.form.Form.{Form}
use Rattle.pm_head.specs.Clients.{count_of, entries_of, clients_of}
use Rattle.pm_head.specs.Rooms.{rooms_from, rooms_of}

-- a list has as many items as its values
pub count_of-items : (vs : List Value) → count_of (items_view vs) ≡ length vs
count_of-items [] = refl
count_of-items (v ∷ vs) = ap suc (count_of-items vs)

pub ruleset counts = (count_of-items)

filled : (n : ℕ) → 0 < n → nat_lt 0 n ≡ true
filled n h = grind (arith, nat_tests)

few : (n : ℕ) → n ≤ 32 → nat_le n 32 ≡ true
few n h = grind (arith, nat_tests)

-- a value that is a list of 1 to 32 values gives their entries
pub some-clients : (form : Form) (d : Data) (vs : List Value) → as_array d ≡ Some (items_view vs) → 0 < length vs → length vs ≤ 32 → clients_of form d ≡ entries_of form [] (items_view vs)
unfolding clients_of
some-clients form d vs is some most = rw (is, count_of-items vs, filled (length vs) some, few (length vs) most) refl

few-rooms : (n : ℕ) → n ≤ 16 → nat_le n 16 ≡ true
few-rooms n h = grind (arith, nat_tests)

-- a value that is a list of 1 to 16 values gives their names
pub some-rooms : (d : Data) (vs : List Value) → as_array d ≡ Some (items_view vs) → 0 < length vs → length vs ≤ 16 → rooms_of d ≡ rooms_from [] (items_view vs)
unfolding rooms_of
some-rooms d vs is some most = rw (is, count_of-items vs, filled (length vs) some, few-rooms (length vs) most) refl
