-- What is written is read as the same value.
use Rattle.std.proofs.Common.{◌≡◌, ◌<◌, ◌≤◌, ◌-◌, ◌^◌, ◌==◌, ℕ, suc, List, [], ◌∷◌, false, refl, ap, ap₂, arith, map}
use Rattle.std.proofs.lemmas.Bool.Decides.{nat_tests}
use Rattle.std.specs.List.Sorted.{IsStrictlySortedBy}
use Rattle.std.specs.Prelude.{Some, Ok, pos, negsuc}
use Rattle.serde_json.specs.Data.{Data, member, put}
use Rattle.pm_value.specs.Plain.{Plain, null, truth, int, text, items, fields, Plains, none, one, plains_of, fields_of, depth, plains_depth}
use Rattle.pm_value.specs.Reading.{int_of, value_at, list_at, pairs_at}
use Rattle.pm_value.specs.Writing.{written, items_written, members_written}
use Rattle.pm_value.specs.Kept.{HasEach, InOrder, IsKept, AreKept}
use Rattle.pm_value.specs.Told.{list_of, paired}

listed : (vs : Plains) → plains_of (list_of vs) ≡ vs
listed none = refl
listed (one v vs) = ap (one v) (listed vs)

names_listed : (ns : List (List ℕ)) (vs : Plains) → HasEach ns vs → map (λ f. f.0) (paired ns (list_of vs)) ≡ ns
names_listed [] none h = refl
names_listed [] (one v vs) h = absurd h
names_listed (n ∷ ns) none h = absurd h
names_listed (n ∷ ns) (one v vs) h = ap (λ ms. n ∷ ms) (names_listed ns vs h)

values_listed : (ns : List (List ℕ)) (vs : Plains) → HasEach ns vs → plains_of (map (λ f. f.1) (paired ns (list_of vs))) ≡ vs
values_listed [] none h = refl
values_listed [] (one v vs) h = absurd h
values_listed (n ∷ ns) none h = absurd h
values_listed (n ∷ ns) (one v vs) h = ap (one v) (values_listed ns vs h)

fields_listed : (ns : List (List ℕ)) (vs : Plains) → HasEach ns vs → fields_of (paired ns (list_of vs)) ≡ fields ns vs
fields_listed ns vs h = ap₂ (λ x y. fields x y) (names_listed ns vs h) (values_listed ns vs h)

pub put_first : (k : List ℕ) (d : Data) (ns : List (List ℕ)) (vs : Plains) → HasEach ns vs → InOrder (k ∷ ns) → put k d (members_written ns vs) ≡ member k d (members_written ns vs)
unfolding members_written IsStrictlySortedBy
put_first k d [] none each h = refl
put_first k d [] (one v vs) each h = absurd each
put_first k d (n ∷ ns) none each h = absurd each
put_first k d (n ∷ ns) (one v vs) each h = rw (put_first n (written v) ns vs each h.1, h.0.0) refl

int-again : (n : ℕ) → n < 2 ^ 63 → int_of (Some (pos n)) ≡ Ok (int (pos n))
int-again n h = grind (arith, nat_tests)

entered : (n k : ℕ) → suc k ≤ n → (n == 0) ≡ false
entered n k h = grind (arith, nat_tests)

mutual
  unfolding value_at written IsStrictlySortedBy

  pub value-again : (v : Plain) (n : ℕ) → IsKept v → depth v ≤ n → value_at (written v) n ≡ Ok v
  value-again null n h low = refl
  value-again (truth b) n h low = refl
  value-again (int (pos z)) n h low = int-again z h
  value-again (int (negsuc z)) n h low = refl
  value-again (text bs) n h low = refl
  value-again (items vs) n h low = rw (entered n (plains_depth vs) low, list-again vs (n - 1) h (omega arith)) (ap (λ ws. Ok (items ws)) (listed vs))
  value-again (fields ns vs) n h low = rw (entered n (plains_depth vs) low, pairs-again ns vs (n - 1) h.0 h.1 h.2 (omega arith)) (ap Ok (fields_listed ns vs h.0))

  list-again : (vs : Plains) (n : ℕ) → AreKept vs → plains_depth vs ≤ n → list_at (items_written vs) n ≡ Ok (list_of vs)
  list-again none n h low = refl
  list-again (one v vs) n h low = rw (value-again v n h.0 (omega arith), list-again vs n h.1 (omega arith)) refl

  pairs-again : (ns : List (List ℕ)) (vs : Plains) (n : ℕ) → HasEach ns vs → InOrder ns → AreKept vs → plains_depth vs ≤ n → pairs_at (members_written ns vs) n ≡ Ok (paired ns (list_of vs))
  pairs-again [] none n e o h low = refl
  pairs-again [] (one v vs) n e o h low = absurd e
  pairs-again (k ∷ ns) none n e o h low = absurd e
  pairs-again (k ∷ ns) (one v vs) n e o h low = rw (put_first k (written v) ns vs e o, value-again v n h.0 (omega arith), pairs-again ns vs n e o.1 h.1 (omega arith)) refl
