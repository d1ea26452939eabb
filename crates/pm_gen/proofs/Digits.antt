-- What a text of digits is read as.
use Rattle.std.proofs.Common.{◌≡◌, ◌<◌, ℕ, ◌^◌, List, [], ◌∷◌, length, refl, true, false, arith}
use Rattle.std.specs.Prelude.{nat_lt, Bool, ◌&&◌, Result, Ok, Err}
use Rattle.std.specs.List.{list_all}
use Rattle.std.specs.Int.{IsInRange}
use Rattle.std.specs.Result.{OkIff, result_ok}
use Rattle.std.specs.Str.Parse.{digits_value, ParsesUnsigned}
use Rattle.std.proofs.lemmas.Bool.Decides.{nat_tests}
use Rattle.std.proofs.lemmas.Str.Parse.{IsDigitsTest, numerals_by_value, parse_digits}
use Rattle.pm_gen.specs.Asking.{is_digit, is_digits, digits_number}

both : (a b : Bool) → (a && b) ≡ true → (a ≡ true) × (b ≡ true)
both true b h = (refl, h)
both false b h = absurd (cc)

in-range : (c : ℕ) → is_digit c ≡ true → IsInRange 48 57 c
in-range c h = grind (arith, nat_tests)

of-range : (c : ℕ) → IsInRange 48 57 c → is_digit c ≡ true
of-range c h = grind (arith, nat_tests)

more-digits : (a b : Bool) → a ≡ true → b ≡ true → (a && b) ≡ true
more-digits true b h k = k
more-digits false b h k = absurd (cc)

tells-digits : IsDigitsTest (λ ds. list_all is_digit ds ≡ true)
tells-digits = record {
  empty = refl;
  parts = λ c cs h. let k = both (is_digit c) (list_all is_digit cs) h in (in-range c k.0, k.1);
  more = λ c cs k h. more-digits (is_digit c) (list_all is_digit cs) (of-range c k) h;
}

below : (v : ℕ) → v < 2 ^ 64 → nat_lt v (2 ^ 64) ≡ true
below v h = grind (arith, nat_tests)

not-below : (v : ℕ) → (v < 2 ^ 64 → ⊥) → nat_lt v (2 ^ 64) ≡ false
not-below v h = grind (arith, nat_tests)

some-digits : (ds : List ℕ) → is_digits ds ≡ true → 0 < length ds
some-digits [] h = absurd (cc)
some-digits (d ∷ ds) h = omega arith

all-digits : (ds : List ℕ) → is_digits ds ≡ true → list_all is_digit ds ≡ true
all-digits ds h = (both _ _ (both _ _ h).1).1

-- what was parsed is the number of the digits, where it fits
module _ {E : Type 0} where
  of-result : (ds : List ℕ) (r : Result ℕ E) → 0 < length ds → OkIff r ((0 < length ds) × (digits_value 10 ds < 2 ^ 64)) (digits_value 10 ds) → result_ok r ≡ digits_number ds
  of-result ds (Ok x) some h = rw (below (digits_value 10 ds) h.0.1, h.1) refl
  of-result ds (Err e) some h = rw (not-below (digits_value 10 ds) (λ l. h (some, l))) refl

  pub parsed-digits : (ds : List ℕ) (r : Result ℕ E) → ParsesUnsigned 64 10 ds r → is_digits ds ≡ true → result_ok r ≡ digits_number ds
  parsed-digits ds r h is = of-result ds r (some-digits ds is) (parse_digits (numerals_by_value _ tells-digits) 64 ds r h (all-digits ds is))
