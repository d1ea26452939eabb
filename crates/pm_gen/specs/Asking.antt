-- What three words ask for.
use Rattle.std.specs.Prelude.{ℕ, ◌*◌, ◌^◌, nat_lt, nat_le, ◌&&◌, Bool, List, length, Option, Some, None, option_and_then, if◌then◌else◌}
use Rattle.std.specs.List.{list_all}
use Rattle.std.specs.Str.Parse.{digits_value}
use Rattle.pm_gen.specs.declared.bounds.TheConstants.{MAX_CLIENTS, MAX_OP_LINES}
use Rattle.pm_gen.specs.declared.asking.Asked.{Asked}

abbrev pub is_digit : ℕ → Bool
is_digit b = nat_le 48 b && nat_le b 57

-- the text is one to twenty decimal digits
abbrev pub is_digits : List ℕ → Bool
is_digits text = nat_lt 0 (length text) && (nat_le (length text) 20 && list_all is_digit text)

-- the number that the digits write, where it is below 2^64
abbrev pub digits_number : List ℕ → Option ℕ
digits_number text = if nat_lt (digits_value 10 text) (2 ^ 64) then Some (digits_value 10 text) else None

-- the number that a text writes
abbrev pub number_of : List ℕ → Option ℕ
number_of text = if is_digits text then digits_number text else None

-- at least one client, and no more clients and op lines than a session may have
abbrev pub in_bounds : ℕ → ℕ → Bool
in_bounds clients rounds = nat_le 1 clients && (nat_le clients MAX_CLIENTS && (nat_le rounds MAX_OP_LINES && nat_le (clients * rounds) MAX_OP_LINES))

-- what these numbers ask for
abbrev pub asked_from : (clients rounds number : ℕ) → Option Asked
asked_from clients rounds number = if in_bounds clients rounds then Some (record { clients = clients; rounds = rounds; number = number }) else None

-- what these words ask for
abbrev pub asked_of : (clients rounds number : List ℕ) → Option Asked
asked_of clients rounds number = option_and_then (λ c. option_and_then (λ r. option_and_then (asked_from c r) (number_of number)) (number_of rounds)) (number_of clients)
