-- Pairs of surrogate units, and surrogates that are in none.
use Rattle.std.specs.Prelude.{◌≡◌, ℕ, suc, ◌<◌, Bool, true, false, not, ◌&&◌, ◌||◌, List, ◌∷◌, slice_index}
use Rattle.std.specs.Char.Utf16.{is_high_surrogate, is_low_surrogate}

-- two neighbouring units are a pair: a high surrogate and then a low one
abbrev pub is_pair : ℕ → ℕ → Bool
is_pair first second = is_high_surrogate first && is_low_surrogate second

-- the unit before a place, or 0 where none is, which is no surrogate
abbrev pub unit_before : List ℕ → ℕ → ℕ
unit_before units at = slice_index (0 ∷ units) at

-- the place at is between the two units of a pair
abbrev pub parts_pair : List ℕ → ℕ → Bool
parts_pair units at = is_pair (unit_before units at) (slice_index units at)

-- a unit is a surrogate that makes a pair neither with the unit before it nor with the one after it
abbrev pub is_lone : ℕ → ℕ → ℕ → Bool
is_lone before unit after = (is_high_surrogate unit || is_low_surrogate unit) && not (is_pair before unit) && not (is_pair unit after)

-- the unit at i is lone
abbrev pub is_lone_at : List ℕ → ℕ → Bool
is_lone_at units i = is_lone (unit_before units i) (slice_index units i) (slice_index units (suc i))

-- no unit is a surrogate
abbrev pub HasNoSurrogate : List ℕ → Type 0
HasNoSurrogate units = (i : ℕ) → (is_high_surrogate (slice_index units i) || is_low_surrogate (slice_index units i)) ≡ false

-- no unit is lone
abbrev pub HasNoLone : List ℕ → Type 0
HasNoLone units = (i : ℕ) → is_lone_at units i ≡ false

-- the unit at this place is lone, and none before it is
pub record IsFirstLone (units : List ℕ) (at : ℕ) : Type 0 where
  pub lone : is_lone_at units at ≡ true
  pub none_before : (i : ℕ) → i < at → is_lone_at units i ≡ false
