-- The first line ends at the first LF.
use Rattle.std.proofs.Common.{◌≡◌, ◌<◌, ◌+◌, ◌-◌, ℕ, suc, Bool, true, false, not, cond, List, [], ◌∷◌, length, take, drop, refl, arith}
use Rattle.std.specs.Prelude.{nat_lt, ◌==◌, Option, Some, None, position}
use Rattle.std.specs.List.{prefix_len}
use Rattle.std.proofs.lemmas.Bool.Decides.{nat_tests}
use Rattle.std.specs.Prelude.{IsUtf8}
use Rattle.std.specs.Str.{is_utf8}
use Rattle.std.proofs.lemmas.Str.{IsUtf8-from_is_utf8, is_utf8-from_IsUtf8}
use Rattle.std.proofs.lemmas.Grind.{common_steps}
use Rattle.serde_json.specs.Data.{Data}
use Rattle.serde_json.specs.Read.{read}
use Rattle.pm_head.specs.Lines.{lines_of, onto, json_of}

abbrev place : List ℕ → ℕ
place bytes = prefix_len (λ b. not (b == 10)) bytes

one_more : (k : ℕ) → 1 + k ≡ suc k
one_more k = omega arith

smaller : (k n : ℕ) → nat_lt (1 + k) (suc n) ≡ true → nat_lt k n ≡ true
smaller k n h = grind (arith, nat_tests)

no_smaller : (k n : ℕ) → nat_lt (1 + k) (suc n) ≡ false → nat_lt k n ≡ false
no_smaller k n h = grind (arith, nat_tests)

step : (t : Bool) (b : ℕ) (bytes : List ℕ) → (nat_lt (place bytes) (length bytes) ≡ true → lines_of bytes ≡ take (place bytes) bytes ∷ lines_of (drop (place bytes + 1) bytes)) → nat_lt (cond (not t) (1 + place bytes) 0) (suc (length bytes)) ≡ true → cond t ([] ∷ lines_of bytes) (onto b (lines_of bytes)) ≡ take (cond (not t) (1 + place bytes) 0) (b ∷ bytes) ∷ lines_of (drop (cond (not t) (1 + place bytes) 0 + 1) (b ∷ bytes))
step true b bytes h within = refl
step false b bytes h within =
    let next : 1 + place bytes + 1 ≡ suc (place bytes + 1) = omega arith in
    rw (h (smaller (place bytes) (length bytes) within), next, one_more (place bytes)) refl

pub split_line : (bytes : List ℕ) → nat_lt (place bytes) (length bytes) ≡ true → lines_of bytes ≡ take (place bytes) bytes ∷ lines_of (drop (place bytes + 1) bytes)
unfolding lines_of
split_line [] within = absurd (cc)
split_line (b ∷ bytes) within = step (b == 10) b bytes (split_line bytes) within

not_zero : (n : ℕ) → nat_lt 0 (suc n) ≡ false → ⊥
not_zero n h = grind (arith, nat_tests)

last : (t : Bool) (b : ℕ) (bytes : List ℕ) → (0 < length bytes → nat_lt (place bytes) (length bytes) ≡ false → lines_of bytes ≡ bytes ∷ []) → nat_lt (cond (not t) (1 + place bytes) 0) (suc (length bytes)) ≡ false → cond t ([] ∷ lines_of bytes) (onto b (lines_of bytes)) ≡ (b ∷ bytes) ∷ []
unfolding lines_of
last true b bytes h past = absurd (not_zero (length bytes) past)
last false b [] h past = refl
last false b (c ∷ bytes) h past = rw (h (omega arith) (no_smaller (place (c ∷ bytes)) (length (c ∷ bytes)) past)) refl

pub last_line : (bytes : List ℕ) → 0 < length bytes → nat_lt (place bytes) (length bytes) ≡ false → lines_of bytes ≡ bytes ∷ []
unfolding lines_of
last_line [] some past = absurd (omega arith)
last_line (b ∷ bytes) some past = last (b == 10) b bytes (last_line bytes) past

-- what a search for LF says of the lines
found : (t : Bool) (k : ℕ) (i : ℕ) → cond t (Some k) None ≡ Some i → (t ≡ true) × (k ≡ i)
found true k i is = (refl, cc)
found false k i is = absurd (cc)

missing : (t : Bool) (k : ℕ) → cond t (Some k) None ≡ None → t ≡ false
missing true k is = absurd (cc)
missing false k is = refl

pub line_to : (bytes : List ℕ) (i : ℕ) → position (λ b. b == 10) bytes ≡ Some i → lines_of bytes ≡ take i bytes ∷ lines_of (drop (i + 1) bytes)
line_to bytes i is =
    let at = found _ (place bytes) i is in
    rw (← at.1) (split_line bytes at.0)

pub line_to_end : (bytes : List ℕ) → 0 < length bytes → position (λ b. b == 10) bytes ≡ None → lines_of bytes ≡ bytes ∷ lines_of []
unfolding lines_of
line_to_end bytes some is = last_line bytes some (missing _ (place bytes) is)

take_rest : (bytes : List ℕ) (n : ℕ) → take (length bytes - n) (drop n bytes) ≡ drop n bytes
take_rest bytes n = grind (arith, common_steps)

pub first_of : (bytes : List ℕ) (i : ℕ) → position (λ b. b == 10) bytes ≡ Some i → lines_of bytes ≡ take i bytes ∷ lines_of (take (length bytes - (i + 1)) (drop (i + 1) bytes))
first_of bytes i is = rw take_rest (line_to bytes i is)

-- ---- the JSON value of a line

pub json_of-some : (line : List ℕ) (d : Data) → IsUtf8 line → read line ≡ Some d → json_of line ≡ Some d
unfolding json_of
json_of-some line d utf8 is = rw (is_utf8-from_IsUtf8 line utf8) is

none_unless : {A : Type 0} → (t : Bool) (r : Option A) → (t ≡ true → r ≡ None) → cond t r None ≡ None
none_unless true r h = h refl
none_unless false r h = refl

pub json_of-none : (line : List ℕ) → (IsUtf8 line → read line ≡ None) → json_of line ≡ None
unfolding json_of
json_of-none line h = none_unless (is_utf8 line) (read line) (λ t. h (IsUtf8-from_is_utf8 line t))
