-- Units without a lone surrogate spell characters, and characters have such units.
use Rattle.std.proofs.Common.{◌≡◌, ℕ, ◌+◌, ◌-◌, ◌*◌, ◌/◌, ◌%◌, ◌<◌, ◌≤◌, ◌⊎◌, inl, inr, zero, suc, List, [], ◌∷◌, Bool, true, false, not, ◌&&◌, refl, ap, sym, ◌∙◌, subst, arith, map, Some}
use Rattle.std.specs.Prelude.{slice_index}
use Rattle.std.specs.List.{flat_map}
use Rattle.std.specs.Str.{chars, IsUtf8}
use Rattle.std.specs.Char.Escape.{encode_utf16}
use Rattle.std.specs.Char.Utf16.{is_high_surrogate, surrogate_pair_char, lone_unit_char, utf16_chars}
use Rattle.std.specs.Option.{unwrap_or}
use Rattle.std.proofs.Math.Utf8.{scalar, scalars, encodes}
use Rattle.std.proofs.str.Utf16.{IsPair, one_unit, two_units, pair_units, lone_unit_char_low, lone_unit_char_high}
use Rattle.std.proofs.lemmas.Str.{utf16_chars-nil, utf16_chars_lone, utf16_chars_pair, chars-encodes, encodes-chars, scalars-chars}
use Rattle.std.proofs.lemmas.Bool.Decides.{nat_tests}
use Rattle.pm_text.specs.Units.{utf16, utf8, IsOneText}
use Rattle.pm_text.specs.Lone.{is_pair, is_lone, HasNoLone}
use Rattle.std.proofs.lemmas.Bool.{and_parts}

-- the characters of these units
pub record Spells (units cs : List ℕ) : Type 0 where
  pub scalar : scalars cs ≡ true
  pub units_of : flat_map encode_utf16 cs ≡ units
  pub read : utf16_chars units ≡ map Some cs

all_there : (cs : List ℕ) → map (λ o. unwrap_or o 0xFFFD) (map Some cs) ≡ cs
all_there [] = refl
all_there (c ∷ cs) = ap (λ ds. c ∷ ds) (all_there cs)

-- units and the text of their characters are one text
pub one_text : (units cs : List ℕ) → Spells units cs → IsOneText units (encodes cs)
unfolding utf16 utf8
one_text units cs h = record {
  has_units = rw (chars-encodes cs h.scalar) h.units_of;
  spells = rw (h.read, all_there cs) refl;
}

-- no unit is lone where the unit before the first is prev
abbrev pub NoneAfter : ℕ → List ℕ → Type 0
NoneAfter prev units = (i : ℕ) → is_lone (slice_index (prev ∷ units) i) (slice_index units i) (slice_index units (suc i)) ≡ false

abbrev pub IsPlain : ℕ → Type 0
IsPlain u = (u < 0xD800) ⊎ ((0xE000 ≤ u) × (u < 0x1_0000))

plain_scalar : (u : ℕ) → IsPlain u → scalar u ≡ true
plain_scalar u h = grind (arith, nat_tests)

plain_read : (u : ℕ) → IsPlain u → lone_unit_char u ≡ Some u
plain_read u (inl h) = lone_unit_char_low u h
plain_read u (inr h) = lone_unit_char_high u h.0

plain_apart : (u v : ℕ) → IsPlain u → ¬ (IsPair u v)
plain_apart u v (inl h) p = omega arith
plain_apart u v (inr h) p = omega arith

plain_not_high : (u : ℕ) → IsPlain u → is_high_surrogate u ≡ false
plain_not_high u h = grind (arith, nat_tests)

pub plain_not_lone : (before u after : ℕ) → IsPlain u → is_lone before u after ≡ false
plain_not_lone before u after h = grind (arith, nat_tests)

pair_not_high : (u v : ℕ) → IsPair u v → is_high_surrogate v ≡ false
pair_not_high u v h = grind (arith, nat_tests)

pair_is : (u v : ℕ) → IsPair u v → is_pair u v ≡ true
pair_is u v h = grind (arith, nat_tests)

pub one_more : (u : ℕ) (us cs : List ℕ) → IsPlain u → u < 0x1_0000 → Spells us cs → Spells (u ∷ us) (u ∷ cs)
one_more u us cs h small s = record {
  scalar = rw (plain_scalar u h) s.scalar;
  units_of = rw (one_unit u small) (ap (λ vs. u ∷ vs) s.units_of);
  read = utf16_chars_lone u us (plain_apart u _ h) ∙ rw (plain_read u h, s.read) refl;
}

pair_scalar : (u v : ℕ) → IsPair u v → scalar (surrogate_pair_char u v) ≡ true
pair_scalar u v h = grind (arith, nat_tests)

pair_char_units : (u v : ℕ) → IsPair u v → encode_utf16 (surrogate_pair_char u v) ≡ u ∷ v ∷ []
pair_char_units u v h = ap encode_utf16 {x = surrogate_pair_char u v} {y = 0x1_0000 + ((u - 0xD800) * 0x400 + (v - 0xDC00))} (omega arith) ∙ pair_units u v h.0 h.2 h.3

two_more : (u v : ℕ) (us cs : List ℕ) → IsPair u v → Spells us cs → Spells (u ∷ v ∷ us) (surrogate_pair_char u v ∷ cs)
two_more u v us cs h s = record {
  scalar = rw (pair_scalar u v h) s.scalar;
  units_of = rw (pair_char_units u v h) (ap (λ vs. u ∷ v ∷ vs) s.units_of);
  read = utf16_chars_pair u v us h ∙ ap (λ rest. Some (surrogate_pair_char u v) ∷ rest) s.read;
}

-- a unit that is not lone, after one that is no high surrogate, is plain or begins a pair
begins : (before u after : ℕ) → u < 0x1_0000 → is_high_surrogate before ≡ false → is_lone before u after ≡ false → IsPlain u ⊎ IsPair u after
begins before u after small low none = grind (arith, nat_tests)

abbrev Fit : List ℕ → Type 0
Fit units = (i : ℕ) → slice_index units i < 0x1_0000

pub spelled : (units : List ℕ) (prev : ℕ) → Fit units → is_high_surrogate prev ≡ false → NoneAfter prev units → (cs : List ℕ) × Spells units cs
spelled [] prev fit low none = ([], record { scalar = refl; units_of = refl; read = utf16_chars-nil })
spelled (u ∷ []) prev fit low none =
    elim (begins prev u 0 (fit 0) low (none 0)) [
      | inl h ↦ (u ∷ [], one_more u [] [] h (fit 0) (record { scalar = refl; units_of = refl; read = utf16_chars-nil }))
      | inr h ↦ absurd (omega arith)
    ]
spelled (u ∷ v ∷ us) prev fit low none =
    elim (begins prev u v (fit 0) low (none 0)) [
      | inl h ↦
          let rest = spelled (v ∷ us) u (λ i. fit (suc i)) (plain_not_high u h) (λ i. none (suc i)) in
          (u ∷ rest.0, one_more u (v ∷ us) rest.0 h (fit 0) rest.1)
      | inr h ↦
          let rest = spelled us v (λ i. fit (suc (suc i))) (pair_not_high u v h) (λ i. none (suc (suc i))) in
          (surrogate_pair_char u v ∷ rest.0, two_more u v us rest.0 h rest.1)
    ]

-- units without a lone surrogate and the text that they spell are one text
pub whole_text : (units : List ℕ) → Fit units → HasNoLone units → IsOneText units (utf8 units)
whole_text units fit none =
    let s = spelled units 0 fit refl none in
    let one = one_text units s.0 s.1 in
    subst (IsOneText units) (sym one.spells) one

-- ---- the way back: the units of characters

-- a character is one plain unit, or it has a pair of units
char_kinds : (c : ℕ) → scalar c ≡ true → (IsPlain c × (c < 0x1_0000)) ⊎ ((0x1_0000 ≤ c) × (c < 0x11_0000))
char_kinds c h = grind (arith, nat_tests)

pair_of : (c : ℕ) → 0x1_0000 ≤ c → c < 0x11_0000 → IsPair (0xD800 + (c - 0x1_0000) / 0x400) (0xDC00 + (c - 0x1_0000) % 0x400)
pair_of c from below = (omega arith, omega arith, omega arith, omega arith)

pair_char_of : (c : ℕ) → 0x1_0000 ≤ c → c < 0x11_0000 → surrogate_pair_char (0xD800 + (c - 0x1_0000) / 0x400) (0xDC00 + (c - 0x1_0000) % 0x400) ≡ c
pair_char_of c from below = omega arith

pub units_spelled : (cs : List ℕ) → scalars cs ≡ true → Spells (flat_map encode_utf16 cs) cs
units_spelled [] h = record { scalar = refl; units_of = refl; read = utf16_chars-nil }
units_spelled (c ∷ cs) h =
    let parts = and_parts _ _ h in
    let rest = units_spelled cs parts.1 in
    elim (char_kinds c parts.0) [
      | inl k ↦
          let is : flat_map encode_utf16 (c ∷ cs) ≡ c ∷ flat_map encode_utf16 cs = rw (one_unit c k.1) refl in
          subst (λ us. Spells us (c ∷ cs)) (sym is) (one_more c (flat_map encode_utf16 cs) cs k.0 k.1 rest)
      | inr k ↦
          let two = two_more _ _ (flat_map encode_utf16 cs) cs (pair_of c k.0 k.1) rest in
          let is : flat_map encode_utf16 (c ∷ cs) ≡ (0xD800 + (c - 0x1_0000) / 0x400) ∷ (0xDC00 + (c - 0x1_0000) % 0x400) ∷ flat_map encode_utf16 cs = rw (two_units c k.0) refl in
          subst (λ us. Spells us (c ∷ cs)) (sym is) (subst (λ d. Spells ((0xD800 + (c - 0x1_0000) / 0x400) ∷ (0xDC00 + (c - 0x1_0000) % 0x400) ∷ flat_map encode_utf16 cs) (d ∷ cs)) (pair_char_of c k.0 k.1) two)
    ]

left_pair : (s p q : Bool) → p ≡ true → (s && not p && not q) ≡ false
left_pair true true q h = refl
left_pair false true q h = refl
left_pair s false q h = absurd (cc)

right_pair : (s p q : Bool) → q ≡ true → (s && not p && not q) ≡ false
right_pair true true true h = refl
right_pair true false true h = refl
right_pair false p true h = refl
right_pair s p false h = absurd (cc)

none_plain : (u prev : ℕ) (us : List ℕ) → IsPlain u → NoneAfter u us → NoneAfter prev (u ∷ us)
none_plain u prev us h rest zero = plain_not_lone prev u (slice_index us 0) h
none_plain u prev us h rest (suc i) = rest i

none_pair : (u v prev : ℕ) (us : List ℕ) → IsPair u v → is_high_surrogate prev ≡ false → NoneAfter v us → NoneAfter prev (u ∷ v ∷ us)
none_pair u v prev us h low rest zero = right_pair _ _ (is_pair u v) (pair_is u v h)
none_pair u v prev us h low rest (suc zero) = left_pair _ (is_pair u v) _ (pair_is u v h)
none_pair u v prev us h low rest (suc (suc i)) = rest i

pub units_whole : (cs : List ℕ) (prev : ℕ) → scalars cs ≡ true → is_high_surrogate prev ≡ false → NoneAfter prev (flat_map encode_utf16 cs)
units_whole [] prev h low = λ i. refl
units_whole (c ∷ cs) prev h low =
    let parts = and_parts _ _ h in
    elim (char_kinds c parts.0) [
      | inl k ↦
          let is : flat_map encode_utf16 (c ∷ cs) ≡ c ∷ flat_map encode_utf16 cs = rw (one_unit c k.1) refl in
          let rest = units_whole cs c parts.1 (plain_not_high c k.0) in
          subst (NoneAfter prev) (sym is) (none_plain c prev (flat_map encode_utf16 cs) k.0 rest)
      | inr k ↦
          let is : flat_map encode_utf16 (c ∷ cs) ≡ (0xD800 + (c - 0x1_0000) / 0x400) ∷ (0xDC00 + (c - 0x1_0000) % 0x400) ∷ flat_map encode_utf16 cs = rw (two_units c k.0) refl in
          let pair = pair_of c k.0 k.1 in
          let rest = units_whole cs (0xDC00 + (c - 0x1_0000) % 0x400) parts.1 (pair_not_high _ _ pair) in
          subst (NoneAfter prev) (sym is) (none_pair _ _ prev (flat_map encode_utf16 cs) pair low rest)
    ]

-- a text and its units are one text
pub text_units : (bytes : List ℕ) → IsUtf8 bytes → IsOneText (utf16 bytes) bytes
unfolding utf16
text_units bytes h =
    let one = one_text _ (chars bytes) (units_spelled (chars bytes) (scalars-chars bytes h)) in
    subst (IsOneText (flat_map encode_utf16 (chars bytes))) (encodes-chars bytes h) one

pub text_whole : (bytes : List ℕ) → IsUtf8 bytes → HasNoLone (utf16 bytes)
unfolding utf16
text_whole bytes h = units_whole (chars bytes) 0 (scalars-chars bytes h) refl
