-- What is read has no broken unit.
use Rattle.std.proofs.Common.{◌≡◌, ◌<◌, ◌==◌, ℕ, ◌+◌, ◌-◌, ◌/◌, ◌%◌, ◌++◌, suc, List, [], ◌∷◌, length, Bool, true, false, cond, nat_lt, refl, ap, sym, subst, ◌∙◌, arith}
use Rattle.std.proofs.lemmas.Str.{encodes-chars}
use Rattle.std.specs.Prelude.{Option, Some, None}
use Rattle.std.specs.List.{flat_map}
use Rattle.std.specs.Str.{IsUtf8, chars, encode_utf8_all as encodes}
use Rattle.std.specs.Char.Escape.{encode_utf16}
use Rattle.std.specs.Char.Utf16.{is_high_surrogate, is_low_surrogate}
use Rattle.pm_text.specs.Units.{utf16}
use Rattle.pm_text.proofs.Spelled.{text_whole}
use Rattle.pm_tokens.specs.Tokens.{Marks, Token, Open, Close, Leaf, CodeUnit}
use Rattle.pm_tokens.specs.Kids.{text_tokens, goes_on}
use Rattle.pm_tokens.specs.Faults.{low_next, high_of, pair_fits, last_high, first_broken}
use Rattle.pm_tokens.proofs.FaultLaws.{text-whole}
use Rattle.pm_docjson.proofs.Pairs.{NoBroken, first_whole, later, joined}

-- ---- one list after another

low-more : (m : Marks) (xs ys : List Token) → low_next m xs ≡ true → low_next m (xs ++ ys) ≡ true
low-more m [] ys h = absurd (cc)
low-more m (Open k a n ∷ xs) ys h = h
low-more m (Close ∷ xs) ys h = h
low-more m (Leaf k a n ∷ xs) ys h = h
low-more m (CodeUnit u n ∷ xs) ys h = h

fits-more : (high : Option Marks) (t : Token) (xs ys : List Token) → pair_fits high t xs ≡ true → pair_fits high t (xs ++ ys) ≡ true
fits-more high (Open k a m) xs ys h = refl
fits-more high Close xs ys h = refl
fits-more high (Leaf k a m) xs ys h = refl
fits-more high (CodeUnit u m) xs ys h = pick (is_high_surrogate u) h
  where
    pick : (b : Bool) → cond b (low_next m xs) (cond (is_low_surrogate u) (goes_on high m) true) ≡ true → cond b (low_next m (xs ++ ys)) (cond (is_low_surrogate u) (goes_on high m) true) ≡ true
    pick true e = low-more m xs ys e
    pick false e = e

-- the last token is no first half of a pair
none-left : (at : ℕ) (high : Option Marks) (t : Token) (ts : List Token) → first_broken at high (t ∷ ts) ≡ None → last_high (high_of t) ts ≡ None
none-left at high t (x ∷ xs) h = none-left (at + 1) (high_of t) x xs (later at high t (x ∷ xs) h)
none-left at high (Open k a m) [] h = refl
none-left at high Close [] h = refl
none-left at high (Leaf k a m) [] h = refl
none-left at high (CodeUnit u m) [] h = pick (is_high_surrogate u) (first_whole at high (CodeUnit u m) [] h)
  where
    pick : (b : Bool) → cond b false (cond (is_low_surrogate u) (goes_on high m) true) ≡ true → cond b (Some m) None ≡ None
    pick true e = absurd (cc)
    pick false e = refl

append-pairs : (xs ys : List Token) (at : ℕ) (high : Option Marks) → first_broken at high xs ≡ None → NoBroken (last_high high xs) ys → first_broken at high (xs ++ ys) ≡ None
append-pairs [] ys at high h k = k at
append-pairs (t ∷ xs) ys at high h k = joined at high t (xs ++ ys) (fits-more high t xs ys (first_whole at high t xs h)) (append-pairs xs ys (at + 1) (high_of t) (later at high t xs h) k)

pub pairs-append : (xs ys : List Token) → NoBroken None xs → NoBroken None ys → NoBroken None (xs ++ ys)
pairs-append [] ys h k at = k at
pairs-append (t ∷ xs) ys h k at = append-pairs (t ∷ xs) ys at None (h at) (subst (λ o. NoBroken o ys) (sym (none-left at None t xs (h at))) k)

-- ---- texts

pub text-pairs : (m : Marks) (bytes : List ℕ) → IsUtf8 bytes → NoBroken None (text_tokens m (utf16 bytes))
text-pairs m bytes h at = text-whole at m (utf16 bytes) (text_whole bytes h)

some-unit : (c : ℕ) (us : List ℕ) → 0 < length (encode_utf16 c ++ us)
some-unit c us = pick (nat_lt c 0x1_0000)
  where
    pick : (b : Bool) → 0 < length (cond b (c ∷ []) ((0xD800 + (c - 0x1_0000) / 0x400) ∷ (0xDC00 + (c - 0x1_0000) % 0x400) ∷ []) ++ us)
    pick true = omega arith
    pick false = omega arith

-- a text that is not empty has units
pub some-units : (bytes : List ℕ) → IsUtf8 bytes → (length bytes == 0) ≡ false → 0 < length (utf16 bytes)
unfolding utf16
some-units bytes h some = from (chars bytes) refl
  where
    from : (cs : List ℕ) → chars bytes ≡ cs → 0 < length (flat_map encode_utf16 cs)
    from [] is = let empty : [] ≡ bytes = ap encodes (sym is) ∙ encodes-chars bytes h in absurd (none (subst (λ x. (length x == 0) ≡ false) (sym empty) some))
      where
        none : true ≡ false → ⊥
        none e = cc
    from (c ∷ cs) is = some-unit c (flat_map encode_utf16 cs)

pub some-tokens : (m : Marks) (us : List ℕ) → length (text_tokens m us) ≡ length us
some-tokens m [] = refl
some-tokens m (u ∷ us) = ap suc (some-tokens m us)
