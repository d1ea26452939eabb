-- The units of a text come one by one.
use Rattle.std.proofs.Common.{◌≡◌, ℕ, ◌<◌, List, [], ◌∷◌, ◌++◌, length, refl, ap, sym, ◌∙◌, subst, arith, append_assoc, suc, ◌≤◌, false, ◌⊎◌, inl, inr, Some, None}
use Rattle.std.specs.Prelude.{slice_index}
use Rattle.std.specs.List.{flat_map}
use Rattle.std.specs.Str.{IsUtf8}
use Rattle.std.specs.Str.Iter.{encode_utf16_steps, encode_utf16_pending, encode_utf16_rest}
use Rattle.std.specs.declared.str.EncodeUtf16.{EncodeUtf16}
use Rattle.std.specs.Char.Escape.{encode_utf16}
use Rattle.std.proofs.lemmas.Str.{chars_past_char, IsUtf8-past_char, chars-nil}
use Rattle.std.proofs.lemmas.List.{get_or_past, append-nil}
use Rattle.std.proofs.Math.Utf8.{encode}
use Rattle.pm_text.specs.Units.{utf16}
use Rattle.pm_text.specs.Lone.{is_lone, is_lone_at, unit_before, HasNoLone}

-- the units of a text that begins with the character c
pub utf16_step : (bytes rest : List ℕ) (c : ℕ) → IsUtf8 bytes → bytes ≡ encode c ++ rest → utf16 bytes ≡ encode_utf16 c ++ utf16 rest
unfolding utf16
utf16_step bytes rest c h is = rw (chars_past_char bytes rest c h is) refl

-- nothing past the end is lone
pub none_lone : (units : List ℕ) (n : ℕ) → length units ≤ n → ((i : ℕ) → i < n → is_lone_at units i ≡ false) → HasNoLone units
none_lone units n past none i = from (grind arith)
  where
    from : (i < n) ⊎ (n ≤ i) → is_lone_at units i ≡ false
    from (inl h) = none i h
    from (inr h) = ap (λ u. is_lone (unit_before units i) u (slice_index units (suc i))) (get_or_past units i 0 (omega arith))

-- what is to come of the units, and the text after it
abbrev pub left : EncodeUtf16 → List ℕ
left s = encode_utf16_pending s ++ utf16 (encode_utf16_rest s)

one_from_pair : (p q r next : List ℕ) (u : ℕ) → p ≡ u ∷ [] → q ≡ [] → next ≡ r → p ++ r ≡ u ∷ (q ++ next)
one_from_pair p q r next u hp hq hr = rw (hp, hq, hr) refl

one_from_char : (p q r next m : List ℕ) (u : ℕ) → p ≡ [] → r ≡ m ++ next → m ≡ u ∷ q → p ++ r ≡ u ∷ (q ++ next)
one_from_char p q r next m u hp hr hm = rw (hp, hr, hm) refl

-- one more unit comes
one_more : (s t : EncodeUtf16) (u : ℕ) → encode_utf16_steps s (Some u) t → IsUtf8 (encode_utf16_rest s) → (left s ≡ u ∷ left t) × IsUtf8 (encode_utf16_rest t)
one_more s t u (inl h) is_text =
    (one_from_pair (encode_utf16_pending s) (encode_utf16_pending t) (utf16 (encode_utf16_rest s)) (utf16 (encode_utf16_rest t)) u h.0 h.1 (ap utf16 h.2), subst IsUtf8 (sym h.2) is_text)
one_more s t u (inr h) is_text =
    let step = utf16_step (encode_utf16_rest s) (encode_utf16_rest t) h.1.0 is_text h.1.1 in
    (one_from_char (encode_utf16_pending s) (encode_utf16_pending t) (utf16 (encode_utf16_rest s)) (utf16 (encode_utf16_rest t)) (encode_utf16 h.1.0) u h.0 step h.1.2, IsUtf8-past_char (encode_utf16_rest s) (encode_utf16_rest t) h.1.0 is_text h.1.1)

pub step_on : (s t : EncodeUtf16) (u : ℕ) (done text : List ℕ) → encode_utf16_steps s (Some u) t → IsUtf8 (encode_utf16_rest s) → done ++ left s ≡ text
    → ((done ++ u ∷ []) ++ left t ≡ text) × IsUtf8 (encode_utf16_rest t)
step_on s t u done text h is_text sum =
    let more = one_more s t u h is_text in
    (append_assoc done (u ∷ []) (left t) ∙ ap (λ us. done ++ us) (sym more.0) ∙ sum, more.1)

none_from : (p r : List ℕ) → p ≡ [] → r ≡ [] → p ++ r ≡ []
none_from p r hp hr = rw (hp, hr) refl

empty : (bytes : List ℕ) → length bytes ≡ 0 → utf16 bytes ≡ []
unfolding utf16
empty [] e = ap (flat_map encode_utf16) chars-nil
empty (b ∷ bytes) e = absurd (omega arith)

-- no unit is left at the end
pub at_end : (s t : EncodeUtf16) (done text : List ℕ) → encode_utf16_steps s None t → done ++ left s ≡ text → text ≡ done
at_end s t done text h sum =
    let nothing = none_from (encode_utf16_pending s) (utf16 (encode_utf16_rest s)) h.0 (empty (encode_utf16_rest s) h.1) in
    sym sum ∙ ap (λ us. done ++ us) nothing ∙ append-nil done
