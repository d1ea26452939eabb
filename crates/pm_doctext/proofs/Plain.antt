-- A word none of whose bytes is escaped stands in a string as it is.
use Rattle.std.proofs.Common.{◌≡◌, ◌<◌, ℕ, suc, List, [], ◌∷◌, ◌++◌, length, Bool, true, false, not, refl, ap, ◌∙◌, arith}
use Rattle.std.specs.Prelude.{slice_index}
use Rattle.json.specs.Print.{escape, escape_byte}

pub escape-plain : (xs : List ℕ) → ((j : ℕ) → j < length xs → escape_byte (slice_index xs j) ≡ slice_index xs j ∷ []) → escape xs ≡ xs
escape-plain [] h = refl
escape-plain (x ∷ xs) h = ap (λ z. z ++ escape xs) (h 0 (omega arith)) ∙ ap (λ z. x ∷ z) (escape-plain xs (λ j l. h (suc j) (omega (arith, l))))

pub not-any : (any : Bool) → not any ≡ true → any ≡ false
not-any true h = absurd (cc)
not-any false h = refl
