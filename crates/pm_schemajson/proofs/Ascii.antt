-- Well-formed names are ASCII.
use Rattle.std.proofs.Common.{◌≡◌, ℕ, ◌<◌, List, [], ◌∷◌, Bool, true, false, ◌&&◌, ◌||◌, eqb, leb, refl, arith, inl, inr, ◌⊎◌}
use Rattle.std.specs.List.{list_all}
use Rattle.std.specs.Str.{IsAscii, IsUtf8}
use Rattle.std.proofs.lemmas.Bool.{eqb-true, leb-true}
use Rattle.std.proofs.lemmas.Str.{IsUtf8-from_ascii}
use Rattle.std.proofs.lemmas.Str.Ascii.{IsAscii-nil, IsAscii-cons}
use Rattle.pm_expr.specs.Tokens.{is_word, is_digit, between}
use Rattle.pm_schemajson.specs.Words.{is_name}

or-cases : (a b : Bool) → a || b ≡ true → (a ≡ true) ⊎ (b ≡ true)
or-cases true b h = inl refl
or-cases false b h = inr h

and-cases : (a b : Bool) → a && b ≡ true → (a ≡ true) × (b ≡ true)
and-cases true b h = (refl, h)
and-cases false b h = absurd (cc)

between-small : (low high b : ℕ) → high < 128 → between low high b ≡ true → b < 128
between-small low high b l h = let le = leb-true b high (and-cases (leb low b) (leb b high) h).1 in omega arith

word-small : (b : ℕ) → is_word b ≡ true → b < 128
word-small b h = one (or-cases (is_digit b) (between 65 90 b || (between 97 122 b || eqb b 95)) h)
  where
    three : (between 97 122 b ≡ true) ⊎ (eqb b 95 ≡ true) → b < 128
    three (inl e) = between-small 97 122 b (omega arith) e
    three (inr e) = let q = eqb-true b 95 e in omega arith

    two : (between 65 90 b ≡ true) ⊎ (between 97 122 b || eqb b 95 ≡ true) → b < 128
    two (inl e) = between-small 65 90 b (omega arith) e
    two (inr e) = three (or-cases (between 97 122 b) (eqb b 95) e)

    one : (is_digit b ≡ true) ⊎ (between 65 90 b || (between 97 122 b || eqb b 95) ≡ true) → b < 128
    one (inl e) = between-small 48 57 b (omega arith) e
    one (inr e) = two (or-cases (between 65 90 b) (between 97 122 b || eqb b 95) e)

all-ascii : (w : List ℕ) → list_all is_word w ≡ true → IsAscii w
all-ascii [] h = IsAscii-nil
all-ascii (b ∷ bs) h = let p = and-cases (is_word b) (list_all is_word bs) h in IsAscii-cons b bs (word-small b p.0) (all-ascii bs p.1)

pub name-utf8 : (w : List ℕ) → is_name w ≡ true → IsUtf8 w
name-utf8 w h = IsUtf8-from_ascii w (all-ascii w (and-cases (list_all is_word w) _ (and-cases _ _ h).1).0)
