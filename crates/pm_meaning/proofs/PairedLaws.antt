-- Pairs stay together where a document is put together of parts of two, and where one part has equal marks throughout.
use Rattle.std.specs.Prelude.{◌≡◌, ℕ, true, false, cond, List, [], ◌∷◌, ◌++◌, Option, Some, None}
use Rattle.std.proofs.Common.{refl, ap, sym, ◌∙◌, subst}
use Rattle.pm_tokens.specs.Faults.{low_next, pair_fits, high_of, under, token_fits, place_from}
use Rattle.pm_tokens.specs.Kids.{goes_on}
use Rattle.pm_tokens.specs.Scan.{head_of, is_high, ends_high}
use Rattle.pm_tokens.specs.Schemas.{Schema}
use Rattle.pm_tokens.specs.Tokens.{Token, Open, Close, Leaf, CodeUnit, Marks}
use Rattle.std.specs.Char.Utf16.{is_high_surrogate, is_low_surrogate}
use Rattle.pm_tokens.proofs.PairLaws.{first-none}
use Rattle.pm_tokens.proofs.ValidLaws.{token-fits}
use Rattle.pm_meaning.proofs.LooseLaws.{Paired, token-paired}

-- in a list without faults each pair is together
pub paired-of : (s : Schema) (ps : List ℕ) (high : Option Marks) (ts : List Token) → place_from s ps high ts ≡ None → Paired high ts
paired-of s ps high [] h = tt
paired-of s ps high (t ∷ ts) h =
    let f = first-none (token_fits s (head_of ps) high t ts) (place_from s (under ps t) (high_of t) ts) h in
    token-paired high t ts (token-fits s (head_of ps) high t ts f.0).pair (paired-of s (under ps t) (high_of t) ts f.1)

-- what the last unit before leaves open: nothing, where it is no high surrogate
paired-end : (t : Token) (high : Option Marks) (ys zs : List Token) → is_high t ≡ false → Paired high (t ∷ zs) → Paired None ys → Paired high (t ∷ ys)
paired-end (Open k a m) high ys zs e p q = q
paired-end Close high ys zs e p q = q
paired-end (Leaf k a m) high ys zs e p q = q
paired-end (CodeUnit u m) high ys zs e p q =
    let x : pair_fits high (CodeUnit u m) ys ≡ pair_fits high (CodeUnit u m) zs = rw e refl in
    (x ∙ p.0, subst (λ z. Paired z ys) (sym (ap (λ b. cond b (Some m) None) e)) q)

low-same : (m : Marks) (t : Token) (xs ys : List Token) → low_next m (t ∷ xs) ≡ low_next m (t ∷ ys)
low-same m (Open k a n) xs ys = refl
low-same m Close xs ys = refl
low-same m (Leaf k a n) xs ys = refl
low-same m (CodeUnit u n) xs ys = refl

-- another end after a front that parts no pair
pub paired-front : (t : Token) (high : Option Marks) (xs ys zs : List Token) → ends_high (t ∷ xs) ≡ false → Paired high (t ∷ (xs ++ zs)) → Paired None ys → Paired high (t ∷ (xs ++ ys))
paired-front t high [] ys zs e p q = paired-end t high ys zs e p q
paired-front (Open k a m) high (x ∷ xs) ys zs e p q = paired-front x None xs ys zs e p q
paired-front Close high (x ∷ xs) ys zs e p q = paired-front x None xs ys zs e p q
paired-front (Leaf k a m) high (x ∷ xs) ys zs e p q = paired-front x None xs ys zs e p q
paired-front (CodeUnit u m) high (x ∷ xs) ys zs e p q =
    (ap (λ z. cond (is_high_surrogate u) z (cond (is_low_surrogate u) (goes_on high m) true)) (low-same m x (xs ++ ys) (xs ++ zs)) ∙ p.0, paired-front x (high_of (CodeUnit u m)) xs ys zs e p.1 q)
