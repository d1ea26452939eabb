-- Which parts of a list without broken units have none.
use Rattle.std.proofs.Common.{◌≡◌, ℕ, ◌+◌, List, [], ◌∷◌, ◌++◌, refl, ap, sym, ◌∙◌, cond, Bool, true, false, ◌&&◌}
use Rattle.std.specs.Prelude.{Option, Some, None}
use Rattle.std.specs.Char.Utf16.{is_high_surrogate, is_low_surrogate}
use Rattle.pm_marks.specs.Sets.{same_marks}
use Rattle.pm_tokens.specs.Tokens.{Marks, Token, Open, Close, Leaf, CodeUnit}
use Rattle.pm_attrs.specs.Attrs.{same_attrs}
use Rattle.pm_tokens.specs.Kids.{text_tokens, EndsText, goes_on}
use Rattle.pm_tokens.specs.Faults.{Fault, Pair, low_next, high_of, pair_fits, last_high, first_broken}
use Rattle.pm_tokens.proofs.MarkLaws.{marks-equal}

-- no unit of the list is broken, where the token before it is a high surrogate of these marks, if it is one
abbrev pub NoBroken : Option Marks → List Token → Type 0
NoBroken high ts = (at : ℕ) → first_broken at high ts ≡ None

peel : (b : Bool) (r : Option Fault) (at : ℕ) → cond b r (Some (Pair at)) ≡ None → (b ≡ true) × (r ≡ None)
peel true r at h = (refl, h)
peel false r at h = absurd (cc)

-- the first token, and those after it
pub first_whole : (at : ℕ) (high : Option Marks) (t : Token) (ts : List Token) → first_broken at high (t ∷ ts) ≡ None → pair_fits high t ts ≡ true
first_whole at high t ts h = (peel (pair_fits high t ts) (first_broken (at + 1) (high_of t) ts) at h).0

pub later : (at : ℕ) (high : Option Marks) (t : Token) (ts : List Token) → first_broken at high (t ∷ ts) ≡ None → first_broken (at + 1) (high_of t) ts ≡ None
later at high t ts h = (peel (pair_fits high t ts) (first_broken (at + 1) (high_of t) ts) at h).1

pub joined : (at : ℕ) (high : Option Marks) (t : Token) (ts : List Token) → pair_fits high t ts ≡ true → first_broken (at + 1) (high_of t) ts ≡ None → first_broken at high (t ∷ ts) ≡ None
joined at high t ts fits h = rw fits h

-- where the counting begins tells nothing
pub from_place : (ts : List Token) (at n : ℕ) (high : Option Marks) → first_broken at high ts ≡ None → first_broken n high ts ≡ None
from_place [] at n high h = refl
from_place (t ∷ ts) at n high h = joined n high t ts (first_whole at high t ts h) (from_place ts (at + 1) (n + 1) (high_of t) (later at high t ts h))

-- the tokens after
pub broken-behind : (xs ys : List Token) (at : ℕ) (high : Option Marks) → first_broken at high (xs ++ ys) ≡ None → (n : ℕ) × (first_broken n (last_high high xs) ys ≡ None)
broken-behind [] ys at high h = (at, h)
broken-behind (t ∷ xs) ys at high h = broken-behind xs ys (at + 1) (high_of t) (later at high t (xs ++ ys) h)

-- ---- the tokens before a close

low_next-close : (m : Marks) (xs ys : List Token) → low_next m (xs ++ (Close ∷ ys)) ≡ low_next m xs
low_next-close m [] ys = refl
low_next-close m (Open k a n ∷ xs) ys = refl
low_next-close m (Close ∷ xs) ys = refl
low_next-close m (Leaf k a n ∷ xs) ys = refl
low_next-close m (CodeUnit u n ∷ xs) ys = refl

fits-close : (high : Option Marks) (t : Token) (xs ys : List Token) → pair_fits high t (xs ++ (Close ∷ ys)) ≡ pair_fits high t xs
fits-close high (Open k a m) xs ys = refl
fits-close high Close xs ys = refl
fits-close high (Leaf k a m) xs ys = refl
fits-close high (CodeUnit u m) xs ys = ap (λ b. cond (is_high_surrogate u) b (cond (is_low_surrogate u) (goes_on high m) true)) (low_next-close m xs ys)

pub broken-before_close : (xs ys : List Token) (at : ℕ) (high : Option Marks) → first_broken at high (xs ++ (Close ∷ ys)) ≡ None → first_broken at high xs ≡ None
broken-before_close [] ys at high h = refl
broken-before_close (t ∷ xs) ys at high h =
    joined at high t xs (sym (fits-close high t xs ys) ∙ first_whole at high t (xs ++ (Close ∷ ys)) h) (broken-before_close xs ys (at + 1) (high_of t) (later at high t (xs ++ (Close ∷ ys)) h))

pub broken-closed : (xs : List Token) (at : ℕ) (high : Option Marks) → first_broken at high xs ≡ None → first_broken at high (xs ++ (Close ∷ [])) ≡ None
broken-closed [] at high h = refl
broken-closed (t ∷ xs) at high h = joined at high t (xs ++ (Close ∷ [])) (fits-close high t xs [] ∙ first_whole at high t xs h) (broken-closed xs (at + 1) (high_of t) (later at high t xs h))

-- ---- a text before tokens that do not go on it

and-second : (a b : Bool) → (a && b) ≡ true → b ≡ true
and-second true b h = h
and-second false b h = absurd (cc)

no_low_next : (m : Marks) (ts : List Token) → EndsText m ts → low_next m ts ≡ true → ⊥
no_low_next m [] h e = absurd (cc)
no_low_next m (Open k a n ∷ ts) h e = absurd (cc)
no_low_next m (Close ∷ ts) h e = absurd (cc)
no_low_next m (Leaf k a n ∷ ts) h e = absurd (cc)
no_low_next m (CodeUnit u n ∷ ts) h e = h (marks-equal m n (and-second (is_low_surrogate u) (same_marks same_attrs m n) e))

low_next-text : (m : Marks) (us : List ℕ) (ts : List Token) → EndsText m ts → low_next m (text_tokens m us ++ ts) ≡ true → low_next m (text_tokens m us) ≡ true
low_next-text m [] ts h e = absurd (no_low_next m ts h e)
low_next-text m (u ∷ us) ts h e = e

-- what two tests let pass
by_tests : (high low : Bool) (a b c d : Bool) → (a ≡ true → b ≡ true) → (c ≡ true → d ≡ true) → cond high a (cond low c true) ≡ true → cond high b (cond low d true) ≡ true
by_tests true low a b c d f g h = f h
by_tests false true a b c d f g h = g h
by_tests false false a b c d f g h = refl

pub broken-text : (m : Marks) (us : List ℕ) (ts : List Token) (at : ℕ) (high before : Option Marks) → EndsText m ts → (goes_on high m ≡ true → goes_on before m ≡ true) → first_broken at high (text_tokens m us ++ ts) ≡ None
    → first_broken at before (text_tokens m us) ≡ None
broken-text m [] ts at high before ends go h = refl
broken-text m (u ∷ us) ts at high before ends go h =
    joined at before (CodeUnit u m) (text_tokens m us)
    (by_tests (is_high_surrogate u) (is_low_surrogate u) (low_next m (text_tokens m us ++ ts)) (low_next m (text_tokens m us)) (goes_on high m) (goes_on before m) (low_next-text m us ts ends) go (first_whole at high (CodeUnit u m) (text_tokens m us ++ ts) h))
    (broken-text m us ts (at + 1) (high_of (CodeUnit u m)) (high_of (CodeUnit u m)) ends (λ e. e) (later at high (CodeUnit u m) (text_tokens m us ++ ts) h))
