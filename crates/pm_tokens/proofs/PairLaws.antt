-- A position of a valid document that parts no pair has no half of a pair beside it.
use Rattle.std.specs.Prelude.{◌≡◌, ℕ, Bool, true, false, ◌&&◌, cond, nat_le, nat_lt, List, [], ◌∷◌, ◌++◌, Option, Some, None}
use Rattle.std.specs.Char.Utf16.{is_high_surrogate, is_low_surrogate}
use Rattle.std.proofs.lemmas.Bool.{leb-true, ltb-true, and_parts}
use Rattle.std.proofs.lemmas.List.{append-nil}
use Rattle.std.proofs.Common.{refl, ap, sym, ◌∙◌, subst, arith}
use Rattle.pm_tokens.specs.Tokens.{Marks, Token, Open, Close, Leaf, CodeUnit}
use Rattle.pm_tokens.specs.Scan.{head_of, is_high, ends_high, starts_low}
use Rattle.pm_tokens.specs.Schemas.{Schema}
use Rattle.pm_tokens.specs.Kids.{goes_on}
use Rattle.pm_tokens.specs.Faults.{attrs_fit, marks_fit, content_fits, low_next, high_of, pair_fits, under, place_unless, token_fits, place_from}

pub true-false : {P : Type 0} (b : Bool) → b ≡ true → b ≡ false → P
true-false true h k = absurd (cc)
true-false false h k = absurd (cc)

-- no place: the first is no fault, and neither is a later one
pub first-none : (b : Bool) (later : Option ℕ) → place_unless b later ≡ None → (b ≡ true) × (later ≡ None)
first-none true None h = (refl, refl)
first-none true (Some p) h = absurd (cc)
first-none false later h = absurd (cc)

pub none-first : (b : Bool) (later : Option ℕ) → b ≡ true → later ≡ None → place_unless b later ≡ None
none-first b later h e = rw (h, e) refl

pub high-not-low : (u : ℕ) → is_high_surrogate u ≡ true → is_low_surrogate u ≡ true → ⊥
high-not-low u h k =
    let a = and_parts (nat_le 0xD800 u) (nat_lt u 0xDC00) h in
    let b = and_parts (nat_le 0xDC00 u) (nat_lt u 0xE000) k in
    omega (arith, ltb-true u 0xDC00 a.1, leb-true 0xDC00 u b.0)

low-starts : (m : Marks) (ts : List Token) → low_next m ts ≡ true → starts_low ts ≡ true
low-starts m [] h = absurd (cc)
low-starts m (Open k a n ∷ ts) h = absurd (cc)
low-starts m (Close ∷ ts) h = absurd (cc)
low-starts m (Leaf k a n ∷ ts) h = absurd (cc)
low-starts m (CodeUnit u n ∷ ts) h = (and_parts (is_low_surrogate u) _ h).0

after-high : (t : Token) (high : Option Marks) (ts : List Token) → pair_fits high t ts ≡ true → is_high t ≡ true → starts_low ts ≡ true
after-high (Open k a m) high ts h e = absurd (cc)
after-high Close high ts h e = absurd (cc)
after-high (Leaf k a m) high ts h e = absurd (cc)
after-high (CodeUnit u m) high ts h e = low-starts m ts (subst (λ b. cond b (low_next m ts) (cond (is_low_surrogate u) (goes_on high m) true) ≡ true) e h)

after-other : (t : Token) → is_high t ≡ false → high_of t ≡ None
after-other (Open k a m) e = refl
after-other Close e = refl
after-other (Leaf k a m) e = refl
after-other (CodeUnit u m) e = ap (λ b. cond b (Some m) None) e

no-low : (u : ℕ) (m : Marks) (ts : List Token) → pair_fits None (CodeUnit u m) ts ≡ true → is_low_surrogate u ≡ false
no-low u m ts h = from (is_high_surrogate u) (is_low_surrogate u) refl refl h
  where
    from : (a b : Bool) → is_high_surrogate u ≡ a → is_low_surrogate u ≡ b → cond a (low_next m ts) (cond b false true) ≡ true → is_low_surrogate u ≡ false
    from a false e f g = f
    from true true e f g = absurd (high-not-low u e f)
    from false true e f g = absurd (cc)

-- a token without a fault has no fault of its pair
pub fits-pair : (s : Schema) (parent : ℕ) (high : Option Marks) (t : Token) (ts : List Token) → token_fits s parent high t ts ≡ true → pair_fits high t ts ≡ true
fits-pair s parent high t ts h = (and_parts (attrs_fit s t && marks_fit s parent t && content_fits s t ts) (pair_fits high t ts) h).1

module _ (s : Schema) where
  -- what is known of the tokens after a first one
  record Rest (ps : List ℕ) (x : Token) (ts : List Token) : Type 0 where
    pub sound : place_from s (under ps x) (high_of x) ts ≡ None
    pub after_high : is_high x ≡ true → starts_low ts ≡ true
    pub after_other : is_high x ≡ false → high_of x ≡ None

  rest : (ps : List ℕ) (high : Option Marks) (x : Token) (ts : List Token) → place_from s ps high (x ∷ ts) ≡ None → Rest ps x ts
  rest ps high x ts h =
      let f = first-none (token_fits s (head_of ps) high x ts) (place_from s (under ps x) (high_of x) ts) h in
      record { sound = f.1; after_high = after-high x high ts (fits-pair s (head_of ps) high x ts f.0); after_other = after-other x }

  low-none : (ps : List ℕ) (ts : List Token) → place_from s ps None ts ≡ None → starts_low ts ≡ false
  low-none ps [] h = refl
  low-none ps (Open k a m ∷ ts) h = refl
  low-none ps (Close ∷ ts) h = refl
  low-none ps (Leaf k a m ∷ ts) h = refl
  low-none ps (CodeUnit u m ∷ ts) h =
      let f = first-none (token_fits s (head_of ps) None (CodeUnit u m) ts) (place_from s ps (high_of (CodeUnit u m)) ts) h in
      no-low u m ts (fits-pair s (head_of ps) None (CodeUnit u m) ts f.0)

  not-high : (b c : Bool) → (b ≡ true → c ≡ true) → (b && c) ≡ false → b ≡ false
  not-high true c f h = absurd (true-false c (f refl) h)
  not-high false c f h = refl

  high-free : (ps : List ℕ) (high : Option Marks) (x : Token) (xs ys : List Token) → place_from s ps high (x ∷ (xs ++ ys)) ≡ None → (ends_high (x ∷ xs) && starts_low ys) ≡ false → ends_high (x ∷ xs) ≡ false
  high-free ps high x [] ys h k = not-high (is_high x) (starts_low ys) (rest ps high x ys h).after_high k
  high-free ps high x (y ∷ xs) ys h k = let r = rest ps high x (y ∷ (xs ++ ys)) h in high-free (under ps x) (high_of x) y xs ys r.sound k

  low-free : (ps : List ℕ) (high : Option Marks) (x : Token) (xs ys : List Token) → place_from s ps high (x ∷ (xs ++ ys)) ≡ None → ends_high (x ∷ xs) ≡ false → starts_low ys ≡ false
  low-free ps high x [] ys h k = let r = rest ps high x ys h in low-none (under ps x) ys (subst (λ z. place_from s (under ps x) z ys ≡ None) (r.after_other k) r.sound)
  low-free ps high x (y ∷ xs) ys h k = let r = rest ps high x (y ∷ (xs ++ ys)) h in low-free (under ps x) (high_of x) y xs ys r.sound k

  -- beside a position that parts no pair, of a list without faults, stands no half of a pair
  pub sides : (ps : List ℕ) (xs ys : List Token) → place_from s ps None (xs ++ ys) ≡ None → (ends_high xs && starts_low ys) ≡ false → (ends_high xs ≡ false) × (starts_low ys ≡ false)
  sides ps [] ys h k = (refl, low-none ps ys h)
  sides ps (x ∷ xs) ys h k = let e = high-free ps None x xs ys h k in (e, low-free ps None x xs ys h e)

pub high-last : (xs : List Token) (y : Token) (ys : List Token) → ends_high (xs ++ (y ∷ ys)) ≡ ends_high (y ∷ ys)
high-last [] y ys = refl
high-last (x ∷ []) y ys = refl
high-last (x ∷ z ∷ xs) y ys = high-last (z ∷ xs) y ys

pub low-first : (x : Token) (xs ys : List Token) → starts_low ((x ∷ xs) ++ ys) ≡ starts_low (x ∷ xs)
low-first (Open k a m) xs ys = refl
low-first Close xs ys = refl
low-first (Leaf k a m) xs ys = refl
low-first (CodeUnit u m) xs ys = refl

pub and-right : (b : Bool) → (b && false) ≡ false
and-right true = refl
and-right false = refl

pub no-left : (xs ys : List Token) → ends_high xs ≡ false → (ends_high xs && starts_low ys) ≡ false
no-left xs ys h = ap (λ b. b && starts_low ys) h

pub no-right : (xs ys : List Token) → starts_low ys ≡ false → (ends_high xs && starts_low ys) ≡ false
no-right xs ys h = ap (λ b. ends_high xs && b) h ∙ and-right (ends_high xs)

-- a place between two inserted pieces that parts no pair in what was inserted
pub no-between : (a x y b : List Token) → ends_high a ≡ false → starts_low b ≡ false → (ends_high x && starts_low y) ≡ false → (ends_high (a ++ x) && starts_low (y ++ b)) ≡ false
no-between a [] y b h k i = no-left (a ++ []) (y ++ b) (e a ∙ h)
  where
    e : (xs : List Token) → ends_high (xs ++ []) ≡ ends_high xs
    e [] = refl
    e (z ∷ []) = refl
    e (z ∷ w ∷ xs) = e (w ∷ xs)
no-between a (x ∷ xs) [] b h k i = no-right (a ++ (x ∷ xs)) b k
no-between a (x ∷ xs) (y ∷ ys) b h k i = rw (high-last a x xs, low-first y ys b) i

pub ends-part : (a x : List Token) → ends_high (a ++ x) ≡ false → ends_high x ≡ false
ends-part a [] h = refl
ends-part a (x ∷ xs) h = sym (high-last a x xs) ∙ h

-- before a gap and after it, in the result
pub before-gap : (a x g y z b : List Token) → ends_high a ≡ false → starts_low b ≡ false → (ends_high x && starts_low y) ≡ false → starts_low (g ++ (z ++ b)) ≡ false → (ends_high (a ++ x) && starts_low (g ++ (y ++ b))) ≡ false
before-gap a x [] y z b h k i j = no-between a x y b h k i
before-gap a x (t ∷ g) y z b h k i j = no-right (a ++ x) ((t ∷ g) ++ (y ++ b)) (low-first t g (y ++ b) ∙ (sym (low-first t g (z ++ b)) ∙ j))

pub after-gap : (a x g y z b : List Token) → ends_high a ≡ false → starts_low b ≡ false → (ends_high x && starts_low y) ≡ false → ends_high ((a ++ z) ++ g) ≡ false → (ends_high ((a ++ x) ++ g) && starts_low (y ++ b)) ≡ false
after-gap a x [] y z b h k i j = subst (λ w. (ends_high w && starts_low (y ++ b)) ≡ false) (sym (append-nil (a ++ x))) (no-between a x y b h k i)
after-gap a x (t ∷ g) y z b h k i j = no-left ((a ++ x) ++ (t ∷ g)) (y ++ b) (high-last (a ++ x) t g ∙ (sym (high-last (a ++ z) t g) ∙ j))
