-- What is left of an expansion has its language, and each part of it has a list.
use Rattle.std.proofs.Common.{◌≡◌, ℕ, suc, ◌+◌, ◌≤◌, List, [], ◌∷◌, ◌++◌, Bool, true, false, ◌&&◌, ◌||◌, cond, refl, ap, sym, ◌∙◌, arith, inl, inr}
use Rattle.pm_auto.specs.Core.{Core, Never, Empty, One, Alt, Cat, Loop, Lang, nullable, when}
use Rattle.pm_auto.specs.Table.{width, firsts, part, some, passes}
use Rattle.pm_auto.specs.Trim.{has_list, trim}
use Rattle.pm_auto.proofs.HasLaws.{and-both, and-true, or-left, or-right}
use Rattle.pm_auto.proofs.ExprLaws.{joined, times}
use Rattle.pm_auto.proofs.LangLaws.{lang-nullable, nullable-lang}

-- a list in the language is one
pub lang-has_list : (e : Core) (w : List ℕ) → Lang e w → has_list e ≡ true
lang-has_list Never w h = absurd h
lang-has_list Empty w h = refl
lang-has_list (One k) w h = refl
lang-has_list (Alt a b) w (inl h) = or-left (has_list a) (has_list b) (lang-has_list a w h)
lang-has_list (Alt a b) w (inr h) = or-right (has_list a) (has_list b) (lang-has_list b w h)
lang-has_list (Cat a b) w j = and-true (has_list a) (has_list b) (lang-has_list a j.left j.in_left) (lang-has_list b j.right j.in_right)
lang-has_list (Loop a) w (n, j) = lang-has_list a j.left j.in_left

-- what is left has the language
pub lang-trim : (e : Core) (w : List ℕ) → Lang e w → Lang (trim e) w
lang-trim Never w h = h
lang-trim Empty w h = h
lang-trim (One k) w h = h
lang-trim (Alt a b) w (inl h) = inl (lang-trim a w h)
lang-trim (Alt a b) w (inr h) = inr (lang-trim b w h)
lang-trim (Cat a b) w j = at (has_list a && has_list b) (lang-has_list (Cat a b) w j) (joined (Lang a) (Lang b) (Lang (trim a)) (Lang (trim b)) (lang-trim a) (lang-trim b) w j)
  where
    at : (c : Bool) → c ≡ true → Lang (Cat (trim a) (trim b)) w → Lang (cond c (Cat (trim a) (trim b)) Never) w
    at true e j = j
    at false e j = absurd (cc)
lang-trim (Loop a) w (n, j) = (n, times (Lang a) (Lang (trim a)) (lang-trim a) (suc n) w j)

pub trim-lang : (e : Core) (w : List ℕ) → Lang (trim e) w → Lang e w
trim-lang Never w h = h
trim-lang Empty w h = h
trim-lang (One k) w h = h
trim-lang (Alt a b) w (inl h) = inl (trim-lang a w h)
trim-lang (Alt a b) w (inr h) = inr (trim-lang b w h)
trim-lang (Cat a b) w h = at (has_list a && has_list b) h (joined (Lang (trim a)) (Lang (trim b)) (Lang a) (Lang b) (trim-lang a) (trim-lang b) w)
  where
    at : (c : Bool) → Lang (cond c (Cat (trim a) (trim b)) Never) w → (Lang (Cat (trim a) (trim b)) w → Lang (Cat a b) w) → Lang (Cat a b) w
    at true h f = f h
    at false h f = absurd h
trim-lang (Loop a) w (n, j) = (n, times (Lang (trim a)) (Lang a) (trim-lang a) (suc n) w j)

-- no place comes in
pub width-trim : (e : Core) → width (trim e) ≤ width e
width-trim Never = omega arith
width-trim Empty = omega arith
width-trim (One k) = omega arith
width-trim (Alt a b) = omega (arith, width-trim a, width-trim b)
width-trim (Cat a b) = at (has_list a && has_list b) (width-trim a) (width-trim b)
  where
    at : (c : Bool) → width (trim a) ≤ width a → width (trim b) ≤ width b → width (cond c (Cat (trim a) (trim b)) Never) ≤ width a + width b
    at true l m = omega (arith, l, m)
    at false l m = omega arith
width-trim (Loop a) = width-trim a

both-ways : (a b : Bool) → (a ≡ true → b ≡ true) → (b ≡ true → a ≡ true) → a ≡ b
both-ways true b f g = sym (f refl)
both-ways false true f g = g refl
both-ways false false f g = refl

-- the empty list is in the language as before
pub nullable-trim : (e : Core) → nullable (trim e) ≡ nullable e
nullable-trim e = both-ways (nullable (trim e)) (nullable e) (λ h. lang-nullable e (trim-lang e [] (nullable-lang (trim e) h))) (λ h. lang-nullable (trim e) (lang-trim e [] (nullable-lang e h)))

some-append : (xs ys : List ℕ) → some (xs ++ ys) ≡ some xs || some ys
some-append [] ys = refl
some-append (x ∷ xs) ys = refl

in_pairs : (p q s t : Bool) → (p || q) || (s || t) ≡ (p || s) || (q || t)
in_pairs true q s t = refl
in_pairs false true true t = refl
in_pairs false true false t = refl
in_pairs false false true t = refl
in_pairs false false false t = refl

both-pass : (p q : Bool) (xs ys : List ℕ) → p || some xs ≡ true → q || some ys ≡ true → (p && q) || some (xs ++ when p ys) ≡ true
both-pass true true xs ys h k = refl
both-pass true false [] ys h k = k
both-pass true false (x ∷ xs) ys h k = refl
both-pass false q [] ys h k = absurd (cc)
both-pass false q (x ∷ xs) ys h k = refl

-- a list leads through a part where the language has one
pub passes-trim : (n : ℕ) (e : Core) → passes (part n (trim e)) ≡ has_list e
passes-trim n Never = refl
passes-trim n Empty = refl
passes-trim n (One k) = refl
passes-trim n (Alt a b) =
    let xs = firsts n (trim a) in
    let ys = firsts (n + width (trim a)) (trim b) in
    ap (λ z. (nullable (trim a) || nullable (trim b)) || z) (some-append xs ys)
    ∙ in_pairs (nullable (trim a)) (nullable (trim b)) (some xs) (some ys)
    ∙ ap (λ z. z || (nullable (trim b) || some ys)) (passes-trim n a)
    ∙ ap (λ z. has_list a || z) (passes-trim (n + width (trim a)) b)
passes-trim n (Cat a b) = at (has_list a && has_list b) refl (passes-trim n a) (passes-trim (n + width (trim a)) b)
  where
    at : (c : Bool) → has_list a && has_list b ≡ c → passes (part n (trim a)) ≡ has_list a → passes (part (n + width (trim a)) (trim b)) ≡ has_list b
        → passes (part n (cond c (Cat (trim a) (trim b)) Never)) ≡ c
    at true e f g =
        let h = and-both (has_list a) (has_list b) e in
        both-pass (nullable (trim a)) (nullable (trim b)) (firsts n (trim a)) (firsts (n + width (trim a)) (trim b)) (f ∙ h.0) (g ∙ h.1)
    at false e f g = refl
passes-trim n (Loop a) = passes-trim n a
