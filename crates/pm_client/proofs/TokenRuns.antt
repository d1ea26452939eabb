-- Names of tokens over steps one after another.
use Rattle.std.specs.Prelude.{◌≡◌, ℕ, zero, suc, ◌+◌, ◌-◌, ◌≤◌, ◌<◌, List, [], ◌∷◌, ◌++◌, length, take, drop, slice_get, Some, refl}
use Rattle.std.specs.List.{AllByRecursion as Each}
use Rattle.std.proofs.Common.{arith, sym, ap, subst, length-append, length-drop}
use Rattle.pm_map.specs.declared.step_map.Span.{Span}
use Rattle.pm_map.specs.Fits.{FitsFrom, FitsSizes}
use Rattle.pm_map.proofs.Rooms.{zero-sums}
use Rattle.pm_change.specs.declared.name.Name.{Name}
use Rattle.pm_authority.specs.declared.named.Named.{Named}
use Rattle.pm_client.proofs.Lists.{Each-append}
use Rattle.pm_client.specs.TokenNames.{Token, Put, tokens_from, spliced_from, spliced, Once, NotBy, NoneBy}
use Rattle.pm_client.proofs.Tokens.{length-fresh, length-take, moved_sum, fits-end}
use Rattle.pm_client.proofs.Leads.{Distinct, Unseen}

-- ---- lists of tokens

each-take : (P : Token → Type 0) (n : ℕ) (xs : List Token) → Each P xs → Each P (take n xs)
each-take P zero xs h = tt
each-take P (suc n) [] h = tt
each-take P (suc n) (x ∷ xs) h = (h.0, each-take P n xs h.1)

each-drop : (P : Token → Type 0) (n : ℕ) (xs : List Token) → Each P xs → Each P (drop n xs)
each-drop P zero xs h = h
each-drop P (suc n) [] h = tt
each-drop P (suc n) (x ∷ xs) h = each-drop P n xs h.1

pub each-more : (P Q : Token → Type 0) (xs : List Token) → ((x : Token) → P x → Q x) → Each P xs → Each Q xs
each-more P Q [] f h = tt
each-more P Q (x ∷ xs) f h = (f x h.0, each-more P Q xs f h.1)

each-both : (P Q : Token → Type 0) (xs : List Token) → Each P xs → Each Q xs → Each (λ x. P x × Q x) xs
each-both P Q [] h k = tt
each-both P Q (x ∷ xs) h k = ((h.0, k.0), each-both P Q xs h.1 k.1)

each-get : (P : Token → Type 0) (xs : List Token) (i : ℕ) (x : Token) → Each P xs → slice_get xs i ≡ Some x → P x
each-get P [] i x h e = absurd (cc)
each-get P (y ∷ xs) zero x h e = let is : y ≡ x = cc in subst P is h.0
each-get P (y ∷ xs) (suc i) x h e = each-get P xs i x h.1 e

each-fresh : (P : Token → Type 0) (name : ℕ → Token) (place n : ℕ) → ((j : ℕ) → place ≤ j → j < place + n → P (name j)) → Each P (tokens_from name place n)
each-fresh P name place zero h = tt
each-fresh P name place (suc n) h = (h place (omega arith) (omega arith), each-fresh P name (suc place) n (λ j l u. h j (omega (arith, l)) (omega (arith, u))))

each-spliced : (P : Token → Type 0) (name : ℕ → Token) (rs : List Span) (at place : ℕ) (names : List Token) → Each P names
    → ((j : ℕ) → place ≤ j → P (name j)) → Each P (spliced_from name rs at place names)
each-spliced P name [] at place names h f = h
each-spliced P name (r ∷ rs) at place names h f =
    Each-append P (take (r.start - at) names) _ (each-take P (r.start - at) names h)
    (Each-append P (tokens_from name place r.new_size) _ (each-fresh P name place r.new_size (λ j l u. f j l))
    (each-spliced P name rs (r.start + r.old_size) (place + r.new_size) (drop ((r.start - at) + r.old_size) names) (each-drop P ((r.start - at) + r.old_size) names h)
    (λ j l. f j (omega (arith, l)))))

once-append : (xs ys : List Token) → Once xs → Once ys → Each (λ x. Each (λ y. y ≡ x → ⊥) ys) xs → Once (xs ++ ys)
once-append [] ys h k d = k
once-append (x ∷ xs) ys h k d = (Each-append (λ y. y ≡ x → ⊥) xs ys h.0 d.0, once-append xs ys h.1 k d.1)

once-take : (n : ℕ) (xs : List Token) → Once xs → Once (take n xs)
once-take zero xs h = tt
once-take (suc n) [] h = tt
once-take (suc n) (x ∷ xs) h = (each-take (λ y. y ≡ x → ⊥) n xs h.0, once-take n xs h.1)

once-drop : (n : ℕ) (xs : List Token) → Once xs → Once (drop n xs)
once-drop zero xs h = h
once-drop (suc n) [] h = tt
once-drop (suc n) (x ∷ xs) h = once-drop n xs h.1

once-parts : (k m : ℕ) (xs : List Token) → k ≤ m → Once xs → Each (λ x. Each (λ y. y ≡ x → ⊥) (drop m xs)) (take k xs)
once-parts zero m xs l h = tt
once-parts (suc k) m [] l h = tt
once-parts (suc k) zero (x ∷ xs) l h = absurd (omega (arith, l))
once-parts (suc k) (suc m) (x ∷ xs) l h = (each-drop (λ y. y ≡ x → ⊥) m xs h.0, once-parts k m xs (omega (arith, l)) h.1)

put-place : (a : Name) (i j : ℕ) → Put a i ≡ Put a j → i ≡ j
put-place a i j h = cc

put-name : (a b : Name) (i j : ℕ) → Put a i ≡ Put b j → a ≡ b
put-name a b i j h = cc

once-fresh : (a : Name) (place n : ℕ) → Once (tokens_from (Put a) place n)
once-fresh a place zero = tt
once-fresh a place (suc n) =
    (each-fresh (λ y. y ≡ Put a place → ⊥) (Put a) (suc place) n (λ j l u e. let s = put-place a j place e in omega (arith, l, s)), once-fresh a (suc place) n)

-- the names after a step differ
pub once-spliced : (a : Name) (rs : List Span) (at place : ℕ) (names : List Token) → Once names → NotBy a names → Once (spliced_from (Put a) rs at place names)
once-spliced a [] at place names h f = h
once-spliced a (r ∷ rs) at place names h f =
    let k : ℕ = r.start - at in
    let m : ℕ = (r.start - at) + r.old_size in
    let fresh : List Token = tokens_from (Put a) place r.new_size in
    let rest : List Token = spliced_from (Put a) rs (r.start + r.old_size) (place + r.new_size) (drop m names) in
    let rest_once : Once rest = once-spliced a rs (r.start + r.old_size) (place + r.new_size) (drop m names) (once-drop m names h) (each-drop _ m names f) in
    let fresh_rest : Each (λ x. Each (λ y. y ≡ x → ⊥) rest) fresh =
    each-fresh (λ x. Each (λ y. y ≡ x → ⊥) rest) (Put a) place r.new_size
    (λ j l u. each-spliced (λ y. y ≡ Put a j → ⊥) (Put a) rs (r.start + r.old_size) (place + r.new_size) (drop m names)
    (each-more _ (λ y. y ≡ Put a j → ⊥) (drop m names) (λ x g. g j) (each-drop _ m names f))
    (λ i v e. let s = put-place a i j e in omega (arith, u, v, s))) in
    once-append (take k names) (fresh ++ rest) (once-take k names h) (once-append fresh rest (once-fresh a place r.new_size) rest_once fresh_rest)
    (each-more (λ x. Each (λ y. y ≡ x → ⊥) (drop m names) × ((i : ℕ) → x ≡ Put a i → ⊥)) (λ x. Each (λ y. y ≡ x → ⊥) (fresh ++ rest)) (take k names)
    (λ x g.
    Each-append (λ y. y ≡ x → ⊥) fresh rest (each-fresh (λ y. y ≡ x → ⊥) (Put a) place r.new_size (λ j l u e. g.1 j (sym e)))
    (each-spliced (λ y. y ≡ x → ⊥) (Put a) rs (r.start + r.old_size) (place + r.new_size) (drop m names) g.0 (λ i v e. g.1 i (sym e))))
    (each-both _ _ (take k names) (once-parts k m names (omega arith) h) (each-take _ k names f)))

pub once-distinct : (xs : List Token) → Once xs → Distinct xs
once-distinct [] h a b t e f = absurd (cc)
once-distinct (x ∷ xs) h zero zero t e f = refl
once-distinct (x ∷ xs) h zero (suc b) t e f = let is : x ≡ t = cc in absurd (each-get (λ y. y ≡ x → ⊥) xs b t h.0 f (sym is))
once-distinct (x ∷ xs) h (suc a) zero t e f = let is : x ≡ t = cc in absurd (each-get (λ y. y ≡ x → ⊥) xs a t h.0 e (sym is))
once-distinct (x ∷ xs) h (suc a) (suc b) t e f = ap suc (once-distinct xs h.1 a b t e f)

pub not-unseen : (a : Name) (xs : List Token) → NotBy a xs → Unseen (Put a) xs
not-unseen a xs h j has = each-get (λ t. (place : ℕ) → t ≡ Put a place → ⊥) xs has.0 (Put a j) h has.1 j refl

-- a step of another name leaves no token of this one's
pub not-spliced : (a b : Name) (rs : List Span) (names : List Token) → (a ≡ b → ⊥) → NotBy b names → NotBy b (spliced (Put a) rs names)
not-spliced a b rs names apart h = each-spliced (λ t. (place : ℕ) → t ≡ Put b place → ⊥) (Put a) rs 0 0 names h (λ j l i e. apart (put-name a b j i e))

pub none-spliced : {C : Type 0} (a : Name) (ns : List (Named C)) (rs : List Span) (names : List Token) → Each (λ k. k.name ≡ a → ⊥) ns → NoneBy ns names → NoneBy ns (spliced (Put a) rs names)
none-spliced a [] rs names apart h = tt
none-spliced a (n ∷ ns) rs names apart h = (not-spliced a n.name rs names (λ e. apart.0 (sym e)) h.0, none-spliced a ns rs names apart.1 h.1)

-- as many names as tokens
length-spliced : (name : ℕ → Token) (rs : List Span) (gained lost from n k place : ℕ) (names : List Token) → FitsFrom rs from n (n + gained) (k + lost) → lost ≤ from
    → from + length names ≡ n → ((from + gained) - lost) + length (spliced_from name rs from place names) ≡ k
length-spliced name [] gained lost from n k place names h l size = omega (arith, h.1, l, size)
length-spliced name (r ∷ rs) gained lost from n k place names h l size =
    let in_size : r.start + r.old_size ≤ n = fits-end rs (r.start + r.old_size) n (n + gained + r.new_size) (k + lost + r.old_size) h.1 in
    let rest = spliced_from name rs (r.start + r.old_size) (place + r.new_size) (drop ((r.start - from) + r.old_size) names) in
    let go = length-spliced name rs (gained + r.new_size) (lost + r.old_size) (r.start + r.old_size) n k (place + r.new_size) (drop ((r.start - from) + r.old_size) names)
    (rw (moved_sum n gained r.new_size, moved_sum k lost r.old_size) h.1) (omega (arith, l, h.0)) (omega (arith, length-drop ((r.start - from) + r.old_size) names, size, h.0, in_size)) in
    omega (
      arith,
      go,
      h.0,
      l,
      length-append (take (r.start - from) names) (tokens_from name place r.new_size ++ rest),
      length-append (tokens_from name place r.new_size) rest,
      length-fresh name place r.new_size,
      length-take names (r.start - from) (omega (arith, in_size, h.0, size)),
    )

pub spliced-size : (name : ℕ → Token) (rs : List Span) (n k : ℕ) (names : List Token) → FitsSizes rs n k → length names ≡ n → length (spliced name rs names) ≡ k
spliced-size name rs n k names fits size =
    let go = length-spliced name rs 0 0 0 n k 0 names (zero-sums rs n k fits) (omega arith) (omega (arith, size)) in
    omega (arith, go)
