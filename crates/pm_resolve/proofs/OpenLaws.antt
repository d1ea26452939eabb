-- The places of the opens around a position: after whole nodes, and in a node's content.
use Rattle.std.specs.Prelude.{◌≡◌, ℕ, suc, ◌+◌, ◌-◌, ◌≤◌, ◌<◌, ◌==◌, Bool, true, false, cond, List, [], ◌∷◌, ◌++◌, length, take, drop, map, reverse}
use Rattle.std.specs.List.{list_any, filter, AllByRecursion}
use Rattle.std.proofs.Common.{refl, ap, sym, ◌∙◌, subst, arith, append_assoc, length-append, length-take, inl, inr}
use Rattle.std.proofs.lemmas.Bool.{eq-eqb, ne_eqb, cases_eq}
use Rattle.std.proofs.lemmas.List.{take_all, take-append-le, take-append-drop, reverse-append, length-reverse, map-append}
use Rattle.pm_tokens.specs.Tokens.{Attrs, Marks, Token, Open, Close, Leaf, CodeUnit}
use Rattle.pm_tokens.specs.Scan.{tail_of, unmet, depth_at, open_places, open_at, shared_depth, Balanced, none, leaf, unit, node}
use Rattle.pm_tokens.proofs.ListLaws.{take_over}
use Rattle.pm_tokens.proofs.ScanLaws.{unmet-append}
use Rattle.pm_tokens.proofs.BalanceLaws.{balanced-whole, balanced-append}
use Rattle.pm_resolve.specs.Places.{opens_at}
use Rattle.pm_tokens.proofs.DepthLaws.{places-append, places-length, places-from}

-- ---- readings of joined lists

-- what lies further out is not read
places-under : (at : ℕ) (a s : List ℕ) (ts : List Token) → unmet (length a) ts ≡ 0 → open_places at (a ++ s) ts ≡ open_places at a ts ++ s
places-under at a s [] h = refl
places-under at a s (Open k x m ∷ ts) h = places-under (at + 1) (at ∷ a) s ts h
places-under at [] s (Close ∷ ts) h = absurd (omega (arith, h))
places-under at (k ∷ a) s (Close ∷ ts) h = places-under (at + 1) a s ts h
places-under at a s (Leaf k x m ∷ ts) h = places-under (at + 1) a s ts h
places-under at a s (CodeUnit u m ∷ ts) h = places-under (at + 1) a s ts h

-- whole nodes leave no open
places-balanced : (at : ℕ) (s : List ℕ) {ts : List Token} → Balanced ts → open_places at s ts ≡ s
places-balanced at s none = refl
places-balanced at s (leaf k a m b) = places-balanced (at + 1) s b
places-balanced at s (unit u m b) = places-balanced (at + 1) s b
places-balanced at s (node k a m {inner = inner} {ts = ts} i b) =
    places-append (at + 1) (at ∷ s) inner (Close ∷ ts) ∙ (ap (λ z. open_places (((at + 1) + length inner) + 1) (tail_of z) ts) (places-balanced (at + 1) (at ∷ s) i) ∙ places-balanced (((at + 1) + length inner) + 1) s b)

map-tail : (f : ℕ → ℕ) (s : List ℕ) → tail_of (map f s) ≡ map f (tail_of s)
map-tail f [] = refl
map-tail f (x ∷ s) = refl

-- places count from where the reading starts
places-shift : (n at : ℕ) (s : List ℕ) (ts : List Token) → open_places (n + at) (map (λ o. n + o) s) ts ≡ map (λ o. n + o) (open_places at s ts)
places-shift n at s [] = refl
places-shift n at s (Open k a m ∷ ts) = ap (λ z. open_places z ((n + at) ∷ map (λ o. n + o) s) ts) (let e : (n + at) + 1 ≡ n + (at + 1) = omega arith in e) ∙ places-shift n (at + 1) (at ∷ s) ts
places-shift n at s (Close ∷ ts) =
    ap (λ z. open_places z (tail_of (map (λ o. n + o) s)) ts) (let e : (n + at) + 1 ≡ n + (at + 1) = omega arith in e) ∙ (ap (λ z. open_places (n + (at + 1)) z ts) (map-tail (λ o. n + o) s) ∙ places-shift n (at + 1) (tail_of s) ts)
places-shift n at s (Leaf k a m ∷ ts) = ap (λ z. open_places z (map (λ o. n + o) s) ts) (let e : (n + at) + 1 ≡ n + (at + 1) = omega arith in e) ∙ places-shift n (at + 1) s ts
places-shift n at s (CodeUnit u m ∷ ts) = ap (λ z. open_places z (map (λ o. n + o) s) ts) (let e : (n + at) + 1 ≡ n + (at + 1) = omega arith in e) ∙ places-shift n (at + 1) s ts

-- there are as many places as nodes around the position
pub places-depth : (ts : List Token) (p : ℕ) → length (open_at ts p) ≡ depth_at ts p
places-depth ts p = places-length 0 [] [] (take p ts) refl

pub opens-depth : (ts : List Token) (p : ℕ) → length (opens_at ts p) ≡ depth_at ts p
opens-depth ts p = length-reverse (open_at ts p) ∙ places-depth ts p

reverse-map : (f : ℕ → ℕ) (xs : List ℕ) → reverse (map f xs) ≡ map f (reverse xs)
reverse-map f [] = refl
reverse-map f (x ∷ xs) =
    reverse-append (f x ∷ []) (map f xs) ∙ (ap (λ z. z ++ (f x ∷ [])) (reverse-map f xs) ∙ (sym (map-append f (reverse xs) (x ∷ [])) ∙ ap (map f) (sym (reverse-append (x ∷ []) xs))))

-- ---- bounds of places

abbrev AllBelow : ℕ → List ℕ → Type 0
AllBelow n ps = AllByRecursion (λ p. p < n) ps

abbrev AllFrom : ℕ → List ℕ → Type 0
AllFrom n ps = AllByRecursion (λ p. n ≤ p) ps

pub below-tail : (n : ℕ) (ps : List ℕ) → AllBelow n ps → AllBelow n (tail_of ps)
below-tail n [] h = tt
below-tail n (p ∷ ps) h = h.1

pub places-below : (n at : ℕ) (s : List ℕ) (ts : List Token) → at + length ts ≤ n → AllBelow n s → AllBelow n (open_places at s ts)
places-below n at s [] l h = h
places-below n at s (Open k a m ∷ ts) l h = places-below n (at + 1) (at ∷ s) ts (omega (arith, l)) (omega (arith, l), h)
places-below n at s (Close ∷ ts) l h = places-below n (at + 1) (tail_of s) ts (omega (arith, l)) (below-tail n s h)
places-below n at s (Leaf k a m ∷ ts) l h = places-below n (at + 1) s ts (omega (arith, l)) h
places-below n at s (CodeUnit u m ∷ ts) l h = places-below n (at + 1) s ts (omega (arith, l)) h

abbrev is_in : List ℕ → ℕ → Bool
is_in qs o = list_any (λ n. o == n) qs

not-in-below : (n o : ℕ) (qs : List ℕ) → n ≤ o → AllBelow n qs → is_in qs o ≡ false
not-in-below n o [] l h = refl
not-in-below n o (q ∷ qs) l h = rw (ne_eqb o q (λ e. omega (arith, l, h.0, e)), not-in-below n o qs l h.1) refl

not-in-from : (n o : ℕ) (qs : List ℕ) → o < n → AllFrom n qs → is_in qs o ≡ false
not-in-from n o [] l h = refl
not-in-from n o (q ∷ qs) l h = rw (ne_eqb o q (λ e. omega (arith, l, h.0, e)), not-in-from n o qs l h.1) refl

-- of places on one side of n none is among places on the other side
none-below : (n : ℕ) (ps qs : List ℕ) → AllFrom n ps → AllBelow n qs → filter (is_in qs) ps ≡ []
none-below n [] qs h k = refl
none-below n (p ∷ ps) qs h k = ap (λ b. cond b (p ∷ filter (is_in qs) ps) (filter (is_in qs) ps)) (not-in-below n p qs h.0 k) ∙ none-below n ps qs h.1 k

none-from : (n : ℕ) (ps qs : List ℕ) → AllBelow n ps → AllFrom n qs → filter (is_in qs) ps ≡ []
none-from n [] qs h k = refl
none-from n (p ∷ ps) qs h k = ap (λ b. cond b (p ∷ filter (is_in qs) ps) (filter (is_in qs) ps)) (not-in-from n p qs h.0 k) ∙ none-from n ps qs h.1 k

-- ---- places in common, after one more open

-- places of a content, counted from the start of the one around it, and its open before them
abbrev pub lifted : ℕ → List ℕ → List ℕ
lifted f ps = map (λ o. suc f + o) ps ++ (f ∷ [])

is_in-lifted : (f o : ℕ) (qs : List ℕ) → is_in (lifted f qs) (suc f + o) ≡ is_in qs o
is_in-lifted f o [] = rw (ne_eqb (suc f + o) f (λ e. omega (arith, e))) refl
is_in-lifted f o (q ∷ qs) = elim (cases_eq o q) [
  | inl e ↦ rw (eq-eqb (suc f + o) (suc f + q) (ap (λ z. suc f + z) e), eq-eqb o q e) refl
  | inr d ↦ rw (ne_eqb (suc f + o) (suc f + q) (λ e. d (omega (arith, e))), ne_eqb o q d) (is_in-lifted f o qs)
]

is_in-open : (f : ℕ) (qs : List ℕ) → is_in (lifted f qs) f ≡ true
is_in-open f [] = rw (eq-eqb f f refl) refl
is_in-open f (q ∷ qs) = rw (ne_eqb f (suc f + q) (λ e. omega (arith, e))) (is_in-open f qs)

in-step : (b c : Bool) (x p : ℕ) (xs ys : List ℕ) → c ≡ b → length xs ≡ suc (length ys) → length (cond c (x ∷ xs) xs) ≡ suc (length (cond b (p ∷ ys) ys))
in-step true true x p xs ys e h = ap suc h
in-step true false x p xs ys e h = absurd (cc)
in-step false true x p xs ys e h = absurd (cc)
in-step false false x p xs ys e h = h

in-common : (f : ℕ) (qs ps : List ℕ) → length (filter (is_in (lifted f qs)) (lifted f ps)) ≡ suc (length (filter (is_in qs) ps))
in-common f qs [] = ap (λ b. length (cond b (f ∷ []) [])) (is_in-open f qs)
in-common f qs (p ∷ ps) = in-step (is_in qs p) (is_in (lifted f qs) (suc f + p)) (suc f + p) p (filter (is_in (lifted f qs)) (lifted f ps)) (filter (is_in qs) ps) (is_in-lifted f p qs) (in-common f qs ps)

lifted-from : (f : ℕ) (ps : List ℕ) → AllFrom f (lifted f ps)
lifted-from f [] = (omega arith, tt)
lifted-from f (p ∷ ps) = (omega arith, lifted-from f ps)

reverse-lifted : (f : ℕ) (ps : List ℕ) → reverse (lifted f ps) ≡ f ∷ map (λ o. suc f + o) (reverse ps)
reverse-lifted f ps = reverse-append (map (λ o. suc f + o) ps) (f ∷ []) ∙ ap (λ z. f ∷ z) (reverse-map (λ o. suc f + o) ps)

-- ---- a position in the content of a node that has whole nodes before it

inner-met : {inner : List Token} (q : ℕ) → Balanced inner → unmet 0 (take q inner) ≡ 0
inner-met {inner = inner} q b = omega (arith, unmet-append [] (take q inner) (drop q inner), ap (unmet 0) (take-append-drop q inner), (balanced-whole b).met)

module _ (front inner rest : List Token) (k : ℕ) (a : Attrs) (m : Marks) (fb : Balanced front) (ib : Balanced inner) where
  abbrev all : List Token
  all = front ++ (Open k a m ∷ (inner ++ (Close ∷ rest)))

  -- the node, and what is before it
  abbrev upto : List Token
  upto = front ++ (Open k a m ∷ (inner ++ (Close ∷ [])))

  upto-rest : all ≡ upto ++ rest
  upto-rest = ap (λ z. front ++ (Open k a m ∷ z)) (sym (append_assoc inner (Close ∷ []) rest)) ∙ sym (append_assoc front (Open k a m ∷ (inner ++ (Close ∷ []))) rest)

  length-upto : length upto ≡ length front + (length inner + 2)
  length-upto = omega (arith, length-append front (Open k a m ∷ (inner ++ (Close ∷ []))), length-append inner (Close ∷ []))

  taken : (p q : ℕ) → p ≡ length front + suc q → q ≤ length inner → take p all ≡ front ++ (Open k a m ∷ take q inner)
  taken p q e h =
      let r : p - length front ≡ suc q = omega (arith, e) in
      take_over p front (Open k a m ∷ (inner ++ (Close ∷ rest))) ∙ (ap (λ z. z ++ take (p - length front) (Open k a m ∷ (inner ++ (Close ∷ rest)))) (take_all p front (omega (arith, e))) ∙ (ap (λ n. front ++ take n (Open k a m ∷ (inner ++ (Close ∷ rest)))) r ∙ ap (λ z. front ++ (Open k a m ∷ z)) (take-append-le q inner (Close ∷ rest) h)))

  pub open-in : (p q : ℕ) → p ≡ length front + suc q → q ≤ length inner → open_at all p ≡ lifted (length front) (open_at inner q)
  open-in p q e h =
      let f = length front in
      let x = take q inner in
      ap (open_places 0 []) (taken p q e h)
      ∙ (places-append 0 [] front (Open k a m ∷ x)
      ∙ (ap (λ s. open_places (0 + f) s (Open k a m ∷ x)) (places-balanced 0 [] fb)
      ∙ (ap (λ n. open_places n [] (Open k a m ∷ x)) (let z : 0 + f ≡ f = omega arith in z)
      ∙ (places-under (f + 1) [] (f ∷ []) x (inner-met q ib)
      ∙ ap (λ z. z ++ (f ∷ [])) (ap (λ n. open_places n [] x) (let z : f + 1 ≡ suc f + 0 = omega arith in z) ∙ places-shift (suc f) 0 [] x)))))

  pub opens-in : (p q : ℕ) → p ≡ length front + suc q → q ≤ length inner → opens_at all p ≡ length front ∷ map (λ o. suc (length front) + o) (opens_at inner q)
  opens-in p q e h = ap reverse (open-in p q e h) ∙ reverse-lifted (length front) (open_at inner q)

  -- two positions in the content share the node and what they share in the content
  pub shared-in : (p q p' q' : ℕ) → p ≡ length front + suc q → q ≤ length inner → p' ≡ length front + suc q' → q' ≤ length inner → shared_depth all p p' ≡ suc (shared_depth inner q q')
  shared-in p q p' q' e h e' h' =
      ap (λ z. length (filter (is_in (open_at all p')) z)) (open-in p q e h) ∙ (ap (λ z. length (filter (is_in z) (lifted (length front) (open_at inner q)))) (open-in p' q' e' h') ∙ in-common (length front) (open_at inner q') (open_at inner q))

  -- with a position before the content, or after it, one in the content shares nothing
  pub shared-before : (p q p' : ℕ) → p ≡ length front + suc q → q ≤ length inner → p' ≤ length front → shared_depth all p p' ≡ 0
  shared-before p q p' e h l =
      let ps : AllFrom (length front) (open_at all p) = subst (AllFrom (length front)) (sym (open-in p q e h)) (lifted-from (length front) (open_at inner q)) in
      let qs : AllBelow (length front) (open_at all p') = places-below (length front) 0 [] (take p' all) (omega (arith, l, length-take p' all)) tt in
      ap length (none-below (length front) (open_at all p) (open_at all p') ps qs)

  pub shared-behind : (p q p' : ℕ) → p ≡ length front + suc q → q ≤ length inner → length front + suc (length inner) < p' → shared_depth all p p' ≡ 0
  shared-behind p q p' e h l =
      let n = length upto in
      let ps : AllBelow n (open_at all p) = places-below n 0 [] (take p all) (omega (arith, e, h, length-upto, length-take p all)) tt in
      let whole : Balanced upto = balanced-append fb (node k a m ib none) in
      let t = take (p' - n) rest in
      let split : take p' all ≡ upto ++ t = ap (take p') upto-rest ∙ (take_over p' upto rest ∙ ap (λ z. z ++ t) (take_all p' upto (omega (arith, l, length-upto)))) in
      let is : open_at all p' ≡ open_places (0 + n) [] t = ap (open_places 0 []) split ∙ (places-append 0 [] upto t ∙ ap (λ s. open_places (0 + n) s t) (places-balanced 0 [] whole)) in
      let qs : AllFrom n (open_at all p') = subst (AllFrom n) (sym is) (places-from n (0 + n) [] t (omega arith) tt) in
      ap length (none-from n (open_at all p) (open_at all p') ps qs)
