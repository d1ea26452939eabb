-- The parts of an expansion.
use Rattle.std.proofs.Common.{◌≡◌, ℕ, zero, suc, ◌+◌, ◌-◌, ◌*◌, ◌≤◌, ◌<◌, List, [], ◌∷◌, ◌++◌, length, map, take, get_or, Bool, true, false, ◌||◌, ◌&&◌, cond, nat_eq, Option, Some, None, Result, Ok, Err, IfOk, ◌≢◌, refl, ap, sym, subst, ◌∙◌, arith, add-zero, rules}
use Rattle.std.proofs.lemmas.List.{take_more, map-append, length-map, length-append}
use Rattle.std.proofs.Math.Nat.{mul-le-mul_right}
use Rattle.pm_auto.specs.declared.places.Row.{Row}
use Rattle.pm_auto.specs.declared.places.Part.{Part}
use Rattle.pm_auto.specs.declared.expr.Expr.{Expr}
use Rattle.pm_auto.specs.Core.{Core, Never, Empty, One, Alt, Cat, Loop, when, nullable}
use Rattle.pm_auto.specs.Expand.{expand, and_copies, range, optional, one_of, in_turn}
use Rattle.pm_auto.specs.Table.{onward, again, rows, firsts, width, widths, part, one_or, one_then, both_parts, no_part, passes, repeated}
use Rattle.pm_auto.specs.Trim.{has_list, trim}
use Rattle.pm_auto.proofs.TrimLaws.{width-trim, nullable-trim, passes-trim}
use Rattle.pm_auto.specs.Alike.{Alike}
use Rattle.pm_auto.proofs.AlikeLaws.{alike-is, alike-refl, alike-trans, length-alike, or-alike, then-alike, repeated-alike}
use Rattle.pm_auto.proofs.WidthLaws.{width-in_turn, width-one_of, width-and_copies, width-range}

-- there is a row for each place
pub length-rows : (n : ℕ) (e : Core) → length (rows n e) ≡ width e
length-rows n Never = refl
length-rows n Empty = refl
length-rows n (One k) = refl
length-rows n (Alt a b) = length-append (rows n a) (rows (n + width a) b) ∙ rw (length-rows n a, length-rows (n + width a) b) refl
length-rows n (Cat a b) =
    length-append (map (onward (firsts (n + width a) b) (nullable b)) (rows n a)) (rows (n + width a) b)
    ∙ rw (length-map (rows n a) (onward (firsts (n + width a) b) (nullable b)), length-rows n a, length-rows (n + width a) b) refl
length-rows n (Loop a) = length-map (rows n a) (again (firsts n a)) ∙ length-rows n a

-- parts put together
module _ (n m : ℕ) (e : Core) (a : Part) (ea : Alike a (part n e)) (em : m ≡ n + length a.rows) where
  next-place : m ≡ n + width e
  next-place = em ∙ ap (λ z. n + z) (length-alike a.rows (rows n e) ea.rows ∙ length-rows n e)

  pub part-or : (d : Core) (b : Part) → Alike b (part m d) → Alike (one_or a b) (part n (Alt e d))
  part-or d b eb = or-alike a b (part n e) (part (n + width e) d) ea (subst (λ (z : ℕ). Alike b (part z d)) next-place eb)

pub part-then : (n m : ℕ) (e d : Core) (a b : Part) → Alike a (part n (trim e)) → m ≡ n + length a.rows → Alike b (part m (trim d)) → Alike (one_then a b) (part n (trim (Cat e d)))
part-then n m e d a b ea em eb =
    let s : m ≡ n + width (trim e) = next-place n m (trim e) a ea em in
    let c : Part = part n (trim e) in
    let f : Part = part (n + width (trim e)) (trim d) in
    let g : passes c && passes f ≡ has_list e && has_list d = ap (λ z. z && passes f) (passes-trim n e) ∙ ap (λ z. has_list e && z) (passes-trim (n + width (trim e)) d) in
    subst (Alike (one_then a b)) (ap (λ z. cond z (both_parts c f) no_part) g ∙ at (has_list e && has_list d))
    (then-alike a b c f ea (subst (λ (z : ℕ). Alike b (part z (trim d))) s eb))
  where
    at : (z : Bool) → cond z (both_parts (part n (trim e)) (part (n + width (trim e)) (trim d))) no_part ≡ part n (cond z (Cat (trim e) (trim d)) Never)
    at true = refl
    at false = refl

pub part-optional : (n : ℕ) (d : Core) (b c : Part) → Alike b (part n d) → c ≡ one_or record { rows = []; first = []; may_be_empty = true } b → Alike c (part n (optional d))
part-optional n d b c eb ec =
    let o : Part = record { rows = []; first = []; may_be_empty = true } in
    let e : one_or o (part n d) ≡ part n (optional d) = rw add-zero refl in
    subst (λ (z : Part). Alike z (part n (optional d))) (sym ec) (subst (Alike (one_or o b)) e (or-alike o b o (part n d) (alike-refl o) eb))

pub part-repeated : (n : ℕ) (d : Core) (b c : Part) → Alike b (part n d) → Alike c (repeated b) → Alike c (part n (Loop d))
part-repeated n d b c eb ec = alike-trans c (repeated b) (part n (Loop d)) ec (repeated-alike b (part n d) eb)

-- one item more
pub one_of-more : (e : Core) (ds : List Core) (d : Core) → one_of e (ds ++ d ∷ []) ≡ Alt (one_of e ds) d
one_of-more e [] d = refl
one_of-more e (x ∷ ds) d = one_of-more (Alt e x) ds d

pub in_turn-more : (e : Core) (ds : List Core) (d : Core) → in_turn e (ds ++ d ∷ []) ≡ Cat (in_turn e ds) d
in_turn-more e [] d = refl
in_turn-more e (x ∷ ds) d = in_turn-more (Cat e x) ds d

pub copies-more : (n : ℕ) (e d : Core) → and_copies e (suc n) d ≡ Cat (and_copies e n d) d
copies-more zero e d = refl
copies-more (suc n) e d = copies-more n (Cat e d) d

pub items-more : (xs : List Expr) (i : ℕ) (x : Expr) → i < length xs → x ≡ get_or xs i x → map expand (take (i + 1) xs) ≡ map expand (take i xs) ++ expand x ∷ []
items-more xs i x l is = ap (map expand) (take_more xs i x l ∙ ap (λ y. take i xs ++ y ∷ []) (sym is)) ∙ map-append expand (take i xs) (x ∷ [])

widths-append : (ds es : List Core) → widths (ds ++ es) ≡ widths ds + widths es
widths-append [] es = omega arith
widths-append (d ∷ ds) es = omega (arith, widths-append ds es)

pub widths-part : (xs : List Expr) (i : ℕ) → widths (map expand (take i xs)) ≤ widths (map expand xs)
widths-part [] zero = omega arith
widths-part [] (suc i) = omega arith
widths-part (x ∷ xs) zero = omega arith
widths-part (x ∷ xs) (suc i) = omega (arith, widths-part xs i)

-- the items before one and that one fit where all do
pub widths-more : (xs : List Expr) (i : ℕ) (x : Expr) → i < length xs → x ≡ get_or xs i x → widths (map expand (take i xs)) + width (expand x) ≤ widths (map expand xs)
widths-more xs i x l is =
    let a = ap widths (items-more xs i x l is) ∙ widths-append (map expand (take i xs)) (expand x ∷ []) in
    let b = widths-part xs (i + 1) in
    omega (arith, a, b)

-- an expression without places
pub rows-none : (n : ℕ) (e : Core) → width e ≡ 0 → rows n e ≡ []
rows-none n e h = empty (rows n e) (length-rows n e ∙ h)
  where
    empty : (rs : List Row) → length rs ≡ 0 → rs ≡ []
    empty [] h = refl
    empty (r ∷ rs) h = absurd (omega arith)

pub firsts-none : (n : ℕ) (e : Core) → width e ≡ 0 → firsts n e ≡ []
firsts-none n Never h = refl
firsts-none n Empty h = refl
firsts-none n (One k) h = absurd (omega (arith, h))
firsts-none n (Alt a b) h = rw (firsts-none n a (omega (arith, h)), firsts-none (n + width a) b (omega (arith, h))) refl
firsts-none n (Cat a b) h = rw (firsts-none n a (omega (arith, h)), firsts-none (n + width a) b (omega (arith, h))) (when-none (nullable a))
  where
    when-none : (c : Bool) → when {A = ℕ} c [] ≡ []
    when-none true = refl
    when-none false = refl
firsts-none n (Loop a) h = firsts-none n a h

pub nullable-copies : (n : ℕ) (e d : Core) → nullable (and_copies e n d) ≡ nullable e && (nat_eq n 0 || nullable d)
nullable-copies zero e d = and-all (nullable e)
  where
    and-all : (b : Bool) → b ≡ b && true
    and-all true = refl
    and-all false = refl
nullable-copies (suc n) e d = nullable-copies n (Cat e d) d ∙ twice (nullable e) (nat_eq n 0) (nullable d) ∙ ap (λ z. nullable e && (z || nullable d)) (sym (not-zero n))
  where
    twice : (a b c : Bool) → (a && c) && (b || c) ≡ a && (false || c)
    twice true true true = refl
    twice true false true = refl
    twice true b false = refl
    twice false b c = refl

    not-zero : (n : ℕ) → nat_eq (suc n) 0 ≡ false
    not-zero n = search (rules, arith)

-- a repetition without places
pub part-none : (n low : ℕ) (high : Option ℕ) (d : Core) → width d ≡ 0 → record { rows = []; first = []; may_be_empty = nat_eq low 0 || nullable d } ≡ part n (trim (range d low high))
part-none n low high d h =
    let v : width (range d low high) ≡ 0 = width-range d low high ∙ rw h (omega arith) in
    let w : width (trim (range d low high)) ≡ 0 = omega (arith, v, width-trim (range d low high)) in
    rw (rows-none n (trim (range d low high)) w, firsts-none n (trim (range d low high)) w) (ap (λ z. record { rows = []; first = []; may_be_empty = z }) (sym (nullable-trim (range d low high) ∙ may-end high)))
  where
    may-end : (high : Option ℕ) → nullable (range d low high) ≡ nat_eq low 0 || nullable d
    may-end None = rw (nullable-copies low Empty d) (last (nat_eq low 0 || nullable d) (nullable d))
      where
        last : (a b : Bool) → (true && a) && (true || b) ≡ a
        last true b = refl
        last false b = refl
    may-end (Some m) = rw (nullable-copies (m - low) (and_copies Empty low d) (optional d), nullable-copies low Empty d) (last (nat_eq low 0 || nullable d) (nat_eq (m - low) 0))
      where
        last : (a b : Bool) → (true && a) && (b || (true || nullable d)) ≡ a
        last true true = refl
        last true false = refl
        last false b = refl

length-part : (n : ℕ) (e : Core) (p : Part) → Alike p (part n (trim e)) → length p.rows ≤ width e
length-part n e p is = let l : length p.rows ≡ width (trim e) = length-alike p.rows (rows n (trim e)) is.rows ∙ length-rows n (trim e) in omega (arith, l, width-trim e)

module _ (n : ℕ) (xs : List Expr) (i : ℕ) (x : Expr) (p : Part) (k : ℕ) (l : i < length xs) (is : x ≡ get_or xs i x) (ek : k ≡ length p.rows) where
  pub room-choice : n + widths (map expand xs) ≤ 4096 → Alike p (part n (trim (one_of Never (map expand (take i xs))))) → n + k + width (expand x) ≤ 4096
  room-choice r ep = omega (arith, r, ek, length-part n (one_of Never (map expand (take i xs))) p ep, width-one_of Never (map expand (take i xs)), widths-more xs i x l is)

  pub room-turn : n + widths (map expand xs) ≤ 4096 → Alike p (part n (trim (in_turn Empty (map expand (take i xs))))) → n + k + width (expand x) ≤ 4096
  room-turn r ep = omega (arith, r, ek, length-part n (in_turn Empty (map expand (take i xs))) p ep, width-in_turn Empty (map expand (take i xs)), widths-more xs i x l is)

  pub step-choice : (q r : Part) → Alike p (part n (trim (one_of Never (map expand (take i xs))))) → Alike q (part (n + k) (trim (expand x))) → r ≡ one_or p q → Alike r (part n (trim (one_of Never (map expand (take (i + 1) xs)))))
  step-choice q r ep eq er =
      subst (λ (z : Part). Alike z (part n (trim (one_of Never (map expand (take (i + 1) xs)))))) (sym er)
      (subst (λ (z : Core). Alike (one_or p q) (part n (trim z))) (sym (ap (one_of Never) (items-more xs i x l is) ∙ one_of-more Never (map expand (take i xs)) (expand x)))
      (part-or n (n + k) (trim (one_of Never (map expand (take i xs)))) p ep (ap (λ z. n + z) ek) (trim (expand x)) q eq))

  pub step-turn : (q r : Part) → Alike p (part n (trim (in_turn Empty (map expand (take i xs))))) → Alike q (part (n + k) (trim (expand x))) → Alike r (one_then p q) → Alike r (part n (trim (in_turn Empty (map expand (take (i + 1) xs)))))
  step-turn q r ep eq er =
      subst (λ (z : Core). Alike r (part n (trim z))) (sym (ap (in_turn Empty) (items-more xs i x l is) ∙ in_turn-more Empty (map expand (take i xs)) (expand x)))
      (alike-trans r (one_then p q) (part n (trim (Cat (in_turn Empty (map expand (take i xs))) (expand x)))) er (part-then n (n + k) (in_turn Empty (map expand (take i xs))) (expand x) p q ep (ap (λ z. n + z) ek) eq))

module _ (n i : ℕ) (e d : Core) (p : Part) (k : ℕ) (ek : k ≡ length p.rows) where
  pub room-copies : (m : ℕ) → i < m → n + (width e + m * width d) ≤ 4096 → Alike p (part n (trim (and_copies e i d))) → n + k + width d ≤ 4096
  room-copies m l r ep =
      let a : suc i * width d ≤ m * width d = mul-le-mul_right (width d) (omega arith) in
      omega (arith, r, ek, length-part n (and_copies e i d) p ep, width-and_copies i e d, a)

  pub step-copies : (q r : Part) → Alike p (part n (trim (and_copies e i d))) → Alike q (part (n + k) (trim d)) → Alike r (one_then p q) → Alike r (part n (trim (and_copies e (i + 1) d)))
  step-copies q r ep eq er =
      let g : i + 1 ≡ suc i = omega arith in
      subst (λ (z : Core). Alike r (part n (trim z))) (sym (ap (λ (z : ℕ). and_copies e z d) g ∙ copies-more i e d))
      (alike-trans r (one_then p q) (part n (trim (Cat (and_copies e i d) d))) er (part-then n (n + k) (and_copies e i d) d p q ep (ap (λ z. n + z) ek) eq))

-- the two forms of a repetition
module _ (n low : ℕ) (d : Core) where
  pub room-low : (high : Option ℕ) → n + width (range d low high) ≤ 4096 → n + low * width d ≤ 4096
  room-low None r = omega (arith, r, width-and_copies low Empty d)
  room-low (Some m) r = omega (arith, r, width-and_copies low Empty d, width-and_copies (m - low) (and_copies Empty low d) (optional d))

  pub room-more : (m : ℕ) → n + width (range d low (Some m)) ≤ 4096 → n + (low * width d + (m - low) * width d) ≤ 4096
  room-more m r = omega (arith, r, width-and_copies low Empty d, width-and_copies (m - low) (and_copies Empty low d) (optional d))

  pub room-last : (p : Part) (k : ℕ) → n + width (range d low None) ≤ 4096 → Alike p (part n (trim (and_copies Empty low d))) → k ≡ length p.rows → n + k + width d ≤ 4096
  room-last p k r ep ek = omega (arith, r, ek, length-part n (and_copies Empty low d) p ep, width-and_copies low Empty d)

  pub step-last : (p : Part) (k : ℕ) (q a b r : Part) → Alike p (part n (trim (and_copies Empty low d))) → k ≡ length p.rows → Alike q (part (n + k) (trim d)) → Alike a (repeated q)
      → b ≡ one_or record { rows = []; first = []; may_be_empty = true } a → Alike r (one_then p b) → Alike r (part n (trim (range d low None)))
  step-last p k q a b r ep ek eq ea eb er =
      alike-trans r (one_then p b) (part n (trim (range d low None))) er
      (part-then n (n + k) (and_copies Empty low d) (optional (Loop d)) p b ep (ap (λ z. n + z) ek)
      (part-optional (n + k) (Loop (trim d)) a b (part-repeated (n + k) (trim d) q a eq ea) eb))

pub low-none : (low : ℕ) (b x : Bool) → low ≡ 0 → b ≡ true → b ≡ nat_eq low 0 || x
low-none zero b x e h = h
low-none (suc low) b x e h = absurd (omega arith)

pub low-some : (low : ℕ) (b x : Bool) → low ≢ 0 → b ≡ x → b ≡ nat_eq low 0 || x
low-some zero b x e h = absurd (e refl)
low-some (suc low) b x e h = h ∙ ap (λ z. z || x) (sym (not-zero low))
  where
    not-zero : (n : ℕ) → nat_eq (suc n) 0 ≡ false
    not-zero n = search (rules, arith)

pub none-is : (n low : ℕ) (high : Option ℕ) (d : Core) (b : Bool) (p : Part) → width d ≡ 0 → b ≡ nat_eq low 0 || nullable d → p ≡ record { rows = []; first = []; may_be_empty = b } → Alike p (part n (trim (range d low high)))
none-is n low high d b p h eb ep = alike-is p (part n (trim (range d low high))) (ep ∙ rw eb (part-none n low high d h))

pub if_ok-map : {A E : Type 0} (P Q : A → Type 0) (r : Result A E) → ((x : A) → P x → Q x) → IfOk r P → IfOk r Q
if_ok-map P Q (Ok x) f h = f x h
if_ok-map P Q (Err e) f h = tt
