-- A map's place function is cut by its ranges.
use Rattle.std.specs.Prelude.{◌≡◌, ℕ, ◌+◌, ◌-◌, ◌≤◌, ◌<◌, Bool, true, false, if◌then◌else◌, List, [], ◌∷◌, zero, suc, ◌^◌, drop, length, Some, None, refl}
use Rattle.std.proofs.Common.{arith, ap, ◌∙◌}
use Rattle.std.proofs.lemmas.Bool.{ne_eqb}
use Rattle.pm_map.specs.declared.step_map.Span.{Span}
use Rattle.pm_map.specs.Moves.{moved_from, at_range, kept_at, AreInOrder}
use Rattle.pm_map.specs.Through.{result_start, range_at}
use Rattle.pm_map.proofs.Backs.{decided-before, decided-past, decided-in}
use Rattle.pm_frames.specs.declared.piece.Place.{Place}
use Rattle.pm_frames.specs.Places.{stays, leaves}
use Rattle.pm_frames.specs.Courses.{IsRun, IsCut, down_place, down_map, IsNear, IsLeft, AreSmall, Tells}

-- without a flag
down-kept : (paired : Bool) (mirror : List Span) (p : ℕ) → down_place paired mirror (kept_at p) ≡ stays p
down-kept true mirror p = refl
down-kept false mirror p = refl

-- strictly inside a range
inside-pos : (r : Span) (i to x : ℕ) (b : Bool) → r.start < x → x < r.start + r.old_size
    → at_range r i to x b ≡ record { pos = if b then to else to + r.new_size; deleted = true; across = true; after = true; recover = Some (record { range = i; offset = x - r.start }) }
inside-pos r i to x b h k = from b
  where
    from : (b : Bool) → at_range r i to x b ≡ record { pos = if b then to else to + r.new_size; deleted = true; across = true; after = true; recover = Some (record { range = i; offset = x - r.start }) }
    from true = rw (ne_eqb r.old_size 0 (λ e. omega (arith, h, k, e)), ne_eqb x r.start (λ e. omega (arith, h, e)), ne_eqb x (r.start + r.old_size) (λ e. omega (arith, k, e))) refl
    from false = rw (ne_eqb r.old_size 0 (λ e. omega (arith, h, k, e)), ne_eqb x r.start (λ e. omega (arith, h, e)), ne_eqb x (r.start + r.old_size) (λ e. omega (arith, k, e))) refl

-- where such positions go
in_place : Bool → List Span → Span → ℕ → ℕ → Bool → ℕ → Place
in_place true mirror r i to b x = leaves (result_start mirror i + (x - r.start))
in_place false mirror r i to b x = record { pos = if b then to else to + r.new_size; exits = false; flags = record { deleted = true; across = true; after = true } }

in-place : (paired : Bool) (mirror : List Span) (r : Span) (i to x : ℕ) (b : Bool) → r.start < x → x < r.start + r.old_size
    → down_place paired mirror (at_range r i to x b) ≡ in_place paired mirror r i to b x
unfolding in_place
in-place true mirror r i to x b h k = ap (down_place true mirror) (inside-pos r i to x b h k)
in-place false mirror r i to x b h k = ap (down_place false mirror) (inside-pos r i to x b h k)

moved-on : (n s x : ℕ) → s + 1 ≤ x → n + (x - s) ≡ (n + ((s + 1) - s)) + (x - (s + 1))
moved-on n s x h = omega (arith, h)

plus-zero : (n : ℕ) → n ≡ n + 0
plus-zero n = omega arith

run-inside : (f : ℕ → Place) (paired : Bool) (mirror : List Span) (r : Span) (i to : ℕ) (b : Bool)
    → ((x : ℕ) → r.start < x → x < r.start + r.old_size → f x ≡ in_place paired mirror r i to b x)
    → IsRun f paired (r.start + 1) (r.start + r.old_size)
unfolding in_place
run-inside f true mirror r i to b h q k l =
    rw (h q (omega (arith, k)) l, h (r.start + 1) (omega arith) (omega (arith, k, l)))
    (ap leaves (moved-on (result_start mirror i) r.start q k))
run-inside f false mirror r i to b h q k l =
    rw (h q (omega (arith, k)) l, h (r.start + 1) (omega arith) (omega (arith, k, l)))
    (ap (λ p. record { pos = p; exits = false; flags = record { deleted = true; across = true; after = true } }) (plus-zero (if b then to else to + r.new_size)))

-- where no range has been reached yet
run-before : (f : ℕ → Place) (from to g l : ℕ) → l ≤ from → ((x : ℕ) → from ≤ x → x < to → f x ≡ stays ((x + g) - l)) → IsRun f true from to
run-before f from to g l h k q u v =
    rw (k q u v, k from (omega arith) (omega (arith, u, v))) (ap stays (omega (arith, h, u)))

cut-from : (f : ℕ → Place) (paired : Bool) (mirror rs : List Span) (i g l e from : ℕ) (b : Bool)
    → AreInOrder rs e g l → l ≤ e → e ≤ from → from ≤ e + 1
    → ((x : ℕ) → from ≤ x → f x ≡ down_place paired mirror (moved_from rs i g l x b))
    → IsCut paired f rs from
cut-from f paired mirror [] i g l e from b o k u n h = λ end. run-before f from end g l (omega (arith, k, u)) (λ x v w. h x v ∙ down-kept paired mirror ((x + g) - l))
cut-from f paired mirror (r ∷ rs) i g l e from b o k u n h = (
  run-before f from r.start g l (omega (arith, k, u)) (λ x v w. h x v ∙ rw (decided-before r i g l x b w) (down-kept paired mirror ((x + g) - l))),
  run-inside f paired mirror r i ((r.start + g) - l) b
      (λ x v w. h x (omega (arith, o.0, n, v)) ∙ rw (decided-in r i g l x b (omega (arith, v)) (omega (arith, w))) (in-place paired mirror r i ((r.start + g) - l) x b v w)),
  cut-from f paired mirror rs (i + 1) (g + r.new_size) (l + r.old_size) (r.start + r.old_size) (r.start + r.old_size + 1) b o.3 (omega (arith, k, o.0)) (omega arith) (omega arith)
      (λ x v. h x (omega (arith, o.0, n, v)) ∙ rw (decided-past r i g l x b (omega (arith, v))) refl),
)

pub cut-map : (paired : Bool) (mirror rs : List Span) (b : Bool) → AreInOrder rs 0 0 0 → IsCut paired (down_map paired rs mirror b) rs 0
cut-map paired mirror rs b o = cut-from (down_map paired rs mirror b) paired mirror rs 0 0 0 0 0 b o (omega arith) (omega arith) (omega arith) (λ x _. refl)

-- one position alone is a run, and none is
pub run-one : (f : ℕ → Place) (a b : ℕ) → b ≤ a + 1 → IsRun f false a b
run-one f a b h q k l =
    let e : q ≡ a = omega (arith, h, k, l) in
    rw e (ap (λ p. record { pos = p; exits = (f a).exits; flags = (f a).flags }) (plus-zero (f a).pos))

near-from : (rs : List Span) (g l e : ℕ) → AreInOrder rs e g l → AreSmall rs → e < 2 ^ 32 → IsNear rs (e + 1)
near-from [] g l e o s h = omega (arith, h)
near-from (r ∷ rs) g l e o s h = (omega (arith, o.0), near-from rs (g + r.new_size) (l + r.old_size) (r.start + r.old_size) o.3 s.2 s.0)

pub all-left : (paired : Bool) (mirror rs : List Span) (b : Bool) → AreInOrder rs 0 0 0 → AreSmall rs → IsLeft paired (down_map paired rs mirror b) (drop 0 rs) 0
all-left paired mirror rs b o s = record { cut = cut-map paired mirror rs b o; near = from rs o s; small = s }
  where
    zero-plus : (n : ℕ) → 0 + n ≡ n
    zero-plus n = omega arith

    from : (rs : List Span) → AreInOrder rs 0 0 0 → AreSmall rs → IsNear rs 0
    from [] o s = omega arith
    from (r ∷ rs) o s = (omega arith, near-from rs r.new_size r.old_size (r.start + r.old_size) (rw (zero-plus r.new_size, zero-plus r.old_size) at o.3) s.2 s.0)

pub at-range : (rs : List Span) (i : ℕ) (r : Span) → range_at rs i ≡ Some r → drop i rs ≡ r ∷ drop (suc i) rs
at-range [] i r h = absurd (cc)
at-range (s ∷ rs) zero r h = ap (λ x. x ∷ rs) (some-is s r h)
  where
    some-is : (s r : Span) → Some s ≡ Some r → s ≡ r
    some-is s r h = cc
at-range (s ∷ rs) (suc i) r h = at-range rs i r h

pub no-range : (rs : List Span) (i : ℕ) → range_at rs i ≡ None → drop i rs ≡ drop (suc i) rs
no-range [] zero h = refl
no-range [] (suc i) h = refl
no-range (s ∷ rs) zero h = absurd (cc)
no-range (s ∷ rs) (suc i) h = no-range rs i h

pub left-more : (leaving : Bool) (f : ℕ → Place) (rs : List Span) (i n upto next : ℕ) (r : Span) → range_at rs i ≡ Some r → n ≡ i + 1 → next ≡ r.start + r.old_size + 1
    → IsLeft leaving f (drop i rs) upto → IsLeft leaving f (drop n rs) next
left-more leaving f rs i n upto next r h e k left =
    let l : IsLeft leaving f (r ∷ drop (suc i) rs) upto = rw (at-range rs i r h) at left in
    let m : n ≡ suc i = omega (arith, e) in
    rw (m, k) (record { cut = l.cut.2; near = l.near.1; small = l.small.2 })

pub left-same : (leaving : Bool) (f : ℕ → Place) (rs : List Span) (i n upto : ℕ) → range_at rs i ≡ None → n ≡ i + 1 → IsLeft leaving f (drop i rs) upto → IsLeft leaving f (drop n rs) upto
left-same leaving f rs i n upto h e left = let m : n ≡ suc i = omega (arith, e) in rw (m, ← no-range rs i h) left

-- what the next range needs
pub record IsNext (leaving : Bool) (f : ℕ → Place) (r : Span) (upto : ℕ) : Type 0 where
  pub near : upto ≤ r.start + 1
  pub end : r.start + r.old_size < 2 ^ 32
  pub before : IsRun f true upto r.start
  pub inside : IsRun f leaving (r.start + 1) (r.start + r.old_size)

pub next-range : (leaving : Bool) (f : ℕ → Place) (rs : List Span) (i upto : ℕ) (r : Span) → range_at rs i ≡ Some r → IsLeft leaving f (drop i rs) upto → IsNext leaving f r upto
next-range leaving f rs i upto r h left =
    let l : IsLeft leaving f (r ∷ drop (suc i) rs) upto = rw (at-range rs i r h) at left in
    record { near = l.near.0; end = l.small.0; before = l.cut.0; inside = l.cut.1 }

pub none-left : (leaving : Bool) (f : ℕ → Place) (rs : List Span) (upto end : ℕ) → length rs ≤ 2 → IsLeft leaving f (drop 2 rs) upto → (upto ≤ 2 ^ 32) × IsRun f true upto end
none-left leaving f [] upto end h left = (left.near, left.cut end)
none-left leaving f (r ∷ []) upto end h left = (left.near, left.cut end)
none-left leaving f (r ∷ s ∷ []) upto end h left = (left.near, left.cut end)
none-left leaving f (r ∷ s ∷ t ∷ rs) upto end h left = absurd (omega (arith, h))

pub nothing-told : (f : ℕ → Place) → Tells [] f 0
nothing-told f = record { same = λ q h. absurd (omega (arith, h)); begin = tt }
