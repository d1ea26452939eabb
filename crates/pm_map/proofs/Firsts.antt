-- The first range that holds a position decides where it goes.
use Rattle.std.specs.Prelude.{◌≡◌, ℕ, zero, suc, ◌+◌, ◌-◌, ◌≤◌, ◌<◌, Bool, List, [], ◌∷◌, refl}
use Rattle.std.proofs.Common.{arith, ap, sym, subst, ◌∙◌, ⊎_elim}
use Rattle.std.proofs.lemmas.Bool.{cases_lt, le-ltb, lt-ltb}
use Rattle.pm_map.specs.declared.step_map.Span.{Span}
use Rattle.pm_map.specs.Moves.{moved_from, at_range, kept_at, AreInOrder}
use Rattle.pm_map.specs.Through.{start_from}
use Rattle.pm_map.specs.Stills.{IsOutside}
use Rattle.pm_map.specs.Firsts.{FirstHolds, put_before, taken_before}
use Rattle.pm_map.proofs.Backs.{decided-before, decided-past, decided-in}

pub record Decides (rs : List Span) (i j from g l p : ℕ) (r : Span) (b : Bool) : Type 0 where
  pub far : from ≤ p
  pub is : moved_from rs j g l p b ≡ at_range r (j + i) (start_from rs i g l) p b

pub decides : (rs : List Span) (i j from g l p : ℕ) (r : Span) (b : Bool) → AreInOrder rs from g l → l ≤ from → FirstHolds rs i r p → Decides rs i j from g l p r b
decides [] i j from g l p r b h k f = absurd f
decides (s ∷ ss) zero j from g l p r b h k f =
    let e : j + 0 ≡ j = omega arith in
    subst (λ x. Decides (s ∷ ss) zero j from g l p x b) f.0 (record { far = omega (arith, h.0, at-start); is = rw (decided-in s j g l p b at-start at-end, e) refl })
  where
    at-start : s.start ≤ p
    at-start = let x = f.1.0 in subst (λ (y : Span). y.start ≤ p) (sym f.0) x

    at-end : p ≤ s.start + s.old_size
    at-end = let x = f.1.1 in subst (λ (y : Span). p ≤ y.start + y.old_size) (sym f.0) x
decides (s ∷ ss) (suc i) j from g l p r b h k f =
    let x = decides ss i (j + 1) (s.start + s.old_size) (g + s.new_size) (l + s.old_size) p r b h.3 (omega (arith, h.0, k)) f.1 in
    let past : s.start + s.old_size < p = ⊎_elim (λ (u : s.start + s.old_size < p). u) (λ (u : p ≤ s.start + s.old_size). absurd (f.0 (omega (arith, x.far), u))) (cases_lt (s.start + s.old_size) p) in
    let e : (j + 1) + i ≡ j + suc i = omega arith in
    record { far = omega (arith, h.0, x.far); is = rw (decided-past s j g l p b past) (x.is ∙ ap (λ n. at_range r n (start_from ss i (g + s.new_size) (l + s.old_size)) p b) e) }

record NoneBefore (rs : List Span) (p : ℕ) : Type 0 where
  pub put : put_before rs p ≡ 0
  pub taken : taken_before rs p ≡ 0

none-before : (rs : List Span) (from g l p : ℕ) → AreInOrder rs from g l → p ≤ from → NoneBefore rs p
none-before [] from g l p h k = record { put = refl; taken = refl }
none-before (r ∷ rs) from g l p h k =
    let x = none-before rs (r.start + r.old_size) (g + r.new_size) (l + r.old_size) p h.3 (omega (arith, h.0, k)) in
    let t = le-ltb (r.start + r.old_size) p (omega (arith, h.0, k)) in
    record { put = rw (t, x.put) refl; taken = rw (t, x.taken) refl }

pub shifts : (rs : List Span) (j from g l p : ℕ) (b : Bool) → AreInOrder rs from g l → l ≤ from → from ≤ p → IsOutside rs p
    → moved_from rs j g l p b ≡ kept_at ((p + (g + put_before rs p)) - (l + taken_before rs p))
shifts [] j from g l p b h k f o = ap kept_at (omega arith)
shifts (r ∷ rs) j from g l p b h k f o = ⊎_elim
    (λ (u : p < r.start).
    let x = none-before (r ∷ rs) r.start g l p (omega arith, h.1, h.2, h.3) (omega (arith, u)) in
    rw (decided-before r j g l p b u) (ap kept_at (omega (arith, x.put, x.taken))))
    (λ (u : r.start + r.old_size < p).
    let t = lt-ltb (r.start + r.old_size) p u in
    let x = shifts rs (j + 1) (r.start + r.old_size) (g + r.new_size) (l + r.old_size) p b h.3 (omega (arith, h.0, k)) (omega (arith, u)) o.1 in
    rw (decided-past r j g l p b u) (x ∙ ap kept_at (rw t (omega arith))))
    o.0
