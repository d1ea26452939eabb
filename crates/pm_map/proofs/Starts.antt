-- Where `after` holds by `Before`, over a map and then the map back as its mirror.
use Rattle.std.specs.Prelude.{◌≡◌, ◌↔◌, ℕ, zero, suc, ◌+◌, ◌-◌, ◌≤◌, ◌<◌, Bool, true, false, not, ◌||◌, ◌==◌, List, [], ◌∷◌, Option, Some, None, refl}
use Rattle.std.proofs.Common.{arith, inl, inr, sym, subst, ◌∙◌, ⊎_elim}
use Rattle.std.proofs.lemmas.Bool.{cases_lt, eqb-true, eqb-false, eq-eqb, true≢false}
use Rattle.pm_map.specs.declared.step_map.Span.{Span}
use Rattle.pm_map.specs.declared.step_map.Moved.{Moved}
use Rattle.pm_map.specs.declared.step_map.Recover.{Recover}
use Rattle.pm_map.specs.Moves.{moved_from, at_range, kept_at, inverted_ranges, inverted_from, inverted_range}
use Rattle.pm_map.specs.Through.{through_from, stepped, skipped}
use Rattle.pm_map.specs.Mirrors.{entry}
use Rattle.pm_map.specs.Stills.{AreApart, IsStart, there_and_back}
use Rattle.pm_map.proofs.Backs.{goes-back, decided-before, decided-past, decided-in, at-start-pos, not-gone}

no-start : (rs : List Span) (from p : ℕ) → AreApart rs from → p < from → IsStart rs p → ⊥
no-start [] from p h l s = s
no-start (r ∷ rs) from p h l s = ⊎_elim
    (λ (x : (r.start ≡ p) × (0 < r.old_size + r.new_size)). absurd (omega (arith, h.0, l, x.0)))
    (λ (x : IsStart rs p). no-start rs (r.start + r.old_size + 1) p h.1 (omega (arith, h.0, l)) x)
    s

-- over ranges, and then over the map back
record Marks (rs : List Span) (i g l p : ℕ) (m : Moved) : Type 0 where
  pub none : m.recover ≡ None → ((m.after || (moved_from (inverted_from rs g l) i l g m.pos true).after) ≡ true) ↔ IsStart rs p
  pub some : (r : Recover) → m.recover ≡ Some r → IsStart rs p → ⊥

none-some : {A : Type 0} (r : Recover) → None ≡ Some r → A
none-some r e = absurd (cc)

-- `after` at the start of a range
take-after : (r : Span) (i to : ℕ) → (at_range r i to r.start true).after ≡ not (r.start == r.start + r.old_size)
take-after r i to = rw (eq-eqb r.start r.start refl) refl

marks-at : (r : Span) (to : ℕ) → ((not (r.start == r.start + r.old_size) || not (to == to + r.new_size)) ≡ true) ↔ (0 < r.old_size + r.new_size)
marks-at r to = from (r.start == r.start + r.old_size) refl (to == to + r.new_size) refl
  where
    from : (s : Bool) → (r.start == r.start + r.old_size) ≡ s → (t : Bool) → (to == to + r.new_size) ≡ t → ((not s || not t) ≡ true) ↔ (0 < r.old_size + r.new_size)
    from true se true te = (
      λ e. absurd (true≢false (cc)),
      λ (h : 0 < r.old_size + r.new_size). absurd (omega (arith, h, eqb-true r.start (r.start + r.old_size) se, eqb-true to (to + r.new_size) te)),
    )
    from true se false te = (λ e. some r.old_size r.new_size (λ z. eqb-false to (to + r.new_size) te (omega (arith, z))), λ h. refl)
      where
        some : (x y : ℕ) → (y ≡ 0 → ⊥) → 0 < x + y
        some x zero f = absurd (f refl)
        some x (suc y) f = omega arith
    from false se t te = (λ e. some r.old_size r.new_size (λ z. eqb-false r.start (r.start + r.old_size) se (omega (arith, z))), λ h. refl)
      where
        some : (x y : ℕ) → (x ≡ 0 → ⊥) → 0 < x + y
        some zero y f = absurd (f refl)
        some (suc x) y f = omega arith

marks : (rs : List Span) (i g l from p : ℕ) → AreApart rs from → l ≤ from → from ≤ p → Marks rs i g l p (moved_from rs i g l p true)
marks [] i g l from p a k f = record { none = λ e. (λ t. absurd (true≢false (sym t)), λ s. absurd s); some = λ r e s. s }
marks (r ∷ rs) i g l from p a k f = ⊎_elim
    (λ (u : p < r.start). rw (decided-before r i g l p true u) (record {
      none = λ e. rw (decided-before (inverted_range r g l) i l g ((p + g) - l) true (omega (arith, k, f, u))) (λ t. absurd (true≢false (sym t)), λ s. absurd (early u s));
      some = λ x e s. early u s;
    }))
    (λ (u : r.start ≤ p). ⊎_elim
    (λ (v : r.start + r.old_size < p). rw (decided-past r i g l p true v) (past v
    (marks rs (i + 1) (g + r.new_size) (l + r.old_size) (r.start + r.old_size + 1) p a.1 (omega (arith, k, a.0)) (omega (arith, v)))))
    (λ (v : p ≤ r.start + r.old_size). rw (decided-in r i g l p true u v) (held u v (p == r.start) refl))
    (cases_lt (r.start + r.old_size) p))
    (cases_lt p r.start)
  where
    early : p < r.start → IsStart (r ∷ rs) p → ⊥
    early u s = no-start (r ∷ rs) r.start p (omega arith, a.1) u s

    to : ℕ
    to = (r.start + g) - l

    past : r.start + r.old_size < p → Marks rs (i + 1) (g + r.new_size) (l + r.old_size) p (moved_from rs (i + 1) (g + r.new_size) (l + r.old_size) p true)
        → Marks (r ∷ rs) i g l p (moved_from rs (i + 1) (g + r.new_size) (l + r.old_size) p true)
    past v h =
        let b = goes-back rs (i + 1) (g + r.new_size) (l + r.old_size) (r.start + r.old_size + 1) p true a.1 (omega (arith, k, a.0)) (omega (arith, v)) in
        let m = moved_from rs (i + 1) (g + r.new_size) (l + r.old_size) p true in
        let over = decided-past (inverted_range r g l) i l g m.pos true (omega (arith, k, a.0, b.bound)) in
        let rest = λ (s : IsStart (r ∷ rs) p). ⊎_elim (λ (x : (r.start ≡ p) × (0 < r.old_size + r.new_size)). absurd (omega (arith, v, x.0))) (λ (x : IsStart rs p). x) s in
        record {
          none = λ e. rw over (λ t. inr ((h.none e).0 t), λ s. (h.none e).1 (rest s));
          some = λ x e s. h.some x e (rest s);
        }

    here : IsStart (r ∷ rs) r.start → 0 < r.old_size + r.new_size
    here s = ⊎_elim (λ (x : (r.start ≡ r.start) × (0 < r.old_size + r.new_size)). x.1)
        (λ (x : IsStart rs r.start). absurd (no-start rs (r.start + r.old_size + 1) r.start a.1 (omega arith) x)) s

    held : r.start ≤ p → p ≤ r.start + r.old_size → (t : Bool) → (p == r.start) ≡ t → Marks (r ∷ rs) i g l p (at_range r i ((r.start + g) - l) p true)
    held u v false te =
        let off = λ (s : IsStart (r ∷ rs) p). ⊎_elim (λ (x : (r.start ≡ p) × (0 < r.old_size + r.new_size)). eqb-false p r.start te (sym x.0))
        (λ (x : IsStart rs p). no-start rs (r.start + r.old_size + 1) p a.1 (omega (arith, v)) x) s in
        record {
          none = λ e. absurd (true≢false (sym (not-gone (p == r.start) _ e) ∙ te));
          some = λ x e s. off s;
        }
    held u v true te =
        subst (λ x. Marks (r ∷ rs) i g l x (at_range r i to x true)) (sym (eqb-true p r.start te)) (record {
          none = λ e. rw (at-start-pos r i to, decided-in (inverted_range r g l) i l g to true (omega arith) (omega arith), take-after r i to, take-after (inverted_range r g l) i ((to + l) - g))
              (λ t. inl (refl, (marks-at r to).0 t), λ s. (marks-at r to).1 (here s));
          some = λ x e s. none-some x (let z = rw (eq-eqb r.start r.start refl) at e in z);
        })

-- Over both, `after` is what the map and the map back say, unless the position was deleted and came back.
by_found : (inv : List Span) (p : ℕ) (m : Moved) (found : Option Recover) → m.recover ≡ found → (S : Type 0)
    → (m.recover ≡ None → ((m.after || (moved_from inv 0 0 0 m.pos true).after) ≡ true) ↔ S)
    → ((r : Recover) → m.recover ≡ Some r → S → ⊥)
    → ((through_from (entry inv None ∷ []) (skipped (Some 0) found) true (stepped (kept_at p) m (Some 0) found (entry inv None ∷ []))).after ≡ true) ↔ S
by_found inv p m None e S none some = none e
by_found inv p m (Some r) e S none some = (λ t. absurd (true≢false (sym t)), λ s. absurd (some r e s))

pub after-marks : (rs : List Span) (p : ℕ) → AreApart rs 0 → ((through_from (there_and_back rs) 0 true (kept_at p)).after ≡ true) ↔ IsStart rs p
after-marks [] p h = (λ t. absurd (true≢false (sym t)), λ s. absurd s)
after-marks (r ∷ rs) p h =
    let x = marks (r ∷ rs) 0 0 0 0 p h (omega arith) (omega arith) in
    let m = moved_from (r ∷ rs) 0 0 0 p true in
    by_found (inverted_ranges (r ∷ rs)) p m m.recover refl (IsStart (r ∷ rs) p) x.none x.some
