-- A position that goes over ranges and back over their inverted ranges.
use Rattle.std.specs.Prelude.{◌≡◌, ℕ, suc, ◌+◌, ◌-◌, ◌≤◌, ◌<◌, Bool, true, false, not, ◌&&◌, ◌||◌, ◌==◌, if◌then◌else◌, List, [], ◌∷◌, Option, Some, None, IfSome, refl}
use Rattle.std.proofs.Common.{arith, ⊎_elim, sym, subst, ◌∙◌}
use Rattle.std.proofs.lemmas.Bool.{lt-ltb, le-ltb, eqb-true, eqb-false, eq-eqb, ne_eqb, true≢false, cases_lt}
use Rattle.pm_map.specs.declared.step_map.Span.{Span}
use Rattle.pm_map.specs.declared.step_map.Moved.{Moved}
use Rattle.pm_map.specs.declared.step_map.Recover.{Recover}
use Rattle.pm_map.specs.Moves.{moved_from, at_range, kept_at, decided, goes_before, inverted_from, inverted_range}
use Rattle.pm_map.specs.Through.{start_from}
use Rattle.pm_map.specs.Stills.{AreApart}

-- a position moved there, and then back
pub record IsBack (there back : Moved) (p : ℕ) (before : Bool) : Type 0 where
  pub pos : back.pos ≡ p
  pub none : back.recover ≡ None
  pub deleted : there.deleted ≡ false
  pub across : there.across ≡ false
  pub back_deleted : back.deleted ≡ false
  pub back_across : back.across ≡ false
  pub after : before ≡ false → there.after ≡ false
  pub back_after : before ≡ false → back.after ≡ false

-- over ranges, and back
pub record GoesBack (rs : List Span) (i gained lost from p : ℕ) (before : Bool) (m : Moved) : Type 0 where
  pub bound : (from + gained) - lost ≤ m.pos
  pub jumps : IfSome m.recover (λ r. (i ≤ r.range) × (start_from (inverted_from rs gained lost) (r.range - i) lost gained + r.offset ≡ p))
  pub goes : m.recover ≡ None → IsBack m (moved_from (inverted_from rs gained lost) i lost gained m.pos before) p before

abbrev swapped : Span → ℕ → Span
swapped r to = record { start = to; old_size = r.new_size; new_size = r.old_size }

eqb-same : (a : ℕ) → (a == a) ≡ true
eqb-same a = eq-eqb a a refl

-- at the start, by `Before`
pub at-start-pos : (r : Span) (i to : ℕ) → (at_range r i to r.start true).pos ≡ to
at-start-pos r i to = from (r.old_size == 0)
  where
    from : (t : Bool) → (if (if t then true else if r.start == r.start then true else if r.start == r.start + r.old_size then false else true) then to else to + r.new_size) ≡ to
    from true = refl
    from false = rw (eqb-same r.start) refl

at-start : (r : Span) (i to : ℕ) → IsBack (at_range r i to r.start true) (at_range (swapped r to) i r.start to true) r.start true
at-start r i to = record {
  pos = at-start-pos (swapped r to) i r.start;
  none = rw (eqb-same to) refl;
  deleted = rw (eqb-same r.start) refl;
  across = rw (eqb-same r.start) refl;
  back_deleted = rw (eqb-same to) refl;
  back_across = rw (eqb-same to) refl;
  after = λ e. absurd (true≢false e);
  back_after = λ e. absurd (true≢false e);
}

-- at the end, by `After`
at-end-pos : (r : Span) (i to p : ℕ) → p ≡ r.start + r.old_size → (at_range r i to p false).pos ≡ to + r.new_size
at-end-pos r i to p e = from (r.old_size == 0) refl
  where
    from : (t : Bool) → (r.old_size == 0) ≡ t → (if (if t then false else if p == r.start then true else if p == r.start + r.old_size then false else false) then to else to + r.new_size) ≡ to + r.new_size
    from true z = refl
    from false z = rw (ne_eqb p r.start (λ same. eqb-false r.old_size 0 z (omega (arith, e, same))), eq-eqb p (r.start + r.old_size) e) refl

at-end-flags : (r : Span) (i to p : ℕ) → p ≡ r.start + r.old_size → ((at_range r i to p false).deleted ≡ false) × ((at_range r i to p false).across ≡ false) × ((at_range r i to p false).after ≡ false) × ((at_range r i to p false).recover ≡ None)
at-end-flags r i to p e = (rw (eq-eqb p (r.start + r.old_size) e) refl, rw (eq-eqb p (r.start + r.old_size) e) (none (p == r.start)), rw (eq-eqb p (r.start + r.old_size) e) (none2 (p == r.start)), rw (eq-eqb p (r.start + r.old_size) e) refl)
  where
    none : (t : Bool) → (not t && false) ≡ false
    none true = refl
    none false = refl

    none2 : (t : Bool) → ((not t && false) || (t && false)) ≡ false
    none2 true = refl
    none2 false = refl

at-end : (r : Span) (i to p : ℕ) → p ≡ r.start + r.old_size → IsBack (at_range r i to p false) (at_range (swapped r to) i r.start (to + r.new_size) false) p false
at-end r i to p e =
    let there = at-end-flags r i to p e in
    let back = at-end-flags (swapped r to) i r.start (to + r.new_size) refl in
    record {
      pos = at-end-pos (swapped r to) i r.start (to + r.new_size) refl ∙ sym e;
      none = back.3;
      deleted = there.0;
      across = there.1;
      back_deleted = back.0;
      back_across = back.1;
      after = λ _. there.2;
      back_after = λ _. back.2;
    }

-- a position that is not deleted stands at an end
pub not-gone : (t : Bool) (r : Recover) → (if not t then Some r else None) ≡ None → t ≡ true
not-gone true r h = refl
not-gone false r h = absurd (cc)

pub range-pos : (r : Span) (i to p : ℕ) (b : Bool) → (to ≤ (at_range r i to p b).pos) × ((at_range r i to p b).pos ≤ to + r.new_size)
range-pos r i to p b = from (goes_before r p b)
  where
    from : (t : Bool) → (to ≤ (if t then to else to + r.new_size)) × ((if t then to else to + r.new_size) ≤ to + r.new_size)
    from true = (omega arith, omega arith)
    from false = (omega arith, omega arith)

range-back : (r : Span) (i to p : ℕ) (b : Bool) → (at_range r i to p b).recover ≡ None
    → IsBack (at_range r i to p b) (at_range (swapped r to) i r.start (at_range r i to p b).pos b) p b
range-back r i to p true h =
    let e : p ≡ r.start = eqb-true p r.start (not-gone (p == r.start) _ h) in
    subst (λ x. IsBack (at_range r i to x true) (at_range (swapped r to) i r.start (at_range r i to x true).pos true) x true) (sym e)
    (subst (λ q. IsBack (at_range r i to r.start true) (at_range (swapped r to) i r.start q true) r.start true) (sym (at-start-pos r i to)) (at-start r i to))
range-back r i to p false h =
    let e : p ≡ r.start + r.old_size = eqb-true p (r.start + r.old_size) (not-gone (p == r.start + r.old_size) _ h) in
    subst (λ q. IsBack (at_range r i to p false) (at_range (swapped r to) i r.start q false) p false) (sym (at-end-pos r i to p e)) (at-end r i to p e)

-- which case decides
pub decided-before : (r : Span) (i g l p : ℕ) (b : Bool) → p < r.start → decided r i g l p b ≡ Some (kept_at ((p + g) - l))
decided-before r i g l p b h = rw (lt-ltb p r.start h) refl

pub decided-past : (r : Span) (i g l p : ℕ) (b : Bool) → r.start + r.old_size < p → decided r i g l p b ≡ None
decided-past r i g l p b h = rw (le-ltb p r.start (omega (arith, h)), lt-ltb (r.start + r.old_size) p h) refl

pub decided-in : (r : Span) (i g l p : ℕ) (b : Bool) → r.start ≤ p → p ≤ r.start + r.old_size → decided r i g l p b ≡ Some (at_range r i ((r.start + g) - l) p b)
decided-in r i g l p b h k = rw (le-ltb p r.start h, le-ltb (r.start + r.old_size) p k) refl

-- the inverted range of range r where `gained` and `lost` came before it
back_of : Span → ℕ → ℕ → Span
back_of r g l = inverted_range r g l

if-some : (t : Bool) (x : Recover) (P : Recover → Type 0) → P x → IfSome (if t then Some x else None) P
if-some true x P h = h
if-some false x P h = tt

shifted : (r : Span) (rs : List Span) (i g l p : ℕ) (o : Option Recover)
    → IfSome o (λ x. (i + 1 ≤ x.range) × (start_from (inverted_from rs (g + r.new_size) (l + r.old_size)) (x.range - (i + 1)) (l + r.old_size) (g + r.new_size) + x.offset ≡ p))
    → IfSome o (λ x. (i ≤ x.range) × (start_from (inverted_from (r ∷ rs) g l) (x.range - i) l g + x.offset ≡ p))
shifted r rs i g l p None h = tt
shifted r rs i g l p (Some x) h =
    let e : x.range - i ≡ suc (x.range - (i + 1)) = omega (arith, h.0) in
    (omega (arith, h.0), rw e h.1)

at-first : (r : Span) (rs : List Span) (i g l p : ℕ) (t : Bool) → r.start ≤ p → l ≤ r.start
    → IfSome {T = Recover} (if t then Some (record { range = i; offset = p - r.start }) else None) (λ x. (i ≤ x.range) × (start_from (inverted_from (r ∷ rs) g l) (x.range - i) l g + x.offset ≡ p))
at-first r rs i g l p t h k = if-some t (record { range = i; offset = p - r.start }) _
    (omega arith, (let e : i - i ≡ 0 = omega arith in rw e (omega (arith, h, k))))

goes-before : (r : Span) (rs : List Span) (i g l from p : ℕ) (b : Bool) → l ≤ from → from ≤ p → p < r.start
    → GoesBack (r ∷ rs) i g l from p b (kept_at ((p + g) - l))
goes-before r rs i g l from p b k f h = record {
  bound = omega (arith, k, f);
  jumps = tt;
  goes = λ _. rw (decided-before (inverted_range r g l) i l g ((p + g) - l) b (omega (arith, k, f, h))) (record {
    pos = omega (arith, k, f);
    none = refl;
    deleted = refl;
    across = refl;
    back_deleted = refl;
    back_across = refl;
    after = λ _. refl;
    back_after = λ _. refl;
  });
}

goes-in : (r : Span) (rs : List Span) (i g l from p : ℕ) (b : Bool) → l ≤ from → from ≤ r.start → r.start ≤ p → p ≤ r.start + r.old_size
    → GoesBack (r ∷ rs) i g l from p b (at_range r i ((r.start + g) - l) p b)
goes-in r rs i g l from p b k f h u =
    let to : ℕ = (r.start + g) - l in
    let in_place = range-pos r i to p b in
    let same : (to + l) - g ≡ r.start = omega (arith, k, f) in
    record {
      bound = omega (arith, k, f, in_place.0);
      jumps = at-first r rs i g l p _ h (omega (arith, k, f));
      goes = λ none. rw (decided-in (inverted_range r g l) i l g (at_range r i to p b).pos b in_place.0 in_place.1, same) (range-back r i to p b none);
    }

goes-past : (r : Span) (rs : List Span) (i g l from p : ℕ) (b : Bool) (m : Moved) → l ≤ from → from ≤ r.start
    → GoesBack rs (i + 1) (g + r.new_size) (l + r.old_size) (r.start + r.old_size + 1) p b m
    → GoesBack (r ∷ rs) i g l from p b m
goes-past r rs i g l from p b m k f h = record {
  bound = omega (arith, k, f, h.bound);
  jumps = shifted r rs i g l p m.recover h.jumps;
  goes = λ none. rw (decided-past (inverted_range r g l) i l g m.pos b (omega (arith, k, f, h.bound))) (h.goes none);
}

pub goes-back : (rs : List Span) (i gained lost from p : ℕ) (b : Bool) → AreApart rs from → lost ≤ from → from ≤ p
    → GoesBack rs i gained lost from p b (moved_from rs i gained lost p b)
goes-back [] i g l from p b a k f = record {
  bound = omega (arith, k, f);
  jumps = tt;
  goes = λ _. record {
    pos = omega (arith, k, f);
    none = refl;
    deleted = refl;
    across = refl;
    back_deleted = refl;
    back_across = refl;
    after = λ _. refl;
    back_after = λ _. refl;
  };
}
goes-back (r ∷ rs) i g l from p b a k f =
    ⊎_elim
    (λ (h : p < r.start). rw (decided-before r i g l p b h) (goes-before r rs i g l from p b k f h))
    (λ (h : r.start ≤ p). ⊎_elim
    (λ (u : r.start + r.old_size < p). rw (decided-past r i g l p b u) (goes-past r rs i g l from p b _ k a.0
    (goes-back rs (i + 1) (g + r.new_size) (l + r.old_size) (r.start + r.old_size + 1) p b a.1 (omega (arith, k, a.0)) (omega (arith, u)))))
    (λ (u : p ≤ r.start + r.old_size). rw (decided-in r i g l p b h u) (goes-in r rs i g l from p b k a.0 h u))
    (cases_lt (r.start + r.old_size) p))
    (cases_lt p r.start)
