-- Where named tokens go over a step.
use Rattle.std.specs.Prelude.{◌≡◌, ℕ, zero, suc, ◌+◌, ◌-◌, ◌≤◌, ◌<◌, ◌⊎◌, ◌==◌, nat_lt, if◌then◌else◌, Bool, true, false, List, [], ◌∷◌, ◌++◌, length, take, drop, slice_get, Some, None, refl}
use Rattle.std.proofs.Common.{arith, ap, ◌∙◌, inl, inr, length-drop}
use Rattle.std.proofs.lemmas.Bool.{ltb-true, ltb-false, eqb-true, eq-eqb}
use Rattle.pm_map.specs.declared.side.Side.TheVariants.{After}
use Rattle.pm_map.specs.declared.step_map.Span.{Span}
use Rattle.pm_map.specs.declared.step_map.Moved.{Moved}
use Rattle.pm_map.specs.Moves.{moved, moved_from, kept_at, at_range, or_moved}
use Rattle.pm_map.specs.Fits.{FitsFrom, FitsSizes}
use Rattle.pm_client.specs.TokenNames.{Token, tokens_from, spliced_from, spliced, Unpinched}

-- the token at p is in no range
abbrev pub Survives : List Span → ℕ → Type 0
Survives [] p = Unit {0}
Survives (r ∷ rs) p = ((p < r.start) ⊎ (r.start + r.old_size ≤ p)) × Survives rs p

pub length-fresh : (fresh : ℕ → Token) (place n : ℕ) → length (tokens_from fresh place n) ≡ n
length-fresh fresh place zero = refl
length-fresh fresh place (suc n) = omega (arith, length-fresh fresh (suc place) n)

pub get-front : (xs ys : List Token) (i : ℕ) → i < length xs → slice_get (xs ++ ys) i ≡ slice_get xs i
get-front [] ys i l = absurd (omega arith)
get-front (x ∷ xs) ys zero l = refl
get-front (x ∷ xs) ys (suc i) l = get-front xs ys i (omega arith)

pub get-back : (xs ys : List Token) (i k : ℕ) → i ≡ length xs + k → slice_get (xs ++ ys) i ≡ slice_get ys k
get-back [] ys i k e = let f : i ≡ k = omega arith in ap (slice_get ys) f
get-back (x ∷ xs) ys zero k e = absurd (omega arith)
get-back (x ∷ xs) ys (suc i) k e = get-back xs ys i k (omega arith)

pub get-take : (xs : List Token) (n i : ℕ) → i < n → slice_get (take n xs) i ≡ slice_get xs i
get-take [] zero i l = refl
get-take [] (suc n) i l = refl
get-take (x ∷ xs) zero i l = absurd (omega arith)
get-take (x ∷ xs) (suc n) zero l = refl
get-take (x ∷ xs) (suc n) (suc i) l = get-take xs n i (omega arith)

pub get-drop : (xs : List Token) (n i k : ℕ) → k ≡ n + i → slice_get (drop n xs) i ≡ slice_get xs k
get-drop [] zero i k e = refl
get-drop [] (suc n) i k e = refl
get-drop (x ∷ xs) zero i k e = let f : i ≡ k = omega arith in ap (slice_get (x ∷ xs)) f
get-drop (x ∷ xs) (suc n) i zero e = absurd (omega arith)
get-drop (x ∷ xs) (suc n) i (suc k) e = get-drop xs n i k (omega arith)

pub length-take : (xs : List Token) (n : ℕ) → n ≤ length xs → length (take n xs) ≡ n
length-take [] zero l = refl
length-take [] (suc n) l = absurd (omega arith)
length-take (x ∷ xs) zero l = refl
length-take (x ∷ xs) (suc n) l = omega (arith, length-take xs n (omega arith))

-- where a position goes by `After`, by its place to a range
pub before-range : (r : Span) (rs : List Span) (i gained lost p : ℕ) → p < r.start → moved_from (r ∷ rs) i gained lost p false ≡ kept_at ((p + gained) - lost)
before-range r rs i gained lost p l = from (nat_lt p r.start) refl
  where
    from : (b : Bool) → nat_lt p r.start ≡ b
        → or_moved (if b then Some (kept_at ((p + gained) - lost)) else if nat_lt (r.start + r.old_size) p then None else Some (at_range r i ((r.start + gained) - lost) p false))
        (moved_from rs (i + 1) (gained + r.new_size) (lost + r.old_size) p false) ≡ kept_at ((p + gained) - lost)
    from true e = refl
    from false e = absurd (omega (arith, ltb-false p r.start e))

pub past-range : (r : Span) (rs : List Span) (i gained lost p : ℕ) → r.start + r.old_size < p
    → moved_from (r ∷ rs) i gained lost p false ≡ moved_from rs (i + 1) (gained + r.new_size) (lost + r.old_size) p false
past-range r rs i gained lost p l = from (nat_lt p r.start) (nat_lt (r.start + r.old_size) p) refl refl
  where
    from : (b c : Bool) → nat_lt p r.start ≡ b → nat_lt (r.start + r.old_size) p ≡ c
        → or_moved (if b then Some (kept_at ((p + gained) - lost)) else if c then None else Some (at_range r i ((r.start + gained) - lost) p false))
        (moved_from rs (i + 1) (gained + r.new_size) (lost + r.old_size) p false) ≡ moved_from rs (i + 1) (gained + r.new_size) (lost + r.old_size) p false
    from true c e f = absurd (omega (arith, ltb-true p r.start e))
    from false true e f = refl
    from false false e f = absurd (omega (arith, ltb-false (r.start + r.old_size) p f))

-- what stands after a range
pub record AtEnd (r : Span) (gained lost : ℕ) (m : Moved) : Type 0 where
  pub at : m.pos ≡ ((r.start + gained) - lost) + r.new_size
  pub stays : m.recover ≡ None

end-goes : (r : Span) (p to : ℕ) → p ≡ r.start + r.old_size → (at_range r 0 to p false).pos ≡ to + r.new_size
end-goes r p to is = from (r.old_size == 0) (p == r.start) (p == r.start + r.old_size) refl refl refl
  where
    from : (z s e : Bool) → (r.old_size == 0) ≡ z → (p == r.start) ≡ s → (p == r.start + r.old_size) ≡ e
        → (if (if z then false else if s then true else if e then false else false) then to else to + r.new_size) ≡ to + r.new_size
    from true s e f g h = refl
    from false true e f g h = let n : r.old_size ≡ 0 = omega (arith, is, eqb-true p r.start g) in absurd (differ (eq-eqb r.old_size 0 n) f)
      where
        differ : (r.old_size == 0) ≡ true → (r.old_size == 0) ≡ false → ⊥
        differ x y = cc
    from false false true f g h = refl
    from false false false f g h = refl

end-stays : (r : Span) (i to p : ℕ) → p ≡ r.start + r.old_size → (at_range r i to p false).recover ≡ None
end-stays r i to p is = rw (eq-eqb p (r.start + r.old_size) is) refl

pub end-of-range : (r : Span) (rs : List Span) (i gained lost p : ℕ) → p ≡ r.start + r.old_size → AtEnd r gained lost (moved_from (r ∷ rs) i gained lost p false)
end-of-range r rs i gained lost p is = from (nat_lt p r.start) (nat_lt (r.start + r.old_size) p) refl refl
  where
    from : (b c : Bool) → nat_lt p r.start ≡ b → nat_lt (r.start + r.old_size) p ≡ c
        → AtEnd r gained lost (or_moved (if b then Some (kept_at ((p + gained) - lost)) else if c then None else Some (at_range r i ((r.start + gained) - lost) p false))
        (moved_from rs (i + 1) (gained + r.new_size) (lost + r.old_size) p false))
    from true c e f = absurd (omega (arith, is, ltb-true p r.start e))
    from false true e f = absurd (omega (arith, is, ltb-true (r.start + r.old_size) p f))
    from false false e f = record { at = end-goes r p ((r.start + gained) - lost) is; stays = end-stays r i ((r.start + gained) - lost) p is }

-- the next range starts later
abbrev pub StartsPast : List Span → ℕ → Type 0
StartsPast [] p = Unit {0}
StartsPast (s ∷ ss) p = p < s.start

-- a position past a range and before the next
pub gap-moved : (rs : List Span) (i gained lost p : ℕ) → StartsPast rs p → moved_from rs i gained lost p false ≡ kept_at ((p + gained) - lost)
gap-moved [] i gained lost p h = refl
gap-moved (s ∷ ss) i gained lost p h = before-range s ss i gained lost p h

pub starts-past : (r : Span) (rs : List Span) → Unpinched (r ∷ rs) → StartsPast rs (r.start + r.old_size)
starts-past r [] h = tt
starts-past r (s ∷ rs) h = h.0

pub later-unpinched : (r : Span) (rs : List Span) → Unpinched (r ∷ rs) → Unpinched rs
later-unpinched r [] h = tt
later-unpinched r (s ∷ rs) h = h.1

-- where a position that survives stands to the first range
data Place (r : Span) (p : ℕ) : Type 0 where
  Before : p < r.start → Place r p
  AtTheEnd : p ≡ r.start + r.old_size → Place r p
  Past : r.start + r.old_size < p → Place r p

place-of : (r : Span) (p : ℕ) → ((p < r.start) ⊎ (r.start + r.old_size ≤ p)) → Place r p
place-of r p (inl h) = Before h
place-of r p (inr h) = from (nat_lt (r.start + r.old_size) p) refl
  where
    from : (b : Bool) → nat_lt (r.start + r.old_size) p ≡ b → Place r p
    from true e = Past (ltb-true (r.start + r.old_size) p e)
    from false e = AtTheEnd (omega (arith, h, ltb-false (r.start + r.old_size) p e))

-- where a surviving token goes: its new place, and its name there
record Goes (new : List Token) (base : ℕ) (m : Moved) (t : Token) : Type 0 where
  pub above : base ≤ m.pos
  pub stands : slice_get new (m.pos - base) ≡ Some t
  pub stays : m.recover ≡ None

pub moved_sum : (x y z : ℕ) → x + (y + z) ≡ x + y + z
moved_sum x y z = omega arith

pub fits-end : (rs : List Span) (from n a b : ℕ) → FitsFrom rs from n a b → from ≤ n
fits-end [] from n a b h = h.0
fits-end (r ∷ rs) from n a b h = omega (arith, h.0, fits-end rs (r.start + r.old_size) n (a + r.new_size) (b + r.old_size) h.1)

goes : (fresh : ℕ → Token) (rs : List Span) (i gained lost from n k place p : ℕ) (names : List Token) (t : Token)
    → FitsFrom rs from n (n + gained) (k + lost) → Unpinched rs → lost ≤ from → from ≤ p → Survives rs p → from + length names ≡ n → slice_get names (p - from) ≡ Some t
    → Goes (spliced_from fresh rs from place names) ((from + gained) - lost) (moved_from rs i gained lost p false) t
goes fresh [] i gained lost from n k place p names t h u l f s size at =
    let e : ((p + gained) - lost) - ((from + gained) - lost) ≡ p - from = omega (arith, l, f) in
    record { above = omega (arith, l, f); stands = rw e at; stays = refl }
goes fresh (r ∷ rs) i gained lost from n k place p names t h u l f s size at =
    by-place (λ past. goes fresh rs (i + 1) (gained + r.new_size) (lost + r.old_size) (r.start + r.old_size) n k (place + r.new_size) p (drop ((r.start - from) + r.old_size) names) t
    (rw (moved_sum n gained r.new_size, moved_sum k lost r.old_size) h.1) (later-unpinched r rs u) (omega (arith, l, h.0)) past s.1
    (omega (arith, length-drop ((r.start - from) + r.old_size) names, size, h.0, in_size))
    (get-drop names ((r.start - from) + r.old_size) (p - (r.start + r.old_size)) (p - from) (omega (arith, past, h.0)) ∙ at)) (place-of r p s.0)
  where
    in_size : r.start + r.old_size ≤ n
    in_size = fits-end rs (r.start + r.old_size) n (n + gained + r.new_size) (k + lost + r.old_size) h.1

    front : length (take (r.start - from) names) ≡ r.start - from
    front = length-take names (r.start - from) (omega (arith, in_size, h.0, size))

    by-place : (r.start + r.old_size ≤ p → Goes (spliced_from fresh rs (r.start + r.old_size) (place + r.new_size) (drop ((r.start - from) + r.old_size) names)) ((r.start + r.old_size + (gained + r.new_size)) - (lost + r.old_size)) (moved_from rs (i + 1) (gained + r.new_size) (lost + r.old_size) p false) t)
        → Place r p → Goes (spliced_from fresh (r ∷ rs) from place names) ((from + gained) - lost) (moved_from (r ∷ rs) i gained lost p false) t
    by-place go (Before b) =
        let e : ((p + gained) - lost) - ((from + gained) - lost) ≡ p - from = omega (arith, l, f) in
        rw (before-range r rs i gained lost p b)
        (record {
          above = omega (arith, l, f);
          stands = rw e (get-front (take (r.start - from) names) _ (p - from) (omega (arith, front, f, b)) ∙ get-take names (r.start - from) (p - from) (omega (arith, f, b)) ∙ at);
          stays = refl;
        })
    by-place go (AtTheEnd e) =
        let rest = spliced_from fresh rs (r.start + r.old_size) (place + r.new_size) (drop ((r.start - from) + r.old_size) names) in
        let a = end-of-range r rs i gained lost p e in
        let g = rw (gap-moved rs (i + 1) (gained + r.new_size) (lost + r.old_size) p (rw (← e) at (starts-past r rs u))) at (go (omega (arith, e))) in
        let z : ((p + (gained + r.new_size)) - (lost + r.old_size)) - ((r.start + r.old_size + (gained + r.new_size)) - (lost + r.old_size)) ≡ 0 = omega (arith, e) in
        record {
          above = omega (arith, a.at, h.0, l);
          stands = get-back (take (r.start - from) names) (tokens_from fresh place r.new_size ++ rest) ((moved_from (r ∷ rs) i gained lost p false).pos - ((from + gained) - lost)) r.new_size (omega (arith, front, a.at, h.0, l))
              ∙ get-back (tokens_from fresh place r.new_size) rest r.new_size 0 (omega (arith, length-fresh fresh place r.new_size))
              ∙ rw z at g.stands;
          stays = a.stays;
        }
    by-place go (Past q) =
        let rest = spliced_from fresh rs (r.start + r.old_size) (place + r.new_size) (drop ((r.start - from) + r.old_size) names) in
        let g = go (omega (arith, q)) in
        let m : Moved = moved_from rs (i + 1) (gained + r.new_size) (lost + r.old_size) p false in
        let j : ℕ = m.pos - ((r.start + r.old_size + (gained + r.new_size)) - (lost + r.old_size)) in
        rw (past-range r rs i gained lost p q)
        (record {
          above = omega (arith, g.above, h.0, l);
          stands = get-back (take (r.start - from) names) (tokens_from fresh place r.new_size ++ rest) (m.pos - ((from + gained) - lost)) (r.new_size + j) (omega (arith, front, g.above, h.0, l))
              ∙ get-back (tokens_from fresh place r.new_size) rest (r.new_size + j) j (omega (arith, length-fresh fresh place r.new_size))
              ∙ g.stands;
          stays = g.stays;
        })

-- a cursor with side `After` before a token that a step leaves stands before that token after it
pub stands-moved : (fresh : ℕ → Token) (rs : List Span) (n k p : ℕ) (names : List Token) (t : Token)
    → FitsSizes rs n k → Unpinched rs → Survives rs p → length names ≡ n → slice_get names p ≡ Some t
    → (slice_get (spliced fresh rs names) (moved rs p After).pos ≡ Some t) × ((moved rs p After).recover ≡ None)
stands-moved fresh rs n k p names t h u s size at =
    let x : n + 0 ≡ n = omega arith in
    let y : k + 0 ≡ k = omega arith in
    let z : p - 0 ≡ p = omega arith in
    let g = goes fresh rs 0 0 0 0 n k 0 p names t (rw (x, y) h) u (omega arith) (omega arith) s (omega (arith, size)) (rw z at) in
    let w : (moved_from rs 0 0 0 p false).pos - ((0 + 0) - 0) ≡ (moved_from rs 0 0 0 p false).pos = omega arith in
    (rw w at g.stands, g.stays)
