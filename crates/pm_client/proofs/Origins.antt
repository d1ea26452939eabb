-- Where the tokens of a document come from, by a map back.
use Rattle.std.specs.Prelude.{◌≡◌, ℕ, zero, suc, ◌+◌, ◌-◌, ◌≤◌, ◌<◌, ◌==◌, not, nat_lt, if◌then◌else◌, Bool, true, false, List, [], ◌∷◌, ◌++◌, length, take, drop, slice_get, Option, Some, None, refl}
use Rattle.std.proofs.Common.{arith, sym, ap, ◌∙◌, inl, inr, length-drop}
use Rattle.std.proofs.lemmas.Bool.{ltb-true, ltb-false, eqb-true}
use Rattle.pm_map.specs.declared.step_map.Span.{Span}
use Rattle.pm_map.specs.declared.step_map.Moved.{Moved}
use Rattle.pm_map.specs.declared.step_map.Recover.{Recover}
use Rattle.pm_map.specs.Moves.{moved_from, kept_at, at_range, or_moved, inverted_from, inverted_range}
use Rattle.pm_map.specs.Through.{new_at}
use Rattle.pm_map.specs.Fits.{FitsFrom}
use Rattle.pm_client.specs.TokenNames.{Token, tokens_from, spliced_from, Unpinched}
use Rattle.pm_client.proofs.Tokens.{Survives, StartsPast, length-fresh, get-front, get-back, get-take, get-drop, length-take, before-range, past-range, end-of-range, gap-moved, starts-past, later-unpinched, moved_sum, fits-end}

-- the place in the slice at which range j begins
abbrev pub place_of : List Span → ℕ → ℕ
place_of [] j = 0
place_of (r ∷ rs) zero = 0
place_of (r ∷ rs) (suc j) = r.new_size + place_of rs j

pub get-fresh : (fresh : ℕ → Token) (place n o : ℕ) → o < n → slice_get (tokens_from fresh place n) o ≡ Some (fresh (place + o))
get-fresh fresh place zero o l = absurd (omega arith)
get-fresh fresh place (suc n) zero l = let e : place ≡ place + 0 = omega arith in ap (λ k. Some (fresh k)) e
get-fresh fresh place (suc n) (suc o) l = let e : suc place + o ≡ place + suc o = omega arith in get-fresh fresh (suc place) n o (omega arith) ∙ ap (λ k. Some (fresh k)) e

in-range : (r : Span) (rs : List Span) (i gained lost p : ℕ) → r.start ≤ p → p < r.start + r.old_size
    → (moved_from (r ∷ rs) i gained lost p false).recover ≡ Some (record { range = i; offset = p - r.start })
in-range r rs i gained lost p l u = from (nat_lt p r.start) (nat_lt (r.start + r.old_size) p) refl refl
  where
    by-end : (e : Bool) → (p == r.start + r.old_size) ≡ e → if◌then◌else◌ {A = Option Recover} (not e) (Some (record { range = i; offset = p - r.start })) None ≡ Some (record { range = i; offset = p - r.start })
    by-end true e = absurd (omega (arith, eqb-true p (r.start + r.old_size) e))
    by-end false e = refl

    from : (b c : Bool) → nat_lt p r.start ≡ b → nat_lt (r.start + r.old_size) p ≡ c
        → (or_moved (if b then Some (kept_at ((p + gained) - lost)) else if c then None else Some (at_range r i ((r.start + gained) - lost) p false))
        (moved_from rs (i + 1) (gained + r.new_size) (lost + r.old_size) p false)).recover ≡ Some (record { range = i; offset = p - r.start })
    from true c e f = absurd (omega (arith, ltb-true p r.start e))
    from false true e f = absurd (omega (arith, ltb-true (r.start + r.old_size) p f))
    from false false e f = by-end (p == r.start + r.old_size) refl

survives-below : (rs : List Span) (from n a b p : ℕ) → FitsFrom rs from n a b → p < from → Survives rs p
survives-below [] from n a b p h l = tt
survives-below (r ∷ rs) from n a b p h l = (inl (omega (arith, h.0)), survives-below rs (r.start + r.old_size) n (a + r.new_size) (b + r.old_size) p h.1 (omega (arith, h.0)))

-- an old token, which goes back to its place, or a new one, whose place in its range can be recovered
pub data Origin (fresh : ℕ → Token) (rs : List Span) (i from place : ℕ) (names : List Token) (m : Moved) (t : Token) : Type 0 where
  Old : from ≤ m.pos → slice_get names (m.pos - from) ≡ Some t → m.recover ≡ None → Survives rs m.pos → Origin fresh rs i from place names m t
  New : (j o : ℕ) → j < length rs → o < new_at rs j → m.recover ≡ Some (record { range = i + j; offset = o }) → t ≡ fresh (place + place_of rs j + o) → Origin fresh rs i from place names m t

-- the part of a spliced list in which a place lies
data Part (a b q : ℕ) : Type 0 where
  InFront : q < a → Part a b q
  Within : a ≤ q → q < a + b → Part a b q
  Behind : a + b ≤ q → Part a b q

part-of : (a b q : ℕ) → Part a b q
part-of a b q = from (nat_lt q a) (nat_lt q (a + b)) refl refl
  where
    from : (x y : Bool) → nat_lt q a ≡ x → nat_lt q (a + b) ≡ y → Part a b q
    from true y e f = InFront (ltb-true q a e)
    from false true e f = Within (omega (arith, ltb-false q a e)) (ltb-true q (a + b) f)
    from false false e f = Behind (omega (arith, ltb-false q (a + b) f))

starts-back : (rs : List Span) (gained lost p back from n a b : ℕ) → StartsPast rs p → FitsFrom rs from n a b → lost ≤ p → back ≡ (p + gained) - lost → StartsPast (inverted_from rs gained lost) back
starts-back [] gained lost p back from n a b h f l e = tt
starts-back (s ∷ ss) gained lost p back from n a b h f l e = omega (arith, e, h, l)

pub origin : (fresh : ℕ → Token) (rs : List Span) (i gained lost from n k place p q : ℕ) (names : List Token) (t : Token)
    → FitsFrom rs from n (n + gained) (k + lost) → Unpinched rs → lost ≤ from → from + length names ≡ n
    → p ≡ ((from + gained) - lost) + q → slice_get (spliced_from fresh rs from place names) q ≡ Some t
    → Origin fresh rs i from place names (moved_from (inverted_from rs gained lost) i lost gained p false) t
origin fresh [] i gained lost from n k place p q names t h u l size is at =
    let e : ((p + lost) - gained) - from ≡ q = omega (arith, is, l) in
    Old (omega (arith, is, l)) (rw e at) refl tt
origin fresh (r ∷ rs) i gained lost from n k place p q names t h u l size is at =
    by-part (λ x y. origin fresh rs (i + 1) (gained + r.new_size) (lost + r.old_size) (r.start + r.old_size) n k (place + r.new_size) p (q - ((r.start - from) + r.new_size)) (drop ((r.start - from) + r.old_size) names) t
    (rw (moved_sum n gained r.new_size, moved_sum k lost r.old_size) h.1) (later-unpinched r rs u) (omega (arith, l, h.0))
    (omega (arith, length-drop ((r.start - from) + r.old_size) names, size, h.0, in_size)) (omega (arith, is, x, h.0, l)) y) (part-of (r.start - from) r.new_size q)
  where
    in_size : r.start + r.old_size ≤ n
    in_size = fits-end rs (r.start + r.old_size) n (n + gained + r.new_size) (k + lost + r.old_size) h.1

    front : length (take (r.start - from) names) ≡ r.start - from
    front = length-take names (r.start - from) (omega (arith, in_size, h.0, size))

    by-part : ((r.start - from) + r.new_size ≤ q → slice_get (spliced_from fresh rs (r.start + r.old_size) (place + r.new_size) (drop ((r.start - from) + r.old_size) names)) (q - ((r.start - from) + r.new_size)) ≡ Some t
        → Origin fresh rs (i + 1) (r.start + r.old_size) (place + r.new_size) (drop ((r.start - from) + r.old_size) names)
        (moved_from (inverted_from rs (gained + r.new_size) (lost + r.old_size)) (i + 1) (lost + r.old_size) (gained + r.new_size) p false) t)
        → Part (r.start - from) r.new_size q
        → Origin fresh (r ∷ rs) i from place names (moved_from (inverted_range r gained lost ∷ inverted_from rs (gained + r.new_size) (lost + r.old_size)) i lost gained p false) t
    by-part go (InFront x) =
        let e : ((p + lost) - gained) - from ≡ q = omega (arith, is, l) in
        rw (before-range (inverted_range r gained lost) (inverted_from rs (gained + r.new_size) (lost + r.old_size)) i lost gained p (omega (arith, is, x, l, h.0)))
        (Old (omega (arith, is, l))
        (rw e (sym (get-take names (r.start - from) q x) ∙ sym (get-front (take (r.start - from) names) _ q (omega (arith, front, x))) ∙ at))
        refl (inl (omega (arith, is, l, x)), survives-below rs (r.start + r.old_size) n (n + gained + r.new_size) (k + lost + r.old_size) ((p + lost) - gained) h.1 (omega (arith, is, l, x))))
    by-part go (Within x y) =
        let after = spliced_from fresh rs (r.start + r.old_size) (place + r.new_size) (drop ((r.start - from) + r.old_size) names) in
        let e : i + 0 ≡ i = omega arith in
        let d : q - (r.start - from) ≡ p - ((r.start + gained) - lost) = omega (arith, is, x, h.0, l) in
        let w : q - (r.start - from) < r.new_size = omega (arith, x, y) in
        let f : Some (fresh (place + (q - (r.start - from)))) ≡ Some t =
        sym (get-back (take (r.start - from) names) (tokens_from fresh place r.new_size ++ after) q (q - (r.start - from)) (omega (arith, front, x))
        ∙ get-front (tokens_from fresh place r.new_size) after (q - (r.start - from)) (omega (arith, length-fresh fresh place r.new_size, w))
        ∙ get-fresh fresh place r.new_size (q - (r.start - from)) w) ∙ at in
        let z : place + 0 + (q - (r.start - from)) ≡ place + (q - (r.start - from)) = omega arith in
        let g : fresh (place + (q - (r.start - from))) ≡ t = cc in
        New 0 (q - (r.start - from)) (omega arith) w
        (rw (e, d) (in-range (inverted_range r gained lost) (inverted_from rs (gained + r.new_size) (lost + r.old_size)) i lost gained p (omega (arith, is, x, h.0, l)) (omega (arith, is, x, y, h.0, l))))
        (rw z (sym g))
    by-part go (Behind x) =
        let after = spliced_from fresh rs (r.start + r.old_size) (place + r.new_size) (drop ((r.start - from) + r.old_size) names) in
        let q2 : ℕ = q - ((r.start - from) + r.new_size) in
        let y : slice_get after q2 ≡ Some t =
        sym (get-back (take (r.start - from) names) (tokens_from fresh place r.new_size ++ after) q (r.new_size + q2) (omega (arith, front, x))
        ∙ get-back (tokens_from fresh place r.new_size) after (r.new_size + q2) q2 (omega (arith, length-fresh fresh place r.new_size))) ∙ at in
        by-edge (nat_lt (((r.start + gained) - lost) + r.new_size) p) refl x (go x y)
      where
        widen : (m : Moved) → Origin fresh rs (i + 1) (r.start + r.old_size) (place + r.new_size) (drop ((r.start - from) + r.old_size) names) m t → Origin fresh (r ∷ rs) i from place names m t
        widen m (Old above g none s) =
            Old (omega (arith, above, h.0)) (sym (get-drop names ((r.start - from) + r.old_size) (m.pos - (r.start + r.old_size)) (m.pos - from) (omega (arith, above, h.0))) ∙ g) none (inr above, s)
        widen m (New j o lt w rec made) =
            let e : i + suc j ≡ i + 1 + j = omega arith in
            let d : place + (r.new_size + place_of rs j) + o ≡ place + r.new_size + place_of rs j + o = omega arith in
            New (suc j) o (omega (arith, lt)) w (rw e rec) (rw d made)

        at-edge : (m : Moved) (v : ℕ) → m.pos ≡ v → m.recover ≡ None → Origin fresh rs (i + 1) (r.start + r.old_size) (place + r.new_size) (drop ((r.start - from) + r.old_size) names) (kept_at v) t
            → Origin fresh (r ∷ rs) i from place names m t
        at-edge m v is none (Old above g none2 s) =
            Old (omega (arith, is, above, h.0))
            (rw is (sym (get-drop names ((r.start - from) + r.old_size) (v - (r.start + r.old_size)) (v - from) (omega (arith, above, h.0))) ∙ g)) none (rw is (inr above, s))
        at-edge m v is none (New j o lt w rec made) = absurd (cc)

        by-edge : (b : Bool) → nat_lt (((r.start + gained) - lost) + r.new_size) p ≡ b → (r.start - from) + r.new_size ≤ q
            → Origin fresh rs (i + 1) (r.start + r.old_size) (place + r.new_size) (drop ((r.start - from) + r.old_size) names)
            (moved_from (inverted_from rs (gained + r.new_size) (lost + r.old_size)) (i + 1) (lost + r.old_size) (gained + r.new_size) p false) t
            → Origin fresh (r ∷ rs) i from place names (moved_from (inverted_range r gained lost ∷ inverted_from rs (gained + r.new_size) (lost + r.old_size)) i lost gained p false) t
        by-edge true e x o =
            rw (past-range (inverted_range r gained lost) (inverted_from rs (gained + r.new_size) (lost + r.old_size)) i lost gained p (ltb-true (((r.start + gained) - lost) + r.new_size) p e))
            (widen _ o)
        by-edge false e x o =
            let end : p ≡ ((r.start + gained) - lost) + r.new_size = omega (arith, ltb-false (((r.start + gained) - lost) + r.new_size) p e, is, x, h.0, l) in
            let a = end-of-range (inverted_range r gained lost) (inverted_from rs (gained + r.new_size) (lost + r.old_size)) i lost gained p end in
            let v : ℕ = (p + (lost + r.old_size)) - (gained + r.new_size) in
            let gap = gap-moved (inverted_from rs (gained + r.new_size) (lost + r.old_size)) (i + 1) (lost + r.old_size) (gained + r.new_size) p
            (starts-back rs (gained + r.new_size) (lost + r.old_size) (r.start + r.old_size) p (r.start + r.old_size) n (n + gained + r.new_size) (k + lost + r.old_size) (starts-past r rs u) h.1 (omega (arith, l, h.0)) (omega (arith, end, l, h.0))) in
            at-edge _ v (omega (arith, a.at, end, l, h.0)) a.stays (rw gap at o)
