-- Mappings that fit sizes: how they grow, how they turn round, and that positions have room in them.
use Rattle.std.specs.Prelude.{◌≡◌, ℕ, ◌+◌, ◌-◌, ◌≤◌, ◌<◌, ◌^◌, List, [], ◌∷◌, ◌++◌, map, Option, None, refl}
use Rattle.std.proofs.Common.{arith, sym, subst}
use Rattle.pm_map.specs.declared.side.Side.{Side}
use Rattle.pm_map.specs.declared.step_map.Span.{Span}
use Rattle.pm_map.specs.declared.mapping.Mirrored.{Mirrored}
use Rattle.pm_map.specs.Moves.{inverted_from, inverted_ranges, is_before, kept_at}
use Rattle.pm_map.specs.Through.{SameShape, ArePaired, HasRoom, through}
use Rattle.pm_map.specs.Mirrors.{entry}
use Rattle.pm_map.specs.Fits.{FitsFrom, FitsSizes, FitAll, FitBetween, first_size, last_size, new_size_of}
use Rattle.pm_map.proofs.Rooms.{zero-sums, room, ends-within}

inverted-fits-from : (rs : List Span) (gained lost from n k : ℕ) → FitsFrom rs from n (n + gained) (k + lost) → lost ≤ from
    → FitsFrom (inverted_from rs gained lost) ((from + gained) - lost) k (k + lost) (n + gained)
inverted-fits-from [] gained lost from n k h l = (omega (arith, h.0, h.1), omega (arith, h.1))
inverted-fits-from (r ∷ rs) gained lost from n k h l =
    let rest = inverted-fits-from rs (gained + r.new_size) (lost + r.old_size) (r.start + r.old_size) n k
    (rw (moved_sum n gained r.new_size, moved_sum k lost r.old_size) h.1) (omega (arith, h.0)) in
    let at : (r.start + r.old_size + (gained + r.new_size)) - (lost + r.old_size) ≡ ((r.start + gained) - lost) + r.new_size = omega (arith, h.0) in
    (omega (arith, h.0), rw (at, moved_sum n gained r.new_size, moved_sum k lost r.old_size) at rest)
  where
    moved_sum : (x y z : ℕ) → x + (y + z) ≡ x + y + z
    moved_sum x y z = omega arith

-- a map back fits the sizes the other way round
pub inverted-fits : (rs : List Span) (n k : ℕ) → FitsSizes rs n k → FitsSizes (inverted_ranges rs) k n
inverted-fits rs n k h =
    let f = inverted-fits-from rs 0 0 0 n k (zero-sums rs n k h) (omega arith) in
    let e : n + 0 ≡ n = omega arith in
    let d : k + 0 ≡ k = omega arith in
    let z : (0 + 0) - 0 ≡ 0 = omega arith in
    rw (e, d) at f

pub fit-sizes : (ms : List Mirrored) (n k : ℕ) → FitBetween ms n k → (ns : List ℕ) × FitAll ms (n ∷ ns) × (last_size (n ∷ ns) ≡ k)
fit-sizes [] n k h = ([], h.0, h.1)
fit-sizes (e ∷ es) n k (mid, h) =
    let r = fit-sizes es mid k h.2 in
    (mid ∷ r.0, (h.0, h.1, r.1), r.2)

-- a position within the first size has room, and comes out within the last
pub all-fit : (ms : List Mirrored) (sizes : List ℕ) (p : ℕ) (side : Side) → ArePaired ms → FitAll ms sizes → p ≤ first_size sizes
    → HasRoom ms 0 (is_before side) (kept_at p) × ((through ms p side).pos ≤ last_size sizes)
all-fit ms [] p side paired h l = from ms h
  where
    from : {A : Type 0} (es : List Mirrored) → FitAll es [] → A
    from [] h = absurd h
    from (e ∷ es) h = absurd h
all-fit ms (n ∷ ns) p side paired h l =
    (room ms (n ∷ ns) 0 (is_before side) (kept_at p) paired h l, ends-within ms (n ∷ ns) 0 (is_before side) (kept_at p) paired h l)

pub position-fits : (ms : List Mirrored) (n k p : ℕ) (side : Side) → ArePaired ms → FitBetween ms n k → p ≤ n
    → HasRoom ms 0 (is_before side) (kept_at p) × ((through ms p side).pos ≤ k)
position-fits ms n k p side paired h l =
    let r = fit-sizes ms n k h in
    (room ms (n ∷ r.0) 0 (is_before side) (kept_at p) paired r.1 l, rw r.2 at (ends-within ms (n ∷ r.0) 0 (is_before side) (kept_at p) paired r.1 l))

pub fit-front : (ms : List Mirrored) (front : List Span) (later : Option ℕ) (o n k : ℕ) → o < 2 ^ 32 → FitsSizes front o n → FitBetween ms n k → FitBetween (entry front later ∷ ms) o k
fit-front ms front later o n k s f h = (n, (s, f, h))

pub fit-behind : (ms : List Mirrored) (behind : List Span) (n k j : ℕ) → j < 2 ^ 32 → FitsSizes behind k j → FitBetween ms n k → FitBetween (ms ++ entry behind None ∷ []) n j
fit-behind [] behind n k j s f h = (j, (h.0, subst (λ (x : ℕ). FitsSizes behind x j) (sym h.1) f, (s, refl)))
fit-behind (e ∷ es) behind n k j s f (mid, h) = (mid, (h.0, h.1, fit-behind es behind mid k j s f h.2))

-- a carried step's map mirrors the inverted map of the step
pub same-shape-from : (old new : List Span) (gained lost : ℕ) → map new_size_of new ≡ map new_size_of old → SameShape (inverted_from old gained lost) new
same-shape-from [] [] gained lost h = tt
same-shape-from [] (s ∷ ss) gained lost h = absurd (cc)
same-shape-from (r ∷ rs) [] gained lost h = absurd (cc)
same-shape-from (r ∷ rs) (s ∷ ss) gained lost h =
    let e : s.new_size ≡ r.new_size = cc in
    let t : map new_size_of ss ≡ map new_size_of rs = cc in
    (e, same-shape-from rs ss (gained + r.new_size) (lost + r.old_size) t)

pub same-shape : (old new : List Span) → map new_size_of new ≡ map new_size_of old → SameShape (inverted_ranges old) new
same-shape old new h = same-shape-from old new 0 0 h
