-- A mapping that fits sizes has room for each position within them.
use Rattle.std.specs.Prelude.{◌≡◌, ℕ, zero, suc, ◌+◌, ◌≤◌, ◌<◌, ◌^◌, Bool, true, false, nat_lt, if◌then◌else◌, List, [], ◌∷◌, length, Option, Some, None, IfSome, refl}
use Rattle.std.proofs.Common.{arith}
use Rattle.std.proofs.lemmas.Bool.{ltb-true}
use Rattle.pm_map.specs.declared.step_map.Span.{Span}
use Rattle.pm_map.specs.declared.step_map.Moved.{Moved}
use Rattle.pm_map.specs.declared.step_map.Recover.{Recover}
use Rattle.pm_map.specs.declared.mapping.Mirrored.{Mirrored}
use Rattle.pm_map.specs.Moves.{moved_from, or_moved, goes_before}
use Rattle.pm_map.specs.Through.{through_from, HasRoom, ArePaired, IsPairedAt, partner, stepped, skipped, start_from, new_at, IsIn}
use Rattle.pm_map.proofs.Recovers.{recover-in, partner-fits}
use Rattle.pm_map.specs.Fits.{FitsFrom, FitsSizes, FitAll, last_size}

abbrev put_in : List Span → ℕ
put_in [] = 0
put_in (r ∷ rs) = r.new_size + put_in rs

abbrev taken_out : List Span → ℕ
taken_out [] = 0
taken_out (r ∷ rs) = r.old_size + taken_out rs

record Sums (rs : List Span) (from bound before after : ℕ) : Type 0 where
  pub same : before + put_in rs ≡ after + taken_out rs
  pub out : from + taken_out rs ≤ bound

sums : (rs : List Span) (from bound before after : ℕ) → FitsFrom rs from bound before after → Sums rs from bound before after
sums [] from bound before after h = record { same = omega (arith, h.1); out = omega (arith, h.0) }
sums (r ∷ rs) from bound before after h =
    let s = sums rs (r.start + r.old_size) bound (before + r.new_size) (after + r.old_size) h.1 in
    record { same = omega (arith, s.same); out = omega (arith, s.out, h.0) }

-- the same over any tests
by_tests : (n k p : ℕ) (kept at later : Moved) → (before past : Bool)
    → (before ≡ true → kept.pos ≤ k) → (before ≡ false → past ≡ false → at.pos ≤ k) → (before ≡ false → past ≡ true → later.pos ≤ k)
    → (or_moved (if before then Some kept else if past then None else Some at) later).pos ≤ k
by_tests n k p kept at later true past f g h = f refl
by_tests n k p kept at later false true f g h = h refl refl
by_tests n k p kept at later false false f g h = g refl refl

choice-le : (b : Bool) (x y k : ℕ) → x ≤ k → y ≤ k → (if b then x else y) ≤ k
choice-le true x y k f g = f
choice-le false x y k f g = g

pub moved-fits : (rs : List Span) (i gained lost from n k p : ℕ) (b : Bool) → FitsFrom rs from n (n + gained) (k + lost)
    → lost ≤ from → from ≤ p → p ≤ n → (moved_from rs i gained lost p b).pos ≤ k
moved-fits [] i gained lost from n k p b h l f u = omega (arith, h.1)
moved-fits (r ∷ rs) i gained lost from n k p b h l f u =
    let s = sums (r ∷ rs) from n (n + gained) (k + lost) h in
    let t = sums rs (r.start + r.old_size) n (n + gained + r.new_size) (k + lost + r.old_size) h.1 in
    let go = λ (past : r.start + r.old_size < p). moved-fits rs (i + 1) (gained + r.new_size) (lost + r.old_size) (r.start + r.old_size) n k p b
    (rw (moved_sum n gained r.new_size, moved_sum k lost r.old_size) h.1) (omega (arith, h.0)) (omega arith) u in
    by_tests n k p _ _ _ (nat_lt p r.start) (nat_lt (r.start + r.old_size) p)
    (λ e. omega (arith, ltb-true p r.start e, s.same, t.same, t.out))
    (λ e e2. choice-le (goes_before r p b) _ _ k (omega (arith, h.0, t.same, t.out)) (omega (arith, h.0, t.same, t.out)))
    (λ e e2. go (ltb-true (r.start + r.old_size) p e2))
  where
    moved_sum : (x y z : ℕ) → x + (y + z) ≡ x + y + z
    moved_sum x y z = omega arith

pub start-fits : (rs : List Span) (r gained lost from n k offset : ℕ) → FitsFrom rs from n (n + gained) (k + lost)
    → lost ≤ from → r < length rs → offset ≤ new_at rs r → start_from rs r gained lost + offset ≤ k
start-fits [] r gained lost from n k offset h l w o = absurd (omega arith)
start-fits (s ∷ ss) zero gained lost from n k offset h l w o =
    let t = sums ss (s.start + s.old_size) n (n + gained + s.new_size) (k + lost + s.old_size) h.1 in
    omega (arith, h.0, t.same, t.out, o)
start-fits (s ∷ ss) (suc r) gained lost from n k offset h l w o =
    start-fits ss r (gained + s.new_size) (lost + s.old_size) (s.start + s.old_size) n k offset
    (rw (moved_sum n gained s.new_size, moved_sum k lost s.old_size) h.1) (omega (arith, h.0)) (omega arith) o
  where
    moved_sum : (x y z : ℕ) → x + (y + z) ≡ x + y + z
    moved_sum x y z = omega arith

abbrev size_at : List ℕ → ℕ → ℕ
size_at [] i = 0
size_at (n ∷ ns) zero = n
size_at (n ∷ ns) (suc i) = size_at ns i

partner-sizes : (es : List Mirrored) (sizes : List ℕ) (gap : ℕ) → FitAll es sizes → gap < length es
    → FitsSizes (partner es gap) (size_at sizes gap) (size_at sizes (suc gap))
partner-sizes [] sizes gap h l = absurd (omega arith)
partner-sizes (e ∷ es) [] gap h l = absurd h
partner-sizes (e ∷ es) (n ∷ []) gap h l = absurd h
partner-sizes (e ∷ es) (n ∷ k ∷ ns) zero h l = h.1
partner-sizes (e ∷ es) (n ∷ k ∷ ns) (suc gap) h l = partner-sizes es (k ∷ ns) gap h.2 (omega arith)

pub zero-sums : (rs : List Span) (n k : ℕ) → FitsSizes rs n k → FitsFrom rs 0 n (n + 0) (k + 0)
zero-sums rs n k h = let e : n + 0 ≡ n = omega arith in let f : k + 0 ≡ k = omega arith in rw (e, f) h

stepped-fits : (ranges : List Span) (es : List Mirrored) (k : ℕ) (ns : List ℕ) (so m : Moved) (later : Option ℕ) (found : Option Recover)
    → FitAll es (k ∷ ns) → IsPairedAt ranges later es → IfSome found (IsIn ranges) → m.pos ≤ k
    → (stepped so m later found es).pos ≤ size_at (k ∷ ns) (skipped later found)
stepped-fits ranges es k ns so m None found h p i l = l
stepped-fits ranges es k ns so m (Some gap) None h p i l = l
stepped-fits ranges es k ns so m (Some gap) (Some r) h p i l =
    let f = partner-fits ranges es (Some gap) gap (Some r) r p refl refl i in
    start-fits (partner es gap) r.range 0 0 0 (size_at (k ∷ ns) gap) (size_at (k ∷ ns) (suc gap)) r.offset
    (zero-sums _ _ _ (partner-sizes es (k ∷ ns) gap h p.0)) (omega arith) f.0 f.1

pub room : (es : List Mirrored) (sizes : List ℕ) (skip : ℕ) (b : Bool) (so : Moved) → ArePaired es → FitAll es sizes → so.pos ≤ size_at sizes skip → HasRoom es skip b so
room [] sizes skip b so p h l = tt
room (e ∷ es) [] skip b so p h l = absurd h
room (e ∷ es) (n ∷ []) skip b so p h l = absurd h
room (e ∷ es) (n ∷ k ∷ ns) (suc skip) b so p h l = room es (k ∷ ns) skip b so p.1 h.2 l
room (e ∷ es) (n ∷ k ∷ ns) zero b so p h l =
    let m : Moved = moved_from e.map 0 0 0 so.pos b in
    let small : k < 2 ^ 32 = first-small es k ns h.2 in
    let f : m.pos ≤ k = moved-fits e.map 0 0 0 0 n k so.pos b (zero-sums e.map n k h.1) (omega arith) (omega arith) l in (
      omega (arith, small, f),
      room es (k ∷ ns) (skipped e.later m.recover) b (stepped so m e.later m.recover es) p.1 h.2
          (stepped-fits e.map es k ns so m e.later m.recover h.2 p.0 (recover-in e.map so.pos b) f),
    )
  where
    first-small : (es : List Mirrored) (k : ℕ) (ns : List ℕ) → FitAll es (k ∷ ns) → k < 2 ^ 32
    first-small [] k [] h = h
    first-small [] k (x ∷ ns) h = absurd h
    first-small (e ∷ es) k [] h = absurd h
    first-small (e ∷ es) k (x ∷ ns) h = h.0

-- a position comes out within the last size
pub ends-within : (es : List Mirrored) (sizes : List ℕ) (skip : ℕ) (b : Bool) (so : Moved) → ArePaired es → FitAll es sizes → so.pos ≤ size_at sizes skip
    → (through_from es skip b so).pos ≤ last_size sizes
ends-within [] [] skip b so p h l = absurd h
ends-within [] (n ∷ []) zero b so p h l = l
ends-within [] (n ∷ []) (suc skip) b so p h l = omega (arith, l)
ends-within [] (n ∷ k ∷ ns) skip b so p h l = absurd h
ends-within (e ∷ es) [] skip b so p h l = absurd h
ends-within (e ∷ es) (n ∷ []) skip b so p h l = absurd h
ends-within (e ∷ es) (n ∷ k ∷ ns) (suc skip) b so p h l = ends-within es (k ∷ ns) skip b so p.1 h.2 l
ends-within (e ∷ es) (n ∷ k ∷ ns) zero b so p h l =
    let m : Moved = moved_from e.map 0 0 0 so.pos b in
    let f : m.pos ≤ k = moved-fits e.map 0 0 0 0 n k so.pos b (zero-sums e.map n k h.1) (omega arith) (omega arith) l in
    ends-within es (k ∷ ns) (skipped e.later m.recover) b (stepped so m e.later m.recover es) p.1 h.2
    (stepped-fits e.map es k ns so m e.later m.recover h.2 p.0 (recover-in e.map so.pos b) f)
