-- A pair around a mapping is a frame around it.
use Rattle.std.specs.Prelude.{◌≡◌, ℕ, zero, suc, ◌+◌, ◌≤◌, Bool, true, false, ◌||◌, ◌-◌, List, [], ◌∷◌, length, Option, Some, None, refl}
use Rattle.std.proofs.Common.{arith, ap, sym, ◌∙◌, length-append}
use Rattle.pm_map.specs.declared.step_map.Span.{Span}
use Rattle.pm_map.specs.declared.step_map.Moved.{Moved}
use Rattle.pm_map.specs.declared.step_map.Recover.{Recover}
use Rattle.pm_map.specs.declared.mapping.Mirrored.{Mirrored}
use Rattle.pm_map.specs.Moves.{moved_from, kept_at}
use Rattle.pm_map.specs.Through.{through_from, joined, result_start, ArePaired, stepped, skipped}
use Rattle.pm_map.specs.Mirrors.{entry, pushed}
use Rattle.pm_map.proofs.Growths.{last-partner}
use Rattle.pm_map.proofs.Joins.{one-behind, one-in-front, through-joined}
use Rattle.pm_frames.specs.declared.piece.Place.{Place}
use Rattle.pm_frames.specs.Places.{place_of, onward, stays, sent}
use Rattle.pm_frames.specs.Frames.{over_all, over_map, settled, recovered, Encloses, EnclosesUnpaired, Fronts, Pushes}
use Rattle.pm_frames.proofs.Joining.{both-assoc}

-- past the last map nothing moves
past-all : (es : List Mirrored) (skip : ℕ) (b : Bool) (so : Moved) → length es ≤ skip → through_from es skip b so ≡ so
past-all [] skip b so h = refl
past-all (e ∷ es) zero b so h = absurd (omega arith)
past-all (e ∷ es) (suc skip) b so h = past-all es skip b so (omega arith)

three : (m t u : Moved) → place_of (joined m (joined t u)) ≡ settled (onward (onward (place_of m) (place_of t)) (place_of u))
three m t u = ap (λ f. record { pos = u.pos; exits = false; flags = f }) (sym (both-assoc (place_of m).flags (place_of t).flags (place_of u).flags))

pub unpaired : (ms : List Mirrored) (front behind : List Span) → ArePaired ms → EnclosesUnpaired ms front behind
unpaired ms front behind paired b x =
    let m = moved_from front 0 0 0 x b in
    ap place_of (one-in-front (pushed ms behind) front b x)
    ∙ ap (λ t. place_of (joined m t)) (one-behind ms behind b m.pos paired)
    ∙ three m (through_from ms 0 b (kept_at m.pos)) (moved_from behind 0 0 0 (through_from ms 0 b (kept_at m.pos)).pos b)

-- over one map at the front alone
or-false : (t : Bool) → t ≡ (t || false)
or-false true = refl
or-false false = refl

two : (m t : Moved) → place_of (joined m t) ≡ settled (onward (onward (place_of m) (place_of t)) (stays t.pos))
two m t = rw (← or-false (m.deleted || t.deleted), ← or-false (m.across || t.across), ← or-false (m.after || t.after)) refl

pub fronts : (ms : List Mirrored) (front : List Span) → Fronts ms front
fronts ms front b x =
    let m = moved_from front 0 0 0 x b in
    let t = through_from ms 0 b (kept_at m.pos) in
    let e : (t.pos + 0) - 0 ≡ t.pos = omega arith in
    ap place_of (one-in-front ms front b x) ∙ rw e (two m t)

-- over a front with a mirror, by what it recovers
after-front : (ms : List Mirrored) (behind : List Span) (b : Bool) (x : ℕ) (m : Moved) (found : Option Recover) → ArePaired ms
    → place_of (through_from (pushed ms behind) (skipped (Some (length ms)) found) b (stepped (kept_at x) m (Some (length ms)) found (pushed ms behind)))
    ≡ settled (sent false (over_map behind b) (sent false (over_all ms b) (recovered behind m found)))
after-front ms behind b x m None paired =
    let t = through_from ms 0 b (kept_at m.pos) in
    ap place_of (through-joined (pushed ms behind) 0 b (joined (kept_at x) m) refl)
    ∙ ap (λ t. place_of (joined m t)) (one-behind ms behind b m.pos paired)
    ∙ three m t (moved_from behind 0 0 0 t.pos b)
after-front ms behind b x m (Some r) paired =
    ap place_of (past-all (pushed ms behind) (suc (length ms)) b _ (omega (arith, length-append ms (entry behind None ∷ []))))
    ∙ ap (λ rs. leaves_to (result_start rs r.range + r.offset)) (last-partner ms (entry behind None))
  where
    leaves_to : ℕ → Place
    leaves_to p = place_of (kept_at p)

pub encloses : (ms : List Mirrored) (front behind : List Span) → ArePaired ms → Encloses ms front behind
encloses ms [] behind paired b x = unpaired ms [] behind paired b x
encloses ms (r ∷ rs) behind paired b x =
    let m = moved_from (r ∷ rs) 0 0 0 x b in
    after-front ms behind b x m m.recover paired

pub pushes : (ms : List Mirrored) (behind : List Span) → ArePaired ms → Pushes ms behind
pushes ms behind paired b x =
    let e : (x + 0) - 0 ≡ x = omega arith in
    ap place_of (one-behind ms behind b x paired) ∙ rw e refl
