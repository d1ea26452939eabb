-- Mappings one after another.
use Rattle.std.specs.Prelude.{◌≡◌, ℕ, zero, suc, ◌+◌, ◌≤◌, Bool, true, false, ◌||◌, List, [], ◌∷◌, ◌++◌, length, Option, Some, None, refl}
use Rattle.std.proofs.Common.{arith, ap, sym, ◌∙◌}
use Rattle.pm_map.specs.declared.step_map.Span.{Span}
use Rattle.pm_map.specs.declared.step_map.Moved.{Moved}
use Rattle.pm_map.specs.declared.step_map.Recover.{Recover}
use Rattle.pm_map.specs.declared.mapping.Mirrored.{Mirrored}
use Rattle.pm_map.specs.Moves.{moved_from, kept_at}
use Rattle.pm_map.specs.Through.{through_from, stepped, skipped, joined, at_pos, result_start, ArePaired, IsPairedAt}
use Rattle.pm_map.specs.Mirrors.{entry, pushed, fronted}
use Rattle.pm_map.proofs.Growths.{partner-append}

stepped-append : (ranges : List Span) (es fs : List Mirrored) (so m : Moved) (later : Option ℕ) (found : Option Recover) → IsPairedAt ranges later es
    → stepped so m later found (es ++ fs) ≡ stepped so m later found es
stepped-append ranges es fs so m None found h = refl
stepped-append ranges es fs so m (Some gap) None h = refl
stepped-append ranges es fs so m (Some gap) (Some r) h = ap (λ p. at_pos so (result_start p r.range + r.offset)) (partner-append es fs gap h.0)

skipped-within : (ranges : List Span) (es : List Mirrored) (later : Option ℕ) (found : Option Recover) → IsPairedAt ranges later es → skipped later found ≤ length es
skipped-within ranges es None found h = omega arith
skipped-within ranges es (Some gap) None h = omega arith
skipped-within ranges es (Some gap) (Some r) h = omega (arith, h.0)

pub through-append : (es fs : List Mirrored) (skip : ℕ) (b : Bool) (so : Moved) → ArePaired es → skip ≤ length es
    → through_from (es ++ fs) skip b so ≡ through_from fs 0 b (through_from es skip b so)
through-append [] fs zero b so h l = refl
through-append [] fs (suc skip) b so h l = absurd (omega arith)
through-append (e ∷ es) fs (suc skip) b so h l = through-append es fs skip b so h.1 (omega arith)
through-append (e ∷ es) fs zero b so h l =
    let m = moved_from e.map 0 0 0 so.pos b in
    ap (λ x. through_from (es ++ fs) (skipped e.later m.recover) b x) (stepped-append e.map es fs so m e.later m.recover h.0)
    ∙ through-append es fs (skipped e.later m.recover) b (stepped so m e.later m.recover es) h.1 (skipped-within e.map es e.later m.recover h.0)

-- no recover value comes out
stepped-none : (so m : Moved) (later : Option ℕ) (found : Option Recover) (es : List Mirrored) → (stepped so m later found es).recover ≡ None
stepped-none so m None found es = refl
stepped-none so m (Some gap) None es = refl
stepped-none so m (Some gap) (Some r) es = refl

pub through-none : (es : List Mirrored) (skip : ℕ) (b : Bool) (so : Moved) → so.recover ≡ None → (through_from es skip b so).recover ≡ None
through-none [] skip b so h = h
through-none (e ∷ es) (suc skip) b so h = through-none es skip b so h
through-none (e ∷ es) zero b so h =
    let m = moved_from e.map 0 0 0 so.pos b in
    through-none es (skipped e.later m.recover) b (stepped so m e.later m.recover es) (stepped-none so m e.later m.recover es)

-- flags
or-false : (t : Bool) → (t || false) ≡ t
or-false true = refl
or-false false = refl

or-assoc : (t u v : Bool) → ((t || u) || v) ≡ (t || (u || v))
or-assoc true u v = refl
or-assoc false u v = refl

joined-kept : (so : Moved) → so.recover ≡ None → so ≡ joined so (kept_at so.pos)
joined-kept so h = rw (or-false so.deleted, or-false so.across, or-false so.after) (ap (λ o. record { pos = so.pos; deleted = so.deleted; across = so.across; after = so.after; recover = o }) h)

joined-assoc : (x y z : Moved) → joined (joined x y) z ≡ joined x (joined y z)
joined-assoc x y z = rw (or-assoc x.deleted y.deleted z.deleted, or-assoc x.across y.across z.across, or-assoc x.after y.after z.after) refl

joined-stepped : (so m x : Moved) (later : Option ℕ) (found : Option Recover) (es : List Mirrored)
    → joined (stepped so m later found es) x ≡ joined so (joined (stepped (kept_at so.pos) m later found es) x)
joined-stepped so m x None found es = joined-assoc so m x
joined-stepped so m x (Some gap) None es = joined-assoc so m x
joined-stepped so m x (Some gap) (Some r) es = refl

stepped-pos : (so m : Moved) (later : Option ℕ) (found : Option Recover) (es : List Mirrored)
    → (stepped so m later found es).pos ≡ (stepped (kept_at so.pos) m later found es).pos
stepped-pos so m None found es = refl
stepped-pos so m (Some gap) None es = refl
stepped-pos so m (Some gap) (Some r) es = refl

pub through-joined : (es : List Mirrored) (skip : ℕ) (b : Bool) (so : Moved) → so.recover ≡ None
    → through_from es skip b so ≡ joined so (through_from es skip b (kept_at so.pos))
through-joined [] skip b so h = joined-kept so h
through-joined (e ∷ es) (suc skip) b so h = through-joined es skip b so h
through-joined (e ∷ es) zero b so h =
    let m = moved_from e.map 0 0 0 so.pos b in
    let k = skipped e.later m.recover in
    let x = stepped so m e.later m.recover es in
    let y = stepped (kept_at so.pos) m e.later m.recover es in
    through-joined es k b x (stepped-none so m e.later m.recover es)
    ∙ ap (λ p. joined x (through_from es k b (kept_at p))) (stepped-pos so m e.later m.recover es)
    ∙ joined-stepped so m (through_from es k b (kept_at y.pos)) e.later m.recover es
    ∙ ap (joined so) (sym (through-joined es k b y (stepped-none (kept_at so.pos) m e.later m.recover es)))

-- over one mapping and then over the next
pub goes-on : (es fs : List Mirrored) (b : Bool) (p : ℕ) → ArePaired es
    → through_from (es ++ fs) 0 b (kept_at p)
    ≡ joined (through_from es 0 b (kept_at p)) (through_from fs 0 b (kept_at (through_from es 0 b (kept_at p)).pos))
goes-on es fs b p h =
    through-append es fs 0 b (kept_at p) h (omega arith)
    ∙ through-joined fs 0 b (through_from es 0 b (kept_at p)) (through-none es 0 b (kept_at p) refl)

-- one map alone
none-joined : (x : Moved) (m : Moved) → joined x (joined (kept_at m.pos) m) ≡ joined x m
none-joined x m = refl

pub one-behind : (es : List Mirrored) (map : List Span) (b : Bool) (p : ℕ) → ArePaired es
    → through_from (pushed es map) 0 b (kept_at p)
    ≡ joined (through_from es 0 b (kept_at p)) (moved_from map 0 0 0 (through_from es 0 b (kept_at p)).pos b)
one-behind es map b p h = through-append es (entry map None ∷ []) 0 b (kept_at p) h (omega arith)

pub one-in-front : (es : List Mirrored) (map : List Span) (b : Bool) (p : ℕ)
    → through_from (fronted es map) 0 b (kept_at p)
    ≡ joined (moved_from map 0 0 0 p b) (through_from es 0 b (kept_at (moved_from map 0 0 0 p b).pos))
one-in-front es map b p =
    let m = moved_from map 0 0 0 p b in
    through-joined es 0 b (joined (kept_at p) m) refl
