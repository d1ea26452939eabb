-- Maps put around blocks.
use Rattle.std.specs.Prelude.{◌≡◌, ℕ, ◌+◌, ◌||◌, ◌∷◌, ◌-◌, ◌≤◌, ◌<◌, ◌^◌, Bool, true, false, List, [], Option, Some, None, IfSome, refl}
use Rattle.std.proofs.Common.{arith, ap, sym, ◌∙◌}
use Rattle.pm_map.specs.declared.side.Side.{Side}
use Rattle.pm_map.specs.declared.step_map.Span.{Span}
use Rattle.pm_map.specs.declared.step_map.Moved.{Moved}
use Rattle.pm_map.specs.declared.step_map.Recover.{Recover}
use Rattle.pm_map.specs.declared.mapping.Mirrored.{Mirrored}
use Rattle.pm_map.specs.Moves.{moved_from, kept_at, is_before}
use Rattle.pm_map.specs.Through.{SameShape, IsIn, through_from, through, range_at}
use Rattle.pm_map.proofs.Joins.{through-none}
use Rattle.pm_map.specs.Mirrors.{pushed, fronted, enclosed, entry}
use Rattle.pm_map.specs.Fits.{FitsSizes}
use Rattle.pm_map.proofs.Rooms.{moved-fits, zero-sums, start-fits}
use Rattle.pm_map.proofs.Recovers.{recover-in, shape-at}
use Rattle.pm_map.proofs.Growths.{paired-around, paired-fronted, paired-append}
use Rattle.pm_frames.specs.declared.block.Block.{Block}
use Rattle.pm_frames.specs.declared.piece.Place.{Place}
use Rattle.pm_frames.specs.Places.{place_of, stays, sent}
use Rattle.pm_frames.specs.Frames.{Frame, lift, settled, over_all, over_map, recovered}
use Rattle.pm_frames.specs.Courses.{Tells, down_map}
use Rattle.pm_frames.specs.Stacks.{frame_of, frames, leads, map_frame, IsWithin, FitsFrame, Fit, IsAround, IsPut, Holds}
use Rattle.pm_frames.proofs.Composing.{Agrees, agrees-fits, agrees-lift, lift-same, leads-fits}
use Rattle.pm_frames.proofs.Enclosing.{encloses, fronts, pushes}

over-fits : (rs : List Span) (n k x : ℕ) (b : Bool) → FitsSizes rs n k → x ≤ n → (over_map rs b x).pos ≤ k
over-fits rs n k x b h u = moved-fits rs 0 0 0 0 n k x b (zero-sums rs n k h) (omega arith) (omega arith) u

recovered-fits : (front behind : List Span) (l m k : ℕ) (x : Moved) (found : Option Recover) → SameShape front behind → FitsSizes behind l k → x.pos ≤ m → IfSome found (IsIn front)
    → IsWithin (recovered behind x found).exits (recovered behind x found).pos m k
recovered-fits front behind l m k x None s h u i = u
recovered-fits front behind l m k x (Some r) s h u i =
    let a = shape-at front behind r.range s i.0 in
    start-fits behind r.range 0 0 0 l k r.offset (zero-sums behind l k h) (omega arith) a.0 (rw a.1 i.1)

down-fits : (paired : Bool) (front behind : List Span) (n m l k x : ℕ) (b : Bool) → (paired ≡ true → SameShape front behind) → FitsSizes front n m → FitsSizes behind l k → x ≤ n
    → IsWithin (down_map paired front behind b x).exits (down_map paired front behind b x).pos m k
down-fits true front behind n m l k x b s f h u =
    recovered-fits front behind l m k (moved_from front 0 0 0 x b) (moved_from front 0 0 0 x b).recover (s refl) h (over-fits front n m x b f u) (recover-in front x b)
down-fits false front behind n m l k x b s f h u = over-fits front n m x b f u

pub map-fits : (paired : Bool) (front behind : List Span) (n m l k : ℕ) (b : Bool) → (paired ≡ true → SameShape front behind) → n < 2 ^ 32 → m < 2 ^ 32 → l < 2 ^ 32 → k < 2 ^ 32
    → FitsSizes front n m → FitsSizes behind l k → FitsFrame (map_frame paired front behind b) n m l k
map-fits paired front behind n m l k b s hn hm hl hk f h = record {
  old_small = hn;
  inner_small = hm;
  result_small = hl;
  new_small = hk;
  down = λ x u. down-fits paired front behind n m l k x b s f h u;
  up = λ y u. over-fits behind l k y b h u;
  stays = λ y u. refl;
}

fit-small : (fs : List Frame) (m l : ℕ) → Fit fs m l → (m < 2 ^ 32) × (l < 2 ^ 32)
fit-small [] m l h = (h.0, omega (arith, h.0, h.1))
fit-small (f ∷ fs) m l h = (h.1.1.0.old_small, h.1.1.0.new_small)

pub puts : (old new : List Block) (paired : Bool) (front behind : List Span) (b : Bool) (block : Block) (end : ℕ) → end ≡ 2 ^ 64 - 1 → (paired ≡ true → SameShape front behind)
    → Tells block.down (down_map paired front behind b) end → Tells block.up (down_map false behind behind b) end → IsAround old (frame_of block) new
    → IsPut old paired front behind b new
puts old new paired front behind b block end is s d u a = record {
  fits = λ n m l k hn hk f h i. a.fits n m l k (fits n m l k hn hk f h i) i;
  same = λ n m l k hn hk f h i x w.
      a.same n m l k (fits n m l k hn hk f h i) i x w
      ∙ agrees-lift (frame_of block) (map_frame paired front behind b) (leads (frames old)) n m l k (agree n l hn (fit-small (frames old) m l i).1)
      (pair n m l k hn hk f h i) (leads-fits (frames old) m l i) x w;
}
  where
    agree : (n l : ℕ) → n < 2 ^ 32 → l < 2 ^ 32 → Agrees (frame_of block) (map_frame paired front behind b) n l
    agree n l hn hl = record {
      down = λ x w. d.same x (omega (arith, is, w, hn));
      up = λ y w. u.same y (omega (arith, is, w, hl));
    }

    pair : (n m l k : ℕ) → n < 2 ^ 32 → k < 2 ^ 32 → FitsSizes front n m → FitsSizes behind l k → Fit (frames old) m l → FitsFrame (map_frame paired front behind b) n m l k
    pair n m l k hn hk f h i = let z = fit-small (frames old) m l i in map-fits paired front behind n m l k b s hn z.0 z.1 hk f h

    fits : (n m l k : ℕ) → n < 2 ^ 32 → k < 2 ^ 32 → FitsSizes front n m → FitsSizes behind l k → Fit (frames old) m l → FitsFrame (frame_of block) n m l k
    fits n m l k hn hk f h i = agrees-fits (frame_of block) (map_frame paired front behind b) n m l k (agree n l hn (fit-small (frames old) m l i).1) (pair n m l k hn hk f h i)

-- a pair around
module _ (old new : List Block) (front behind : List Span) (b : Bool) (ms : List Mirrored) where
  pub holds-pair : SameShape front behind → IsPut old true front behind b new → (n m l k : ℕ) → n < 2 ^ 32 → k < 2 ^ 32 → FitsSizes front n m → FitsSizes behind l k
      → Holds old ms b m l → Holds new (enclosed ms front behind) b n k
  holds-pair s p n m l k hn hk f h i = record {
    fit = p.fits n m l k hn hk f h i.fit;
    paired = paired-around ms front behind s i.paired;
    same = λ x u.
        let z = fit-small (frames old) m l i.fit in
        p.same n m l k hn hk f h i.fit x u
        ∙ lift-same (map_frame true front behind b) (leads (frames old)) (over_all ms b) n m l k (map-fits true front behind n m l k b (λ _. s) hn z.0 z.1 hk f h) i.same x u
        ∙ sym (encloses ms front behind i.paired b x);
  }

  pub holds-front : behind ≡ [] → IsPut old false front behind b new → (n m k : ℕ) → n < 2 ^ 32 → FitsSizes front n m
      → Holds old ms b m k → Holds new (fronted ms front) b n k
  holds-front e q n m k hn f i =
      let p : IsPut old false front [] b new = rw e at q in
      let z = fit-small (frames old) m k i.fit in
      let none : FitsSizes [] k k = (omega arith, refl) in
      record {
        fit = p.fits n m k k hn z.1 f none i.fit;
        paired = paired-fronted ms front i.paired;
        same = λ x u.
            p.same n m k k hn z.1 f none i.fit x u
            ∙ lift-same (map_frame false front [] b) (leads (frames old)) (over_all ms b) n m k k (map-fits false front [] n m k k b (λ e. absurd (cc)) hn z.0 z.1 z.1 f none) i.same x u
            ∙ sym (fronts ms front b x);
      }

  pub holds-behind : front ≡ [] → IsPut old false front behind b new → (n l k : ℕ) → k < 2 ^ 32 → FitsSizes behind l k
      → Holds old ms b n l → Holds new (pushed ms behind) b n k
  holds-behind e q n l k hk h i =
      let p : IsPut old false [] behind b new = rw e at q in
      let z = fit-small (frames old) n l i.fit in
      let none : FitsSizes [] n n = (omega arith, refl) in
      record {
        fit = p.fits n n l k z.0 hk none h i.fit;
        paired = paired-append ms (entry behind None ∷ []) i.paired (tt, tt);
        same = λ x u.
            p.same n n l k z.0 hk none h i.fit x u
            ∙ lift-same (map_frame false [] behind b) (leads (frames old)) (over_all ms b) n n l k (map-fits false [] behind n n l k b (λ e. absurd (cc)) z.0 z.0 z.1 hk none h) i.same x u
            ∙ sym (pushes ms behind i.paired b x);
      }

-- the place as a mapping gives it
pub answered : (ms : List Mirrored) (p : ℕ) (z : Side) (b : Bool) (v : Place) → is_before z ≡ b → v ≡ over_all ms b p
    → record { pos = v.pos; deleted = v.flags.deleted; across = v.flags.across; after = v.flags.after; recover = None } ≡ through ms p z
answered ms p z b v e h =
    let t : Moved = through_from ms 0 (is_before z) (kept_at p) in
    let f : v ≡ place_of (through_from ms 0 (is_before z) (kept_at p)) = rw e h in
    ap moved_of f ∙ ap (λ o. record { pos = t.pos; deleted = t.deleted; across = t.across; after = t.after; recover = o }) (sym (through-none ms 0 (is_before z) (kept_at p) refl))
  where
    moved_of : Place → Moved
    moved_of w = record { pos = w.pos; deleted = w.flags.deleted; across = w.flags.across; after = w.flags.after; recover = None }

-- two maps without ranges do nothing
or-false : (t : Bool) → (t || false) ≡ t
or-false true = refl
or-false false = refl

down-none : (paired b : Bool) (x : ℕ) → down_map paired [] [] b x ≡ stays x
down-none true b x = let e : (x + 0) - 0 ≡ x = omega arith in rw e refl
down-none false b x = let e : (x + 0) - 0 ≡ x = omega arith in rw e refl

lift-none : (paired b : Bool) (t : ℕ → Place) (x : ℕ) → (t x).exits ≡ false → lift (map_frame paired [] [] b) t x ≡ t x
lift-none paired b t x h =
    let e : ((t x).pos + 0) - 0 ≡ (t x).pos = omega arith in
    ap (λ v. settled (sent false (over_map [] b) (sent false t v))) (down-none paired b x)
    ∙ rw (h, e, or-false (t x).flags.deleted, or-false (t x).flags.across, or-false (t x).flags.after)
    refl

pub puts-none : (old : List Block) (paired : Bool) (front behind : List Span) (b : Bool) → front ≡ [] → behind ≡ [] → IsPut old paired front behind b old
puts-none old paired front behind b ef eb = rw (ef, eb) (record {
  fits = λ n m l k hn hk f h i. rw (f.1, ← h.1) i;
  same = λ n m l k hn hk f h i x w.
      let z : x ≤ m = omega (arith, w, f.1) in
      sym (lift-none paired b (leads (frames old)) x (leads-fits (frames old) m l i x z).1);
})

pub no-ranges : (rs : List Span) → None ≡ range_at rs 0 → rs ≡ []
no-ranges [] h = refl
no-ranges (r ∷ rs) h = absurd (cc)
