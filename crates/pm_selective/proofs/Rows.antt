-- A map and several others one after another, and mappings that lead round such a row.
use Rattle.std.specs.Prelude.{◌≡◌, ◌||◌, ℕ, suc, ◌+◌, ◌-◌, Bool, true, false, List, [], ◌∷◌, ◌++◌, length, Option, Some, None, refl}
use Rattle.std.proofs.Common.{arith, ap, sym, subst, ◌∙◌, append_assoc}
use Rattle.pm_map.specs.declared.step_map.Span.{Span}
use Rattle.pm_map.specs.declared.step_map.Moved.{Moved}
use Rattle.pm_map.specs.declared.step_map.Recover.{Recover}
use Rattle.pm_map.specs.declared.mapping.Mirrored.{Mirrored}
use Rattle.pm_map.specs.Moves.{moved_from, inverted_from, inverted_ranges}
use Rattle.pm_map.specs.Stills.{AreApart}
use Rattle.pm_map.specs.Through.{through_from, stepped, skipped, joined, at_pos, partner, result_start, start_from}
use Rattle.pm_map.specs.Mirrors.{entry, gap_for, enclosed}
use Rattle.pm_map.proofs.Backs.{goes-back}
use Rattle.pm_selective.specs.Shifts.{shift, shifted, IsOutsideAll, shift_all, over, beside, IsCorner}
use Rattle.pm_selective.proofs.Corners.{at, passes, stays-outside, apart-over, clear-sym}
use Rattle.pm_selective.proofs.Flips.{flip-clear, flip-other, flip-back, back-apart, twice}

pub over-apart : (f : List Span) (gs : List (List Span)) → AreApart f 0 → IsCorner f gs → AreApart (over gs f) 0
over-apart f [] a c = a
over-apart f (g ∷ gs) a c = over-apart (shifted g f) gs (apart-over f g c.1 c.0 a) c.2

-- A row carries a map and a position; the map then moves the position as it did before.
pub record Round (f : List Span) (gs : List (List Span)) (x : ℕ) (b : Bool) : Type 0 where
  pub outside : IsOutsideAll (beside f gs) (moved_from f 0 0 0 x b).pos
  pub moves : moved_from (over gs f) 0 0 0 (shift_all gs x) b ≡ at (moved_from f 0 0 0 x b) (shift_all (beside f gs) (moved_from f 0 0 0 x b).pos)

pub round : (f : List Span) (gs : List (List Span)) (x : ℕ) (b : Bool) → AreApart f 0 → IsCorner f gs → IsOutsideAll gs x → Round f gs x b
round f [] x b a c o = record { outside = tt; moves = refl }
round f (g ∷ gs) x b a c o =
    let p = passes f g x b a c.1 c.0 o.0 in
    let i = round (shifted g f) gs (shift g x) b (apart-over f g c.1 c.0 a) c.2 o.1 in
    let y = (moved_from f 0 0 0 x b).pos in
    record {
      outside = (stays-outside f g x b a c.0 o.0, subst (λ m. IsOutsideAll (beside (shifted g f) gs) m.pos) p i.outside);
      moves = i.moves ∙ ap (λ m. at m (shift_all (beside (shifted g f) gs) m.pos)) p;
    }

-- the same row seen from the other side of the map
pub record Flipped (f : List Span) (gs : List (List Span)) : Type 0 where
  pub corner : IsCorner (inverted_ranges f) (beside f gs)
  pub row : beside (inverted_ranges f) (beside f gs) ≡ gs
  pub far : over (beside f gs) (inverted_ranges f) ≡ inverted_ranges (over gs f)

pub flipped : (f : List Span) (gs : List (List Span)) → AreApart f 0 → IsCorner f gs → Flipped f gs
flipped f [] a c = record { corner = tt; row = refl; far = refl }
flipped f (g ∷ gs) a c =
    let i = flipped (shifted g f) gs (apart-over f g c.1 c.0 a) c.2 in
    let e = flip-back f g a c.1 c.0 in
    record {
      corner = (flip-clear f g a c.0, apart-over g f a (clear-sym f g c.0) c.1, subst (λ h. IsCorner h (beside (shifted g f) gs)) (sym e) i.corner);
      row = ap (λ h. h ∷ beside (shifted (shifted f g) (inverted_ranges f)) (beside (shifted g f) gs)) (flip-other f g a c.0)
          ∙ ap (λ hs. g ∷ hs) (ap (λ h. beside h (beside (shifted g f) gs)) e ∙ i.row);
      far = ap (over (beside (shifted g f) gs)) e ∙ i.far;
    }

-- ---- mappings

-- Over this mapping, whatever comes after it, a position outside of these maps goes where they send it one after another.
abbrev pub Slides : List Mirrored → List (List Span) → Type 0
Slides ms gs = (rest : List Mirrored) (b : Bool) (so : Moved) → IsOutsideAll gs so.pos
    → (next : Moved) × (next.pos ≡ shift_all gs so.pos) × (next.across ≡ so.across) × (through_from (ms ++ rest) 0 b so ≡ through_from rest 0 b next)

or-false : (t x : Bool) → x ≡ false → (t || x) ≡ t
or-false true x e = refl
or-false false x e = e

skipped-none : (later : Option ℕ) → skipped later None ≡ 0
skipped-none None = refl
skipped-none (Some k) = refl

stepped-none : (so m : Moved) (later : Option ℕ) (es : List Mirrored) → stepped so m later None es ≡ joined so m
stepped-none so m None es = refl
stepped-none so m (Some k) es = refl

-- a map that gives no place to come back to
pub over-none : (map : List Span) (later : Option ℕ) (es : List Mirrored) (b : Bool) (so : Moved)
    → (moved_from map 0 0 0 so.pos b).recover ≡ None
    → through_from (entry map later ∷ es) 0 b so ≡ through_from es 0 b (joined so (moved_from map 0 0 0 so.pos b))
over-none map later es b so e =
    let m = moved_from map 0 0 0 so.pos b in
    ap (λ o. through_from es (skipped later o) b (stepped so m later o es)) e
    ∙ ap (λ k. through_from es k b (stepped so m later None es)) (skipped-none later)
    ∙ ap (λ x. through_from es 0 b x) (stepped-none so m later es)

skip-over : (ms : List Mirrored) (e : Mirrored) (rest : List Mirrored) (b : Bool) (so : Moved) → through_from (ms ++ e ∷ rest) (suc (length ms)) b so ≡ through_from rest 0 b so
skip-over [] e rest b so = refl
skip-over (m ∷ ms) e rest b so = skip-over ms e rest b so

partner-of : (ms : List Mirrored) (e : Mirrored) (rest : List Mirrored) → partner (ms ++ e ∷ rest) (length ms) ≡ e.map
partner-of [] e rest = refl
partner-of (m ∷ ms) e rest = partner-of ms e rest

gap-some : (front : List Span) (n x : ℕ) (b : Bool) (k : Recover) → (moved_from front 0 0 0 x b).recover ≡ Some k → gap_for front n ≡ Some n
gap-some [] n x b k e = absurd (cc)
gap-some (r ∷ rs) n x b k e = refl

-- Over the front, the maps after it and the map that leads back after those. `es` are the maps after the front, which lead
-- as a row does up to the map that leads back, number k of them, and `tail` are those after that one.
module _ (gs : List (List Span)) (front h behind : List Span) (a : AreApart h 0) (e : behind ≡ inverted_ranges h) (es : List Mirrored) (k : ℕ) (later again : Option ℕ) (tail : List Mirrored)
    (b : Bool) (so : Moved) (y : ℕ) where
  abbrev m : Moved
  m = moved_from front 0 0 0 so.pos b

  abbrev Way : Type 0
  Way = (next : Moved) × (next.pos ≡ y) × (next.across ≡ so.across) × (through_from (entry front later ∷ es) 0 b so ≡ through_from tail 0 b next)

  abbrev Leads : Type 0
  Leads = (x : Moved) → IsOutsideAll gs x.pos → (next : Moved) × (next.pos ≡ shift_all gs x.pos) × (next.across ≡ x.across) × (through_from es 0 b x ≡ through_from (entry behind again ∷ tail) 0 b next)

  -- it was not deleted
  stays : Leads → IsOutsideAll gs m.pos → moved_from h 0 0 0 y b ≡ at m (shift_all gs m.pos) → m.recover ≡ None → Way
  stays leads o k none =
      let g = goes-back h 0 0 0 0 y b a (omega arith) (omega arith) in
      let i = g.goes (ap (λ z. z.recover) k ∙ none) in
      let x = leads (joined so m) o in
      let same : moved_from behind 0 0 0 x.0.pos b ≡ moved_from (inverted_from h 0 0) 0 0 0 (moved_from h 0 0 0 y b).pos b =
      ap (λ rs. moved_from rs 0 0 0 x.0.pos b) e ∙ ap (λ p. moved_from (inverted_from h 0 0) 0 0 0 p b) (x.1 ∙ sym (ap (λ z. z.pos) k)) in
      let n = moved_from behind 0 0 0 x.0.pos b in (
        joined x.0 n,
        ap (λ z. z.pos) same ∙ i.pos,
        or-false x.0.across n.across (ap (λ z. z.across) same ∙ i.back_across) ∙ x.2 ∙ or-false so.across m.across (sym (ap (λ z. z.across) k) ∙ i.across),
        over-none front later es b so none ∙ x.3
            ∙ over-none behind again tail b x.0 (ap (λ z. z.recover) same ∙ i.none),
      )

  -- it was deleted, and comes back
  comes : partner es k ≡ behind → ((x : Moved) → through_from es (suc k) b x ≡ through_from tail 0 b x) → later ≡ Some k
      → moved_from h 0 0 0 y b ≡ at m (shift_all gs m.pos) → (r : Recover) → m.recover ≡ Some r → Way
  comes partner-is skip gap c r some =
      let g = goes-back h 0 0 0 0 y b a (omega arith) (omega arith) in
      let found : (moved_from h 0 0 0 y b).recover ≡ Some r = ap (λ z. z.recover) c ∙ some in
      let j = rw found at g.jumps in
      let place : result_start (partner es k) r.range + r.offset ≡ y =
      ap (λ rs. result_start rs r.range + r.offset) (partner-is ∙ e)
      ∙ ap (λ q. start_from (inverted_from h 0 0) q 0 0 + r.offset) (minus-none r.range) ∙ j.1 in (
        at_pos so (result_start (partner es k) r.range + r.offset),
        place,
        refl,
        ap (λ l. through_from es (skipped l m.recover) b (stepped so m l m.recover es)) gap
            ∙ ap (λ o. through_from es (skipped (Some k) o) b (stepped so m (Some k) o es)) some
            ∙ skip _,
      )
    where
      minus-none : (r : ℕ) → r ≡ r - 0
      minus-none r = omega arith

  pub goes-round : Leads → partner es k ≡ behind → ((x : Moved) → through_from es (suc k) b x ≡ through_from tail 0 b x) → ((r : Recover) → m.recover ≡ Some r → later ≡ Some k)
      → IsOutsideAll gs m.pos → moved_from h 0 0 0 y b ≡ at m (shift_all gs m.pos) → Way
  goes-round leads partner-is skip gap o c =
      elim m.recover as (λ z. m.recover ≡ z → Way) [
        | None ↦ λ t. stays leads o c t
        | Some r ↦ λ t. comes partner-is skip (gap r t) c r t
      ] refl

-- what a map does before a row, seen from after
pub record Behind (gs : List (List Span)) (f : List Span) (p : ℕ) (b : Bool) : Type 0 where
  pub outside : IsOutsideAll gs (moved_from (inverted_ranges f) 0 0 0 p b).pos
  pub moves : moved_from (inverted_ranges (over gs f)) 0 0 0 (shift_all (beside f gs) p) b
      ≡ at (moved_from (inverted_ranges f) 0 0 0 p b) (shift_all gs (moved_from (inverted_ranges f) 0 0 0 p b).pos)

pub from-behind : (gs : List (List Span)) (f : List Span) (p : ℕ) (b : Bool) → AreApart f 0 → IsCorner f gs → IsOutsideAll (beside f gs) p → Behind gs f p b
from-behind gs f p b a c o =
    let t = flipped f gs a c in
    let w = round (inverted_ranges f) (beside f gs) p b (back-apart f a) t.corner o in
    let m = moved_from (inverted_ranges f) 0 0 0 p b in
    record {
      outside = subst (λ hs. IsOutsideAll hs m.pos) t.row w.outside;
      moves = subst (λ h. moved_from h 0 0 0 (shift_all (beside f gs) p) b ≡ at m (shift_all gs m.pos)) t.far (w.moves ∙ ap (λ hs. at m (shift_all hs m.pos)) t.row);
    }

-- A mapping that goes as a row does, with the map back of f at the front and f after, where the row carries it, goes as the
-- row does where f carries it.
pub slides-round : (ms : List Mirrored) (gs : List (List Span)) (f : List Span) → AreApart f 0 → IsCorner f gs → Slides ms gs
    → Slides (enclosed ms (inverted_ranges f) (over gs f)) (beside f gs)
slides-round ms gs f a c s rest b so o =
    let w = from-behind gs f so.pos b a c o in
    let front = inverted_ranges f in
    let es = ms ++ entry (over gs f) None ∷ rest in
    let q = over-apart f gs a c in
    let way = goes-round gs front (inverted_ranges (over gs f)) (over gs f) (back-apart (over gs f) q) (sym (twice (over gs f) q)) es (length ms) (gap_for front (length ms)) None rest b so
    (shift_all (beside f gs) so.pos) (λ x u. s (entry (over gs f) None ∷ rest) b x u) (partner-of ms (entry (over gs f) None) rest) (λ x. skip-over ms (entry (over gs f) None) rest b x)
    (λ r t. gap-some front (length ms) so.pos b r t) w.outside w.moves in
    (way.0, way.1, way.2, ap (λ l. through_from (entry front (gap_for front (length ms)) ∷ l) 0 b so) (append_assoc ms (entry (over gs f) None ∷ []) rest) ∙ way.3)
