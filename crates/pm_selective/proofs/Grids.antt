-- Several edits and several others, all apart: either first gives the same list.
use Rattle.std.specs.Prelude.{◌≡◌, ℕ, ◌+◌, ◌-◌, ◌≤◌, ◌<◌, List, [], ◌∷◌, ◌++◌, length, take, drop, refl}
use Rattle.std.proofs.Common.{arith, ap, sym, subst, ◌∙◌, ⊎_elim, length-append}
use Rattle.std.proofs.lemmas.Bool.{lt-ltb}
use Rattle.std.proofs.lemmas.List.{length-drop, length-take-le}
use Rattle.pm_map.specs.declared.step_map.Span.{Span}
use Rattle.pm_map.specs.Stills.{IsOutside, AreApart}
use Rattle.pm_selective.specs.Shifts.{AreClear, shift, shifted, over, beside, IsCorner, IsGrid, over_all}
use Rattle.pm_selective.specs.Edits.{Piece, span_of, spans, spliced_from, spliced, shifted_edit, AreWithin, all_spans, spliced_all, AreAllWithin, along, edits_beside, along_all}
use Rattle.pm_selective.proofs.Shifts.{none-before, past}
use Rattle.pm_selective.proofs.Corners.{clear-sym, clear-outside, past-shift, shift-rigid, apart-over}
use Rattle.pm_selective.proofs.Commutes.{apart-from, commutes, spans-shifted}

-- ---- grids of maps

-- The maps from the other side: the first of the others lies apart from the row, and so on.
pub record Column (bs : List (List Span)) (l : List Span) (ls : List (List Span)) : Type 0 where
  pub corner : IsCorner l bs
  pub rest : IsGrid (beside l bs) ls

pub column : (bs : List (List Span)) (l : List Span) (ls : List (List Span)) → AreApart l 0 → IsGrid bs (l ∷ ls) → Column bs l ls
column [] l ls a h = record { corner = tt; rest = tt }
column (b ∷ bs) l ls a h =
    let c = h.1.0 in
    let i = column bs (shifted b l) (beside (shifted l b) ls) (apart-over l b h.0 (clear-sym b l c) a) h.2 in
    record {
      corner = (clear-sym b l c, h.0, i.corner);
      rest = (apart-over b l a c h.0, h.1.2, i.rest);
    }

-- over a row with one map more at the front
pub over-front : (ls : List (List Span)) (b : List Span) (bs : List (List Span)) → over_all ls (b ∷ bs) ≡ over_all (beside b ls) bs
over-front [] b bs = refl
over-front (l ∷ ls) b bs = ap (λ z. over bs (shifted b l) ∷ z) (over-front ls (shifted l b) (beside (shifted b l) bs))

module _ {A : Type 0} where
  -- ---- the edits and their ranges

  pub spans-beside : (f : List Span) (gs : List (List (Piece A))) → all_spans (edits_beside f gs) ≡ beside f (all_spans gs)
  spans-beside f [] = refl
  spans-beside f (g ∷ gs) = rw (spans-shifted f g, spans-beside (shifted (spans g) f) gs) refl

  along-front : (ls : List (List (Piece A))) (b : List (Piece A)) (bs : List (List (Piece A))) → along_all ls (b ∷ bs) ≡ along_all (edits_beside (spans b) ls) bs
  along-front [] b bs = refl
  along-front (l ∷ ls) b bs =
      ap (λ z. along (all_spans bs) (shifted_edit (spans b) l) ∷ z)
      (ap (λ f. along_all ls (shifted_edit (spans l) b ∷ edits_beside f bs)) (sym (spans-shifted (spans b) l))
      ∙ along-front ls (shifted_edit (spans l) b) (edits_beside (spans (shifted_edit (spans b) l)) bs)
      ∙ ap (λ f. along_all (edits_beside f ls) (edits_beside (spans (shifted_edit (spans b) l)) bs)) (spans-shifted (spans l) b))

  along-none : (ls : List (List (Piece A))) → along_all ls [] ≡ ls
  along-none [] = refl
  along-none (l ∷ ls) = ap (λ z. l ∷ z) (along-none ls)

  -- ---- within the list

  size-from : (g : List (Piece A)) (at n l x : ℕ) (ts : List A) → AreApart (spans g) at → l ≤ at → at ≤ x → x ≤ at + length ts → AreWithin g (at + length ts) → IsOutside (spans g) x
      → past (spans g) n l x ≤ ((at + n) - l) + length (spliced_from at g ts)
  size-from [] at n l x ts a h k w v o = omega (arith, h, k, w)
  size-from (q ∷ qs) at n l x ts a h k w v o =
      let far = q.start + q.old_size in
      let head = take (q.start - at) ts in
      let rest = spliced_from far qs (drop (far - at) ts) in
      let s : length head ≡ q.start - at = length-take-le (q.start - at) ts (omega (arith, a.0, v.0)) in
      let e = length-append head (q.new ++ rest) in
      let d = length-append q.new rest in
      ⊎_elim
      (λ (u : x < q.start).
      let m = none-before (spans (q ∷ qs)) q.start x (omega arith, a.1) (omega (arith, u)) in
      omega (arith, m.put, m.taken, s, e, u, k, h))
      (λ (u : far < x).
      let t = lt-ltb far x u in
      let z = length-drop (far - at) ts in
      let i = size-from qs far (n + length q.new) (l + q.old_size) x (drop (far - at) ts) (apart-from (spans qs) (far + 1) far a.1 (omega arith)) (omega (arith, a.0, h)) (omega (arith, u))
      (omega (arith, z, w, v.0, a.0)) (within-rest qs far at ts v.1 v.0 (omega (arith, a.0))) o.1 in
      rw t (omega (arith, i, s, e, d, a.0, h)))
      o.0
    where
      within-rest : (f : List (Piece A)) (far at : ℕ) (ts : List A) → AreWithin f (at + length ts) → far ≤ at + length ts → at ≤ far → AreWithin f (far + length (drop (far - at) ts))
      within-rest [] far at ts w h k = tt
      within-rest (p ∷ ps) far at ts w h k = (omega (arith, w.0, h, k, length-drop (far - at) ts), within-rest ps far at ts w.1 h k)

  shift-fits : (g : List (Piece A)) (x : ℕ) (ts : List A) → AreApart (spans g) 0 → x ≤ length ts → AreWithin g (length ts) → IsOutside (spans g) x → shift (spans g) x ≤ length (spliced g ts)
  shift-fits g x ts a h w o =
      let e : length ts ≡ 0 + length ts = omega arith in
      let i = size-from g 0 0 0 x ts a (omega arith) (omega arith) (omega (arith, h)) (subst (AreWithin g) e w) o in
      omega (arith, i, past-shift (spans g) x)

  pub within-shifted : (g f : List (Piece A)) (ts : List A) → AreApart (spans g) 0 → AreClear (spans f) (spans g) → AreWithin g (length ts) → AreWithin f (length ts)
      → AreWithin (shifted_edit (spans g) f) (length (spliced g ts))
  within-shifted g [] ts a c w v = tt
  within-shifted g (p ∷ ps) ts a c w v =
      let far = p.start + p.old_size in
      let i = shift-fits g far ts a v.0 w (clear-outside (span_of p) (spans g) far c.0 (omega arith) (omega arith)) in
      let e = shift-rigid (span_of p) (spans g) far a c.0 (omega arith) (omega arith) in
      (omega (arith, i, e), within-shifted g ps ts a c.1 w v.1)

  -- ---- one edit and a row

  pub record Rowed (f : List (Piece A)) (gs : List (List (Piece A))) (ts : List A) : Type 0 where
    pub same : spliced (along (all_spans gs) f) (spliced_all gs ts) ≡ spliced_all (edits_beside (spans f) gs) (spliced f ts)
    pub within : AreAllWithin (edits_beside (spans f) gs) (spliced f ts)

  pub rowed : (f : List (Piece A)) (gs : List (List (Piece A))) (ts : List A) → AreApart (spans f) 0 → IsCorner (spans f) (all_spans gs) → AreWithin f (length ts) → AreAllWithin gs ts → Rowed f gs ts
  rowed f [] ts a c w v = record { same = refl; within = tt }
  rowed f (g ∷ gs) ts a c w v =
      let e = commutes g f ts c.1 a (clear-sym (spans f) (spans g) c.0) v.0 w in
      let d = spans-shifted (spans g) f in
      let i = rowed (shifted_edit (spans g) f) gs (spliced g ts) (subst (λ h. AreApart h 0) (sym d) (apart-over (spans f) (spans g) c.1 c.0 a))
      (subst (λ h. IsCorner h (all_spans gs)) (sym d) c.2) (within-shifted g f ts c.1 c.0 v.0 w) v.1 in
      record {
        same = i.same ∙ ap (λ h. spliced_all (edits_beside h gs) (spliced (shifted_edit (spans g) f) (spliced g ts))) d ∙ ap (spliced_all (edits_beside (shifted (spans g) (spans f)) gs)) e;
        within = (
          within-shifted f g ts a (clear-sym (spans f) (spans g) c.0) w v.0,
          subst (AreAllWithin (edits_beside (shifted (spans g) (spans f)) gs)) e (subst (λ h. AreAllWithin (edits_beside h gs) (spliced (shifted_edit (spans g) f) (spliced g ts))) d i.within),
        );
      }

  -- ---- edits and edits

  -- Two lists of edits, each made one after another from the same list: what the one makes and then the other, carried, is what
  -- the other makes and then the one, carried.
  pub grid : (bs ls : List (List (Piece A))) (ts : List A) → IsGrid (all_spans bs) (all_spans ls) → AreAllWithin bs ts → AreAllWithin ls ts
      → spliced_all (along_all bs ls) (spliced_all ls ts) ≡ spliced_all (along_all ls bs) (spliced_all bs ts)
  grid [] ls ts h w v = ap (λ z. spliced_all z ts) (sym (along-none ls))
  grid (b ∷ bs) ls ts h w v =
      let r = rowed b ls ts h.0 h.1 w.0 v in
      let ls' = edits_beside (spans b) ls in
      ap (spliced_all (along_all bs ls')) r.same
      ∙ grid bs ls' (spliced b ts) (subst (IsGrid (all_spans bs)) (sym (spans-beside (spans b) ls)) h.2) w.1 r.within
      ∙ ap (λ z. spliced_all z (spliced_all bs (spliced b ts))) (sym (along-front ls b bs))
