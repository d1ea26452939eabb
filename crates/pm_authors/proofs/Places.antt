-- Where tokens stand after a step.
use Rattle.std.specs.Prelude.{◌≡◌, ℕ, zero, suc, ◌+◌, ◌-◌, ◌≤◌, ◌<◌, Bool, true, false, ◌==◌, if◌then◌else◌, List, [], ◌∷◌, ◌++◌, length, take, drop, replicate, refl}
use Rattle.std.proofs.Common.{arith, ap, sym, ◌∙◌, ⊎_elim, get_or, length-append, length-take, length-take-le, length-drop}
use Rattle.std.proofs.lemmas.Bool.{cases_lt, eqb-false, eq-eqb, ne_eqb}
use Rattle.std.proofs.lemmas.List.{get_or_append_left, get_or-append_right, get_or-take, get_or-drop, get_or-replicate, length-replicate}
use Rattle.pm_map.specs.declared.side.Side.TheVariants.{After}
use Rattle.pm_map.specs.declared.step_map.Span.{Span}
use Rattle.pm_map.specs.Moves.{moved, moved_from, goes_before, AreInOrder}
use Rattle.pm_map.specs.Through.{start_from, result_start, new_at}
use Rattle.pm_map.specs.Fits.{FitsFrom, FitsSizes}
use Rattle.pm_map.specs.Stills.{AreApart}
use Rattle.pm_map.proofs.Backs.{decided-before, decided-past, decided-in}
use Rattle.pm_map.proofs.Orders.{not-before}
use Rattle.pm_authors.specs.Runs.{Author}
use Rattle.pm_authors.specs.Stepping.{over}
use Rattle.pm_authors.specs.Laws.{Stays}
use Rattle.pm_authors.proofs.Ranges.{ends-in}

-- the end of a range goes to its new end by `After`
goes-after : (r : Span) (p : ℕ) → p ≡ r.start + r.old_size → goes_before r p false ≡ false
goes-after r p e = from (r.old_size == 0) refl
  where
    from : (t : Bool) → (r.old_size == 0) ≡ t → (if t then false else if p == r.start then true else if p == r.start + r.old_size then false else false) ≡ false
    from true z = refl
    from false z = rw (ne_eqb p r.start (λ same. eqb-false r.old_size 0 z (omega (arith, e, same))), eq-eqb p (r.start + r.old_size) e) refl

looser : (rs : List Span) (from : ℕ) → AreApart rs (from + 1) → AreApart rs from
looser [] from h = tt
looser (r ∷ rs) from h = (omega (arith, h.0), h.1)

module _ (a none : Author) (xs : List Author) where
  -- ---- the tokens up to a range's end

  kept-length : (r : Span) (at : ℕ) → at ≤ r.start → r.start ≤ length xs → length (take (r.start - at) (drop at xs)) ≡ r.start - at
  kept-length r at f l =
      let d = length-drop at xs in
      length-take-le (r.start - at) (drop at xs) (omega (arith, d, f, l))

  last-at : (at p : ℕ) → at ≤ p → get_or (drop at xs) (p - at) none ≡ get_or xs p none
  last-at at p f =
      let back : at + (p - at) ≡ p = omega (arith, f) in
      get_or-drop at xs (p - at) none ∙ ap (λ j. get_or xs j none) back

  kept-at : (r : Span) (rs : List Span) (at p : ℕ) → at ≤ p → p < r.start → p < length xs → get_or (over a (r ∷ rs) at xs) (p - at) none ≡ get_or xs p none
  kept-at r rs at p f u l =
      let kept : List Author = take (r.start - at) (drop at xs) in
      let put : List Author = replicate r.new_size a in
      let d = length-drop at xs in
      let t = length-take (r.start - at) (drop at xs) in
      let both = length-append kept put in
      let near : p - at < length kept = omega (arith, d, t, f, u, l) in
      get_or_append_left (kept ++ put) (over a rs (r.start + r.old_size) xs) none (p - at) (omega (arith, both, near))
      ∙ get_or_append_left kept put none (p - at) near
      ∙ get_or-take (r.start - at) (drop at xs) (p - at) none (omega (arith, f, u))
      ∙ last-at at p f

  put-at : (r : Span) (rs : List Span) (at k : ℕ) → at ≤ r.start → r.start ≤ length xs → k < r.new_size → get_or (over a (r ∷ rs) at xs) ((r.start - at) + k) none ≡ a
  put-at r rs at k f l u =
      let kept : List Author = take (r.start - at) (drop at xs) in
      let put : List Author = replicate r.new_size a in
      let long = kept-length r at f l in
      let both = length-append kept put in
      let run = length-replicate r.new_size a in
      let off : ((r.start - at) + k) - (r.start - at) ≡ k = omega arith in
      get_or_append_left (kept ++ put) (over a rs (r.start + r.old_size) xs) none ((r.start - at) + k) (omega (arith, long, both, run, u))
      ∙ get_or-append_right kept put (r.start - at) ((r.start - at) + k) none long (omega arith)
      ∙ ap (λ j. get_or put j none) off
      ∙ get_or-replicate r.new_size k a none u

  rest-at : (r : Span) (rs : List Span) (at k : ℕ) → at ≤ r.start → r.start ≤ length xs
      → get_or (over a (r ∷ rs) at xs) ((r.start - at) + r.new_size + k) none ≡ get_or (over a rs (r.start + r.old_size) xs) k none
  rest-at r rs at k f l =
      let kept : List Author = take (r.start - at) (drop at xs) in
      let put : List Author = replicate r.new_size a in
      let rest : List Author = over a rs (r.start + r.old_size) xs in
      let long = kept-length r at f l in
      let both = length-append kept put in
      let run = length-replicate r.new_size a in
      let off : ((r.start - at) + r.new_size + k) - ((r.start - at) + r.new_size) ≡ k = omega arith in
      get_or-append_right (kept ++ put) rest ((r.start - at) + r.new_size) ((r.start - at) + r.new_size + k) none (omega (arith, long, both, run)) (omega arith)
      ∙ ap (λ j. get_or rest j none) off

  -- ---- a token that stays

  -- the first token after a range
  first-at : (rs : List Span) (at : ℕ) → AreApart rs (at + 1) → at < length xs → get_or (over a rs at xs) 0 none ≡ get_or xs at none
  first-at [] at h l =
      let start : 0 ≡ at - at = omega arith in
      ap (λ j. get_or (drop at xs) j none) start ∙ last-at at at (omega arith)
  first-at (r ∷ rs) at h l =
      let start : 0 ≡ at - at = omega arith in
      ap (λ j. get_or (over a (r ∷ rs) at xs) j none) start ∙ kept-at r rs at at (omega arith) (omega (arith, h.0)) l

  stays-at : (rs : List Span) (i at g l p : ℕ) → AreInOrder rs at g l → AreApart rs at → Stays rs p → l ≤ at → at ≤ p → p < length xs
      → get_or (over a rs at xs) ((moved_from rs i g l p false).pos - ((at + g) - l)) none ≡ get_or xs p none
  stays-at [] i at g l p o n s k f h =
      let e : ((p + g) - l) - ((at + g) - l) ≡ p - at = omega (arith, k, f) in
      ap (λ j. get_or (drop at xs) j none) e ∙ last-at at p f
  stays-at (r ∷ rs) i at g l p o n s k f h =
      let fewer : l + r.old_size ≤ r.start + r.old_size = omega (arith, k, o.0) in
      let later = λ (v : r.start + r.old_size < p). stays-at rs (i + 1) (r.start + r.old_size) (g + r.new_size) (l + r.old_size) p o.3 (looser rs (r.start + r.old_size) n.1) s.1 fewer (omega (arith, v)) h in
      ⊎_elim before (λ (u : r.start + r.old_size ≤ p). ⊎_elim (λ (v : r.start + r.old_size < p). past v (later v)) (λ (v : p ≤ r.start + r.old_size). end u v) (cases_lt (r.start + r.old_size) p)) s.0
    where
      before : p < r.start → get_or (over a (r ∷ rs) at xs) ((moved_from (r ∷ rs) i g l p false).pos - ((at + g) - l)) none ≡ get_or xs p none
      before u =
          let e : ((p + g) - l) - ((at + g) - l) ≡ p - at = omega (arith, k, f) in
          rw (decided-before r i g l p false u) (ap (λ j. get_or (over a (r ∷ rs) at xs) j none) e ∙ kept-at r rs at p f u h)

      end : r.start + r.old_size ≤ p → p ≤ r.start + r.old_size → get_or (over a (r ∷ rs) at xs) ((moved_from (r ∷ rs) i g l p false).pos - ((at + g) - l)) none ≡ get_or xs p none
      end u v =
          let same : r.start + r.old_size ≡ p = omega (arith, u, v) in
          let low : r.start ≤ p = omega (arith, u) in
          let e : (((r.start + g) - l) + r.new_size) - ((at + g) - l) ≡ (r.start - at) + r.new_size + 0 = omega (arith, k, o.0) in
          rw (decided-in r i g l p false low v, goes-after r p (sym same))
          (ap (λ j. get_or (over a (r ∷ rs) at xs) j none) e
          ∙ rest-at r rs at 0 o.0 (omega (arith, low, h))
          ∙ first-at rs (r.start + r.old_size) n.1 (omega (arith, same, h))
          ∙ ap (λ j. get_or xs j none) same)

      past : r.start + r.old_size < p
          → get_or (over a rs (r.start + r.old_size) xs) ((moved_from rs (i + 1) (g + r.new_size) (l + r.old_size) p false).pos - ((r.start + r.old_size + (g + r.new_size)) - (l + r.old_size))) none ≡ get_or xs p none
          → get_or (over a (r ∷ rs) at xs) ((moved_from (r ∷ rs) i g l p false).pos - ((at + g) - l)) none ≡ get_or xs p none
      past u later =
          let to = (moved_from rs (i + 1) (g + r.new_size) (l + r.old_size) p false).pos in
          let fewer : l + r.old_size ≤ r.start + r.old_size = omega (arith, k, o.0) in
          let low = not-before rs (i + 1) (r.start + r.old_size) (g + r.new_size) (l + r.old_size) p false o.3 fewer (omega (arith, u)) in
          let e : to - ((at + g) - l) ≡ (r.start - at) + r.new_size + (to - ((r.start + r.old_size + (g + r.new_size)) - (l + r.old_size))) = omega (arith, k, o.0, low) in
          rw (decided-past r i g l p false u)
          (ap (λ j. get_or (over a (r ∷ rs) at xs) j none) e
          ∙ rest-at r rs at (to - ((r.start + r.old_size + (g + r.new_size)) - (l + r.old_size))) o.0 (omega (arith, u, h))
          ∙ later)

  pub keeps : (rs : List Span) (p : ℕ) → AreInOrder rs 0 0 0 → AreApart rs 0 → Stays rs p → p < length xs → get_or (over a rs 0 xs) (moved rs p After).pos none ≡ get_or xs p none
  keeps rs p o n s h =
      let e : (moved rs p After).pos ≡ (moved rs p After).pos - ((0 + 0) - 0) = omega arith in
      ap (λ j. get_or (over a rs 0 xs) j none) e ∙ stays-at rs 0 0 0 0 p o n s (omega arith) (omega arith) h

  -- ---- a token that a range puts in

  starts-after : (rs : List Span) (i at g l before after : ℕ) → FitsFrom rs at (length xs) before after → l ≤ at → i < length rs → (at + g) - l ≤ start_from rs i g l
  starts-after [] i at g l before after h k u = absurd (omega (arith, u))
  starts-after (r ∷ rs) zero at g l before after h k u = omega (arith, h.0)
  starts-after (r ∷ rs) (suc i) at g l before after h k u =
      let later = starts-after rs i (r.start + r.old_size) (g + r.new_size) (l + r.old_size) (before + r.new_size) (after + r.old_size) h.1 (omega (arith, k, h.0)) (omega (arith, u)) in
      omega (arith, later, k, h.0)

  puts-at : (rs : List Span) (i at g l before after k : ℕ) → FitsFrom rs at (length xs) before after → l ≤ at → i < length rs → k < new_at rs i
      → get_or (over a rs at xs) ((start_from rs i g l + k) - ((at + g) - l)) none ≡ a
  puts-at [] i at g l before after k h f u v = absurd (omega (arith, u))
  puts-at (r ∷ rs) zero at g l before after k h f u v =
      let end = ends-in rs (r.start + r.old_size) (length xs) (before + r.new_size) (after + r.old_size) h.1 in
      let e : (((r.start + g) - l) + k) - ((at + g) - l) ≡ (r.start - at) + k = omega (arith, f, h.0) in
      ap (λ j. get_or (over a (r ∷ rs) at xs) j none) e ∙ put-at r rs at k h.0 (omega (arith, end)) v
  puts-at (r ∷ rs) (suc i) at g l before after k h f u v =
      let end = ends-in rs (r.start + r.old_size) (length xs) (before + r.new_size) (after + r.old_size) h.1 in
      let to = start_from rs i (g + r.new_size) (l + r.old_size) in
      let fewer : l + r.old_size ≤ r.start + r.old_size = omega (arith, f, h.0) in
      let less : i < length rs = omega (arith, u) in
      let low = starts-after rs i (r.start + r.old_size) (g + r.new_size) (l + r.old_size) (before + r.new_size) (after + r.old_size) h.1 fewer less in
      let next = (to + k) - ((r.start + r.old_size + (g + r.new_size)) - (l + r.old_size)) in
      let e : (to + k) - ((at + g) - l) ≡ (r.start - at) + r.new_size + next = omega (arith, f, h.0, low) in
      ap (λ j. get_or (over a (r ∷ rs) at xs) j none) e
      ∙ rest-at r rs at next h.0 (omega (arith, end))
      ∙ puts-at rs i (r.start + r.old_size) (g + r.new_size) (l + r.old_size) (before + r.new_size) (after + r.old_size) k h.1 fewer less v

  pub puts : (rs : List Span) (size i k : ℕ) → FitsSizes rs (length xs) size → i < length rs → k < new_at rs i → get_or (over a rs 0 xs) (result_start rs i + k) none ≡ a
  puts rs size i k h u v =
      let e : result_start rs i + k ≡ (start_from rs i 0 0 + k) - ((0 + 0) - 0) = omega arith in
      ap (λ j. get_or (over a rs 0 xs) j none) e ∙ puts-at rs i 0 0 0 (length xs) size k h (omega arith) u v
