-- Tokens over the ranges of one map.
use Rattle.std.specs.Prelude.{◌≡◌, ℕ, zero, suc, ◌+◌, ◌-◌, ◌≤◌, ◌<◌, ◌^◌, List, [], ◌∷◌, ◌++◌, length, take, drop, replicate, Some, None, refl}
use Rattle.std.proofs.Common.{arith, ap, sym, subst, ◌∙◌, append_assoc, length-append, length-take-le, length-drop}
use Rattle.std.proofs.lemmas.List.{length-replicate, take_all}
use Rattle.pm_map.specs.declared.step_map.Span.{Span}
use Rattle.pm_map.specs.Moves.{AreInOrder}
use Rattle.pm_map.specs.Through.{range_at}
use Rattle.pm_map.specs.Fits.{FitsFrom, FitsSizes}
use Rattle.pm_authors.specs.Runs.{Author}
use Rattle.pm_authors.specs.Stepping.{over}

-- ---- the ranges one after another

-- what holds of the ranges from place i on, where range i is this one
at-span : (P : List Span → Type 0) (rs : List Span) (i : ℕ) (r : Span) → range_at rs i ≡ Some r → P (drop i rs) → P (r ∷ drop (suc i) rs)
at-span P [] i r h p = absurd (cc)
at-span P (s ∷ rs) zero r h p =
    let e : s ≡ r = cc in
    subst (λ t. P (t ∷ rs)) e p
at-span P (s ∷ rs) (suc i) r h p = at-span P rs i r h p

-- and where there is none
at-no-span : (P : List Span → Type 0) (rs : List Span) (i : ℕ) → range_at rs i ≡ None → P (drop i rs) → P (drop (suc i) rs)
at-no-span P [] zero h p = p
at-no-span P [] (suc i) h p = p
at-no-span P (s ∷ rs) zero h p = absurd (cc)
at-no-span P (s ∷ rs) (suc i) h p = at-no-span P rs i h p

at-last : (P : List Span → Type 0) (rs : List Span) → length rs ≤ 2 → P (drop 2 rs) → P []
at-last P [] h p = p
at-last P (r ∷ []) h p = p
at-last P (r ∷ s ∷ []) h p = p
at-last P (r ∷ s ∷ t ∷ rs) h p = absurd (omega (arith, h))

abbrev InOrder : ℕ → List Span → Type 0
InOrder at [] = Unit {0}
InOrder at (r ∷ rs) = (at ≤ r.start) × (r.start + r.old_size < 2 ^ 64) × InOrder (r.start + r.old_size) rs

in-order : (rs : List Span) (at gained lost : ℕ) → AreInOrder rs at gained lost → InOrder at rs
in-order [] at gained lost h = tt
in-order (r ∷ rs) at gained lost h = (h.0, h.1, in-order rs (r.start + r.old_size) (gained + r.new_size) (lost + r.old_size) h.3)

-- What there is so far, and what comes of the tokens from `at` on over these ranges, is the whole.
pub record IsLeft (a : Author) (xs : List Author) (at : ℕ) (so whole : List Author) (rs : List Span) : Type 0 where
  pub order : InOrder at rs
  pub same : so ++ over a rs at xs ≡ whole
  pub fits : length whole < 2 ^ 64

pub all-left : (a : Author) (rs : List Span) (xs : List Author) → AreInOrder rs 0 0 0 → length (over a rs 0 xs) < 2 ^ 64 → IsLeft a xs 0 [] (over a rs 0 xs) rs
all-left a rs xs o f = record { order = in-order rs 0 0 0 o; same = refl; fits = f }

-- what the next range needs
pub record IsNext (xs : List Author) (at : ℕ) (so : List Author) (r : Span) : Type 0 where
  pub order : at ≤ r.start
  pub end : r.start + r.old_size < 2 ^ 64
  pub room : length so + (length (take (r.start - at) (drop at xs)) + r.new_size) < 2 ^ 64

next-range : (a : Author) (xs : List Author) (at : ℕ) (so whole : List Author) (r : Span) (rs : List Span) → IsLeft a xs at so whole (r ∷ rs) → IsNext xs at so r
next-range a xs at so whole r rs l =
    let kept : List Author = take (r.start - at) (drop at xs) in
    let put : List Author = replicate r.new_size a in
    let rest : List Author = over a rs (r.start + r.old_size) xs in
    let all = ap (λ (ys : List Author). length ys) (sym l.same) ∙ length-append so (kept ++ put ++ rest) in
    let parts = length-append (kept ++ put) rest in
    let front = length-append kept put in
    let long = length-replicate r.new_size a in
    record { order = l.order.0; end = l.order.1; room = omega (arith, all, parts, front, long, l.fits) }

gone-over : (a : Author) (xs : List Author) (at next : ℕ) (so new whole : List Author) (r : Span) (rs : List Span) → next ≡ r.start + r.old_size
    → new ≡ so ++ (take (r.start - at) (drop at xs) ++ replicate r.new_size a) → IsLeft a xs at so whole (r ∷ rs) → IsLeft a xs next new whole rs
gone-over a xs at next so new whole r rs e n l =
    let kept : List Author = take (r.start - at) (drop at xs) in
    let put : List Author = replicate r.new_size a in
    record {
      order = subst (λ (k : ℕ). InOrder k rs) (sym e) l.order.2;
      same = ap (λ ys. ys ++ over a rs next xs) n ∙ ap (λ k. so ++ (kept ++ put) ++ over a rs k xs) e ∙ append_assoc so (kept ++ put) (over a rs (r.start + r.old_size) xs) ∙ l.same;
      fits = l.fits;
    }

one-more : (k : ℕ) → suc k ≡ k + 1
one-more k = omega arith

-- the same at place i of the ranges
module _ (a : Author) (xs : List Author) (at : ℕ) (so whole : List Author) (rs : List Span) (i : ℕ) where
  pub next-at : (r : Span) → range_at rs i ≡ Some r → IsLeft a xs at so whole (drop i rs) → IsNext xs at so r
  next-at r h l = next-range a xs at so whole r (drop (suc i) rs) (at-span (IsLeft a xs at so whole) rs i r h l)

  pub one-over : (next : ℕ) (new : List Author) (r : Span) → range_at rs i ≡ Some r → next ≡ r.start + r.old_size → new ≡ so ++ (take (r.start - at) (drop at xs) ++ replicate r.new_size a)
      → IsLeft a xs at so whole (drop i rs) → IsLeft a xs next new whole (drop (i + 1) rs)
  one-over next new r h e n l =
      subst (λ k. IsLeft a xs next new whole (drop k rs)) (one-more i) (gone-over a xs at next so new whole r (drop (suc i) rs) e n (at-span (IsLeft a xs at so whole) rs i r h l))

  pub none-over : range_at rs i ≡ None → IsLeft a xs at so whole (drop i rs) → IsLeft a xs at so whole (drop (i + 1) rs)
  none-over h l = subst (λ k. IsLeft a xs at so whole (drop k rs)) (one-more i) (at-no-span (IsLeft a xs at so whole) rs i h l)

-- the tokens after the last range
pub record IsRest (xs : List Author) (at : ℕ) (so whole : List Author) : Type 0 where
  pub room : length so + length (take (2 ^ 64 - 1) (drop at xs)) < 2 ^ 64
  pub same : so ++ take (2 ^ 64 - 1) (drop at xs) ≡ whole

pub rest-left : (a : Author) (xs : List Author) (at : ℕ) (so whole : List Author) (rs : List Span) (i : ℕ) → i ≡ 2 → length rs ≤ 2 → IsLeft a xs at so whole (drop i rs) → IsRest xs at so whole
rest-left a xs at so whole rs i e few left =
    let l : IsLeft a xs at so whole [] = at-last (IsLeft a xs at so whole) rs few (subst (λ k. IsLeft a xs at so whole (drop k rs)) e left) in
    let all = ap (λ (ys : List Author). length ys) (sym l.same) ∙ length-append so (drop at xs) in
    let fit : length so + length (drop at xs) < 2 ^ 64 = omega (arith, all, l.fits) in
    let every : take (2 ^ 64 - 1) (drop at xs) ≡ drop at xs = take_all (2 ^ 64 - 1) (drop at xs) (omega (arith, fit)) in
    record {
      room = subst (λ (ys : List Author). length so + length ys < 2 ^ 64) (sym every) fit;
      same = ap (λ ys. so ++ ys) every ∙ l.same;
    }

-- ---- sizes

pub ends-in : (rs : List Span) (at bound before after : ℕ) → FitsFrom rs at bound before after → at ≤ bound
ends-in [] at bound before after h = h.0
ends-in (r ∷ rs) at bound before after h = let e = ends-in rs (r.start + r.old_size) bound (before + r.new_size) (after + r.old_size) h.1 in omega (arith, e, h.0)

over-length : (a : Author) (rs : List Span) (at before after : ℕ) (xs : List Author) → FitsFrom rs at (length xs) before after → length (over a rs at xs) + at + before ≡ length xs + after
over-length a [] at before after xs h = let d = length-drop at xs in omega (arith, d, h.0, h.1)
over-length a (r ∷ rs) at before after xs h =
    let kept : List Author = take (r.start - at) (drop at xs) in
    let put : List Author = replicate r.new_size a in
    let rest : List Author = over a rs (r.start + r.old_size) xs in
    let end = ends-in rs (r.start + r.old_size) (length xs) (before + r.new_size) (after + r.old_size) h.1 in
    let d = length-drop at xs in
    let part = length-take-le (r.start - at) (drop at xs) (omega (arith, end, d)) in
    let parts = length-append (kept ++ put) rest in
    let front = length-append kept put in
    let long = length-replicate r.new_size a in
    let later = over-length a rs (r.start + r.old_size) (before + r.new_size) (after + r.old_size) xs h.1 in
    omega (arith, h.0, part, parts, front, long, later)

-- a map leads from the tokens of a document to as many as the document after it has
pub over-size : (a : Author) (rs : List Span) (size : ℕ) (xs : List Author) → FitsSizes rs (length xs) size → length (over a rs 0 xs) ≡ size
over-size a rs size xs h = let e = over-length a rs 0 (length xs) size xs h in omega (arith, e)
