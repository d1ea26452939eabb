-- Skipped entries, and pairs in a list that grows.
use Rattle.std.proofs.Common.{◌≡◌, ℕ, zero, suc, ◌+◌, ◌<◌, Bool, List, [], ◌∷◌, length, drop, get_or, refl, ap, arith, length-append, Option, None, sym, ◌∙◌, ◌^◌}
use Rattle.std.proofs.Common.{take, ◌-◌, length-drop}
use Rattle.std.proofs.lemmas.List.{take_all}
use Rattle.std.proofs.Math.Seq.{drop-cons, drop-nil}
use Rattle.std.specs.Prelude.{slice_set}
use Rattle.pm_map.specs.Mirrors.{entry, gap_for, pushed, paired_with}
use Rattle.pm_map.proofs.Growths.{partner-append}
use Rattle.pm_map.specs.Moves.{moved_from}
use Rattle.pm_map.specs.declared.step_map.Span.{Span}
use Rattle.pm_map.specs.declared.step_map.Moved.{Moved}
use Rattle.pm_map.specs.declared.mapping.Mirrored.{Mirrored}
use Rattle.pm_map.specs.Through.{through_from, stepped, skipped, HasRoom, partner, IsPairedAt, ArePaired}

pub through-drop : (es : List Mirrored) (k : ℕ) (b : Bool) (so : Moved) → through_from es k b so ≡ through_from (drop k es) 0 b so
through-drop [] zero b so = refl
through-drop [] (suc k) b so = refl
through-drop (e ∷ es) zero b so = refl
through-drop (e ∷ es) (suc k) b so = through-drop es k b so

pub room-drop : (es : List Mirrored) (k : ℕ) (b : Bool) (so : Moved) → HasRoom es k b so → HasRoom (drop k es) 0 b so
room-drop [] zero b so h = tt
room-drop [] (suc k) b so h = tt
room-drop (e ∷ es) zero b so h = h
room-drop (e ∷ es) (suc k) b so h = room-drop es k b so h

pub paired-drop : (es : List Mirrored) (k : ℕ) → ArePaired es → ArePaired (drop k es)
paired-drop [] zero h = tt
paired-drop [] (suc k) h = tt
paired-drop (e ∷ es) zero h = h
paired-drop (e ∷ es) (suc k) h = paired-drop es k h.1

pub partner-get : (es : List Mirrored) (k : ℕ) (d : Mirrored) → k < length es → (get_or es k d).map ≡ partner es k
partner-get [] k d h = absurd (omega arith)
partner-get (e ∷ es) zero d h = refl
partner-get (e ∷ es) (suc k) d h = partner-get es k d (omega arith)

-- the entry of an earlier map notes its mirror, which was just put after the last one
set-awaiting : (ms : List Mirrored) (i gap : ℕ) (map : List Span) → i < length ms → gap ≡ (length ms - i) - 1
    → slice_set (pushed ms map) i (entry (partner ms i) (gap_for (partner ms i) gap)) ≡ paired_with ms map i
set-awaiting [] i gap map h k = absurd (omega arith)
set-awaiting (e ∷ es) zero gap map h k = let g : gap ≡ length es = omega (arith, k) in rw g refl
set-awaiting (e ∷ es) (suc i) gap map h k = ap (λ x. e ∷ x) (set-awaiting es i gap map (omega arith) (omega (arith, k)))

pub noted : (ms items : List Mirrored) (map : List Span) (i gap : ℕ) (at was : Mirrored) (later : Option ℕ)
    → i < length ms → items ≡ pushed ms map → at ≡ get_or items i at → was ≡ get_or ms i was → gap ≡ (length ms - i) - 1 → later ≡ gap_for was.map gap
    → slice_set items i (record { map = at.map; later = later }) ≡ paired_with ms map i
noted ms items map i gap at was later h is at_is was_is g l =
    let a : at.map ≡ partner ms i = ap (λ e. e.map) (rw is at at_is) ∙ partner-get (pushed ms map) i at (omega (arith, h, length-append ms (entry map None ∷ []))) ∙ partner-append ms (entry map None ∷ []) i h in
    let w : was.map ≡ partner ms i = ap (λ e. e.map) was_is ∙ partner-get ms i was h in
    rw (is, a, l, w) (set-awaiting ms i gap map h g)

pub drop-drop : {A : Type 0} (xs : List A) (n i k : ℕ) → n ≡ k + i → drop n xs ≡ drop k (drop i xs)
drop-drop [] n i k e = rw (drop-nil n, drop-nil i, drop-nil k) refl
drop-drop (x ∷ xs) n zero k e = let f : n ≡ k = omega arith in rw f refl
drop-drop (x ∷ xs) zero (suc i) k e = absurd (omega arith)
drop-drop (x ∷ xs) (suc n) (suc i) k e = drop-drop xs n i k (omega arith)

-- one entry more was gone over
pub record IsOver (all : List Mirrored) (n : ℕ) (b : Bool) (so start : Moved) : Type 0 where
  pub same : through_from (drop n all) 0 b so ≡ through_from all 0 b start
  pub room : HasRoom (drop n all) 0 b so
  pub paired : ArePaired (drop n all)

module _ (all : List Mirrored) (i : ℕ) (b : Bool) (so start : Moved) (e : Mirrored) where
  at-entry : i < length all → e ≡ get_or all i e → drop i all ≡ e ∷ drop (suc i) all
  at-entry within is = drop-cons all i e within ∙ ap (λ x. x ∷ drop (suc i) all) (sym is)

  pub over-room : i < length all → e ≡ get_or all i e → HasRoom (drop i all) 0 b so → (moved_from e.map 0 0 0 so.pos b).pos < 2 ^ 64
  over-room within is room = (rw (at-entry within is) at room).0

  pub over-paired : i < length all → e ≡ get_or all i e → ArePaired (drop i all) → IsPairedAt e.map e.later (drop (suc i) all)
  over-paired within is paired = (rw (at-entry within is) at paired).0

  pub over-step : (next : Moved) (skip n : ℕ) → i < length all → e ≡ get_or all i e → IsOver all i b so start
      → next ≡ stepped so (moved_from e.map 0 0 0 so.pos b) e.later (moved_from e.map 0 0 0 so.pos b).recover (drop (suc i) all)
      → skip ≡ skipped e.later (moved_from e.map 0 0 0 so.pos b).recover → n ≡ skip + suc i → IsOver all n b next start
  over-step next skip n within is was to by at =
      let rest : List Mirrored = drop (suc i) all in
      let h = at-entry within is in
      let s : through_from rest skip b next ≡ through_from all 0 b start = rw (to, by) (rw h at was.same) in
      let r : HasRoom rest skip b next = rw (to, by) (rw h at was.room).1 in
      let p : ArePaired rest = (rw h at was.paired).1 in
      let d = drop-drop all n (suc i) skip at in
      record {
        same = rw d (sym (through-drop rest skip b next) ∙ s);
        room = rw d (room-drop rest skip b next r);
        paired = rw d (paired-drop rest skip p);
      }

-- what a slice to the end reads
pub to-end : {A : Type 0} (xs : List A) (i : ℕ) → take (length xs - i) (drop i xs) ≡ drop i xs
to-end xs i = take_all (length xs - i) (drop i xs) (omega (arith, length-drop i xs))
