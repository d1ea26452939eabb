-- The maps of steps and of their inverses, and carrying.
use Rattle.std.specs.Prelude.{◌≡◌, ℕ, ◌+◌, ◌-◌, ◌≤◌, max, Bool, true, false, ◌&&◌, ◌||◌, if◌then◌else◌, nat_lt, nat_le, ◌==◌, ◌⊎◌, List, [], ◌∷◌, ◌++◌, map, length, take, drop, Some, None, Ok}
use Rattle.std.proofs.lemmas.Bool.{leb-true, le-ltb, eqb-true, and_parts}
use Rattle.std.proofs.lemmas.List.{take-append-drop}
use Rattle.std.proofs.Common.{refl, ap, sym, ◌∙◌, subst, inl, inr, arith}
use Rattle.pm_map.specs.declared.step_map.Moved.{Moved}
use Rattle.pm_map.specs.declared.mapping.Mirrored.{Mirrored}
use Rattle.pm_map.specs.Moves.{inverted_ranges}
use Rattle.pm_map.specs.Fits.{FitsSizes, new_size_of}
use Rattle.pm_map.specs.Stills.{MovesNothing}
use Rattle.pm_meaning.proofs.ReplaceLaws as rep
use Rattle.pm_meaning.proofs.AroundLaws as aro
use Rattle.pm_tokens.specs.Faults.{Valid}
use Rattle.pm_tokens.specs.Scan.{unclosed, part}
use Rattle.pm_tokens.specs.Schemas.{Schema}
use Rattle.pm_tokens.specs.Slices.{Slice, slice_size, cut, cut_around}
use Rattle.pm_tokens.specs.Tokens.{Token, Doc, with_tokens, Marks}
use Rattle.pm_meaning.specs.Inverses.{replace_back, around_back}
use Rattle.pm_meaning.specs.Maps.{span, step_map, ahead, back, carry, carry_replace, carry_around, carry_range, is_within}
use Rattle.pm_meaning.specs.Marked.{with_marks, marked, mark_added, mark_removed}
use Rattle.pm_meaning.specs.Outcomes.{checked, outcome, in_order, parts_no_pair, range_outcome}
use Rattle.pm_meaning.specs.declared.reason.Reason.TheVariants.{Range, Pair}
use Rattle.pm_meaning.specs.Steps.{Step, Replace, ReplaceAround, AddMark, RemoveMark, AddNodeMark, RemoveNodeMark, Attr, DocAttr}
use Rattle.pm_meaning.proofs.OutcomeLaws.{unless-ok, made-ok, checked-ok}

span-same : (a b c d e f : ℕ) → a ≡ d → b ≡ e → c ≡ f → span a b c ≡ span d e f
span-same a b c d e f h k l = rw (h, k, l) refl

module _ (s : Schema) (from to : ℕ) (sl : Slice) (structure : Bool) (d next : Doc) (v : Valid s d) (h : outcome s (Replace from to sl structure) d ≡ Ok next) where
  r : rep.Replaced s from to sl d next
  r = rep.replaced s from to sl structure d next h

  pub replace-fits : FitsSizes (step_map (Replace from to sl structure)) (length d.tokens) (length next.tokens)
  replace-fits = (omega arith, (omega (arith, r.ordered, r.within), omega (arith, rep.replace-length s from to sl d next v r)))

  pub replace-inverse-map : step_map (replace_back d from to sl) ≡ inverted_ranges (step_map (Replace from to sl structure))
  replace-inverse-map =
      ap (λ z. z ∷ []) (span-same from ((from + slice_size sl) - from) (slice_size (cut d.tokens from to)) ((from + 0) - 0) (slice_size sl) (to - from)
      (omega arith) (omega arith) (rep.replace-cut-size s from to sl d next v r))

  pub replace-within : is_within (Replace from to sl structure) (length d.tokens)
  replace-within = (r.ordered, r.within)

  pub replace-inverse-within : is_within (replace_back d from to sl) (length next.tokens)
  replace-inverse-within = (omega arith, omega (arith, r.ordered, r.within, rep.replace-length s from to sl d next v r))

module _ (s : Schema) (from to gf gt : ℕ) (sl : Slice) (insert : ℕ) (structure : Bool) (d next : Doc) (v : Valid s d) (h : outcome s (ReplaceAround from to gf gt sl insert structure) d ≡ Ok next) where
  q : aro.Moved s from to gf gt sl insert d next
  q = aro.moved s from to gf gt sl insert structure d next h

  n : length next.tokens + ((gf - from) + (to - gt)) ≡ length d.tokens + slice_size sl
  n = aro.around-length s from to gf gt sl insert structure d next v q

  c : slice_size (cut_around d.tokens from to gf gt) ≡ (gf - from) + (to - gt)
  c = aro.around-cut-size s from to gf gt sl insert structure d next v q

  pub around-fits : FitsSizes (step_map (ReplaceAround from to gf gt sl insert structure)) (length d.tokens) (length next.tokens)
  around-fits = (omega arith, (omega (arith, q.ordered, q.gap_ordered), (omega (arith, q.end_ordered, q.within), omega (arith, n, q.inserted))))

  pub around-inverse-map : step_map (around_back d from to gf gt sl insert structure) ≡ inverted_ranges (step_map (ReplaceAround from to gf gt sl insert structure))
  around-inverse-map =
      let size = slice_size sl in
      let gap = gt - gf in
      let first = span-same from ((from + insert) - from) (gf - from) ((from + 0) - 0) insert (gf - from) (omega arith) (omega arith) refl in
      let second = span-same ((from + insert) + gap) (((from + size) + gap) - ((from + insert) + gap)) (slice_size (cut_around d.tokens from to gf gt) - (gf - from)) ((gt + (0 + insert)) - (0 + (gf - from))) (size - insert) (to - gt)
      (omega (arith, q.ordered, q.gap_ordered)) (omega (arith, q.inserted)) (omega (arith, c)) in
      ap (λ z. z ∷ span ((from + insert) + gap) (((from + size) + gap) - ((from + insert) + gap)) (slice_size (cut_around d.tokens from to gf gt) - (gf - from)) ∷ []) first
      ∙ ap (λ z. span ((from + 0) - 0) insert (gf - from) ∷ z ∷ []) second

  pub around-within : is_within (ReplaceAround from to gf gt sl insert structure) (length d.tokens)
  around-within = (q.ordered, q.gap_ordered, q.end_ordered, q.within, q.inserted)

  pub around-inverse-within : is_within (around_back d from to gf gt sl insert structure) (length next.tokens)
  around-inverse-within = (omega arith, omega arith, omega (arith, q.inserted), omega (arith, q.ordered, q.gap_ordered, q.end_ordered, q.within, n), omega (arith, c))

-- a range of no tokens is marked as it is
marked-nothing : (s : Schema) (f : ℕ → Token → Marks → Marks) (from to : ℕ) (d next : Doc) → to ≤ from → range_outcome s f from to d ≡ Ok next → next ≡ d
marked-nothing s f from to d next h k =
    let u₁ = unless-ok (in_order (from ∷ to ∷ []) (length d.tokens)) Range _ next k in
    let u₂ = unless-ok (parts_no_pair d.tokens (from ∷ to ∷ [])) Pair (checked s (marked f from to d)) next u₁.1 in
    let o = and_parts (nat_le from to) (nat_le to (length d.tokens)) u₁.0 in
    let e : from ≡ to = omega (arith, h, leb-true from to o.0) in
    let none : part from to d.tokens ≡ [] = ap (λ n. take n (drop from d.tokens)) (let z : to - from ≡ 0 = omega (arith, e) in z) in
    (checked-ok s (marked f from to d) next u₂.1).0
    ∙ ap (with_tokens d) (ap (λ z. take from d.tokens ++ (with_marks f (unclosed (d.kind ∷ []) (take from d.tokens)) z ++ drop to d.tokens)) none
    ∙ (ap (λ n. take from d.tokens ++ drop n d.tokens) (sym e) ∙ take-append-drop from d.tokens))

abbrev pub Still : Step → List Mirrored → Type 0
Still c ms = (carry c ms ≡ Some c)
    ⊎ ((carry c ms ≡ None) × (step_map c ≡ []) × ((s : Schema) (d next : Doc) → Valid s d → outcome s c d ≡ Ok next → next ≡ d))

abbrev no_flags : ℕ → Moved → Type 0
no_flags p m = (m.pos ≡ p) × (m.deleted ≡ false) × (m.across ≡ false) × (m.after ≡ false)

max-same : (a b : ℕ) → a ≤ b → max a b ≡ b
max-same a b h = omega (arith, h)

still-replace : (from to : ℕ) (sl : Slice) (st : Bool) (f t : Moved) → from ≤ to → f.pos ≡ from → f.across ≡ false → t.pos ≡ to → carry_replace f t sl st ≡ Some (Replace from to sl st)
still-replace from to sl st f t h p a q = rw (a, p, q, max-same from to h) refl

still-range : (make : ℕ → ℕ → Step) (from to : ℕ) (f t : Moved) → f.pos ≡ from → f.deleted ≡ false → t.pos ≡ to
    → ((carry_range make f t ≡ Some (make from to)) ⊎ ((carry_range make f t ≡ None) × (to ≤ from)))
still-range make from to f t p a q = rw (a, p, q) (at (nat_le to from) refl)
  where
    at : (b : Bool) → nat_le to from ≡ b → (((if false || b then None else Some (make from to)) ≡ Some (make from to)) ⊎ (((if false || b then None else Some (make from to)) ≡ None) × (to ≤ from)))
    at true e = inr (refl, leb-true to from e)
    at false e = inl refl

still-around : (from to gf gt : ℕ) (sl : Slice) (insert : ℕ) (st : Bool) (f t : Moved) (g k : ℕ) → from ≤ gf → gt ≤ to → f.pos ≡ from → f.across ≡ false → t.pos ≡ to → g ≡ gf → k ≡ gt
    → carry_around f t g k sl insert st ≡ Some (ReplaceAround from to gf gt sl insert st)
still-around from to gf gt sl insert st f t g k h i p a q eg ek =
    let l : nat_lt gf from ≡ false = le-ltb gf from h in
    let m : nat_lt to gt ≡ false = le-ltb to gt i in
    rw (a, p, q, eg, ek, l, m) refl

either : (b : Bool) (p q : ℕ) → (b ≡ true → p ≡ q) → (if b then p else q) ≡ q
either true p q f = f refl
either false p q f = refl

-- a mapping that moves nothing carries a step that is within a size to itself, or to nothing a step that changes nothing
pub still : (c : Step) (n : ℕ) (ms : List Mirrored) → is_within c n → MovesNothing ms → Still c ms
still (Replace from to sl structure) n ms w h =
    inl (still-replace from to sl structure (ahead ms from) (back ms to) w.0 (ap (λ z. z.pos) (h.ahead from)) (ap (λ z. z.across) (h.ahead from)) (h.back to))
still (ReplaceAround from to gf gt sl insert structure) n ms w h =
    let f = ahead ms from in
    let t = back ms to in
    let pf : f.pos ≡ from = ap (λ z. z.pos) (h.ahead from) in
    let af : f.across ≡ false = ap (λ z. z.across) (h.ahead from) in
    let g : (if gf == from then f.pos else (back ms gf).pos) ≡ gf = rw (pf, h.back gf) (either (gf == from) from gf (λ e. sym (eqb-true gf from e))) in
    let k : (if gt == to then t.pos else (ahead ms gt).pos) ≡ gt = rw (h.back to, h.ahead gt) (either (gt == to) to gt (λ e. sym (eqb-true gt to e))) in
    inl (still-around from to gf gt sl insert structure f t _ _ w.0 w.2 pf af (h.back to) g k)
still (AddMark from to mark) n ms w h =
    at (still-range (λ f t. AddMark f t mark) from to (ahead ms from) (back ms to) (ap (λ z. z.pos) (h.ahead from)) (ap (λ z. z.deleted) (h.ahead from)) (h.back to))
  where
    at : ((carry (AddMark from to mark) ms ≡ Some (AddMark from to mark)) ⊎ ((carry (AddMark from to mark) ms ≡ None) × (to ≤ from))) → Still (AddMark from to mark) ms
    at (inl e) = inl e
    at (inr p) = inr (p.0, refl, λ s d next v k. marked-nothing s (mark_added s mark) from to d next p.1 (made-ok s (AddMark from to mark) d next k).1)
still (RemoveMark from to mark) n ms w h =
    at (still-range (λ f t. RemoveMark f t mark) from to (ahead ms from) (back ms to) (ap (λ z. z.pos) (h.ahead from)) (ap (λ z. z.deleted) (h.ahead from)) (h.back to))
  where
    at : ((carry (RemoveMark from to mark) ms ≡ Some (RemoveMark from to mark)) ⊎ ((carry (RemoveMark from to mark) ms ≡ None) × (to ≤ from))) → Still (RemoveMark from to mark) ms
    at (inl e) = inl e
    at (inr p) = inr (p.0, refl, λ s d next v k. marked-nothing s (mark_removed s mark) from to d next p.1 (made-ok s (RemoveMark from to mark) d next k).1)
still (AddNodeMark p mark) n ms w h = inl (rw (h.ahead p) refl)
still (RemoveNodeMark p mark) n ms w h = inl (rw (h.ahead p) refl)
still (Attr p name value) n ms w h = inl (rw (h.ahead p) refl)
still (DocAttr name value) n ms w h = inl refl

from-if : (b : Bool) (x d : Step) (P : Step → Type 0) → (if b then None else Some x) ≡ Some d → P x → P d
from-if true x d P h p = absurd (cc)
from-if false x d P h p = let e : x ≡ d = cc in subst P e p

-- a carried step keeps its ranges' new sizes
pub carried : (c d : Step) (ms : List Mirrored) → carry c ms ≡ Some d → map new_size_of (step_map d) ≡ map new_size_of (step_map c)
carried (Replace from to sl structure) d ms h = at (ahead ms from) (back ms to) h
  where
    at : (f t : Moved) → carry_replace f t sl structure ≡ Some d → map new_size_of (step_map d) ≡ map new_size_of (step_map (Replace from to sl structure))
    at f t k = from-if (f.across && t.across) (Replace f.pos (max f.pos t.pos) sl structure) d (λ z. map new_size_of (step_map z) ≡ slice_size sl ∷ []) k refl
carried (ReplaceAround from to gf gt sl insert structure) d ms h =
    from-if _ (ReplaceAround (ahead ms from).pos (back ms to).pos (if gf == from then (ahead ms from).pos else (back ms gf).pos) (if gt == to then (back ms to).pos else (ahead ms gt).pos) sl insert structure) d
    (λ z. map new_size_of (step_map z) ≡ insert ∷ (slice_size sl - insert) ∷ []) h refl
carried (AddMark from to mark) d ms h = from-if _ (AddMark (ahead ms from).pos (back ms to).pos mark) d (λ z. map new_size_of (step_map z) ≡ []) h refl
carried (RemoveMark from to mark) d ms h = from-if _ (RemoveMark (ahead ms from).pos (back ms to).pos mark) d (λ z. map new_size_of (step_map z) ≡ []) h refl
carried (AddNodeMark p mark) d ms h = from-if _ (AddNodeMark (ahead ms p).pos mark) d (λ z. map new_size_of (step_map z) ≡ []) h refl
carried (RemoveNodeMark p mark) d ms h = from-if _ (RemoveNodeMark (ahead ms p).pos mark) d (λ z. map new_size_of (step_map z) ≡ []) h refl
carried (Attr p name value) d ms h = from-if _ (Attr (ahead ms p).pos name value) d (λ z. map new_size_of (step_map z) ≡ []) h refl
carried (DocAttr name value) d ms h = from-if false (DocAttr name value) d (λ z. map new_size_of (step_map z) ≡ []) h refl
