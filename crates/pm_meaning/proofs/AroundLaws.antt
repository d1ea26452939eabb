-- The laws of a replaceAround.
use Rattle.std.specs.Prelude.{◌≡◌, ℕ, ◌+◌, ◌-◌, ◌≤◌, Bool, true, false, ◌&&◌, ◌||◌, not, nat_le, List, [], ◌∷◌, ◌++◌, length, take, drop, Ok}
use Rattle.std.proofs.lemmas.Bool.{leb-true, le-leb, and_parts, and_from}
use Rattle.std.proofs.lemmas.List.{take_at, drop_at, take-append-drop}
use Rattle.std.proofs.Common.{refl, ap, sym, ◌∙◌, subst, arith, append_assoc, length-append, length-take, length-drop}
use Rattle.pm_tokens.specs.Faults.{Valid}
use Rattle.pm_tokens.specs.Scan.{Owned, unclosed, unmet, is_whole, owned, plain, joins, part, depth_at, closes_then_opens, ends_high, starts_low, parts_pair}
use Rattle.pm_tokens.specs.Schemas.{Schema, compatible}
use Rattle.pm_tokens.specs.Slices.{Slice, is_slice, slice_tokens, slice_size, slice_owned, cut_around, spliced_around, depths_fit}
use Rattle.pm_tokens.specs.Tokens.{Token, Doc, with_tokens}
use Rattle.pm_tokens.proofs.PairLaws.{no-left, no-right, ends-part, before-gap, after-gap}
use Rattle.pm_tokens.proofs.PartLaws.{IsSlice, slice-is, cut-slice, split-front, split-fronts, split-part, split-back, split-rest, owned-front, depth-from, slice_stack, slice-owned-is, slice-length, slice-counts, cut-tokens, cut-size, cut-owned, Pieces, pieces-at, pieces-first, pieces-gap, pieces-last, pieces-length, owned-gap, owned-last, depth-last}
use Rattle.pm_tokens.proofs.Restored.{cut-within, cut-first, cut-second, cut-level, Went, went, same-level, back-joins, Stands, stands, whole-after}
use Rattle.pm_tokens.proofs.ScanLaws.{plain-append, plain-owned, owned-append, owned-take, owned-drop, length-owned, opens, closes, opens-append, closes-append, Whole, whole-of, of-whole}
use Rattle.pm_tokens.proofs.SchemaLaws.{compatible-itself, compatible-both}
use Rattle.pm_tokens.proofs.ValidLaws.{pair-free}
use Rattle.pm_meaning.specs.Inverses.{around_back}
use Rattle.pm_meaning.specs.Outcomes.{checked, in_order, parts_no_pair, keeps_structure, outcome}
use Rattle.pm_meaning.specs.declared.reason.Reason.TheVariants.{Range, Structure, Gap, Depth, Pair, Join}
use Rattle.pm_meaning.specs.Steps.{ReplaceAround}
use Rattle.pm_meaning.proofs.OutcomeLaws.{unless-ok, ok-unless, made-ok, known-made, checked-ok, checks-valid, valid-checks}
use Rattle.pm_meaning.proofs.KnownLaws.{cut-known}
use Rattle.pm_meaning.proofs.ReplaceLaws.{not-true, no-pair-at, depths-of, of-depths}

-- where a replaceAround applies
pub record Moved (s : Schema) (from to gf gt : ℕ) (sl : Slice) (insert : ℕ) (d next : Doc) : Type 0 where
  pub slice : IsSlice sl
  pub ordered : from ≤ gf
  pub gap_ordered : gf ≤ gt
  pub end_ordered : gt ≤ to
  pub within : to ≤ length d.tokens
  pub inserted : insert ≤ slice_size sl
  pub gap : is_whole (part gf gt d.tokens) ≡ true
  pub start_fits : sl.open_start ≤ depth_at d.tokens from
  pub end_fits : depth_at d.tokens from + sl.open_end ≡ depth_at d.tokens to + sl.open_start
  pub pair_from : parts_pair d.tokens from ≡ false
  pub pair_gap_from : parts_pair d.tokens gf ≡ false
  pub pair_gap_to : parts_pair d.tokens gt ≡ false
  pub pair_to : parts_pair d.tokens to ≡ false
  pub pair_insert : parts_pair (slice_tokens sl) insert ≡ false
  pub joined : joins (compatible s) [] (spliced_around d.tokens from to gf gt sl insert) ≡ true
  pub is : next ≡ with_tokens d (plain (spliced_around d.tokens from to gf gt sl insert))
  pub checks : checked s next ≡ Ok next

pub moved : (s : Schema) (from to gf gt : ℕ) (sl : Slice) (insert : ℕ) (structure : Bool) (d next : Doc) → outcome s (ReplaceAround from to gf gt sl insert structure) d ≡ Ok next → Moved s from to gf gt sl insert d next
moved s from to gf gt sl insert structure d next h =
    let ts = d.tokens in
    let sp = spliced_around ts from to gf gt sl insert in
    let ps = from ∷ gf ∷ gt ∷ to ∷ [] in
    let u₀ = unless-ok (is_slice sl) Range _ next (made-ok s (ReplaceAround from to gf gt sl insert structure) d next h).1 in
    let u₁ = unless-ok (in_order ps (length ts) && nat_le insert (slice_size sl)) Range _ next u₀.1 in
    let u₂ = unless-ok (keeps_structure structure (part from gf ts) && keeps_structure structure (part gt to ts)) Structure _ next u₁.1 in
    let u₃ = unless-ok (is_whole (part gf gt ts)) Gap _ next u₂.1 in
    let u₄ = unless-ok (depths_fit ts from to sl) Depth _ next u₃.1 in
    let u₅ = unless-ok (parts_no_pair ts ps && parts_no_pair (slice_tokens sl) (insert ∷ [])) Pair _ next u₄.1 in
    let u₆ = unless-ok (joins (compatible s) [] sp) Join (checked s (with_tokens d (plain sp))) next u₅.1 in
    let o = and_parts (in_order ps (length ts)) (nat_le insert (slice_size sl)) u₁.0 in
    let o₁ = and_parts (nat_le from gf) (in_order (gf ∷ gt ∷ to ∷ []) (length ts)) o.0 in
    let o₂ = and_parts (nat_le gf gt) (in_order (gt ∷ to ∷ []) (length ts)) o₁.1 in
    let o₃ = and_parts (nat_le gt to) (nat_le to (length ts)) o₂.1 in
    let f = depths-of ts from to sl u₄.0 in
    let p = and_parts (parts_no_pair ts ps) (parts_no_pair (slice_tokens sl) (insert ∷ [])) u₅.0 in
    let p₁ = and_parts (not (parts_pair ts from)) (parts_no_pair ts (gf ∷ gt ∷ to ∷ [])) p.0 in
    let p₂ = and_parts (not (parts_pair ts gf)) (parts_no_pair ts (gt ∷ to ∷ [])) p₁.1 in
    let p₃ = and_parts (not (parts_pair ts gt)) (parts_no_pair ts (to ∷ [])) p₂.1 in
    let p₄ = and_parts (not (parts_pair ts to)) true p₃.1 in
    let p₅ = and_parts (not (parts_pair (slice_tokens sl) insert)) true p.1 in
    let e = (checked-ok s (with_tokens d (plain sp)) next u₆.1).0 in
    record {
      slice = slice-is sl u₀.0;
      ordered = leb-true from gf o₁.0;
      gap_ordered = leb-true gf gt o₂.0;
      end_ordered = leb-true gt to o₃.0;
      within = leb-true to (length ts) o₃.1;
      inserted = leb-true insert (slice_size sl) o.1;
      gap = u₃.0;
      start_fits = f.0;
      end_fits = f.1;
      pair_from = not-true _ p₁.0;
      pair_gap_from = not-true _ p₂.0;
      pair_gap_to = not-true _ p₃.0;
      pair_to = not-true _ p₄.0;
      pair_insert = not-true _ p₅.0;
      joined = u₆.0;
      is = e;
      checks = subst (λ z. checked s z ≡ Ok next) (sym e) u₆.1;
    }

plain-piece : (s : List ℕ) (p : List Token) (ys : List Owned) → plain (owned s p ++ ys) ≡ p ++ plain ys
plain-piece s p ys = plain-append (owned s p) ys ∙ ap (λ z. z ++ plain ys) (plain-owned s p)

keeps-kept : (a b c : Bool) → ((not (a && b && c) || b) ≡ true) × ((not (a && b && c) || c) ≡ true)
keeps-kept true true true = (refl, refl)
keeps-kept true true false = (refl, refl)
keeps-kept true false c = (refl, refl)
keeps-kept false b c = (refl, refl)

module _ (s : Schema) (from to gf gt : ℕ) (sl : Slice) (insert : ℕ) (structure : Bool) (d next : Doc) (v : Valid s d) (r : Moved s from to gf gt sl insert d next) where
  w : IsSlice sl
  w = r.slice

  abbrev ts : List Token
  ts = d.tokens

  abbrev a : List Token
  a = take from ts

  abbrev x : List Token
  x = part from gf ts

  abbrev g : List Token
  g = part gf gt ts

  abbrev y : List Token
  y = part gt to ts

  abbrev b : List Token
  b = drop to ts

  abbrev m : List Token
  m = slice_tokens sl

  abbrev s₁ : List Token
  s₁ = take insert m

  abbrev s₂ : List Token
  s₂ = drop insert m

  abbrev st : List ℕ
  st = slice_stack sl

  abbrev gap : ℕ
  gap = gt - gf

  abbrev far : ℕ
  far = (from + slice_size sl) + gap

  wg : Whole g
  wg = whole-of g r.gap

  old : Pieces ts a x g y b from gf gt to
  old = pieces-at ts from gf gt to r.ordered r.gap_ordered r.end_ordered r.within

  o : Stands a x g y b
  o = stands a x g y b wg (subst Whole old.is (whole-of ts v.whole))

  abbrev was₁ : List ℕ
  was₁ = unclosed (unclosed [] a) x

  abbrev was₂ : List ℕ
  was₂ = unclosed was₁ y

  abbrev now₁ : List ℕ
  now₁ = unclosed (unclosed [] a) s₁

  abbrev now₂ : List ℕ
  now₂ = unclosed now₁ s₂

  abbrev five : (p₁ p₂ p₃ p₄ : List ℕ) (q u : List Token) → List Owned
  five p₁ p₂ p₃ p₄ q u = owned [] a ++ (owned p₁ q ++ (owned p₂ g ++ (owned p₃ u ++ owned p₄ b)))

  five-plain : (p₁ p₂ p₃ p₄ : List ℕ) (q u : List Token) → plain (five p₁ p₂ p₃ p₄ q u) ≡ a ++ (q ++ (g ++ (u ++ b)))
  five-plain p₁ p₂ p₃ p₄ q u =
      plain-piece [] a (owned p₁ q ++ (owned p₂ g ++ (owned p₃ u ++ owned p₄ b))) ∙ ap (λ z. a ++ z)
      (plain-piece p₁ q (owned p₂ g ++ (owned p₃ u ++ owned p₄ b)) ∙ ap (λ z. q ++ z)
      (plain-piece p₂ g (owned p₃ u ++ owned p₄ b) ∙ ap (λ z. g ++ z)
      (plain-piece p₃ u (owned p₄ b) ∙ ap (λ z. u ++ z) (plain-owned p₄ b))))

  five-is : (e₀ e₁ e₂ e₃ e₄ : List Owned) (p₁ p₂ p₃ p₄ : List ℕ) (q u : List Token) → e₀ ≡ owned [] a → e₁ ≡ owned p₁ q → e₂ ≡ owned p₂ g → e₃ ≡ owned p₃ u → e₄ ≡ owned p₄ b
      → e₀ ++ (e₁ ++ (e₂ ++ (e₃ ++ e₄))) ≡ five p₁ p₂ p₃ p₄ q u
  five-is e₀ e₁ e₂ e₃ e₄ p₁ p₂ p₃ p₄ q u h₀ h₁ h₂ h₃ h₄ = rw (h₀, h₁, h₂, h₃, h₄) refl

  splice-is : spliced_around ts from to gf gt sl insert ≡ five st was₁ (unclosed st s₁) was₂ s₁ s₂
  splice-is =
      five-is _ _ _ _ _ st was₁ (unclosed st s₁) was₂ s₁ s₂ (owned-front (pieces-first old))
      (ap (take insert) (slice-owned-is sl) ∙ owned-take insert st m)
      (owned-gap old wg)
      (ap (drop insert) (slice-owned-is sl) ∙ owned-drop insert st m)
      (owned-last old wg)

  abbrev result : List Token
  result = a ++ (s₁ ++ (g ++ (s₂ ++ b)))

  abbrev after : Doc
  after = with_tokens d result

  pub around-next-is : next ≡ after
  around-next-is = r.is ∙ ap (with_tokens d) (ap plain splice-is ∙ five-plain st was₁ (unclosed st s₁) was₂ s₁ s₂)

  f : Went (compatible s) a x g y b s₁ s₂ st wg
  f = went (compatible s) a x g y b s₁ s₂ st wg (subst (λ z. joins (compatible s) [] z ≡ true) splice-is r.joined)

  start-fits : sl.open_start ≤ length (unclosed [] a)
  start-fits = subst (λ n. sl.open_start ≤ n) (depth-from (pieces-first old)) r.start_fits

  end-fits : length (unclosed [] a) + sl.open_end ≡ length was₂ + sl.open_start
  end-fits = omega (arith, r.end_fits, depth-from (pieces-first old), depth-last old wg)

  counts : (opens s₁ + opens s₂) + sl.open_start ≡ (closes s₁ + closes s₂) + sl.open_end
  counts = omega (arith, slice-counts sl w, ap opens (take-append-drop insert m), ap closes (take-append-drop insert m), opens-append s₁ s₂, closes-append s₁ s₂)

  l : length now₂ ≡ length was₂
  l = same-level (compatible s) a x g y b s₁ s₂ st wg sl.open_start sl.open_end f counts end-fits

  -- a replaceAround that applies gives a valid document
  pub around-valid : Valid s next
  around-valid = checks-valid s next (subst (λ z. is_whole z.tokens ≡ true) (sym around-next-is) (of-whole result (whole-after (compatible s) a x g y b s₁ s₂ st wg o f l))) r.checks

  new : Pieces result a s₁ g s₂ b from (from + insert) ((from + insert) + gap) far
  new = record {
    is = refl;
    at_from = old.at_from;
    at_gap = omega (arith, r.inserted, length-take insert m, slice-length sl w);
    at_end = omega (arith, old.at_end);
    at_to = omega (arith, r.inserted, length-drop insert m, slice-length sl w);
  }

  pub around-length : length next.tokens + ((gf - from) + (to - gt)) ≡ length ts + slice_size sl
  around-length = omega (arith, r.ordered, r.gap_ordered, r.end_ordered, ap (λ z. length z.tokens) around-next-is, pieces-length new, pieces-length old)

  n-within : unmet 0 (x ++ y) ≤ length (unclosed [] a)
  n-within = cut-within a x y (x ++ y) refl o.met_x o.met_y

  abbrev c : Slice
  c = cut_around ts from to gf gt

  abbrev t : List ℕ
  t = take (unmet 0 (x ++ y)) (unclosed [] a)

  x-length : length x ≡ gf - from
  x-length = omega (arith, old.at_gap)

  cut-owned-is : slice_owned c ≡ owned t x ++ owned (unclosed t x) y
  cut-owned-is = cut-owned a (x ++ y) n-within ∙ owned-append t x y

  back-is : spliced_around result from far (from + insert) ((from + insert) + gap) c (gf - from) ≡ five t now₁ (unclosed t x) now₂ x y
  back-is =
      five-is _ _ _ _ _ t now₁ (unclosed t x) now₂ x y (owned-front (pieces-first new))
      (ap (take (gf - from)) cut-owned-is ∙ take_at (owned t x) (owned (unclosed t x) y) (gf - from) (length-owned t x ∙ x-length))
      (owned-gap new wg)
      (ap (drop (gf - from)) cut-owned-is ∙ drop_at (owned t x) (owned (unclosed t x) y) (gf - from) (length-owned t x ∙ x-length))
      (owned-last new wg)

  pub around-cut-size : slice_size (cut_around ts from to gf gt) ≡ (gf - from) + (to - gt)
  around-cut-size = omega (arith, cut-size a (x ++ y) n-within, length-append x y, old.at_gap, old.at_to)

  at-pair : (p : ℕ) (us vs : List Token) → ts ≡ us ++ vs → take p ts ≡ us → drop p ts ≡ vs → parts_pair ts p ≡ false → (ends_high us ≡ false) × (starts_low vs ≡ false)
  at-pair p us vs e h k q = pair-free s d us vs v e (sym (ap (λ z. ends_high z && starts_low (drop p ts)) h ∙ ap (λ z. ends_high us && starts_low z) k) ∙ q)

  q₁ : (ends_high a ≡ false) × (starts_low (x ++ (g ++ (y ++ b))) ≡ false)
  q₁ = at-pair from a (x ++ (g ++ (y ++ b))) old.is (split-front (pieces-first old)) (split-rest (pieces-first old)) r.pair_from

  q₂ : (ends_high (a ++ x) ≡ false) × (starts_low (g ++ (y ++ b)) ≡ false)
  q₂ = at-pair gf (a ++ x) (g ++ (y ++ b)) (pieces-gap old).is (split-front (pieces-gap old)) (split-rest (pieces-gap old)) r.pair_gap_from

  q₃ : (ends_high ((a ++ x) ++ g) ≡ false) × (starts_low (y ++ b) ≡ false)
  q₃ = at-pair gt ((a ++ x) ++ g) (y ++ b) (pieces-last old).is (split-front (pieces-last old)) (split-rest (pieces-last old)) r.pair_gap_to

  q₄ : (ends_high (((a ++ x) ++ g) ++ y) ≡ false) × (starts_low b ≡ false)
  q₄ = at-pair to (((a ++ x) ++ g) ++ y) b ((pieces-last old).is ∙ sym (append_assoc ((a ++ x) ++ g) y b)) (split-fronts (pieces-last old)) (split-back (pieces-last old)) r.pair_to

  tokens-c : slice_tokens c ≡ x ++ y
  tokens-c = cut-tokens a (x ++ y) n-within

  size-c : slice_size c ≡ length x + length y
  size-c = cut-size a (x ++ y) n-within ∙ length-append x y

  abbrev kept : Bool
  kept = structure && closes_then_opens s₁ && closes_then_opens s₂

  structured : (keeps_structure kept (part from (from + insert) result) && keeps_structure kept (part ((from + insert) + gap) far result)) ≡ true
  structured =
      let k = keeps-kept structure (closes_then_opens s₁) (closes_then_opens s₂) in
      and_from _ _
      (subst (λ z. keeps_structure kept z ≡ true) (sym (split-part (pieces-first new))) k.0)
      (subst (λ z. keeps_structure kept z ≡ true) (sym (split-part (pieces-last new))) k.1)

  in-order : (in_order (from ∷ (from + insert) ∷ ((from + insert) + gap) ∷ far ∷ []) (length result) && nat_le (gf - from) (slice_size c)) ≡ true
  in-order =
      and_from _ _
      (and_from (nat_le from (from + insert)) _ (le-leb from (from + insert) (omega arith))
      (and_from (nat_le (from + insert) ((from + insert) + gap)) _ (le-leb (from + insert) ((from + insert) + gap) (omega arith))
      (and_from (nat_le ((from + insert) + gap) far) _ (le-leb ((from + insert) + gap) far (omega (arith, r.inserted))) (le-leb far (length result) (omega (arith, pieces-length new))))))
      (le-leb (gf - from) (slice_size c) (omega (arith, size-c, x-length)))

  paired : (parts_no_pair result (from ∷ (from + insert) ∷ ((from + insert) + gap) ∷ far ∷ []) && parts_no_pair (slice_tokens c) ((gf - from) ∷ [])) ≡ true
  paired =
      and_from _ _
      (and_from (not (parts_pair result from)) _ (no-pair-at result a (s₁ ++ (g ++ (s₂ ++ b))) from (split-front (pieces-first new)) (split-rest (pieces-first new)) (no-left a (s₁ ++ (g ++ (s₂ ++ b))) q₁.0))
      (and_from (not (parts_pair result (from + insert))) _ (no-pair-at result (a ++ s₁) (g ++ (s₂ ++ b)) (from + insert) (split-front (pieces-gap new)) (split-rest (pieces-gap new)) (before-gap a s₁ g s₂ y b q₁.0 q₄.1 r.pair_insert q₂.1))
      (and_from (not (parts_pair result ((from + insert) + gap))) _ (no-pair-at result ((a ++ s₁) ++ g) (s₂ ++ b) ((from + insert) + gap) (split-front (pieces-last new)) (split-rest (pieces-last new)) (after-gap a s₁ g s₂ x b q₁.0 q₄.1 r.pair_insert q₃.0))
      (and_from (not (parts_pair result far)) true (no-pair-at result (((a ++ s₁) ++ g) ++ s₂) b far (split-fronts (pieces-last new)) (split-back (pieces-last new)) (no-right (((a ++ s₁) ++ g) ++ s₂) b q₄.1)) refl))))
      (and_from (not (parts_pair (slice_tokens c) (gf - from))) true
      (no-pair-at (slice_tokens c) x y (gf - from) (ap (take (gf - from)) tokens-c ∙ take_at x y (gf - from) x-length) (ap (drop (gf - from)) tokens-c ∙ drop_at x y (gf - from) x-length) (no-left x y (ends-part a x q₂.0))) refl)

  -- the inverse applies to the result, and gives the document back
  restored : outcome s (around_back d from to gf gt sl insert structure) after ≡ Ok d
  restored =
      known-made s (around_back d from to gf gt sl insert structure) after (cut-known s d a (x ++ y) (x ++ (g ++ (y ++ b))) v old.is n-within) ∙
      ok-unless (is_slice c) Range _ d (cut-slice a (x ++ y) n-within)
      (ok-unless _ Range _ d in-order
      (ok-unless _ Structure _ d structured
      (ok-unless (is_whole (part (from + insert) ((from + insert) + gap) result)) Gap _ d (subst (λ z. is_whole z ≡ true) (sym (split-part (pieces-gap new))) r.gap)
      (ok-unless (depths_fit result from far c) Depth _ d
      (of-depths result from far c
      (omega (arith, n-within, depth-from (pieces-first new)))
      (omega (arith, depth-from (pieces-first new), depth-last new wg, l, cut-level a x y (x ++ y) refl o.met_x o.met_y)))
      (ok-unless _ Pair _ d paired
      (ok-unless (joins (compatible s) [] (spliced_around result from far (from + insert) ((from + insert) + gap) c (gf - from))) Join _ d
      (subst (λ z. joins (compatible s) [] z ≡ true) (sym back-is)
      (back-joins (compatible s) a x g y b s₁ s₂ st wg (compatible-itself s) (compatible-both s) t f o.met_a o.met_x o.met_y l (cut-first a x y (x ++ y) refl o.met_x o.met_y) (cut-second a x y (x ++ y) refl o.met_x o.met_y)))
      (subst (λ z. checked s (with_tokens after z) ≡ Ok d) (old.is ∙ sym (ap plain back-is ∙ five-plain t now₁ (unclosed t x) now₂ x y)) (valid-checks s d v))))))))

  pub around-restored : outcome s (around_back d from to gf gt sl insert structure) next ≡ Ok d
  around-restored = subst (λ z. outcome s (around_back d from to gf gt sl insert structure) z ≡ Ok d) (sym around-next-is) restored
