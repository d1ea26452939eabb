-- The laws of a replace.
use Rattle.std.specs.Prelude.{◌≡◌, ℕ, ◌+◌, ◌-◌, ◌≤◌, Bool, true, false, ◌&&◌, not, nat_le, ◌==◌, List, [], ◌∷◌, ◌++◌, length, take, drop, Ok}
use Rattle.std.proofs.lemmas.Bool.{leb-true, le-leb, eqb-true, eq-eqb, and_parts, and_from}
use Rattle.std.proofs.lemmas.List.{append-nil}
use Rattle.std.proofs.Common.{refl, ap, sym, ◌∙◌, subst, arith, append_assoc}
use Rattle.pm_tokens.specs.Faults.{Valid}
use Rattle.pm_tokens.specs.Scan.{unclosed, unmet, is_whole, owned, plain, joins, part, depth_at, ends_high, starts_low, parts_pair}
use Rattle.pm_tokens.specs.Schemas.{Schema, compatible}
use Rattle.pm_tokens.specs.Slices.{Slice, is_slice, slice_tokens, slice_size, slice_owned, cut, spliced, depths_fit}
use Rattle.pm_tokens.specs.Tokens.{Token, Doc, with_tokens}
use Rattle.pm_tokens.proofs.PairLaws.{no-left, no-right}
use Rattle.pm_tokens.proofs.PartLaws.{IsSlice, slice-is, cut-slice, Split, split-at, split-front, split-fronts, split-back, split-rest, split-length, owned-front, owned-back, depth-from, depth-to, slice_stack, slice-owned-is, slice-length, slice-counts, cut-size, cut-owned}
use Rattle.pm_tokens.proofs.Restored.{cut-within, cut-first, cut-level, Went, went, same-level, back-joins, Stands, stands, whole-after, nothing}
use Rattle.pm_tokens.proofs.ScanLaws.{plain-append, plain-owned, Whole, whole-of, of-whole}
use Rattle.pm_tokens.proofs.SchemaLaws.{compatible-itself, compatible-both}
use Rattle.pm_tokens.proofs.ValidLaws.{pair-free}
use Rattle.pm_meaning.specs.Inverses.{replace_back}
use Rattle.pm_meaning.specs.Outcomes.{checked, in_order, parts_no_pair, keeps_structure, outcome}
use Rattle.pm_meaning.specs.declared.reason.Reason.TheVariants.{Range, Structure, Depth, Pair, Join}
use Rattle.pm_meaning.specs.Steps.{Replace}
use Rattle.pm_meaning.proofs.OutcomeLaws.{unless-ok, ok-unless, made-ok, known-made, checked-ok, checks-valid, valid-checks}
use Rattle.pm_meaning.proofs.KnownLaws.{cut-known}

pub not-true : (b : Bool) → not b ≡ true → b ≡ false
not-true true h = absurd (cc)
not-true false h = refl

pub no-pair-at : (ts xs ys : List Token) (p : ℕ) → take p ts ≡ xs → drop p ts ≡ ys → (ends_high xs && starts_low ys) ≡ false → not (parts_pair ts p) ≡ true
no-pair-at ts xs ys p e f h = ap not (ap (λ z. ends_high z && starts_low (drop p ts)) e ∙ (ap (λ z. ends_high xs && starts_low z) f ∙ h))

pub depths-of : (ts : List Token) (from to : ℕ) (sl : Slice) → depths_fit ts from to sl ≡ true → (sl.open_start ≤ depth_at ts from) × (depth_at ts from + sl.open_end ≡ depth_at ts to + sl.open_start)
depths-of ts from to sl h =
    let b = and_parts (nat_le sl.open_start (depth_at ts from)) (depth_at ts from + sl.open_end == depth_at ts to + sl.open_start) h in
    (leb-true sl.open_start (depth_at ts from) b.0, eqb-true (depth_at ts from + sl.open_end) (depth_at ts to + sl.open_start) b.1)

pub of-depths : (ts : List Token) (from to : ℕ) (sl : Slice) → sl.open_start ≤ depth_at ts from → depth_at ts from + sl.open_end ≡ depth_at ts to + sl.open_start → depths_fit ts from to sl ≡ true
of-depths ts from to sl h k =
    and_from (nat_le sl.open_start (depth_at ts from)) (depth_at ts from + sl.open_end == depth_at ts to + sl.open_start)
    (le-leb sl.open_start (depth_at ts from) h) (eq-eqb (depth_at ts from + sl.open_end) (depth_at ts to + sl.open_start) k)

-- where a replace applies
pub record Replaced (s : Schema) (from to : ℕ) (sl : Slice) (d next : Doc) : Type 0 where
  pub slice : IsSlice sl
  pub ordered : from ≤ to
  pub within : to ≤ length d.tokens
  pub start_fits : sl.open_start ≤ depth_at d.tokens from
  pub end_fits : depth_at d.tokens from + sl.open_end ≡ depth_at d.tokens to + sl.open_start
  pub pair_from : parts_pair d.tokens from ≡ false
  pub pair_to : parts_pair d.tokens to ≡ false
  pub joined : joins (compatible s) [] (spliced d.tokens from to sl) ≡ true
  pub is : next ≡ with_tokens d (plain (spliced d.tokens from to sl))
  pub checks : checked s next ≡ Ok next

pub replaced : (s : Schema) (from to : ℕ) (sl : Slice) (structure : Bool) (d next : Doc) → outcome s (Replace from to sl structure) d ≡ Ok next → Replaced s from to sl d next
replaced s from to sl structure d next h =
    let ts = d.tokens in
    let u₀ = unless-ok (is_slice sl) Range _ next (made-ok s (Replace from to sl structure) d next h).1 in
    let u₁ = unless-ok (in_order (from ∷ to ∷ []) (length ts)) Range _ next u₀.1 in
    let u₂ = unless-ok (keeps_structure structure (part from to ts)) Structure _ next u₁.1 in
    let u₃ = unless-ok (depths_fit ts from to sl) Depth _ next u₂.1 in
    let u₄ = unless-ok (parts_no_pair ts (from ∷ to ∷ [])) Pair _ next u₃.1 in
    let u₅ = unless-ok (joins (compatible s) [] (spliced ts from to sl)) Join (checked s (with_tokens d (plain (spliced ts from to sl)))) next u₄.1 in
    let o = and_parts (nat_le from to) (nat_le to (length ts)) u₁.0 in
    let f = depths-of ts from to sl u₃.0 in
    let p = and_parts (not (parts_pair ts from)) (not (parts_pair ts to) && true) u₄.0 in
    let q = and_parts (not (parts_pair ts to)) true p.1 in
    let e = (checked-ok s (with_tokens d (plain (spliced ts from to sl))) next u₅.1).0 in
    record {
      slice = slice-is sl u₀.0;
      ordered = leb-true from to o.0;
      within = leb-true to (length ts) o.1;
      start_fits = f.0;
      end_fits = f.1;
      pair_from = not-true (parts_pair ts from) p.0;
      pair_to = not-true (parts_pair ts to) q.0;
      joined = u₅.0;
      is = e;
      checks = subst (λ z. checked s z ≡ Ok next) (sym e) u₅.1;
    }

module _ (s : Schema) (from to : ℕ) (sl : Slice) (d next : Doc) (v : Valid s d) (r : Replaced s from to sl d next) where
  w : IsSlice sl
  w = r.slice

  abbrev ts : List Token
  ts = d.tokens

  abbrev a : List Token
  a = take from ts

  abbrev x : List Token
  x = part from to ts

  abbrev b : List Token
  b = drop to ts

  abbrev m : List Token
  m = slice_tokens sl

  abbrev st : List ℕ
  st = slice_stack sl

  abbrev far : ℕ
  far = from + slice_size sl

  old : Split ts a x b from to
  old = split-at ts from to r.ordered r.within

  o : Stands a x [] [] b
  o = stands a x [] [] b nothing (subst Whole old.is (whole-of ts v.whole))

  abbrev was : List ℕ
  was = unclosed (unclosed [] a) x

  abbrev now : List ℕ
  now = unclosed (unclosed [] a) m

  splice-is : spliced ts from to sl ≡ owned [] a ++ (owned st m ++ owned was b)
  splice-is =
      ap (λ z. z ++ (slice_owned sl ++ drop to (owned [] ts))) (owned-front old)
      ∙ (ap (λ z. owned [] a ++ (z ++ drop to (owned [] ts))) (slice-owned-is sl) ∙ ap (λ z. owned [] a ++ (owned st m ++ z)) (owned-back old))

  three-plain : (s₁ s₂ : List ℕ) (p : List Token) → plain (owned [] a ++ (owned s₁ p ++ owned s₂ b)) ≡ a ++ (p ++ b)
  three-plain s₁ s₂ p =
      plain-append (owned [] a) (owned s₁ p ++ owned s₂ b)
      ∙ (ap (λ z. z ++ plain (owned s₁ p ++ owned s₂ b)) (plain-owned [] a)
      ∙ (ap (λ z. a ++ z) (plain-append (owned s₁ p) (owned s₂ b))
      ∙ (ap (λ z. a ++ (z ++ plain (owned s₂ b))) (plain-owned s₁ p) ∙ ap (λ z. a ++ (p ++ z)) (plain-owned s₂ b))))

  abbrev after : Doc
  after = with_tokens d (a ++ (m ++ b))

  pub next-is : next ≡ after
  next-is = r.is ∙ ap (with_tokens d) (ap plain splice-is ∙ three-plain st was m)

  f : Went (compatible s) a x [] [] b m [] st nothing
  f = went (compatible s) a x [] [] b m [] st nothing (subst (λ z. joins (compatible s) [] z ≡ true) splice-is r.joined)

  start-fits : sl.open_start ≤ length (unclosed [] a)
  start-fits = subst (λ n. sl.open_start ≤ n) (depth-from old) r.start_fits

  end-fits : length (unclosed [] a) + sl.open_end ≡ length was + sl.open_start
  end-fits = omega (arith, r.end_fits, depth-from old, depth-to old)

  l : length now ≡ length was
  l = same-level (compatible s) a x [] [] b m [] st nothing sl.open_start sl.open_end f (omega (arith, slice-counts sl w)) end-fits

  -- a replace that applies gives a valid document
  pub replace-valid : Valid s next
  replace-valid = checks-valid s next (subst (λ z. is_whole z.tokens ≡ true) (sym next-is) (of-whole (a ++ (m ++ b)) (whole-after (compatible s) a x [] [] b m [] st nothing o f l))) r.checks

  new : Split (a ++ (m ++ b)) a m b from far
  new = record { is = refl; at_from = old.at_from; at_to = omega (arith, slice-length sl w) }

  pub replace-length : length next.tokens + (to - from) ≡ length ts + slice_size sl
  replace-length = omega (arith, r.ordered, ap (λ z. length z.tokens) next-is, split-length new, split-length old)

  x-nil : x ≡ x ++ []
  x-nil = sym (append-nil x)

  my : unmet (length (unclosed (unclosed [] a) x)) [] ≡ 0
  my = refl

  n-within : unmet 0 x ≤ length (unclosed [] a)
  n-within = cut-within a x [] x x-nil o.met_x my

  abbrev c : Slice
  c = cut ts from to

  pub replace-cut-size : slice_size (cut ts from to) ≡ to - from
  replace-cut-size = omega (arith, cut-size a x n-within, old.at_to)

  abbrev t : List ℕ
  t = take (unmet 0 x) (unclosed [] a)

  back-is : spliced (a ++ (m ++ b)) from far c ≡ owned [] a ++ (owned t x ++ owned now b)
  back-is =
      ap (λ z. z ++ (slice_owned c ++ drop far (owned [] (a ++ (m ++ b))))) (owned-front new)
      ∙ (ap (λ z. owned [] a ++ (z ++ drop far (owned [] (a ++ (m ++ b))))) (cut-owned a x n-within) ∙ ap (λ z. owned [] a ++ (owned t x ++ z)) (owned-back new))

  ends : (ends_high a ≡ false) × (starts_low (x ++ b) ≡ false)
  ends = pair-free s d a (x ++ b) v old.is (sym (ap (λ z. ends_high a && starts_low z) (split-rest old)) ∙ r.pair_from)

  starts : (ends_high (a ++ x) ≡ false) × (starts_low b ≡ false)
  starts = pair-free s d (a ++ x) b v (old.is ∙ sym (append_assoc a x b)) (sym (ap (λ z. ends_high z && starts_low b) (split-fronts old)) ∙ r.pair_to)

  -- the inverse applies to the result, and gives the document back
  restored : outcome s (replace_back d from to sl) after ≡ Ok d
  restored =
      let n = length (a ++ (m ++ b)) in
      known-made s (replace_back d from to sl) after (cut-known s d a x (x ++ b) v old.is n-within) ∙
      ok-unless (is_slice c) Range _ d (cut-slice a x n-within)
      (ok-unless (in_order (from ∷ far ∷ []) n) Range _ d
      (and_from (nat_le from far) (nat_le far n) (le-leb from far (omega arith)) (le-leb far n (omega (arith, split-length new))))
      (ok-unless (depths_fit (a ++ (m ++ b)) from far c) Depth _ d
      (of-depths (a ++ (m ++ b)) from far c
      (omega (arith, n-within, depth-from new))
      (omega (arith, depth-from new, depth-to new, l, cut-level a x [] x x-nil o.met_x my)))
      (ok-unless (parts_no_pair (a ++ (m ++ b)) (from ∷ far ∷ [])) Pair _ d
      (and_from (not (parts_pair (a ++ (m ++ b)) from)) (not (parts_pair (a ++ (m ++ b)) far) && true)
      (no-pair-at (a ++ (m ++ b)) a (m ++ b) from (split-front new) (split-rest new) (no-left a (m ++ b) ends.0))
      (and_from (not (parts_pair (a ++ (m ++ b)) far)) true (no-pair-at (a ++ (m ++ b)) (a ++ m) b far (split-fronts new) (split-back new) (no-right (a ++ m) b starts.1)) refl))
      (ok-unless (joins (compatible s) [] (spliced (a ++ (m ++ b)) from far c)) Join _ d
      (subst (λ z. joins (compatible s) [] z ≡ true) (sym back-is)
      (back-joins (compatible s) a x [] [] b m [] st nothing (compatible-itself s) (compatible-both s) t f o.met_a o.met_x my l (cut-first a x [] x x-nil o.met_x my) refl))
      (subst (λ z. checked s (with_tokens after z) ≡ Ok d) (old.is ∙ sym (ap plain back-is ∙ three-plain t now x)) (valid-checks s d v))))))

  pub replace-restored : outcome s (replace_back d from to sl) next ≡ Ok d
  replace-restored = subst (λ z. outcome s (replace_back d from to sl) z ≡ Ok d) (sym next-is) restored
