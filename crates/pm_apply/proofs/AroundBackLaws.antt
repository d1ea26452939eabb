-- The part of a content around a gap as a slice, made of the whole part by taking the gap out.
use Rattle.std.specs.Prelude.{◌≡◌, ℕ, ◌+◌, ◌-◌, ◌≤◌, Bool, true, false, cond, ◌==◌, List, [], ◌∷◌, ◌++◌, length, take, drop, reverse, replicate}
use Rattle.std.proofs.Common.{refl, ap, sym, ◌∙◌, subst, arith, append_assoc, length-append, length-take}
use Rattle.std.proofs.lemmas.Bool.{eqb-true}
use Rattle.std.proofs.lemmas.List.{length-reverse}
use Rattle.pm_tokens.specs.Tokens.{Token, Close}
use Rattle.pm_tokens.specs.Scan.{Balanced, unclosed, unmet, is_whole, owned, plain, joins, part, around}
use Rattle.pm_tokens.specs.Schemas.{Schema, compatible}
use Rattle.pm_tokens.specs.Slices.{Slice, is_slice, content_end, slice_size, slice_tokens, spliced, cut, cut_around, closed_over, depths_fit}
use Rattle.pm_tokens.proofs.ScanLaws.{Whole, whole-of, unmet-append, unclosed-append, unmet-from, unclosed-whole, owned-append, plain-owned}
use Rattle.pm_tokens.proofs.BalanceLaws.{balanced-whole, whole-balanced, joins-balanced}
use Rattle.pm_tokens.proofs.SchemaLaws.{compatible-itself}
use Rattle.pm_tokens.proofs.CutLaws.{around-length}
use Rattle.pm_tokens.proofs.PartLaws.{Split, split-part, owned-front, owned-back, depth-from, depth-to, slice-is, cut-slice, cut-size, Pieces, pieces-at}
use Rattle.pm_tokens.proofs.SpliceLaws.{part-front, part-rest}
use Rattle.pm_tokens.proofs.Restored.{cut-within, Stands, stands}
use Rattle.pm_meaning.proofs.ReplaceLaws.{of-depths}
use Rattle.pm_slice.specs.Sides.{sides, no_slice, or_none}

no-tokens : (xs : List Token) → length xs ≡ 0 → xs ≡ []
no-tokens [] h = refl
no-tokens (x ∷ xs) h = absurd (omega (arith, h))

-- of the slices without tokens, a cut is the empty one
module _ (before ts : List Token) (h : unmet 0 ts ≤ length (unclosed [] before)) where
  pub cut-one : closed_over before ts ≡ or_none (closed_over before ts)
  cut-one = by (slice_size (closed_over before ts) == 0) refl
    where
      by : (b : Bool) → (slice_size (closed_over before ts) == 0) ≡ b → closed_over before ts ≡ cond b no_slice (closed_over before ts)
      by true e =
          let n : length ts ≡ 0 = sym (cut-size before ts h) ∙ eqb-true (slice_size (closed_over before ts)) 0 e in
          ap (closed_over before) (no-tokens ts n)
      by false e = refl

module _ (ts : List Token) (from gf gt to : ℕ) (b : Balanced ts) (h : from ≤ gf) (i : gf ≤ gt) (j : gt ≤ to) (k : to ≤ length ts) (w : is_whole (part gf gt ts) ≡ true) where
  abbrev a : List Token
  a = take from ts

  abbrev x : List Token
  x = part from gf ts

  abbrev g : List Token
  g = part gf gt ts

  abbrev y : List Token
  y = part gt to ts

  abbrev rest : List Token
  rest = drop to ts

  five : Pieces ts a x g y rest from gf gt to
  five = pieces-at ts from gf gt to h i j k

  wg : Whole g
  wg = whole-of g w

  st : Stands a x g y rest
  st = stands a x g y rest wg (subst Whole five.is (balanced-whole b))

  abbrev n : ℕ
  n = unmet 0 (x ++ y)

  pub around-within : n ≤ length (unclosed [] a)
  around-within = cut-within a x y (x ++ y) refl st.met_x st.met_y

  -- ---- the whole part

  all : Split ts a (x ++ (g ++ y)) rest from to
  all = record {
    is = five.is ∙ ap (λ z. a ++ z) (ap (λ z. x ++ z) (sym (append_assoc g y rest)) ∙ sym (append_assoc x (g ++ y) rest));
    at_from = five.at_from;
    at_to = omega (arith, five.at_gap, five.at_end, five.at_to, length-append x (g ++ y), length-append g y);
  }

  unmet-gap : unmet 0 (x ++ (g ++ y)) ≡ n
  unmet-gap =
      let u = unclosed [] x in
      let e : length (unclosed u g) ≡ length u = ap length (unclosed-whole u g wg) in
      let c : unmet (length (unclosed u g)) y ≡ unmet (length u) y = ap (λ z. unmet z y) e in
      omega (arith, unmet-append [] x (g ++ y), unmet-append u g y, unmet-append [] x y, unmet-from (length u) g, wg.met, c)

  unclosed-gap : unclosed [] (x ++ (g ++ y)) ≡ unclosed [] (x ++ y)
  unclosed-gap =
      unclosed-append [] x (g ++ y) ∙ (unclosed-append (unclosed [] x) g y
      ∙ (ap (λ z. unclosed z y) (unclosed-whole (unclosed [] x) g wg) ∙ sym (unclosed-append [] x y)))

  -- a cut with these sides
  abbrev form : ℕ → ℕ → List Token → Slice
  form m e zs = record { content = reverse (take m (around [] a)) ++ (zs ++ replicate e Close); open_start = m; open_end = e }

  abbrev e : ℕ
  e = length (unclosed [] (x ++ y))

  abbrev pub around_whole : Slice
  around_whole = form n e (x ++ (g ++ y))

  pub whole-is : cut ts from to ≡ around_whole
  whole-is =
      ap (closed_over a) (split-part all)
      ∙ (ap (λ m. form m (length (unclosed [] (x ++ (g ++ y)))) (x ++ (g ++ y))) unmet-gap ∙ ap (λ u. form n (length u) (x ++ (g ++ y))) unclosed-gap)

  -- ---- without the gap

  abbrev o : List Token
  o = reverse (take n (around [] a))

  o-length : length o ≡ n
  o-length = omega (arith, around-within, length-reverse (take n (around [] a)), length-take n (around [] a), around-length [] [] a refl)

  abbrev c : List Token
  c = o ++ ((x ++ (g ++ y)) ++ replicate e Close)

  abbrev r : List Token
  r = y ++ replicate e Close

  gap : Split c (o ++ x) g r (n + (gf - from)) (n + (gf - from) + (gt - gf))
  gap = record {
    is = ap (λ z. o ++ z) (append_assoc x (g ++ y) (replicate e Close) ∙ ap (λ z. x ++ z) (append_assoc g y (replicate e Close))) ∙ sym (append_assoc o x (g ++ r));
    at_from = omega (arith, length-append o x, o-length, five.at_gap);
    at_to = omega (arith, five.at_end);
  }

  pub gap-within : n + (gf - from) + (gt - gf) ≤ length c
  gap-within = omega (arith, ap length gap.is, length-append (o ++ x) (g ++ r), length-append g r, gap.at_from, gap.at_to)

  pub gap-fits : depths_fit c (n + (gf - from)) (n + (gf - from) + (gt - gf)) no_slice ≡ true
  gap-fits =
      let s = n + (gf - from) in
      let l : length (unclosed (unclosed [] (o ++ x)) g) ≡ length (unclosed [] (o ++ x)) = ap length (unclosed-whole (unclosed [] (o ++ x)) g wg) in
      of-depths c s (s + (gt - gf)) no_slice (omega arith) (omega (arith, depth-from gap, depth-to gap, l))

  without : (o ++ x) ++ r ≡ (cut_around ts from to gf gt).content
  without = append_assoc o x r ∙ ap (λ z. o ++ z) (sym (append_assoc x y (replicate e Close)))

  abbrev piece : List Token
  piece = (cut_around ts from to gf gt).content

  spliced-is : spliced c (n + (gf - from)) (n + (gf - from) + (gt - gf)) no_slice ≡ owned [] piece
  spliced-is =
      let u = unclosed [] (o ++ x) in
      ap (λ z. z ++ drop (n + (gf - from) + (gt - gf)) (owned [] c)) (owned-front gap)
      ∙ (ap (λ z. owned [] (o ++ x) ++ z) (owned-back gap ∙ ap (λ z. owned z r) (unclosed-whole u g wg))
      ∙ (sym (owned-append [] (o ++ x) r) ∙ ap (owned []) without))

  pub gap-joins : (s : Schema) → joins (compatible s) [] (spliced c (n + (gf - from)) (n + (gf - from) + (gt - gf)) no_slice) ≡ true
  gap-joins s =
      let t = slice-is (cut_around ts from to gf gt) (cut-slice a (x ++ y) around-within) in
      ap (joins (compatible s) []) spliced-is ∙ joins-balanced (compatible s) (compatible-itself s) [] [] (whole-balanced piece (whole-of piece t.whole))

  pub gap-out : plain (spliced c (n + (gf - from)) (n + (gf - from) + (gt - gf)) no_slice) ≡ piece
  gap-out = ap plain spliced-is ∙ plain-owned [] piece

  pub around-slice : is_slice (cut_around ts from to gf gt) ≡ true
  around-slice = cut-slice a (x ++ y) around-within

  pub around-one : cut_around ts from to gf gt ≡ or_none (cut_around ts from to gf gt)
  around-one = cut-one a (x ++ y) around-within

  -- ---- the same for a slice that is the whole part

  module _ (sl : Slice) (q : sl ≡ cut ts from to) (os oe : ℕ) (inner : List Token) (eo : os ≡ sl.open_start) (ee : oe ≡ sl.open_end) (ei : inner ≡ sl.content) where
    as-whole : sl ≡ around_whole
    as-whole = q ∙ whole-is

    start-is : os ≡ n
    start-is = eo ∙ ap (λ z. z.open_start) as-whole

    end-is : oe ≡ e
    end-is = ee ∙ ap (λ z. z.open_end) as-whole

    inner-is : inner ≡ c
    inner-is = ei ∙ ap (λ z. z.content) as-whole

    pub out-within : (os + (gf - from)) + (gt - gf) ≤ length inner
    out-within = omega (arith, gap-within, start-is, ap length inner-is)

    pub out-fits : depths_fit inner (os + (gf - from)) ((os + (gf - from)) + (gt - gf)) no_slice ≡ true
    out-fits =
        ap (λ z. depths_fit z (os + (gf - from)) ((os + (gf - from)) + (gt - gf)) no_slice) inner-is
        ∙ (ap (λ z. depths_fit c (z + (gf - from)) ((z + (gf - from)) + (gt - gf)) no_slice) start-is ∙ gap-fits)

    out-piece : spliced inner (os + (gf - from)) ((os + (gf - from)) + (gt - gf)) no_slice ≡ spliced c (n + (gf - from)) (n + (gf - from) + (gt - gf)) no_slice
    out-piece =
        ap (λ z. spliced z (os + (gf - from)) ((os + (gf - from)) + (gt - gf)) no_slice) inner-is
        ∙ ap (λ z. spliced c (z + (gf - from)) ((z + (gf - from)) + (gt - gf)) no_slice) start-is

    pub out-joins : (s : Schema) → joins (compatible s) [] (spliced inner (os + (gf - from)) ((os + (gf - from)) + (gt - gf)) no_slice) ≡ true
    out-joins s = ap (joins (compatible s) []) out-piece ∙ gap-joins s

    pub out-is : (made : List Token) → made ≡ plain (spliced inner (os + (gf - from)) ((os + (gf - from)) + (gt - gf)) no_slice) → sides made os oe ≡ cut_around ts from to gf gt
    out-is made k =
        ap (λ z. sides z os oe) (k ∙ (ap plain out-piece ∙ gap-out))
        ∙ (ap (λ z. sides piece z oe) start-is ∙ ap (sides piece n) end-is)

    pub out-slice : (made : List Token) → made ≡ plain (spliced inner (os + (gf - from)) ((os + (gf - from)) + (gt - gf)) no_slice) → is_slice (sides made os oe) ≡ true
    out-slice made k = ap is_slice (out-is made k) ∙ around-slice

    pub out-one : (made : List Token) (made-slice : Slice) → made ≡ plain (spliced inner (os + (gf - from)) ((os + (gf - from)) + (gt - gf)) no_slice) → made-slice ≡ or_none (sides made os oe)
        → made-slice ≡ cut_around ts from to gf gt
    out-one made made-slice k h = h ∙ (ap or_none (out-is made k) ∙ sym around-one)

-- ---- the two parts of a slice's own tokens

module _ (sl : Slice) (h : is_slice sl ≡ true) (insert : ℕ) (i : insert ≤ slice_size sl) where
  pub insert-first : part sl.open_start (sl.open_start + insert) sl.content ≡ take insert (slice_tokens sl)
  insert-first = sym (part-front insert sl.open_start (content_end sl) sl.content (omega (arith, i, (slice-is sl h).within)))

  pub insert-rest : part (sl.open_start + insert) (sl.open_start + slice_size sl) sl.content ≡ drop insert (slice_tokens sl)
  insert-rest =
      let e : sl.open_start + slice_size sl ≡ content_end sl = omega (arith, (slice-is sl h).within) in
      ap (λ z. part (sl.open_start + insert) z sl.content) e ∙ sym (part-rest insert sl.open_start (content_end sl) sl.content)
