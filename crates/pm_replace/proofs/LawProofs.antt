-- The laws of replacing.
use Rattle.std.specs.Prelude.{◌≡◌, ℕ, ◌≤◌, true, false, List, [], ◌++◌, length, take, drop, Ok}
use Rattle.std.proofs.lemmas.List.{append-nil, take-append-drop}
use Rattle.std.proofs.Common.{refl, ap, sym, ◌∙◌, subst, arith}
use Rattle.pm_tokens.specs.Tokens.{Token, Doc, with_tokens}
use Rattle.pm_tokens.specs.Scan.{unclosed, unmet, owned, plain, joins, part, parts_pair}
use Rattle.pm_tokens.specs.Schemas.{Schema, compatible}
use Rattle.pm_tokens.specs.Slices.{Slice, is_slice, slice_owned, cut, spliced, depths_fit}
use Rattle.pm_tokens.specs.Faults.{Valid}
use Rattle.pm_tokens.proofs.ScanLaws.{Whole, whole-of, owned-append, plain-owned}
use Rattle.pm_tokens.proofs.BalanceLaws.{whole-balanced, joins-balanced}
use Rattle.pm_tokens.proofs.SchemaLaws.{compatible-itself}
use Rattle.pm_tokens.proofs.PartLaws.{Split, split-at, owned-front, owned-back, depth-from, depth-to, cut-slice, cut-owned}
use Rattle.pm_tokens.proofs.Restored.{cut-within, cut-first, cut-level, Stands, stands, nothing}
use Rattle.pm_slice.specs.Sides.{no_slice}
use Rattle.pm_meaning.specs.Steps.{Replace}
use Rattle.pm_meaning.specs.Outcomes.{checked, made, outcome}
use Rattle.pm_meaning.proofs.OutcomeLaws.{valid-checks, known-made}
use Rattle.pm_meaning.proofs.KnownLaws.{cut-known}
use Rattle.pm_meaning.proofs.ReplaceLaws.{of-depths, replaced, next-is, replace-valid, replace-restored}
use Rattle.pm_meaning.proofs.AroundLaws.{moved, around-restored}
use Rattle.pm_replace.specs.Laws.{KeepsTheRest, StaysValid, CutGivesBack, NothingGivesBack, PutsBack, AroundPutsBack}
use Rattle.pm_replace.proofs.OutcomeAnswers.{then-checked}

pub keeps-the-rest : (s : Schema) → KeepsTheRest s
keeps-the-rest s = λ d next from to sl structure v h. next-is s from to sl d next v (replaced s from to sl structure d next h)

pub stays-valid : (s : Schema) → StaysValid s
stays-valid s = λ d next from to sl structure v h. replace-valid s from to sl d next v (replaced s from to sl structure d next h)

pub puts-back : (s : Schema) → PutsBack s
puts-back s = λ d next from to sl structure v h. replace-restored s from to sl d next v (replaced s from to sl structure d next h)

pub around-puts-back : (s : Schema) → AroundPutsBack s
around-puts-back s = λ d next from to gf gt sl insert structure v h.
    (refl, around-restored s from to gf gt sl insert structure d next v (moved s from to gf gt sl insert structure d next h))

-- where the spliced list is the document's own, the document comes back
module _ (s : Schema) (d : Doc) (v : Valid s d) (from to : ℕ) (sl : Slice) (h : from ≤ to) (i : to ≤ length d.tokens) (p : parts_pair d.tokens from ≡ false) (q : parts_pair d.tokens to ≡ false) where
  given-back : is_slice sl ≡ true → depths_fit d.tokens from to sl ≡ true → spliced d.tokens from to sl ≡ owned [] d.tokens → made s (Replace from to sl false) d ≡ Ok d
  given-back w f e =
      let joined : joins (compatible s) [] (spliced d.tokens from to sl) ≡ true =
      ap (joins (compatible s) []) e ∙ joins-balanced (compatible s) (compatible-itself s) [] [] (whole-balanced d.tokens (whole-of d.tokens v.whole)) in
      then-checked s d from to sl w h i f p q joined ∙ (ap (λ z. checked s (with_tokens d z)) (ap plain e ∙ plain-owned [] d.tokens) ∙ valid-checks s d v)

module _ (s : Schema) (d : Doc) (from to : ℕ) (v : Valid s d) (h : from ≤ to) (i : to ≤ length d.tokens) where
  abbrev ts : List Token
  ts = d.tokens

  abbrev a : List Token
  a = take from ts

  abbrev x : List Token
  x = part from to ts

  abbrev b : List Token
  b = drop to ts

  abbrev c : Slice
  c = cut ts from to

  abbrev k : List ℕ
  k = unclosed [] a

  split : Split ts a x b from to
  split = split-at ts from to h i

  o : Stands a x [] [] b
  o = stands a x [] [] b nothing (subst Whole split.is (whole-of ts v.whole))

  x-nil : x ≡ x ++ []
  x-nil = sym (append-nil x)

  none : unmet (length (unclosed k x)) [] ≡ 0
  none = refl

  within : unmet 0 x ≤ length k
  within = cut-within a x [] x x-nil o.met_x none

  fits : depths_fit ts from to c ≡ true
  fits = of-depths ts from to c (omega (arith, within, depth-from split)) (omega (arith, depth-from split, depth-to split, cut-level a x [] x x-nil o.met_x none))

  whole-again : owned [] a ++ (owned k x ++ owned (unclosed k x) b) ≡ owned [] ts
  whole-again =
      ap (λ z. owned [] a ++ z) (sym (owned-append k x b))
      ∙ (sym (owned-append [] a (x ++ b)) ∙ ap (owned []) (sym split.is))

  same : spliced ts from to c ≡ owned [] ts
  same =
      ap (λ z. z ++ (slice_owned c ++ drop to (owned [] ts))) (owned-front split)
      ∙ (ap (λ z. owned [] a ++ (z ++ drop to (owned [] ts))) (cut-owned a x within ∙ cut-first a x [] x x-nil o.met_x none)
      ∙ (ap (λ z. owned [] a ++ (owned k x ++ z)) (owned-back split) ∙ whole-again))

  cut-back : parts_pair ts from ≡ false → parts_pair ts to ≡ false → outcome s (Replace from to c false) d ≡ Ok d
  cut-back p q = known-made s (Replace from to c false) d (cut-known s d a x (x ++ b) v split.is within) ∙ given-back s d v from to c h i p q (cut-slice a x within) fits same

pub cut-gives-back : (s : Schema) → CutGivesBack s
cut-gives-back s = λ d from to v h i p q. cut-back s d from to v h i p q

pub nothing-gives-back : (s : Schema) → NothingGivesBack s
nothing-gives-back s = λ d at v h p.
    let f : depths_fit d.tokens at at no_slice ≡ true = of-depths d.tokens at at no_slice (omega arith) refl in
    let e : spliced d.tokens at at no_slice ≡ owned [] d.tokens = take-append-drop at (owned [] d.tokens) in
    let r : at ≤ at = omega arith in
    known-made s (Replace at at no_slice false) d refl ∙ given-back s d v at at no_slice r h p p refl f e
