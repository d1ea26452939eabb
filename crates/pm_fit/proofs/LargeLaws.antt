-- A slice that is larger than a document, or that nests deeper, fits nowhere.
use Rattle.std.specs.Prelude.{◌≡◌, ℕ, zero, suc, ◌+◌, ◌-◌, ◌≤◌, ◌<◌, Bool, true, false, ◌==◌, if◌then◌else◌, is_ok, Some, None, List, [], ◌∷◌, ◌++◌, length, take, drop, Result, Ok, Err}
use Rattle.std.proofs.Common.{refl, ap, sym, subst, ◌∙◌, arith, append_assoc, length-append}
use Rattle.std.proofs.lemmas.Bool.{ne_eqb}
use Rattle.std.proofs.lemmas.List.{take_all}
use Rattle.pm_tokens.specs.Tokens.{Token, Open, Close, Leaf, CodeUnit, Doc}
use Rattle.pm_tokens.specs.Scan.{deepest}
use Rattle.pm_tokens.specs.Slices.{Slice, is_slice, slice_size, slice_tokens}
use Rattle.pm_tokens.specs.Schemas as documents
use Rattle.pm_tokens.specs.Faults.{Valid}
use Rattle.pm_tokens.proofs.DepthLaws.{deep-low, depths-bound}
use Rattle.pm_slice.specs.Sides.{sides, or_none, no_slice}
use Rattle.pm_schema.specs.declared.spec.SchemaSpec.{SchemaSpec}
use Rattle.pm_meaning.specs.declared.reason.Reason.{Reason}
use Rattle.pm_meaning.specs.Steps.{Replace}
use Rattle.pm_meaning.specs.Outcomes.{outcome}
use Rattle.pm_meaning.proofs.ReplaceLaws.{replaced, next-is, replace-valid}
use Rattle.pm_fit.specs.Fits.{sided, step_with}
use Rattle.pm_fit.specs.Wrappings.{in_nodes}
use Rattle.pm_fit.proofs.HollowLaws.{length-in_nodes}

-- no valid document has these tokens in place of from..to
module _ (s : documents.Schema) (d : Doc) (v : Valid s d) (from to : ℕ) (ts : List Token) (some : length ts ≡ 0 → ⊥)
    (unfit : (next : Doc) → Valid s next → next.tokens ≡ take from d.tokens ++ (ts ++ drop to d.tokens) → ⊥) where
  abbrev whole : Slice
  whole = sides ts 0 0

  own : slice_tokens whole ≡ ts
  own = let most : length ts ≤ length ts - 0 - 0 = omega arith in take_all (length ts - 0 - 0) ts most

  none-fits : (r : Result Doc Reason) → outcome s (Replace from to whole false) d ≡ r → (if is_ok r then Some (Replace from to whole false) else None) ≡ None
  none-fits (Err e) q = refl
  none-fits (Ok next) q =
      let made = replaced s from to whole false d next q in
      let valid = replace-valid s from to whole d next v made in
      let is = next-is s from to whole d next v made in
      absurd (unfit next valid (ap (λ (x : Doc). x.tokens) is ∙ ap (λ l. take from d.tokens ++ (l ++ drop to d.tokens)) own))

  some-own : or_none whole ≡ whole
  some-own =
      let no : (slice_size whole == 0) ≡ false = ne_eqb (slice_size whole) 0 (λ e. some (omega (arith, e))) in
      ap (λ (b : Bool). if b then no_slice else whole) no

  fits-none : None ≡ step_with s d from to (sided ts 0 0)
  fits-none = by (is_slice whole)
    where
      by : (b : Bool) → None ≡ step_with s d from to (if b then Some (or_none whole) else None)
      by false = refl
      by true = sym (ap (λ (x : Slice). step_with s d from to (Some x)) some-own ∙ none-fits (outcome s (Replace from to whole false) d) refl)

pub large-none : (s : documents.Schema) (d : Doc) → Valid s d → (from to : ℕ) (ts : List Token) → documents.max_size s < length ts → None ≡ step_with s d from to (sided ts 0 0)
large-none s d v from to ts large = fits-none s d v from to ts (λ e. omega (arith, large, e)) unfit
  where
    unfit : (next : Doc) → Valid s next → next.tokens ≡ take from d.tokens ++ (ts ++ drop to d.tokens) → ⊥
    unfit next valid is = omega (arith, large, ap length is, valid.size, length-append (take from d.tokens) (ts ++ drop to d.tokens), length-append ts (drop to d.tokens))

-- ---- nesting

deep-more : (d : ℕ) (ts : List Token) → deepest d ts ≤ deepest (suc d) ts
deep-more d [] = omega arith
deep-more d (Open k a m ∷ ts) = deep-more (suc d) ts
deep-more zero (Close ∷ ts) = omega arith
deep-more (suc d) (Close ∷ ts) = let i = deep-more d ts in omega (arith, i)
deep-more d (Leaf k a m ∷ ts) = deep-more d ts
deep-more d (CodeUnit u m ∷ ts) = deep-more d ts

deep-from : (d : ℕ) (ts : List Token) → deepest 0 ts ≤ deepest d ts
deep-from zero ts = omega arith
deep-from (suc d) ts = let i = deep-from d ts in let j = deep-more d ts in omega (arith, i, j)

-- what stands after a list is at least as deep there as by itself
deep-behind : (d : ℕ) (xs ys : List Token) → deepest 0 ys ≤ deepest d (xs ++ ys)
deep-behind d [] ys = deep-from d ys
deep-behind d (Open k a m ∷ xs) ys = deep-behind (suc d) xs ys
deep-behind zero (Close ∷ xs) ys = deep-behind zero xs ys
deep-behind (suc d) (Close ∷ xs) ys = let i = deep-behind d xs ys in omega (arith, i)
deep-behind d (Leaf k a m ∷ xs) ys = deep-behind d xs ys
deep-behind d (CodeUnit u m ∷ xs) ys = deep-behind d xs ys

module _ (spec : SchemaSpec) where
  deep-nodes : (d : ℕ) (ks : List ℕ) (ts zs : List Token) → d + length ks ≤ deepest d (in_nodes spec ks ts ++ zs)
  deep-nodes d [] ts zs = let i : d ≤ deepest d (in_nodes spec [] ts ++ zs) = deep-low d (ts ++ zs) in omega (arith, i)
  deep-nodes d (k ∷ ks) ts zs =
      let i : suc d + length ks ≤ deepest (suc d) (in_nodes spec ks ts ++ ((Close ∷ []) ++ zs)) = deep-nodes (suc d) ks ts ((Close ∷ []) ++ zs) in
      let e : (in_nodes spec ks ts ++ (Close ∷ [])) ++ zs ≡ in_nodes spec ks ts ++ ((Close ∷ []) ++ zs) = append_assoc (in_nodes spec ks ts) (Close ∷ []) zs in
      let j : suc d + length ks ≤ deepest d (in_nodes spec (k ∷ ks) ts ++ zs) = subst (λ l. suc d + length ks ≤ deepest (suc d) l) (sym e) i in
      omega (arith, j)

  -- a content in more nodes than may stand around a position
  pub deep-none : (s : documents.Schema) (d : Doc) → Valid s d → (from to : ℕ) (ks : List ℕ) (ts : List Token) → 48 < length ks
      → None ≡ step_with s d from to (sided (in_nodes spec ks ts) 0 0)
  deep-none s d v from to ks ts deep = fits-none s d v from to (in_nodes spec ks ts) (λ e. omega (arith, e, deep, length-in_nodes spec ks ts)) unfit
    where
      unfit : (next : Doc) → Valid s next → next.tokens ≡ take from d.tokens ++ (in_nodes spec ks ts ++ drop to d.tokens) → ⊥
      unfit next valid is =
          let bound : deepest 0 next.tokens ≤ 48 = depths-bound 48 next.tokens valid.depth in
          let here : deepest 0 (take from d.tokens ++ (in_nodes spec ks ts ++ drop to d.tokens)) ≤ 48 = subst (λ l. deepest 0 l ≤ 48) is bound in
          let i = deep-behind 0 (take from d.tokens) (in_nodes spec ks ts ++ drop to d.tokens) in
          let j = deep-nodes 0 ks ts (drop to d.tokens) in
          omega (arith, deep, here, i, j)
