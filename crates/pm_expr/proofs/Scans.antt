-- How the tokens of a text follow from its bytes.
use Rattle.std.proofs.Common.{◌≡◌, ℕ, ◌+◌, ◌-◌, ◌<◌, ◌≤◌, List, [], ◌∷◌, ◌++◌, length, drop, take, get_or, Bool, true, false, ◌||◌, eqb, Some, refl, ap, sym, ◌∙◌, subst, arith, inl, inr, ◌⊎◌, add-one, add-zero, drop-cons, length-drop, length-take}
use Rattle.std.specs.Prelude.{slice_range}
use Rattle.std.proofs.lemmas.Bool.{eqb-true}
use Rattle.std.proofs.lemmas.List.{take_more, get_or-drop}
use Rattle.std.proofs.Math.Seq.{drop-length}
use Rattle.pm_auto.proofs.Orders.{le_or_lt}
use Rattle.pm_expr.specs.Tokens.{Token, is_blank, in_run, inside_after, sign, completed, tokens_from}

pub drop-one : (text : List ℕ) (i : ℕ) → i < length text → drop i text ≡ get_or text i 0 ∷ drop (i + 1) text
drop-one text i h = drop-cons text i 0 h ∙ ap (λ z. get_or text i 0 ∷ drop z text) (sym (add-one i))

-- one byte more of a run
run-goes : (inside : Bool) (at : ℕ) (run : List ℕ) (b : ℕ) (bytes : List ℕ) → in_run inside b ≡ true → tokens_from inside at run (b ∷ bytes) ≡ tokens_from inside at (run ++ b ∷ []) bytes
run-goes inside at run b bytes e = rw e refl

pub run-goes-at : (inside : Bool) (at : ℕ) (run text : List ℕ) (i : ℕ) → i < length text → in_run inside (get_or text i 0) ≡ true
    → tokens_from inside at run (drop i text) ≡ tokens_from inside at (run ++ get_or text i 0 ∷ []) (drop (i + 1) text)
run-goes-at inside at run text i h e = ap (λ z. tokens_from inside at run z) (drop-one text i h) ∙ run-goes inside at run (get_or text i 0) (drop (i + 1) text) e

pub range-more : (text : List ℕ) (at i : ℕ) → at ≤ i → i < length text → slice_range text at (i + 1) ≡ slice_range text at i ++ get_or text i 0 ∷ []
range-more text at i h l =
    let e : (i + 1) - at ≡ (i - at) + 1 = omega arith in
    let f : at + (i - at) ≡ i = omega arith in
    let k : i - at < length (drop at text) = omega (arith, length-drop at text) in
    ap (λ z. take z (drop at text)) e
    ∙ take_more (drop at text) (i - at) 0 k
    ∙ ap (λ z. take (i - at) (drop at text) ++ z ∷ []) (get_or-drop at text (i - at) 0 ∙ ap (λ z. get_or text z 0) f)

pub length-range : (text : List ℕ) (at to : ℕ) → at ≤ to → to ≤ length text → length (slice_range text at to) ≡ to - at
length-range text at to h l = omega (arith, length-take (to - at) (drop at text), length-drop at text)

-- the run is complete
run-ends : (inside : Bool) (at : ℕ) (run : List ℕ) (b : ℕ) (bytes : List ℕ) → in_run inside b ≡ false
    → tokens_from inside at run (b ∷ bytes) ≡ completed inside at run (tokens_from inside (at + length run) [] (b ∷ bytes))
run-ends inside at run b bytes e = rw (e, add-zero (at + length run)) refl

pub run-ends-at : (inside : Bool) (at : ℕ) (run text : List ℕ) (i : ℕ) → i ≤ length text → (i < length text → in_run inside (get_or text i 0) ≡ false)
    → tokens_from inside at run (drop i text) ≡ completed inside at run (tokens_from inside (at + length run) [] (drop i text))
run-ends-at inside at run text i l f = cases (le_or_lt (length text) i)
  where
    cases : (length text ≤ i) ⊎ (i < length text) → tokens_from inside at run (drop i text) ≡ completed inside at run (tokens_from inside (at + length run) [] (drop i text))
    cases (inl h) =
        let e : i ≡ length text = omega arith in
        let d : drop i text ≡ [] = ap (λ z. drop z text) e ∙ drop-length text in
        rw d refl
    cases (inr h) = rw (drop-one text i h) (run-ends inside at run (get_or text i 0) (drop (i + 1) text) (f h))

or-cases : (a b : Bool) → a || b ≡ true → (a ≡ true) ⊎ (b ≡ true)
or-cases true b h = inl refl
or-cases false b h = inr h

blank-is : (b : ℕ) → is_blank b ≡ true → (P : ℕ → Type 0) → P 32 → P 9 → P 10 → P 13 → P b
blank-is b h P p q r s = one (or-cases (eqb b 32) (eqb b 9 || (eqb b 10 || eqb b 13)) h)
  where
    three : (eqb b 10 ≡ true) ⊎ (eqb b 13 ≡ true) → P b
    three (inl e) = subst P (sym (eqb-true b 10 e)) r
    three (inr e) = subst P (sym (eqb-true b 13 e)) s

    two : (eqb b 9 ≡ true) ⊎ (eqb b 10 || eqb b 13 ≡ true) → P b
    two (inl e) = subst P (sym (eqb-true b 9 e)) q
    two (inr e) = three (or-cases (eqb b 10) (eqb b 13) e)

    one : (eqb b 32 ≡ true) ⊎ (eqb b 9 || (eqb b 10 || eqb b 13) ≡ true) → P b
    one (inl e) = subst P (sym (eqb-true b 32 e)) p
    one (inr e) = two (or-cases (eqb b 9) (eqb b 10 || eqb b 13) e)

skips : (inside : Bool) (i b : ℕ) (bytes : List ℕ) → is_blank b ≡ true → tokens_from inside i [] (b ∷ bytes) ≡ tokens_from inside (i + 1) [] bytes
skips true i b bytes h =
    let e : tokens_from true (i + 0 + 1) [] bytes ≡ tokens_from true (i + 1) [] bytes = ap (λ z. tokens_from true (z + 1) [] bytes) (add-zero i) in
    blank-is b h (λ z. tokens_from true i [] (z ∷ bytes) ≡ tokens_from true (i + 1) [] bytes) e e e e
skips false i b bytes h =
    let e : tokens_from false (i + 0 + 1) [] bytes ≡ tokens_from false (i + 1) [] bytes = ap (λ z. tokens_from false (z + 1) [] bytes) (add-zero i) in
    blank-is b h (λ z. tokens_from false i [] (z ∷ bytes) ≡ tokens_from false (i + 1) [] bytes) e e e e

-- a blank is passed over
pub skips-at : (inside : Bool) (text : List ℕ) (i : ℕ) → i < length text → is_blank (get_or text i 0) ≡ true → tokens_from inside i [] (drop i text) ≡ tokens_from inside (i + 1) [] (drop (i + 1) text)
skips-at inside text i h e = ap (λ z. tokens_from inside i [] z) (drop-one text i h) ∙ skips inside i (get_or text i 0) (drop (i + 1) text) e

-- a single character
pub signs-at : (inside : Bool) (text : List ℕ) (i : ℕ) (t : Token) → i < length text → in_run inside (get_or text i 0) ≡ false → sign i (get_or text i 0) ≡ Some t
    → tokens_from inside i [] (drop i text) ≡ t ∷ tokens_from (inside_after inside (get_or text i 0)) (i + 1) [] (drop (i + 1) text)
signs-at inside text i t h e f = rw (drop-one text i h, e, add-zero i, f) refl
