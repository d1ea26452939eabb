-- The slices that candidates are, and their steps.
use Rattle.std.specs.Prelude.{◌≡◌, ℕ, ◌+◌, ◌-◌, ◌≤◌, ◌<◌, Bool, true, false, ◌&&◌, ◌==◌, if◌then◌else◌, nat_lt, nat_le, is_ok, Option, Some, None, List, [], ◌∷◌, ◌++◌, length, flat_map, Result, Ok, Err}
use Rattle.std.proofs.Common.{refl, ap, sym, ◌∙◌, arith, eq-eqb}
use Rattle.std.proofs.lemmas.Bool.{ne_eqb}
use Rattle.std.proofs.lemmas.Bool.Decides.{nat_tests}
use Rattle.pm_tokens.specs.Tokens.{Token, Doc}
use Rattle.pm_tokens.specs.Slices.{Slice}
use Rattle.pm_tokens.specs.Schemas as documents
use Rattle.pm_meaning.specs.declared.reason.Reason.{Reason}
use Rattle.pm_meaning.specs.Steps.{Replace}
use Rattle.pm_meaning.specs.Outcomes.{outcome}
use Rattle.pm_schema.specs.declared.spec.SchemaSpec.{SchemaSpec}
use Rattle.pm_fit.specs.Candidates.{Sided, Wrapped, with_side, in_wrapping}
use Rattle.pm_fit.specs.Wrappings.{in_nodes}
use Rattle.pm_fit.specs.Fits.{sided, wrapped, step_with}

-- a test that does not hold is false
not-true : (b : Bool) → (b ≡ true → ⊥) → b ≡ false
not-true true h = absurd (h refl)
not-true false h = refl

-- ---- slices

pub wrapped-some : (s : SchemaSpec) (ks : List ℕ) (content : List Token) → (length ks ≡ 0 → ⊥) → wrapped s (Some ks) content ≡ sided (in_nodes s ks content) 0 0
wrapped-some s [] content h = absurd (h refl)
wrapped-some s (k ∷ ks) content h = refl

-- ---- steps

module _ (s : documents.Schema) (d : Doc) (from to : ℕ) where
  pub step-none : (o : Option Slice) → o ≡ None → None ≡ step_with s d from to o
  step-none o e = sym (ap (step_with s d from to) e)

  pub step-ok : (sl : Slice) (next : Doc) → outcome s (Replace from to sl false) d ≡ Ok next → Some (Replace from to sl false) ≡ step_with s d from to (Some sl)
  step-ok sl next e = sym (ap (λ (r : Result Doc Reason). if is_ok r then Some (Replace from to sl false) else None) e)

  pub step-err : (sl : Slice) (reason : Reason) → outcome s (Replace from to sl false) d ≡ Err reason → None ≡ step_with s d from to (Some sl)
  step-err sl reason e = sym (ap (λ (r : Result Doc Reason). if is_ok r then Some (Replace from to sl false) else None) e)

-- ---- candidates

pub side-on : (m n : ℕ) (content : List Token) (a : ℕ) → m ≤ n + a → with_side m n content a ≡ Sided content a (n + a - m) ∷ []
side-on m n content a h =
    let yes : nat_le m (n + a) ≡ true = grind (arith, nat_tests) in
    ap (λ (t : Bool). if t then Sided content a (n + a - m) ∷ [] else []) yes

pub side-off : (m n : ℕ) (content : List Token) (a : ℕ) → n + a < m → with_side m n content a ≡ []
side-off m n content a h =
    let no : nat_le m (n + a) ≡ false = grind (arith, nat_tests) in
    ap (λ (t : Bool). if t then Sided content a (n + a - m) ∷ [] else []) no

both-tests : (x y : Bool) (content : List Token) → x ≡ true → y ≡ true → (if x && y then Wrapped content ∷ [] else []) ≡ Wrapped content ∷ []
both-tests true true content p q = refl
both-tests true false content p q = absurd (cc)
both-tests false y content p q = absurd (cc)

first-test : (x y : Bool) (content : List Token) → x ≡ false → (if x && y then Wrapped content ∷ [] else []) ≡ []
first-test true y content p = absurd (cc)
first-test false y content p = refl

second-test : (x y : Bool) (content : List Token) → y ≡ false → (if x && y then Wrapped content ∷ [] else []) ≡ []
second-test true true content p = absurd (cc)
second-test true false content p = refl
second-test false y content p = refl

pub wrap-some : (m n : ℕ) (sl : Slice) → m ≡ n → 0 < length sl.content → in_wrapping m n sl ≡ Wrapped sl.content ∷ []
wrap-some m n sl e h =
    let yes : nat_lt 0 (length sl.content) ≡ true = grind (arith, nat_tests) in
    both-tests (m == n) (nat_lt 0 (length sl.content)) sl.content (eq-eqb m n e) yes

pub wrap-none : (m n : ℕ) (sl : Slice) → length sl.content ≡ 0 → in_wrapping m n sl ≡ []
wrap-none m n sl h =
    let no : nat_lt 0 (length sl.content) ≡ false = grind (arith, nat_tests) in
    second-test (m == n) (nat_lt 0 (length sl.content)) sl.content no

pub wrap-apart : (m n : ℕ) → (m ≡ n → ⊥) → (sls : List Slice) → flat_map (in_wrapping m n) sls ≡ []
wrap-apart m n h [] = refl
wrap-apart m n h (sl ∷ sls) =
    let no : (m == n) ≡ false = ne_eqb m n h in
    ap (λ z. z ++ flat_map (in_wrapping m n) sls) (first-test (m == n) (nat_lt 0 (length sl.content)) sl.content no) ∙ wrap-apart m n h sls
