-- Anchors within a document, looked at one after another.
use Rattle.std.specs.Prelude.{◌≡◌, ◌↔◌, ℕ, ◌+◌, ◌≤◌, ◌<◌, suc, true, false, List, [], ◌∷◌, length, drop, refl}
use Rattle.std.proofs.Common.{arith, ap, sym, subst, ◌∙◌, get_or}
use Rattle.std.proofs.Math.Seq.{drop-cons}
use Rattle.std.proofs.lemmas.Bool.{true≢false}
use Rattle.pm_client.specs.declared.cursors.Cursor.{Cursor}
use Rattle.pm_client.specs.Cursors.{AreWithin}

-- those that were looked at are within it
abbrev pub SoFar : ℕ → List Cursor → ℕ → Type 0
SoFar size cs i = AreWithin size (drop i cs) ↔ AreWithin size cs

module _ (size : ℕ) (cs : List Cursor) (i : ℕ) (a : Cursor) (l : i < length cs) (is : a ≡ get_or cs i a) (was : SoFar size cs i) where
  at : drop i cs ≡ a ∷ drop (suc i) cs
  at = drop-cons cs i a l ∙ ap (λ x. x ∷ drop (suc i) cs) (sym is)

  pub one-within : a.pos ≤ size → SoFar size cs (i + 1)
  one-within h =
      let one : suc i ≡ i + 1 = omega arith in
      subst (SoFar size cs) one (
        λ rest. was.0 (subst (AreWithin size) (sym at) (h, rest)),
        λ all. (subst (AreWithin size) at (was.1 all)).1,
      )

  pub one-beyond : size < a.pos → (false ≡ true) ↔ AreWithin size cs
  one-beyond h = (
    λ e. absurd (true≢false (sym e)),
    λ all. let b : a.pos ≤ size = (subst (AreWithin size) at (was.1 all)).0 in absurd (omega (arith, b, h)),
  )

pub all-within-it : (size : ℕ) (cs : List Cursor) (i : ℕ) → drop i cs ≡ [] → SoFar size cs i → (true ≡ true) ↔ AreWithin size cs
all-within-it size cs i none was = (λ e. was.0 (subst (AreWithin size) (sym none) tt), λ all. refl)
