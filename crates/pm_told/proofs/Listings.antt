-- Lists that stand in answers.
use Rattle.std.proofs.Common.{◌≡◌, ◌∙◌, ℕ, zero, suc, ◌+◌, List, [], ◌∷◌, ◌++◌, ap, arith, add-one}
use Rattle.pm_told.specs.Showing.{serials_on}

-- the last serial stands at the end
serials-last : (first n : ℕ) → serials_on first (suc n) ≡ serials_on first n ++ ((first + n) ∷ [])
serials-last first zero =
    let only : first ≡ first + 0 = omega arith in
    ap (λ (k : ℕ). k ∷ []) only
serials-last first (suc n) =
    let last : (first + 1) + n ≡ first + suc n = omega arith in
    ap (λ (ks : List ℕ). first ∷ ks)
    (serials-last (first + 1) n ∙ ap (λ (k : ℕ). serials_on (first + 1) n ++ (k ∷ [])) last)

pub serials-more : (first n : ℕ) → serials_on first (n + 1) ≡ serials_on first n ++ ((first + n) ∷ [])
serials-more first n =
    let more : n + 1 ≡ suc n = omega arith in
    ap (serials_on first) more ∙ serials-last first n
