-- Reading sets of places from one place on.
use Rattle.std.proofs.Common.{◌≡◌, ℕ, zero, suc, ◌+◌, ◌<◌, List, [], ◌∷◌, ◌++◌, length, drop, get_or, ◌≤◌, Bool, true, false, ◌||◌, ◌&&◌, eqb, refl, sym, ◌∙◌, subst, arith, add-one}
use Rattle.std.proofs.Math.Seq.{drop-cons}
use Rattle.std.proofs.lemmas.Bool.{eqb-true}
use Rattle.pm_auto.specs.declared.places.Row.{Row}
use Rattle.pm_auto.specs.Core.{when}
use Rattle.pm_auto.specs.Runs.{look, next_rows, end_rows}
use Rattle.pm_auto.specs.States.{has, Below}

pub or-assoc : (a b c : Bool) → a || (b || c) ≡ (a || b) || c
or-assoc true b c = refl
or-assoc false b c = refl

pub has-append : (j : ℕ) (xs ys : List ℕ) → has j (xs ++ ys) ≡ has j xs || has j ys
has-append j [] ys = refl
has-append j (x ∷ xs) ys = rw (has-append j xs ys) (or-assoc (eqb x j) (has j xs) (has j ys))

pub look-get : (rs : List Row) (k : ℕ) (r : Row) → k < length rs → r ≡ get_or rs k r → look rs k ≡ r
look-get [] k r l is = absurd (omega arith)
look-get (x ∷ rs) zero r l is = sym is
look-get (x ∷ rs) (suc k) r l is = look-get rs k r (omega arith) is

pub drop-past : {X : Type 0} (xs : List X) (i : ℕ) → length xs ≤ i → drop i xs ≡ []
drop-past [] zero h = refl
drop-past [] (suc i) h = refl
drop-past (x ∷ xs) zero h = absurd (omega arith)
drop-past (x ∷ xs) (suc i) h = drop-past xs i (omega arith)

pub or-false : (b : Bool) → b || false ≡ b
or-false true = refl
or-false false = refl

pub eqb-not : (a b : ℕ) → (a ≡ b → ⊥) → eqb a b ≡ false
eqb-not a b h = at (eqb a b) refl
  where
    at : (c : Bool) → eqb a b ≡ c → eqb a b ≡ false
    at true e = absurd (h (eqb-true a b e))
    at false e = e

module _ (rs : List Row) (ps : List ℕ) (i : ℕ) (l : i < length ps) (b : Below (length rs) (drop i ps)) where
  here : drop i ps ≡ get_or ps i 0 ∷ drop (i + 1) ps
  here = drop-cons ps i 0 l ∙ rw add-one refl

  both : Below (length rs) (get_or ps i 0 ∷ drop (i + 1) ps)
  both = subst (Below (length rs)) here b

  pub place-below : get_or ps i 0 < length rs
  place-below = both.0

  pub below-on : Below (length rs) (drop (i + 1) ps)
  below-on = both.1

  module _ (r : Row) (is : r ≡ get_or rs (get_or ps i 0) r) where
    pub row-is : look rs (get_or ps i 0) ≡ r
    row-is = look-get rs (get_or ps i 0) r place-below is

    pub end-at : (k : ℕ) → end_rows rs k (drop i ps) ≡ (eqb r.kind k && r.ends) || end_rows rs k (drop (i + 1) ps)
    end-at k = rw (here, row-is) refl

    pub next-at : (k : ℕ) → next_rows rs k (drop i ps) ≡ when (eqb r.kind k) r.follow ++ next_rows rs k (drop (i + 1) ps)
    next-at k = rw (here, row-is) refl
