-- Whether types that can be made lead from a state to a valid end, and the first of several that has a fault.
use Rattle.std.proofs.Common.{◌≡◌, ◌<◌, ◌≤◌, ◌⊎◌, ◌↔◌, ℕ, zero, suc, List, [], length, Bool, true, false, get_or, inl, inr, refl, sym, ◌∙◌, subst, arith}
use Rattle.std.specs.Prelude.{Ok}
use Rattle.std.proofs.lemmas.Bool.{cases_lt}
use Rattle.pm_auto.specs.declared.auto.Auto.{Auto}
use Rattle.pm_auto.specs.Near.{near}
use Rattle.pm_auto.specs.Fills.{makeable, filled}
use Rattle.pm_auto.specs.Finish.{Finishes}
use Rattle.pm_auto.proofs.GraphLaws.{length-fits}
use Rattle.pm_auto.proofs.SearchLaws.{falses, fewer, length-near}
use Rattle.pm_auto.proofs.ReachLaws.{still-reaches, finishes-ok}
use Rattle.pm_schema.specs.Generated.{Finishing, DeadState}
use Rattle.pm_laws.proofs.FillsThere.{long-links, links-graph}

-- ---- the first that has a fault

-- a number that has a fault, before which none has
pub record FirstBad (P Q : ℕ → Type 0) (n : ℕ) : Type 0 where
  pub number : ℕ
  pub inside : number < n
  pub bad : P number
  pub before : (j : ℕ) → j < number → Q j

last-or : (n k : ℕ) → k < suc n → (k < n) ⊎ (k ≡ n)
last-or n k l = at (cases_lt k n)
  where
    at : (k < n) ⊎ (n ≤ k) → (k < n) ⊎ (k ≡ n)
    at (inl m) = inl m
    at (inr m) = inr (omega (arith, l, m))

-- each has a fault or is good: all are good, or one is the first that is not
pub first-bad : (P Q : ℕ → Type 0) (n : ℕ) → ((k : ℕ) → k < n → Q k ⊎ P k) → ((k : ℕ) → k < n → Q k) ⊎ FirstBad P Q n
first-bad P Q zero f = inl (λ k l. absurd (omega (arith, l)))
first-bad P Q (suc n) f = at (first-bad P Q n (λ k l. f k (omega (arith, l)))) (f n (omega arith))
  where
    more : ((k : ℕ) → k < n → Q k) → Q n → (k : ℕ) → (k < n) ⊎ (k ≡ n) → Q k
    more all q k (inl l) = all k l
    more all q k (inr e) = subst Q (sym e) q

    at : ((k : ℕ) → k < n → Q k) ⊎ FirstBad P Q n → Q n ⊎ P n → ((k : ℕ) → k < suc n → Q k) ⊎ FirstBad P Q (suc n)
    at (inr b) r = inr (record { number = b.number; inside = let l = b.inside in omega (arith, l); bad = b.bad; before = b.before })
    at (inl all) (inl q) = inl (λ k l. more all q k (last-or n k l))
    at (inl all) (inr p) = inr (record { number = n; inside = omega arith; bad = p; before = all })

-- ---- the states that finish

module _ (can : List Bool) (a : Auto) where
  long-goals : length (filled a true []) ≡ length (makeable can a.edges)
  long-goals = length-fits a.sets a.edges true [] 0 a.sets ∙ sym (long-links can a)

  -- rounds until one marks nothing more
  still-at : (fuel n : ℕ) → falses (near (makeable can a.edges) (filled a true []) n) ≤ fuel
      → (m : ℕ) × (near (makeable can a.edges) (filled a true []) (suc m) ≡ near (makeable can a.edges) (filled a true []) m)
  still-at zero n l = at (fewer (near (makeable can a.edges) (filled a true []) n) (makeable can a.edges) (near (makeable can a.edges) (filled a true []) n) (length-near (makeable can a.edges) (filled a true []) long-goals n))
    where
      at : (near (makeable can a.edges) (filled a true []) (suc n) ≡ near (makeable can a.edges) (filled a true []) n)
          ⊎ (falses (near (makeable can a.edges) (filled a true []) (suc n)) < falses (near (makeable can a.edges) (filled a true []) n))
          → (m : ℕ) × (near (makeable can a.edges) (filled a true []) (suc m) ≡ near (makeable can a.edges) (filled a true []) m)
      at (inl e) = (n, e)
      at (inr f) = absurd (omega (arith, l, f))
  still-at (suc fuel) n l = at (fewer (near (makeable can a.edges) (filled a true []) n) (makeable can a.edges) (near (makeable can a.edges) (filled a true []) n) (length-near (makeable can a.edges) (filled a true []) long-goals n)) (still-at fuel (suc n))
    where
      at : (near (makeable can a.edges) (filled a true []) (suc n) ≡ near (makeable can a.edges) (filled a true []) n)
          ⊎ (falses (near (makeable can a.edges) (filled a true []) (suc n)) < falses (near (makeable can a.edges) (filled a true []) n))
          → (falses (near (makeable can a.edges) (filled a true []) (suc n)) ≤ fuel → (m : ℕ) × (near (makeable can a.edges) (filled a true []) (suc m) ≡ near (makeable can a.edges) (filled a true []) m))
          → (m : ℕ) × (near (makeable can a.edges) (filled a true []) (suc m) ≡ near (makeable can a.edges) (filled a true []) m)
      at (inl e) go = (n, e)
      at (inr f) go = go (omega (arith, l, f))

  -- a table of the states that finish
  pub ends-there : (marks : List Bool) × ((s : ℕ) → s < length a.sets → (get_or marks s false ≡ true) ↔ Finishes can a s)
  ends-there =
      let m = still-at (falses (filled a true [])) 0 (omega arith) in
      let marks : List Bool = near (makeable can a.edges) (filled a true []) m.0 in
      (marks, finishes-ok can a (makeable can a.edges) (filled a true []) refl refl (Ok marks) (still-reaches (makeable can a.edges) (filled a true []) (links-graph can a) m.0 marks refl m.1))

  finishes-or : (s : ℕ) → s < length a.sets → Finishes can a s ⊎ (Finishes can a s → ⊥)
  finishes-or s l = at (get_or ends-there.0 s false) refl
    where
      at : (b : Bool) → get_or ends-there.0 s false ≡ b → Finishes can a s ⊎ (Finishes can a s → ⊥)
      at true e = inl ((ends-there.1 s l).0 e)
      at false e = inr (λ f. let z : true ≡ false = sym ((ends-there.1 s l).1 f) ∙ e in absurd (cc))

  -- each state finishes, or one is stuck
  pub dead-or : Finishing can a ⊎ DeadState can a
  dead-or = at (first-bad (λ s. Finishes can a s → ⊥) (λ s. Finishes can a s) (length a.sets) finishes-or)
    where
      at : Finishing can a ⊎ FirstBad (λ s. Finishes can a s → ⊥) (λ s. Finishes can a s) (length a.sets) → Finishing can a ⊎ DeadState can a
      at (inl all) = inl all
      at (inr b) = inr (record { state = b.number; inside = b.inside; stuck = b.bad })
