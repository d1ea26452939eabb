-- The least place of each type.
use Rattle.std.proofs.Common.{◌≡◌, ℕ, suc, ◌≤◌, List, [], ◌∷◌, ◌++◌, map, Bool, true, false, cond, refl, ap, sym, ◌∙◌, subst, arith, inl, inr, ◌⊎◌}
use Rattle.pm_auto.specs.declared.places.Row.{Row}
use Rattle.pm_auto.specs.States.{has, kinds, once}
use Rattle.pm_auto.proofs.HasLaws.{has-left, has-right}
use Rattle.pm_places.proofs.Members.{Is_in, has-is, is-has, Rising, rising-lower, rising-least}
use Rattle.pm_places.proofs.Links.{kind_at}

module _ (rs : List Row) where
  -- the places whose type was not seen before
  abbrev pub leasts : List ℕ → List ℕ → List ℕ
  leasts seen [] = []
  leasts seen (n ∷ ns) = cond (has (kind_at rs n) seen) (leasts seen ns) (n ∷ leasts (seen ++ kind_at rs n ∷ []) ns)

  pub leasts-types : (seen ns : List ℕ) → map (kind_at rs) (leasts seen ns) ≡ once seen (kinds rs ns)
  leasts-types seen [] = refl
  leasts-types seen (n ∷ ns) = at (has (kind_at rs n) seen) (leasts-types seen ns) (leasts-types (seen ++ kind_at rs n ∷ []) ns)
    where
      at : (b : Bool) → map (kind_at rs) (leasts seen ns) ≡ once seen (kinds rs ns) → map (kind_at rs) (leasts (seen ++ kind_at rs n ∷ []) ns) ≡ once (seen ++ kind_at rs n ∷ []) (kinds rs ns)
          → map (kind_at rs) (cond b (leasts seen ns) (n ∷ leasts (seen ++ kind_at rs n ∷ []) ns)) ≡ cond b (once seen (kinds rs ns)) (kind_at rs n ∷ once (seen ++ kind_at rs n ∷ []) (kinds rs ns))
      at true e f = e
      at false e f = ap (λ (z : List ℕ). kind_at rs n ∷ z) f

  pub leasts-rising : (m : ℕ) (seen ns : List ℕ) → Rising m ns → Rising m (leasts seen ns)
  leasts-rising m seen [] h = tt
  leasts-rising m seen (n ∷ ns) h = at (has (kind_at rs n) seen) (leasts-rising (suc n) seen ns h.1) (leasts-rising (suc n) (seen ++ kind_at rs n ∷ []) ns h.1)
    where
      at : (b : Bool) → Rising (suc n) (leasts seen ns) → Rising (suc n) (leasts (seen ++ kind_at rs n ∷ []) ns) → Rising m (cond b (leasts seen ns) (n ∷ leasts (seen ++ kind_at rs n ∷ []) ns))
      at true r t = let l : m ≤ n = h.0 in rising-lower m (suc n) (leasts seen ns) (omega (arith, l)) r
      at false r t = (h.0, t)

  pub leasts-in : (p : ℕ) (seen ns : List ℕ) → Is_in p (leasts seen ns) → Is_in p ns
  leasts-in p seen [] h = h
  leasts-in p seen (n ∷ ns) h = at (has (kind_at rs n) seen) h (leasts-in p seen ns) (leasts-in p (seen ++ kind_at rs n ∷ []) ns)
    where
      at : (b : Bool) → Is_in p (cond b (leasts seen ns) (n ∷ leasts (seen ++ kind_at rs n ∷ []) ns)) → (Is_in p (leasts seen ns) → Is_in p ns) → (Is_in p (leasts (seen ++ kind_at rs n ∷ []) ns) → Is_in p ns) → (n ≡ p) ⊎ Is_in p ns
      at true h f g = inr (f h)
      at false (inl e) f g = inl e
      at false (inr h) f g = inr (g h)

  leasts-new : (p : ℕ) (seen ns : List ℕ) → Is_in p (leasts seen ns) → Is_in (kind_at rs p) seen → ⊥
  leasts-new p seen [] h i = absurd h
  leasts-new p seen (n ∷ ns) h i = at (has (kind_at rs n) seen) refl h (leasts-new p seen ns) (leasts-new p (seen ++ kind_at rs n ∷ []) ns)
    where
      at : (b : Bool) → has (kind_at rs n) seen ≡ b → Is_in p (cond b (leasts seen ns) (n ∷ leasts (seen ++ kind_at rs n ∷ []) ns)) → (Is_in p (leasts seen ns) → Is_in (kind_at rs p) seen → ⊥)
          → (Is_in p (leasts (seen ++ kind_at rs n ∷ []) ns) → Is_in (kind_at rs p) (seen ++ kind_at rs n ∷ []) → ⊥) → ⊥
      at true e h f g = f h i
      at false e (inl q) f g = let t : true ≡ false = sym (is-has (kind_at rs p) seen i) ∙ ap (λ (z : ℕ). has (kind_at rs z) seen) (sym q) ∙ e in cc
      at false e (inr h) f g = g h (has-left (λ (y : ℕ). y ≡ kind_at rs p) seen (kind_at rs n ∷ []) i)

  pub leasts-least : (m p q : ℕ) (seen ns : List ℕ) → Rising m ns → Is_in p (leasts seen ns) → Is_in q ns → kind_at rs q ≡ kind_at rs p → p ≤ q
  leasts-least m p q seen [] r h i e = absurd i
  leasts-least m p q seen (n ∷ ns) r h i e =
      at (has (kind_at rs n) seen) refl h i (λ h i. leasts-least (suc n) p q seen ns r.1 h i e) (λ h i. leasts-least (suc n) p q (seen ++ kind_at rs n ∷ []) ns r.1 h i e)
    where
      same : n ≡ q → kind_at rs n ≡ kind_at rs p
      same d = ap (kind_at rs) d ∙ e

      at : (b : Bool) → has (kind_at rs n) seen ≡ b → Is_in p (cond b (leasts seen ns) (n ∷ leasts (seen ++ kind_at rs n ∷ []) ns)) → (n ≡ q) ⊎ Is_in q ns → (Is_in p (leasts seen ns) → Is_in q ns → p ≤ q)
          → (Is_in p (leasts (seen ++ kind_at rs n ∷ []) ns) → Is_in q ns → p ≤ q) → p ≤ q
      at true b h (inl d) f g = absurd (leasts-new p seen ns h (subst (λ (z : ℕ). Is_in z seen) (same d) (has-is (kind_at rs n) seen b)))
      at true b h (inr i) f g = f h i
      at false b (inl d) i f g = subst (λ (z : ℕ). z ≤ q) d (rising-least n q (n ∷ ns) (omega arith, r.1) i)
      at false b (inr h) (inl d) f g = absurd (leasts-new p (seen ++ kind_at rs n ∷ []) ns h (has-right (λ (y : ℕ). y ≡ kind_at rs p) seen (kind_at rs n ∷ []) (inl (same d))))
      at false b (inr h) (inr i) f g = g h i
