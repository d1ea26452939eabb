-- A start from which each step leads to one state, where it stays, has two states, and not too many.
use Rattle.std.proofs.Common.{◌≡◌, ℕ, ◌<◌, List, [], ◌∷◌, length, true, inl, inr, ◌⊎◌, sym, ◌∙◌, subst, arith}
use Rattle.pm_auto.specs.declared.places.Row.{Row}
use Rattle.pm_auto.specs.declared.sets.PlaceSet.{PlaceSet}
use Rattle.pm_auto.specs.States.{has, kinds, step, Leads_to, All_reached, Differ, Too_many}

-- each step from the state leads to t
abbrev pub Leads : List Row → PlaceSet → PlaceSet → Type 0
Leads rs s t = (k : ℕ) → has k (kinds rs s.places) ≡ true → step rs k s ≡ t

module _ (rs : List Row) (s t : PlaceSet) (first : Leads rs s t) (next : Leads rs t t) where
  stays : (w : List ℕ) (u : PlaceSet) → Leads_to rs t w u → t ≡ u
  stays [] u h = h
  stays (k ∷ w) u h = stays w u (subst (λ (x : PlaceSet). Leads_to rs x w u) (next k h.0) h.1)

  either : (w : List ℕ) (u : PlaceSet) → Leads_to rs s w u → (s ≡ u) ⊎ (t ≡ u)
  either [] u h = inl h
  either (k ∷ w) u h = inr (stays w u (subst (λ (x : PlaceSet). Leads_to rs x w u) (first k h.0) h.1))

  -- of three states two are the same
  three : (a b c : PlaceSet) → (s ≡ a) ⊎ (t ≡ a) → (s ≡ b) ⊎ (t ≡ b) → (s ≡ c) ⊎ (t ≡ c) → (a ≡ b → ⊥) → (a ≡ c → ⊥) → (b ≡ c → ⊥) → ⊥
  three a b c (inl x) (inl y) z ab ac bc = ab (sym x ∙ y)
  three a b c (inr x) (inr y) z ab ac bc = ab (sym x ∙ y)
  three a b c (inl x) (inr y) (inl z) ab ac bc = ac (sym x ∙ z)
  three a b c (inl x) (inr y) (inr z) ab ac bc = bc (sym y ∙ z)
  three a b c (inr x) (inl y) (inl z) ab ac bc = bc (sym y ∙ z)
  three a b c (inr x) (inl y) (inr z) ab ac bc = ac (sym x ∙ z)

  no-more : (us : List PlaceSet) → All_reached rs s us → Differ us → 2 < length us → ⊥
  no-more [] r d m = absurd (omega arith)
  no-more (a ∷ []) r d m = absurd (omega arith)
  no-more (a ∷ b ∷ []) r d m = absurd (omega arith)
  no-more (a ∷ b ∷ c ∷ us) r d m =
      three a b c (either r.0.0 a r.0.1) (either r.1.0.0 b r.1.0.1) (either r.1.1.0.0 c r.1.1.0.1) d.0.0 d.0.1.0 d.1.0.0

  pub not-many : Too_many rs s → ⊥
  not-many m = no-more m.states m.reached m.differ (omega (arith, m.many))
