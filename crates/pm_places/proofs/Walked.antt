-- Walks along the edges of an automaton are runs over its states.
use Rattle.std.proofs.Common.{◌≡◌, ℕ, ◌<◌, List, [], ◌∷◌, ◌++◌, length, Bool, true, false, cond, Some, None, refl, ap, sym, ◌∙◌, subst, arith, inl, inr, ◌⊎◌}
use Rattle.std.specs.Prelude.{option_and_then}
use Rattle.pm_auto.specs.declared.places.Row.{Row}
use Rattle.pm_auto.specs.declared.sets.PlaceSet.{PlaceSet}
use Rattle.pm_auto.specs.declared.auto.Edge.{Edge}
use Rattle.pm_auto.specs.States.{has, kinds, once, edge_kinds, set_at, Edges_of, All_edges, Leads_to}
use Rattle.pm_auto.specs.Walks.{edges_at}
use Rattle.pm_auto.proofs.AcceptLaws.{lead-target, no-target, edges-of-at}
use Rattle.pm_places.specs.Nexts.{led_to}
use Rattle.pm_auto.proofs.HasLaws.{has-split}
use Rattle.pm_places.proofs.Members.{Is_in, has-is, is-has}

-- the types that come first are types of the list
once-in : (j : ℕ) (seen ks : List ℕ) → Is_in j (once seen ks) → Is_in j ks
once-in j seen [] h = h
once-in j seen (k ∷ ks) h = at (has k seen) h (once-in j seen ks) (once-in j (seen ++ k ∷ []) ks)
  where
    at : (b : Bool) → Is_in j (cond b (once seen ks) (k ∷ once (seen ++ k ∷ []) ks)) → (Is_in j (once seen ks) → Is_in j ks) → (Is_in j (once (seen ++ k ∷ []) ks) → Is_in j ks) → (k ≡ j) ⊎ Is_in j ks
    at true h f g = inr (f h)
    at false (inl e) f g = inl e
    at false (inr h) f g = inr (g h)

-- each type of the list comes first once, or was seen
in-once : (j : ℕ) (seen ks : List ℕ) → Is_in j ks → Is_in j seen ⊎ Is_in j (once seen ks)
in-once j seen [] h = absurd h
in-once j seen (k ∷ ks) h = at (has k seen) refl h (in-once j seen ks) (in-once j (seen ++ k ∷ []) ks)
  where
    behind : Is_in j (seen ++ k ∷ []) ⊎ Is_in j (once (seen ++ k ∷ []) ks) → Is_in j seen ⊎ ((k ≡ j) ⊎ Is_in j (once (seen ++ k ∷ []) ks))
    behind (inl h) = split (has-split (λ (y : ℕ). y ≡ j) seen (k ∷ []) h)
      where
        split : Is_in j seen ⊎ ((k ≡ j) ⊎ ⊥) → Is_in j seen ⊎ ((k ≡ j) ⊎ Is_in j (once (seen ++ k ∷ []) ks))
        split (inl h) = inl h
        split (inr (inl e)) = inr (inl e)
        split (inr (inr h)) = absurd h
    behind (inr h) = inr (inr h)

    at : (b : Bool) → has k seen ≡ b → (k ≡ j) ⊎ Is_in j ks → (Is_in j ks → Is_in j seen ⊎ Is_in j (once seen ks)) → (Is_in j ks → Is_in j (seen ++ k ∷ []) ⊎ Is_in j (once (seen ++ k ∷ []) ks))
        → Is_in j seen ⊎ Is_in j (cond b (once seen ks) (k ∷ once (seen ++ k ∷ []) ks))
    at true e (inl q) f g = inl (subst (λ (z : ℕ). Is_in z seen) q (has-is k seen e))
    at true e (inr h) f g = f h
    at false e (inl q) f g = inr (inl q)
    at false e (inr h) f g = behind (g h)

pub has-once : (j : ℕ) (ks : List ℕ) → has j ks ≡ true → has j (once [] ks) ≡ true
has-once j ks h = at (in-once j [] ks (has-is j ks h))
  where
    at : ⊥ ⊎ Is_in j (once [] ks) → has j (once [] ks) ≡ true
    at (inl h) = absurd h
    at (inr h) = is-has j (once [] ks) h

pub once-has : (j : ℕ) (ks : List ℕ) → has j (once [] ks) ≡ true → has j ks ≡ true
once-has j ks h = is-has j ks (once-in j [] ks (has-is j (once [] ks) h))

module _ (rs : List Row) (ss : List PlaceSet) (ess : List (List Edge)) (full : length ess ≡ length ss) (all : All_edges rs ss ss ess) where
  edges : (i : ℕ) → i < length ss → Edges_of rs ss (set_at ss i) (edges_at ess i)
  edges i l = edges-of-at rs ss ss ess i (omega (arith, full, l)) all

  -- the state that a list leads to
  pub record Arrived (i : ℕ) (w : List ℕ) (t : PlaceSet) : Type 0 where
    pub to : ℕ
    pub is : led_to ess i w ≡ Some to
    pub inside : to < length ss
    pub at : set_at ss to ≡ t

  pub leads-led : (w : List ℕ) (i : ℕ) (t : PlaceSet) → i < length ss → Leads_to rs (set_at ss i) w t → Arrived i w t
  leads-led [] i t l h = record { to = i; is = refl; inside = l; at = h }
  leads-led (k ∷ w) i t l h =
      let es = edges i l in
      let g = lead-target rs ss (set_at ss i) k (edges_at ess i) es.lead (ap (has k) es.types ∙ has-once k (kinds rs (set_at ss i).places) h.0) in
      let r = leads-led w g.to t g.inside (subst (λ (s : PlaceSet). Leads_to rs s w t) (sym g.at) h.1) in
      record { to = r.to; is = ap (option_and_then (λ (j : ℕ). led_to ess j w)) g.is ∙ r.is; inside = r.inside; at = r.at }

  -- the run that a walk is
  pub record Walked (i : ℕ) (w : List ℕ) (t : ℕ) : Type 0 where
    pub inside : t < length ss
    pub leads : Leads_to rs (set_at ss i) w (set_at ss t)

  pub led-leads : (w : List ℕ) (i t : ℕ) → i < length ss → led_to ess i w ≡ Some t → Walked i w t
  led-leads [] i t l h = let e : i ≡ t = cc in record { inside = subst (λ (z : ℕ). z < length ss) e l; leads = ap (set_at ss) e }
  led-leads (k ∷ w) i t l h = at (has k (edge_kinds (edges_at ess i))) refl (led-leads w)
    where
      at : (b : Bool) → has k (edge_kinds (edges_at ess i)) ≡ b → ((j u : ℕ) → j < length ss → led_to ess j w ≡ Some u → Walked j w u) → Walked i (k ∷ w) t
      at true q go =
          let es = edges i l in
          let g = lead-target rs ss (set_at ss i) k (edges_at ess i) es.lead q in
          let r = go g.to t g.inside (sym (ap (option_and_then (λ (j : ℕ). led_to ess j w)) g.is) ∙ h) in
          record { inside = r.inside; leads = (once-has k (kinds rs (set_at ss i).places) (ap (has k) (sym es.types) ∙ q), subst (λ (s : PlaceSet). Leads_to rs s w (set_at ss t)) g.at r.leads) }
      at false q go = absurd (let e : None ≡ Some t = sym (ap (option_and_then (λ (j : ℕ). led_to ess j w)) (no-target k (edges_at ess i) q)) ∙ h in cc)
