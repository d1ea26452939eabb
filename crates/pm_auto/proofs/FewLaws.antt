-- An automaton has each state that can be reached, so not more than a thousand can.
use Rattle.std.proofs.Common.{◌≡◌, ℕ, zero, suc, ◌<◌, ◌≤◌, List, [], ◌∷◌, length, true, refl, ap, sym, ◌∙◌, subst, arith, inl, inr, ◌⊎◌}
use Rattle.pm_auto.specs.declared.places.Row.{Row}
use Rattle.pm_auto.specs.declared.sets.PlaceSet.{PlaceSet}
use Rattle.pm_auto.specs.declared.auto.Edge.{Edge}
use Rattle.pm_auto.specs.declared.auto.Auto.{Auto}
use Rattle.pm_auto.specs.Automata.{Is_automaton}
use Rattle.pm_auto.specs.States.{has, kinds, edge_kinds, set_at, Leads_to, All_reached, Apart, Differ, Too_many, Edges_of, All_edges}
use Rattle.pm_auto.specs.Walks.{edges_at}
use Rattle.pm_auto.proofs.OnceLaws.{has-once}
use Rattle.pm_auto.proofs.AcceptLaws.{edges-of-at, lead-target}

-- the state is one of these
abbrev Among : PlaceSet → List PlaceSet → Type 0
Among s [] = ⊥
Among s (t ∷ ts) = (s ≡ t) ⊎ Among s ts

-- each of the first is one of the second
abbrev All_among : List PlaceSet → List PlaceSet → Type 0
All_among [] ts = Unit {0}
All_among (s ∷ ss) ts = Among s ts × All_among ss ts

-- the states but one
abbrev without : (s : PlaceSet) (ts : List PlaceSet) → Among s ts → List PlaceSet
without s [] m = []
without s (t ∷ ts) (inl e) = ts
without s (t ∷ ts) (inr m) = t ∷ without s ts m

without-length : (s : PlaceSet) (ts : List PlaceSet) (m : Among s ts) → length ts ≡ suc (length (without s ts m))
without-length s [] m = absurd m
without-length s (t ∷ ts) (inl e) = refl
without-length s (t ∷ ts) (inr m) = ap suc (without-length s ts m)

stays : (s u : PlaceSet) (ts : List PlaceSet) (m : Among s ts) → (s ≡ u → ⊥) → Among u ts → Among u (without s ts m)
stays s u [] m n a = absurd m
stays s u (t ∷ ts) (inl e) n (inl f) = absurd (n (e ∙ sym f))
stays s u (t ∷ ts) (inl e) n (inr a) = a
stays s u (t ∷ ts) (inr m) n (inl f) = inl f
stays s u (t ∷ ts) (inr m) n (inr a) = inr (stays s u ts m n a)

all-stay : (s : PlaceSet) (us ts : List PlaceSet) (m : Among s ts) → Apart s us → All_among us ts → All_among us (without s ts m)
all-stay s [] ts m p a = tt
all-stay s (u ∷ us) ts m p a = (stays s u ts m p.0 a.0, all-stay s us ts m p.1 a.1)

-- states that differ are no more than those that they are among
no-more : (us ts : List PlaceSet) → Differ us → All_among us ts → length us ≤ length ts
no-more [] ts d a = omega arith
no-more (u ∷ us) ts d a =
    let h : length us ≤ length (without u ts a.0) = no-more us (without u ts a.0) d.1 (all-stay u us ts a.0 d.0 a.1) in
    let n : length ts ≡ suc (length (without u ts a.0)) = without-length u ts a.0 in
    omega arith

at-among : (ts : List PlaceSet) (i : ℕ) → i < length ts → Among (set_at ts i) ts
at-among [] i l = absurd (omega arith)
at-among (t ∷ ts) zero l = inl refl
at-among (t ∷ ts) (suc i) l = inr (at-among ts i (omega arith))

-- what can be reached is a state of the automaton
module _ (rs : List Row) (ss : List PlaceSet) (ess : List (List Edge)) (n : length ess ≡ length ss) (h : All_edges rs ss ss ess) where
  reach : (w : List ℕ) (i : ℕ) → i < length ss → (t : PlaceSet) → Leads_to rs (set_at ss i) w t → Among t ss
  reach [] i l t r = subst (λ (s : PlaceSet). Among s ss) r (at-among ss i l)
  reach (k ∷ w) i l t r =
      let es : Edges_of rs ss (set_at ss i) (edges_at ess i) = edges-of-at rs ss ss ess i (omega (arith, n)) h in
      let e : has k (edge_kinds (edges_at ess i)) ≡ true = ap (has k) es.types ∙ has-once k (kinds rs (set_at ss i).places) [] ∙ r.0 in
      let g = lead-target rs ss (set_at ss i) k (edges_at ess i) es.lead e in
      reach w g.to g.inside t (subst (λ (s : PlaceSet). Leads_to rs s w t) (sym g.at) r.1)

  all-reach : 0 < length ss → (ts : List PlaceSet) → All_reached rs (set_at ss 0) ts → All_among ts ss
  all-reach l [] r = tt
  all-reach l (t ∷ ts) r = (reach r.0.0 0 l t r.0.1, all-reach l ts r.1)

pub few-states : (rs : List Row) (start : PlaceSet) (a : Auto) → Is_automaton rs start a → Too_many rs start → ⊥
few-states rs start a h m =
    let all = all-reach rs a.sets a.edges h.full h.edges h.some m.states (subst (λ (s : PlaceSet). All_reached rs s m.states) (sym h.begins) m.reached) in
    let l : length m.states ≤ length a.sets = no-more m.states a.sets m.differ all in
    omega (arith, m.many, h.few)
