-- Two automata of one expression: what each state of the one leads to, each state of the other does.
use Rattle.std.proofs.Common.{◌≡◌, ◌<◌, ℕ, List, [], ◌∷◌, Bool, true, length, ap, sym, ◌∙◌, subst, arith}
use Rattle.pm_auto.specs.declared.places.Row.{Row}
use Rattle.pm_auto.specs.declared.sets.PlaceSet.{PlaceSet}
use Rattle.pm_auto.specs.declared.auto.Edge.{Edge}
use Rattle.pm_auto.specs.declared.auto.Auto.{Auto}
use Rattle.pm_auto.specs.Automata.{Is_automaton}
use Rattle.pm_auto.specs.States.{has, kinds, edge_kinds, set_at, Leads_to, Edges_of, All_edges}
use Rattle.pm_auto.specs.Walks.{edges_at}
use Rattle.pm_auto.specs.Finish.{Finishes}
use Rattle.pm_auto.proofs.OnceLaws.{has-once}
use Rattle.pm_auto.proofs.StateLaws.{reached-at}
use Rattle.pm_auto.proofs.AcceptLaws.{edges-of-at, lead-target, run_sets, walk-run}

-- the number of a state
record Numbered (t : PlaceSet) (ss : List PlaceSet) : Type 0 where
  number : ℕ
  inside : number < length ss
  is : set_at ss number ≡ t

numbered : (rs : List Row) (ss : List PlaceSet) (ess : List (List Edge)) → length ess ≡ length ss → All_edges rs ss ss ess
    → (w : List ℕ) (i : ℕ) → i < length ss → (t : PlaceSet) → Leads_to rs (set_at ss i) w t → Numbered t ss
numbered rs ss ess n h [] i l t r = record { number = i; inside = l; is = r }
numbered rs ss ess n h (k ∷ w) i l t r =
    let es : Edges_of rs ss (set_at ss i) (edges_at ess i) = edges-of-at rs ss ss ess i (omega (arith, n)) h in
    let e : has k (edge_kinds (edges_at ess i)) ≡ true = ap (has k) es.types ∙ has-once k (kinds rs (set_at ss i).places) [] ∙ r.0 in
    let g = lead-target rs ss (set_at ss i) k (edges_at ess i) es.lead e in
    numbered rs ss ess n h w g.to g.inside t (subst (λ (s : PlaceSet). Leads_to rs s w t) (sym g.at) r.1)

pub twin-finishes : (rs : List Row) (start : PlaceSet) (a b : Auto) (can : List Bool) → Is_automaton rs start a → Is_automaton rs start b
    → ((j : ℕ) → j < length b.sets → Finishes can b j) → (i : ℕ) → i < length a.sets → Finishes can a i
twin-finishes rs start a b can ha hb live i l =
    let r = reached-at rs start a.sets i l ha.reached in
    let j = numbered rs b.sets b.edges hb.full hb.edges r.0 0 hb.some (set_at a.sets i) (subst (λ (s : PlaceSet). Leads_to rs s r.0 (set_at a.sets i)) (sym hb.begins) r.1) in
    let f = live j.number j.inside in
    record {
      list = f.list;
      makeable = f.makeable;
      ends = walk-run rs a.sets a.edges ha.full ha.edges f.list i l ∙ ap (λ (s : PlaceSet). run_sets rs s f.list) (sym j.is) ∙ sym (walk-run rs b.sets b.edges hb.full hb.edges f.list j.number j.inside) ∙ f.ends;
    }
