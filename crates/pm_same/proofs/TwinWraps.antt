-- Two automata of one expression let the same types stand around a type, however their states are numbered.
use Rattle.std.proofs.Common.{◌≡◌, ◌<◌, ℕ, List, [], ◌∷◌, Bool, ◌&&◌, ◌||◌, true, false, length, cond, eqb, Option, Some, None, refl, ap, sym, ◌∙◌, arith}
use Rattle.std.specs.Prelude.{not, nat_lt, option_and_then, slice_index_or}
use Rattle.pm_auto.specs.declared.places.Row.{Row}
use Rattle.pm_auto.specs.declared.sets.PlaceSet.{PlaceSet}
use Rattle.pm_auto.specs.declared.auto.Edge.{Edge}
use Rattle.pm_auto.specs.declared.auto.Auto.{Auto}
use Rattle.pm_auto.specs.Automata.{Is_automaton}
use Rattle.pm_auto.specs.States.{has, kinds, once, step, edge_kinds, set_at, Lead_on, Edges_of}
use Rattle.pm_auto.specs.Walks.{target, edges_at, ends_at}
use Rattle.pm_auto.specs.Wraps.{wrappers, inner_links, holds_first}
use Rattle.pm_auto.proofs.AcceptLaws.{edges-of-at}
use Rattle.pm_fit.specs.Wrappings.{state_after}

module _ (rs : List Row) (start : PlaceSet) (a b : Auto) (ha : Is_automaton rs start a) (hb : Is_automaton rs start b) where
  -- a state of each, which are one set of places
  pub record Twin (i j : ℕ) : Type 0 where
    pub left : i < length a.sets
    pub right : j < length b.sets
    pub same : set_at a.sets i ≡ set_at b.sets j

  abbrev pub Twins : Option ℕ → Option ℕ → Type 0
  Twins None None = Unit {0}
  Twins None (Some u) = ⊥
  Twins (Some t) None = ⊥
  Twins (Some t) (Some u) = Twin t u

  pub starts-twin : Twin 0 0
  starts-twin = record { left = ha.some; right = hb.some; same = ha.begins ∙ sym hb.begins }

  edges-a : (i : ℕ) → i < length a.sets → Edges_of rs a.sets (set_at a.sets i) (edges_at a.edges i)
  edges-a i l = edges-of-at rs a.sets a.sets a.edges i (omega (arith, l, ha.full)) ha.edges

  edges-b : (j : ℕ) → j < length b.sets → Edges_of rs b.sets (set_at b.sets j) (edges_at b.edges j)
  edges-b j l = edges-of-at rs b.sets b.sets b.edges j (omega (arith, l, hb.full)) hb.edges

  -- ---- the types of the edges

  kinds-twin : (i j : ℕ) → Twin i j → edge_kinds (edges_at a.edges i) ≡ edge_kinds (edges_at b.edges j)
  kinds-twin i j t =
      let ea = edges-a i t.left in
      let eb = edges-b j t.right in
      ea.types ∙ ap (λ (s : PlaceSet). once [] (kinds rs s.places)) t.same ∙ sym eb.types

  pub has-twin : (k i j : ℕ) → Twin i j → has k (edge_kinds (edges_at a.edges i)) ≡ has k (edge_kinds (edges_at b.edges j))
  has-twin k i j t = ap (has k) (kinds-twin i j t)

  pub first-twin : (k : ℕ) → holds_first k a ≡ holds_first k b
  first-twin k = has-twin k 0 0 starts-twin

  -- ---- where the edges lead

  pick : (x y : Bool) (o p q r : Option ℕ) → x ≡ y → Twins o p → Twins q r → Twins (cond x o q) (cond y p r)
  pick true true o p q r e h g = h
  pick false false o p q r e h g = g
  pick true false o p q r e h g = absurd (cc)
  pick false true o p q r e h g = absurd (cc)

  target-twins : (k : ℕ) (s t : PlaceSet) → s ≡ t → (es fs : List Edge) → edge_kinds es ≡ edge_kinds fs → Lead_on rs a.sets s es → Lead_on rs b.sets t fs → Twins (target k es) (target k fs)
  target-twins k s t e [] [] h l m = tt
  target-twins k s t e [] (f ∷ fs) h l m = absurd (cc)
  target-twins k s t e (d ∷ es) [] h l m = absurd (cc)
  target-twins k s t e (d ∷ es) (f ∷ fs) h l m =
      let one : d.kind ≡ f.kind = cc in
      let more : edge_kinds es ≡ edge_kinds fs = cc in
      let there : step rs d.kind s ≡ step rs f.kind t = λ i. step rs (one i) (e i) in
      let twin : Twin d.to f.to = record { left = l.0.0; right = m.0.0; same = l.0.1 ∙ there ∙ sym m.0.1 } in
      pick (eqb d.kind k) (eqb f.kind k) (Some d.to) (Some f.to) (target k es) (target k fs) (ap (λ j. eqb j k) one) twin (target-twins k s t e es fs more l.1 m.1)

  targets : (k i j : ℕ) → Twin i j → Twins (target k (edges_at a.edges i)) (target k (edges_at b.edges j))
  targets k i j t =
      let ea = edges-a i t.left in
      let eb = edges-b j t.right in
      target-twins k (set_at a.sets i) (set_at b.sets j) t.same (edges_at a.edges i) (edges_at b.edges j) (kinds-twin i j t) ea.lead eb.lead

  after-some : (w : List ℕ) (o p : Option ℕ) → Twins o p → ((i j : ℕ) → Twin i j → Twins (state_after a.edges i w) (state_after b.edges j w))
      → Twins (option_and_then (λ t. state_after a.edges t w) o) (option_and_then (λ t. state_after b.edges t w) p)
  after-some w None None h go = tt
  after-some w None (Some u) h go = absurd h
  after-some w (Some t) None h go = absurd h
  after-some w (Some t) (Some u) h go = go t u h

  -- the states after the same types
  pub after-twins : (w : List ℕ) (i j : ℕ) → Twin i j → Twins (state_after a.edges i w) (state_after b.edges j w)
  after-twins [] i j t = t
  after-twins (k ∷ w) i j t = after-some w (target k (edges_at a.edges i)) (target k (edges_at b.edges j)) (targets k i j t) (λ x y z. after-twins w x y z)

  -- ---- the wrappers among the edges

  wrappers-kept : (may : List Bool) (n : ℕ) (to_end : Bool) (s t : PlaceSet) → s ≡ t → (es fs : List Edge) → edge_kinds es ≡ edge_kinds fs → Lead_on rs a.sets s es → Lead_on rs b.sets t fs
      → wrappers may n to_end a.sets es ≡ wrappers may n to_end b.sets fs
  wrappers-kept may n to_end s t e [] [] h l m = refl
  wrappers-kept may n to_end s t e [] (f ∷ fs) h l m = absurd (cc)
  wrappers-kept may n to_end s t e (d ∷ es) [] h l m = absurd (cc)
  wrappers-kept may n to_end s t e (d ∷ es) (f ∷ fs) h l m =
      let one : d.kind ≡ f.kind = cc in
      let more : edge_kinds es ≡ edge_kinds fs = cc in
      let there : step rs d.kind s ≡ step rs f.kind t = λ i. step rs (one i) (e i) in
      let ends : ends_at a.sets d.to ≡ ends_at b.sets f.to = ap (λ (x : PlaceSet). x.ends) (l.0.1 ∙ there ∙ sym m.0.1) in
      let rest = wrappers-kept may n to_end s t e es fs more l.1 m.1 in
      λ i. cond ((nat_lt (one i) n && slice_index_or may (one i) false) && (not to_end || ends i)) (record { kind = one i; to = one i } ∷ rest i) (rest i)

  pub wrappers-twin : (may : List Bool) (n : ℕ) (to_end : Bool) (i j : ℕ) → Twin i j → wrappers may n to_end a.sets (edges_at a.edges i) ≡ wrappers may n to_end b.sets (edges_at b.edges j)
  wrappers-twin may n to_end i j t =
      let ea = edges-a i t.left in
      let eb = edges-b j t.right in
      wrappers-kept may n to_end (set_at a.sets i) (set_at b.sets j) t.same (edges_at a.edges i) (edges_at b.edges j) (kinds-twin i j t) ea.lead eb.lead

  pub inner-twin : (may : List Bool) (n : ℕ) → inner_links may n a ≡ inner_links may n b
  inner-twin may n = wrappers-twin may n true 0 0 starts-twin
