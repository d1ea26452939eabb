-- The states of an automaton, and the places that may come next.
use Rattle.std.proofs.Common.{◌≡◌, ℕ, zero, suc, ◌<◌, List, [], ◌∷◌, ◌++◌, map, length, get_or, Bool, Some, None, ◌↔◌, refl, ap, sym, ◌∙◌, subst, arith, inl, inr, ◌⊎◌, append-nil}
use Rattle.std.specs.Prelude.{Option, IsSome, is_some, option_and_then}
use Rattle.pm_auto.specs.declared.places.Row.{Row}
use Rattle.pm_auto.specs.declared.sets.PlaceSet.{PlaceSet}
use Rattle.pm_auto.specs.declared.auto.Edge.{Edge}
use Rattle.pm_auto.specs.declared.auto.Auto.{Auto}
use Rattle.pm_auto.specs.declared.expr.Expr.{Expr}
use Rattle.pm_auto.specs.Expand.{expand}
use Rattle.pm_auto.specs.Trim.{trimmed}
use Rattle.pm_auto.specs.Table.{rows, firsts}
use Rattle.pm_auto.specs.Runs.{next_rows}
use Rattle.pm_auto.specs.States.{has, kinds, step, start_of, set_at, edge_kinds, Edges_of, Leads_to, All_reached, Apart, Differ}
use Rattle.pm_auto.specs.Walks.{target, edges_at, via, ends_at, accepted}
use Rattle.pm_auto.proofs.AcceptLaws.{accepted-in, edges-of-at, both-ways}
use Rattle.pm_auto.specs.Core.{Lang}
use Rattle.pm_places.specs.Words.{numbered, spelled, type_at}
use Rattle.pm_places.specs.Nexts.{BeginsWith, IsBegun, ComesNext, led_to, IsStateAfter, IsLeast, AreTypesNext, AreAlike}
use Rattle.pm_places.specs.Laws.{IsAutomatonOf}
use Rattle.pm_auto.proofs.HasLaws.{has-back}
use Rattle.pm_places.proofs.Members.{Is_in, has-is, in-contains, contains-in, Rising, rising-next, rising-same, order-in, in-order, order-rising}
use Rattle.pm_places.proofs.Links.{kind_at, Linked, Within, order-within, in-kinds, Spelled, leads-linked, linked-leads, leads-one}
use Rattle.pm_places.proofs.Numbering.{kind-type}
use Rattle.pm_places.proofs.Sound.{trim-goes}
use Rattle.pm_places.proofs.Chains.{word-linked, linked-word}
use Rattle.pm_places.proofs.Walked.{has-once, leads-led, led-leads}
use Rattle.pm_places.proofs.Leasts.{leasts, leasts-types, leasts-rising, leasts-in, leasts-least}

-- a state that a list leads to has its places in order, and each has a row
record In_order (rs : List Row) (s : PlaceSet) : Type 0 where
  within : Within rs s.places
  rising : Rising 0 s.places

leads-order : (rs : List Row) (w : List ℕ) (s t : PlaceSet) → In_order rs s → Leads_to rs s w t → In_order rs t
leads-order rs [] s t o h = subst (In_order rs) h o
leads-order rs (k ∷ w) s t o h = leads-order rs w (step rs k s) t record { within = order-within rs (next_rows rs k s.places); rising = order-rising (next_rows rs k s.places) 0 rs } h.1

-- a walk that arrives accepts where the state it arrives at may end
led-accepted : (ss : List PlaceSet) (ess : List (List Edge)) (w : List ℕ) (i t : ℕ) → led_to ess i w ≡ Some t → accepted ss ess i w ≡ ends_at ss t
led-accepted ss ess [] i t h = let e : i ≡ t = cc in ap (ends_at ss) e
led-accepted ss ess (k ∷ w) i t h = at (target k (edges_at ess i)) h (λ j. led-accepted ss ess w j t)
  where
    at : (o : Option ℕ) → option_and_then (λ (j : ℕ). led_to ess j w) o ≡ Some t → ((j : ℕ) → led_to ess j w ≡ Some t → accepted ss ess j w ≡ ends_at ss t) → via (λ (j : ℕ). accepted ss ess j w) o ≡ ends_at ss t
    at None h f = absurd (cc)
    at (Some j) h f = f j h

-- each state can be reached from the start
reached-at : (rs : List Row) (s : PlaceSet) (ts : List PlaceSet) (i : ℕ) → i < length ts → All_reached rs s ts → (w : List ℕ) × Leads_to rs s w (set_at ts i)
reached-at rs s [] i l r = absurd (omega arith)
reached-at rs s (t ∷ ts) zero l r = r.0
reached-at rs s (t ∷ ts) (suc i) l r = reached-at rs s ts i (omega arith) r.1

apart-at : (s : PlaceSet) (ts : List PlaceSet) (i : ℕ) → i < length ts → Apart s ts → s ≡ set_at ts i → ⊥
apart-at s [] i l h e = omega arith
apart-at s (t ∷ ts) zero l h e = h.0 e
apart-at s (t ∷ ts) (suc i) l h e = apart-at s ts i (omega arith) h.1 e

-- states that differ have one number each
number-one : (ss : List PlaceSet) (i j : ℕ) → i < length ss → j < length ss → Differ ss → set_at ss i ≡ set_at ss j → i ≡ j
number-one [] i j l r d e = absurd (omega arith)
number-one (s ∷ ss) zero zero l r d e = refl
number-one (s ∷ ss) zero (suc j) l r d e = absurd (apart-at s ss j (omega arith) d.0 e)
number-one (s ∷ ss) (suc i) zero l r d e = absurd (apart-at s ss i (omega arith) d.0 (sym e))
number-one (s ∷ ss) (suc i) (suc j) l r d e = ap suc (number-one ss i j (omega arith) (omega arith) d.1 e)

-- an item of a list is in it
item-in : (xs : List ℕ) (k d : ℕ) → k < length xs → Is_in (get_or xs k d) xs
item-in [] k d l = absurd (omega arith)
item-in (x ∷ xs) zero d l = inl refl
item-in (x ∷ xs) (suc k) d l = inr (item-in xs k d (omega arith))

none-behind : (ps : List ℕ) (q : ℕ) → ps ++ q ∷ [] ≡ [] → ⊥
none-behind [] q n = absurd (cc)
none-behind (p ∷ ps) q n = absurd (cc)

module _ (x : Expr) (a : Auto) (h : IsAutomatonOf x a) where
  abbrev rs : List Row
  rs = rows 0 (trimmed x)

  abbrev start : PlaceSet
  start = start_of (trimmed x)

  spell-types : (ps : List ℕ) → map (kind_at rs) ps ≡ spelled x ps
  spell-types [] = refl
  spell-types (p ∷ ps) = rw (kind-type (trimmed x) p, spell-types ps) refl

  start-order : In_order rs start
  start-order = record { within = order-within rs (firsts 0 (trimmed x)); rising = order-rising (firsts 0 (trimmed x)) 0 rs }

  start-linked : (ps : List ℕ) → Linked rs (firsts 0 (trimmed x)) ps → Linked rs start.places ps
  start-linked [] l = tt
  start-linked (p ∷ ps) l = let u : p < length rs = l.0.1 in ((in-order (firsts 0 (trimmed x)) 0 p rs l.0.0 (omega arith) (omega (arith, u)), l.0.1), l.1)

  linked-start : (ps : List ℕ) → Linked rs start.places ps → Linked rs (firsts 0 (trimmed x)) ps
  linked-start [] l = tt
  linked-start (p ∷ ps) l = (((order-in (firsts 0 (trimmed x)) 0 p rs l.0.0).0, l.0.1), l.1)

  begins-spelled : (w us : List ℕ) → BeginsWith x w us → Spelled rs start.places w us
  begins-spelled w us b = record { places = b.places; spell = spell-types b.places ∙ b.spell; links = start-linked (b.places ++ us) (word-linked (trimmed x) (b.places ++ us) b.rest b.word) }

  spelled-begins : (w us : List ℕ) → (s : Spelled rs start.places w us) → (s.places ++ us ≡ []) ⊎ BeginsWith x w us
  spelled-begins w us s = at (linked-word (trimmed x) (trim-goes (expand x)) (s.places ++ us) (linked-start (s.places ++ us) s.links))
    where
      at : (s.places ++ us ≡ []) ⊎ ((v : List ℕ) × Lang (numbered 0 (trimmed x)) ((s.places ++ us) ++ v)) → (s.places ++ us ≡ []) ⊎ BeginsWith x w us
      at (inl e) = inl e
      at (inr r) = inr (record { places = s.places; spell = sym (spell-types s.places) ∙ s.spell; rest = r.0; word = r.1 })

  -- a list that leads to a state is a run to it from the start
  run-to : (w : List ℕ) (t : ℕ) → led_to a.edges 0 w ≡ Some t → Leads_to rs start w (set_at a.sets t)
  run-to w t e = subst (λ (s : PlaceSet). Leads_to rs s w (set_at a.sets t)) h.begins (led-leads rs a.sets a.edges h.full h.edges w 0 t h.some e).leads

  inside : (w : List ℕ) (t : ℕ) → led_to a.edges 0 w ≡ Some t → t < length a.sets
  inside w t e = (led-leads rs a.sets a.edges h.full h.edges w 0 t h.some e).inside

  begun : (w : List ℕ) (o : Option ℕ) → led_to a.edges 0 w ≡ o → IsSome o → IsBegun x w
  begun w None e i = absurd (cc)
  begun w (Some t) e i = at (spelled-begins w [] s)
    where
      s : Spelled rs start.places w []
      s = leads-linked rs w start (set_at a.sets t) [] start-order.within (run-to w t e) tt

      at : (s.places ++ [] ≡ []) ⊎ BeginsWith x w [] → IsBegun x w
      at (inl n) = inl (sym s.spell ∙ ap (map (kind_at rs)) (sym (append-nil s.places) ∙ n))
      at (inr b) = inr b

  leads : (w : List ℕ) → IsBegun x w → IsSome (led_to a.edges 0 w)
  leads w (inl e) = subst (λ (z : List ℕ). IsSome (led_to a.edges 0 z)) (sym e) refl
  leads w (inr b) =
      let s = begins-spelled w [] b in
      let l = linked-leads rs s.places [] start s.links in
      let r = leads-led rs a.sets a.edges h.full h.edges w 0 l.to h.some (subst (λ (z : PlaceSet). Leads_to rs z w l.to) (sym h.begins) (subst (λ (v : List ℕ). Leads_to rs start v l.to) s.spell l.leads)) in
      ap is_some r.is

  pub leads-where-begun : (w : List ℕ) → IsSome (led_to a.edges 0 w) ↔ IsBegun x w
  leads-where-begun w = (begun w (led_to a.edges 0 w) refl, leads w)

  module _ (w : List ℕ) (t : ℕ) (e : led_to a.edges 0 w ≡ Some t) where
    order : In_order rs (set_at a.sets t)
    order = leads-order rs w start (set_at a.sets t) start-order (run-to w t e)

    in-comes : (q : ℕ) → Is_in q (set_at a.sets t).places → ComesNext x w q
    in-comes q i = at (spelled-begins w (q ∷ []) s)
      where
        s : Spelled rs start.places w (q ∷ [])
        s = leads-linked rs w start (set_at a.sets t) (q ∷ []) start-order.within (run-to w t e) ((i, order.within q i), tt)

        at : (s.places ++ q ∷ [] ≡ []) ⊎ BeginsWith x w (q ∷ []) → ComesNext x w q
        at (inl n) = absurd (none-behind s.places q n)
        at (inr b) = b

    comes-in : (q : ℕ) → ComesNext x w q → Is_in q (set_at a.sets t).places
    comes-in q b =
        let s = begins-spelled w (q ∷ []) b in
        let l = linked-leads rs s.places (q ∷ []) start s.links in
        let same : l.to ≡ set_at a.sets t = leads-one rs w start l.to (set_at a.sets t) (subst (λ (v : List ℕ). Leads_to rs start v l.to) s.spell l.leads) (run-to w t e) in
        subst (λ (z : PlaceSet). Is_in q z.places) same l.links.0.0

    pub leads-to-state : IsStateAfter x w (set_at a.sets t)
    leads-to-state = record {
      next = λ q. (λ c. in-comes q (contains-in q (set_at a.sets t).places c), λ b. in-contains q (set_at a.sets t).places (comes-in q b));
      ordered = rising-next 0 (set_at a.sets t).places order.rising;
      ends = let is = led-accepted a.sets a.edges w 0 t e in let d = accepted-in x a h w in (λ i. d.0 (is ∙ i), λ i. sym is ∙ d.1 i);
    }

    abbrev least_places : List ℕ
    least_places = leasts rs [] (set_at a.sets t).places

    edges : Edges_of rs a.sets (set_at a.sets t) (edges_at a.edges t)
    edges = let l = inside w t e in let n = h.full in edges-of-at rs a.sets a.sets a.edges t (omega (arith, l, n)) h.edges

    is-least : (p : ℕ) → Is_in p least_places → IsLeast x w p
    is-least p i = record {
      comes = in-comes p (leasts-in rs p [] (set_at a.sets t).places i);
      least = λ q b d. leasts-least rs 0 p q [] (set_at a.sets t).places order.rising i (comes-in q b) (kind-type (trimmed x) q ∙ d ∙ sym (kind-type (trimmed x) p));
    }

    type-in : (q : ℕ) → Is_in q (set_at a.sets t).places → Is_in (type_at x q) (edge_kinds (edges_at a.edges t))
    type-in q i =
        let k = in-kinds rs (kind_at rs q) (set_at a.sets t).places (has-back (λ (p : ℕ). kind_at rs p ≡ kind_at rs q) (set_at a.sets t).places q i refl) in
        let o : Is_in (kind_at rs q) (edge_kinds (edges_at a.edges t)) = has-is (kind_at rs q) (edge_kinds (edges_at a.edges t)) (ap (has (kind_at rs q)) edges.types ∙ has-once (kind_at rs q) (kinds rs (set_at a.sets t).places) k) in
        subst (λ (z : ℕ). Is_in z (edge_kinds (edges_at a.edges t))) (kind-type (trimmed x) q) o

    pub has-edges-next : AreTypesNext x w (edge_kinds (edges_at a.edges t))
    has-edges-next = record {
      leasts = least_places;
      types_of = edges.types ∙ sym (leasts-types rs [] (set_at a.sets t).places) ∙ spell-types least_places;
      least = λ k d l. is-least (get_or least_places k d) (item-in least_places k d l);
      ordered = rising-next 0 least_places (leasts-rising rs 0 [] (set_at a.sets t).places order.rising);
      every = λ q b. in-contains (type_at x q) (edge_kinds (edges_at a.edges t)) (type-in q (comes-in q b));
    }

  pub reaches-each : (s : ℕ) → s < length a.sets → (w : List ℕ) × (led_to a.edges 0 w ≡ Some s)
  reaches-each s l =
      let r = reached-at rs start a.sets s l h.reached in
      let g = leads-led rs a.sets a.edges h.full h.edges r.0 0 (set_at a.sets s) h.some (subst (λ (z : PlaceSet). Leads_to rs z r.0 (set_at a.sets s)) (sym h.begins) r.1) in
      (r.0, g.is ∙ ap (λ (z : ℕ). Some z) (number-one a.sets g.to s g.inside l h.differ g.at))

  pub leads-alike : (v w : List ℕ) (s t : ℕ) → led_to a.edges 0 v ≡ Some s → led_to a.edges 0 w ≡ Some t → AreAlike x v w → s ≡ t
  leads-alike v w s t d e same = number-one a.sets s t (inside v s d) (inside w t e) h.differ (ap (λ (ps : List ℕ). let z : PlaceSet = record { places = ps; ends = (set_at a.sets s).ends } in z) places ∙ ap (λ (b : Bool). let z : PlaceSet = record { places = (set_at a.sets t).places; ends = b } in z) ends)
    where
      places : (set_at a.sets s).places ≡ (set_at a.sets t).places
      places = rising-same 0 0 (set_at a.sets s).places (set_at a.sets t).places (order v s d).rising (order w t e).rising
          (λ q i. comes-in w t e q ((same.0 q).0 (in-comes v s d q i)))
          (λ q i. comes-in v s d q ((same.0 q).1 (in-comes w t e q i)))

      ends : (set_at a.sets s).ends ≡ (set_at a.sets t).ends
      ends =
          let m : IsStateAfter x v (set_at a.sets s) = leads-to-state v s d in
          let n : IsStateAfter x w (set_at a.sets t) = leads-to-state w t e in
          both-ways (set_at a.sets s).ends (set_at a.sets t).ends (λ b. n.ends.1 (same.1.0 (m.ends.0 b))) (λ b. m.ends.1 (same.1.1 (n.ends.0 b)))
