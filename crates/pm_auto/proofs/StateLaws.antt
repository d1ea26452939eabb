-- What a search of states keeps.
use Rattle.std.proofs.Common.{◌≡◌, ℕ, zero, suc, ◌+◌, ◌<◌, ◌≤◌, List, [], ◌∷◌, ◌++◌, length, get_or, take, Bool, true, false, cond, refl, ap, sym, ◌∙◌, subst, arith, inl, inr, length-append, append_assoc, append-nil}
use Rattle.std.proofs.lemmas.List.{take_more}
use Rattle.pm_auto.proofs.OnceLaws.{once-at}
use Rattle.pm_auto.specs.declared.places.Row.{Row}
use Rattle.pm_auto.specs.declared.sets.PlaceSet.{PlaceSet}
use Rattle.pm_auto.specs.declared.auto.Edge.{Edge}
use Rattle.pm_auto.specs.Runs.{next_rows}
use Rattle.pm_auto.specs.States.{has, in_order, Below, step, kinds, once, Leads_to, All_reached, Apart, Differ, Too_many, edge_kinds, set_at, Lead_on, Edges_of, All_edges}
use Rattle.pm_auto.specs.Found.{All_below, Found, Grows, Placed, Only_wide}
use Rattle.pm_auto.specs.declared.error.AutoError.{AutoError}
use Rattle.pm_auto.specs.declared.error.AutoError.TheVariants.{Mixed, TooWide, NoMemory}

-- the places of a state that a step leads to are places of the table
in-order-below : (ns : List ℕ) (n m : ℕ) (rs : List Row) → n + length rs ≤ m → Below m (in_order ns n rs)
in-order-below ns n m [] h = tt
in-order-below ns n m (r ∷ rs) h = at (has n ns) (in-order-below ns (suc n) m rs (omega arith))
  where
    at : (b : Bool) → Below m (in_order ns (suc n) rs) → Below m (cond b (n ∷ in_order ns (suc n) rs) (in_order ns (suc n) rs))
    at true i = (omega arith, i)
    at false i = i

pub order-below : (ns : List ℕ) (rs : List Row) → Below (length rs) (in_order ns 0 rs)
order-below ns rs = in-order-below ns 0 (length rs) rs (omega arith)

-- a list that leads to a state, and one type more
leads-more : (rs : List Row) (s t : PlaceSet) (w : List ℕ) (k : ℕ) → Leads_to rs s w t → has k (kinds rs t.places) ≡ true → Leads_to rs s (w ++ k ∷ []) (step rs k t)
leads-more rs s t [] k h e = (subst (λ (u : PlaceSet). has k (kinds rs u.places) ≡ true) (sym h) e, ap (step rs k) h)
leads-more rs s t (j ∷ w) k h e = (h.0, leads-more rs (step rs j s) t w k h.1 e)

pub at-append : (ss more : List PlaceSet) (i : ℕ) → i < length ss → set_at (ss ++ more) i ≡ set_at ss i
at-append [] more i h = absurd (omega arith)
at-append (s ∷ ss) more zero h = refl
at-append (s ∷ ss) more (suc i) h = at-append ss more i (omega arith)

pub at-end : (ss : List PlaceSet) (s : PlaceSet) → set_at (ss ++ s ∷ []) (length ss) ≡ s
at-end [] s = refl
at-end (x ∷ ss) s = at-end ss s

pub reached-at : (rs : List Row) (s : PlaceSet) (ts : List PlaceSet) (i : ℕ) → i < length ts → All_reached rs s ts → (w : List ℕ) × Leads_to rs s w (set_at ts i)
reached-at rs s [] i h r = absurd (omega arith)
reached-at rs s (t ∷ ts) zero h r = r.0
reached-at rs s (t ∷ ts) (suc i) h r = reached-at rs s ts i (omega arith) r.1

pub below-at : (n : ℕ) (ts : List PlaceSet) (i : ℕ) → i < length ts → All_below n ts → Below n (set_at ts i).places
below-at n [] i h b = absurd (omega arith)
below-at n (t ∷ ts) zero h b = b.0
below-at n (t ∷ ts) (suc i) h b = below-at n ts i (omega arith) b.1

reached-end : (rs : List Row) (s t : PlaceSet) (ts : List PlaceSet) → All_reached rs s ts → ((w : List ℕ) × Leads_to rs s w t) → All_reached rs s (ts ++ t ∷ [])
reached-end rs s t [] r p = (p, tt)
reached-end rs s t (x ∷ ts) r p = (r.0, reached-end rs s t ts r.1 p)

below-end : (n : ℕ) (t : PlaceSet) (ts : List PlaceSet) → All_below n ts → Below n t.places → All_below n (ts ++ t ∷ [])
below-end n t [] r p = (p, tt)
below-end n t (x ∷ ts) r p = (r.0, below-end n t ts r.1 p)

pub apart-end : (s t : PlaceSet) (ts : List PlaceSet) → Apart s ts → (s ≡ t → ⊥) → Apart s (ts ++ t ∷ [])
apart-end s t [] a n = (n, tt)
apart-end s t (x ∷ ts) a n = (a.0, apart-end s t ts a.1 n)

differ-end : (t : PlaceSet) (ts : List PlaceSet) → Differ ts → Apart t ts → Differ (ts ++ t ∷ [])
differ-end t [] d a = (tt, tt)
differ-end t (x ∷ ts) d a = (apart-end x t ts d.0 (λ e. a.0 (sym e)), differ-end t ts d.1 a.1)

-- one state is at hand, and a step from it is placed
module _ (rs : List Row) (ss : List PlaceSet) (f : Found rs ss) (at k : ℕ) (l : at < length ss) (e : has k (kinds rs (set_at ss at).places) ≡ true) where
  next-reached : (w : List ℕ) × Leads_to rs (set_at ss 0) w (step rs k (set_at ss at))
  next-reached = let r = reached-at rs (set_at ss 0) ss at l f.reached in (r.0 ++ k ∷ [], leads-more rs (set_at ss 0) (set_at ss at) r.0 k r.1 e)

  pub too-many : Apart (step rs k (set_at ss at)) ss → 999 < length ss → Too_many rs (set_at ss 0)
  too-many a m = record { states = step rs k (set_at ss at) ∷ ss; reached = (next-reached, f.reached); differ = (a, f.differ); many = omega arith }

  found-end : Apart (step rs k (set_at ss at)) ss → length ss < 1000 → Found rs (ss ++ step rs k (set_at ss at) ∷ [])
  found-end a m = record {
    some = let h = f.some in omega (arith, length-append ss (step rs k (set_at ss at) ∷ []));
    reached = subst (λ (s : PlaceSet). All_reached rs s (ss ++ step rs k (set_at ss at) ∷ [])) (sym (at-append ss (step rs k (set_at ss at) ∷ []) 0 f.some)) (reached-end rs (set_at ss 0) (step rs k (set_at ss at)) ss f.reached next-reached);
    differ = differ-end (step rs k (set_at ss at)) ss f.differ a;
    below = below-end (length rs) (step rs k (set_at ss at)) ss f.below (order-below (next_rows rs k (set_at ss at).places) rs);
    few = omega (arith, length-append ss (step rs k (set_at ss at) ∷ []));
  }

  pub record Placing (t : ℕ) (new : List PlaceSet) : Type 0 where
    pub found : Found rs new
    pub grows : Grows ss new
    pub within : t < length new
    pub is : set_at new t ≡ step rs k (set_at ss at)

  pub placing : (t : ℕ) (new : List PlaceSet) → Placed ss (step rs k (set_at ss at)) t new → Placing t new
  placing t new (inl h) = record { found = subst (Found rs) (sym h.0) f; grows = ([], h.0 ∙ sym (append-nil ss)); within = subst (λ (z : List PlaceSet). t < length z) (sym h.0) h.1; is = ap (λ z. set_at z t) h.0 ∙ h.2 }
  placing t new (inr h) = record {
    found = subst (Found rs) (sym h.0) (found-end h.2 h.3);
    grows = (step rs k (set_at ss at) ∷ [], h.0);
    within = let g = ap length h.0 ∙ length-append ss (step rs k (set_at ss at) ∷ []) in omega (arith, g, h.1);
    is = rw (h.0, h.1) (at-end ss (step rs k (set_at ss at)));
  }

pub grows-through : (a b c : List PlaceSet) → Grows a b → Grows b c → Grows a c
grows-through a b c g h = (g.0 ++ h.0, h.1 ∙ ap (λ z. z ++ h.0) g.1 ∙ append_assoc a g.0 h.0)

pub grows-at : (a b : List PlaceSet) (i : ℕ) → Grows a b → i < length a → set_at b i ≡ set_at a i
grows-at a b i g l = ap (λ z. set_at z i) g.1 ∙ at-append a g.0 i l

pub grows-length : (a b : List PlaceSet) → Grows a b → length a ≤ length b
grows-length a b g = let h = ap length g.1 ∙ length-append a g.0 in omega (arith, h)

-- what was said of edges stays so
pub lead-grows : (rs : List Row) (a b : List PlaceSet) (s : PlaceSet) (es : List Edge) → Grows a b → Lead_on rs a s es → Lead_on rs b s es
lead-grows rs a b s [] g h = tt
lead-grows rs a b s (e ∷ es) g h =
    let l : e.to < length a = h.0.0 in
    ((let n = grows-length a b g in omega (arith, n, l), grows-at a b e.to g l ∙ h.0.1), lead-grows rs a b s es g h.1)

edges-grow : (rs : List Row) (a b : List PlaceSet) (s : PlaceSet) (es : List Edge) → Grows a b → Edges_of rs a s es → Edges_of rs b s es
edges-grow rs a b s es g h = record { types = h.types; lead = lead-grows rs a b s es g h.lead }

edges-longer : (rs : List Row) (ss ts more : List PlaceSet) (ess : List (List Edge)) → All_edges rs ss ts ess → All_edges rs ss (ts ++ more) ess
edges-longer rs ss ts more [] h = tt
edges-longer rs ss [] more (es ∷ ess) h = absurd h
edges-longer rs ss (t ∷ ts) more (es ∷ ess) h = (h.0, edges-longer rs ss ts more ess h.1)

all-grow : (rs : List Row) (a b ts : List PlaceSet) (ess : List (List Edge)) → Grows a b → All_edges rs a ts ess → All_edges rs b ts ess
all-grow rs a b ts [] g h = tt
all-grow rs a b [] (es ∷ ess) g h = absurd h
all-grow rs a b (t ∷ ts) (es ∷ ess) g h = (edges-grow rs a b t es g h.0, all-grow rs a b ts ess g h.1)

all-end : (rs : List Row) (ss ts : List PlaceSet) (ess : List (List Edge)) (es : List Edge) → length ess < length ts → All_edges rs ss ts ess → Edges_of rs ss (set_at ts (length ess)) es → All_edges rs ss ts (ess ++ es ∷ [])
all-end rs ss [] [] es l h e = absurd (omega arith)
all-end rs ss (t ∷ ts) [] es l h e = (e, tt)
all-end rs ss [] (x ∷ ess) es l h e = absurd h
all-end rs ss (t ∷ ts) (x ∷ ess) es l h e = (h.0, all-end rs ss ts ess es (omega arith) h.1 e)

-- the edges of one state more
pub edges-more : (rs : List Row) (a b : List PlaceSet) (ess : List (List Edge)) (es : List Edge) → Grows a b → length ess < length a → All_edges rs a a ess → Edges_of rs b (set_at a (length ess)) es → All_edges rs b b (ess ++ es ∷ [])
edges-more rs a b ess es g l h e =
    let i : All_edges rs b b ess = subst (λ (z : List PlaceSet). All_edges rs b z ess) (sym g.1) (edges-longer rs b a g.0 ess (all-grow rs a b a ess g h)) in
    let n = grows-length a b g in
    all-end rs b b ess es (omega (arith, n)) i (subst (λ (s : PlaceSet). Edges_of rs b s es) (sym (grows-at a b (length ess) g l)) e)

pub lead-end : (rs : List Row) (ss : List PlaceSet) (s : PlaceSet) (es : List Edge) (e : Edge) → Lead_on rs ss s es → (e.to < length ss) → (set_at ss e.to ≡ step rs e.kind s) → Lead_on rs ss s (es ++ e ∷ [])
lead-end rs ss s [] e h l i = ((l, i), tt)
lead-end rs ss s (x ∷ es) e h l i = (h.0, lead-end rs ss s es e h.1 l i)

pub kinds-end : (es : List Edge) (e : Edge) → edge_kinds (es ++ e ∷ []) ≡ edge_kinds es ++ e.kind ∷ []
kinds-end [] e = refl
kinds-end (x ∷ es) e = ap (λ z. x.kind ∷ z) (kinds-end es e)

pub at-is : (ss xs : List PlaceSet) (i : ℕ) (r : PlaceSet) → xs ≡ ss → i < length ss → r ≡ get_or xs i r → r ≡ set_at ss i
at-is ss xs i r e l is = go ss i l (is ∙ ap (λ z. get_or z i r) e)
  where
    go : (ss : List PlaceSet) (i : ℕ) → i < length ss → r ≡ get_or ss i r → r ≡ set_at ss i
    go [] i l is = absurd (omega arith)
    go (s ∷ ss) zero l is = is
    go (s ∷ ss) (suc i) l is = go ss i (omega arith) is

-- one turn of the search for the edges of a state
module _ (rs : List Row) (a ss : List PlaceSet) (at i k : ℕ) (ks : List ℕ) (f : Found rs ss) (g : Grows a ss) (l : at < length a)
    (li : i < length ks) (eks : ks ≡ once [] (kinds rs (set_at a at).places)) (ek : k ≡ get_or ks i 0) where
  within : at < length ss
  within = let n = grows-length a ss g in omega (arith, n, l)

  same-state : set_at ss at ≡ set_at a at
  same-state = grows-at a ss at g l

  at-hand : has k (kinds rs (set_at ss at).places) ≡ true
  at-hand =
      let h : has (get_or (once [] (kinds rs (set_at a at).places)) i 0) (kinds rs (set_at a at).places) ≡ true =
      once-at (kinds rs (set_at a at).places) i (subst (λ (z : List ℕ). i < length z) eks li) in
      rw (same-state, ek, eks) h

  pub turn-wide : (next : PlaceSet) → next ≡ step rs k (set_at ss at) → Apart next ss → 999 < length ss → Too_many rs (set_at a 0)
  turn-wide next is ap-next m =
      subst (Too_many rs) (grows-at a ss 0 g (omega (arith, l))) (too-many rs ss f at k within at-hand (subst (λ (z : PlaceSet). Apart z ss) is ap-next) m)

  pub turn : (es new-es : List Edge) (next : PlaceSet) (t : ℕ) (new : List PlaceSet) → Lead_on rs ss (set_at a at) es → edge_kinds es ≡ take i ks
      → next ≡ step rs k (set_at ss at) → Placed ss next t new → new-es ≡ es ++ record { kind = k; to = t } ∷ []
      → Found rs new × Grows a new × Lead_on rs new (set_at a at) new-es × (edge_kinds new-es ≡ take (i + 1) ks)
  turn es new-es next t new le ke is p en =
      let q : Placing rs ss f at k within at-hand t new = placing rs ss f at k within at-hand t new (subst (λ (z : PlaceSet). Placed ss z t new) is p) in (
        q.found,
        grows-through a ss new g q.grows,
        subst (Lead_on rs new (set_at a at)) (sym en) (lead-end rs new (set_at a at) es record { kind = k; to = t } (lead-grows rs ss new (set_at a at) es q.grows le) q.within (q.is ∙ ap (step rs k) same-state)),
        ap edge_kinds en ∙ kinds-end es record { kind = k; to = t } ∙ rw ke (sym (take_more ks i 0 li ∙ ap (λ (z : ℕ). take i ks ++ z ∷ []) (sym ek))),
      )

pub only-map : (P Q : Type 0) (e : AutoError) → (P → Q) → Only_wide P e → Only_wide Q e
only-map P Q Mixed f h = h
only-map P Q TooWide f h = f h
only-map P Q NoMemory f h = h
