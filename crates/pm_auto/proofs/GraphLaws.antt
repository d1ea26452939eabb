-- The edges of an automaton make a graph.
use Rattle.std.proofs.Common.{◌≡◌, ℕ, zero, suc, ◌+◌, ◌<◌, List, [], ◌∷◌, ◌++◌, length, map, Bool, true, false, ◌||◌, ◌&&◌, not, cond, eqb, nat_lt, get_or, Some, IfSome, refl, ap, sym, ◌∙◌, subst, arith, length-append}
use Rattle.std.proofs.lemmas.Bool.{eq-eqb}
use borrow.Author.Tests.{ltb-true}
use Rattle.std.proofs.lemmas.List.{length-map}
use Rattle.pm_auto.specs.declared.places.Row.{Row}
use Rattle.pm_auto.specs.declared.sets.PlaceSet.{PlaceSet}
use Rattle.pm_auto.specs.declared.auto.Edge.{Edge}
use Rattle.pm_auto.specs.declared.auto.Auto.{Auto}
use Rattle.pm_auto.specs.States.{has, once, kinds, edge_kinds, Lead_on, Edges_of, All_edges}
use Rattle.pm_auto.specs.Walks.{target, edges_at, ends_at}
use Rattle.pm_auto.specs.Graph.{Parted, Inside, Is_graph}
use Rattle.pm_auto.specs.Fills.{kept, makeable, fits_from}
use Rattle.pm_auto.specs.Wraps.{wrappers, inner_links, wrap_links}
use Rattle.pm_auto.proofs.OnceLaws.{has-once}
use Rattle.pm_auto.proofs.SetLaws.{has-append}
use Rattle.pm_auto.proofs.AcceptLaws.{or-right}

-- each number once
abbrev Each_once : List ℕ → Type 0
Each_once [] = Unit {0}
Each_once (k ∷ ks) = (has k ks ≡ false) × Each_once ks

has-self : (seen : List ℕ) (k : ℕ) → has k (seen ++ k ∷ []) ≡ true
has-self seen k = has-append k seen (k ∷ []) ∙ ap (λ z. has k seen || (z || false)) (eq-eqb k k refl) ∙ or-right (has k seen)

once-once : (ks seen : List ℕ) → Each_once (once seen ks)
once-once [] seen = tt
once-once (k ∷ ks) seen = at (has k seen) (once-once ks seen) (once-once ks (seen ++ k ∷ []))
  where
    at : (b : Bool) → Each_once (once seen ks) → Each_once (once (seen ++ k ∷ []) ks) → Each_once (cond b (once seen ks) (k ∷ once (seen ++ k ∷ []) ks))
    at true i j = i
    at false i j = (has-once k ks (seen ++ k ∷ []) ∙ ap (λ z. not z && has k ks) (has-self seen k), j)

parted-kinds : (es : List Edge) → Each_once (edge_kinds es) → Parted es
parted-kinds [] h = tt
parted-kinds (e ∷ es) h = (h.0, parted-kinds es h.1)

lead-inside : (rs : List Row) (ss : List PlaceSet) (s : PlaceSet) (es : List Edge) → Lead_on rs ss s es → Inside (length ss) es
lead-inside rs ss s [] h = tt
lead-inside rs ss s (e ∷ es) h = (h.0.0, lead-inside rs ss s es h.1)

pub edges-graph : (rs : List Row) (ss ts : List PlaceSet) (ess : List (List Edge)) → All_edges rs ss ts ess → Is_graph (length ss) ess
edges-graph rs ss ts [] h = tt
edges-graph rs ss [] (es ∷ ess) h = absurd h
edges-graph rs ss (t ∷ ts) (es ∷ ess) h =
    let e : Edges_of rs ss t es = h.0 in
    ((parted-kinds es (subst Each_once (sym e.types) (once-once (kinds rs t.places) [])), lead-inside rs ss t es e.lead), edges-graph rs ss ts ess h.1)

-- an edge leads to a state of the automaton
pub target-state : (n k s : ℕ) (ess : List (List Edge)) → Is_graph n ess → IfSome (target k (edges_at ess s)) (λ t. t < n)
target-state n k s [] g = tt
target-state n k zero (es ∷ ess) g = one es g.0.1
  where
    one : (es : List Edge) → Inside n es → IfSome (target k es) (λ t. t < n)
    one [] h = tt
    one (e ∷ es) h = at (eqb e.kind k) (one es h.1)
      where
        at : (b : Bool) → IfSome (target k es) (λ t. t < n) → IfSome (cond b (Some e.to) (target k es)) (λ t. t < n)
        at true i = h.0
        at false i = i
target-state n k (suc s) (es ∷ ess) g = target-state n k s ess g.1

-- leaving links out leaves a graph
has-kept : (can : List Bool) (j : ℕ) (es : List Edge) → has j (edge_kinds es) ≡ false → has j (edge_kinds (kept can es)) ≡ false
has-kept can j [] h = refl
has-kept can j (e ∷ es) h = at (eqb e.kind j) refl (has-kept can j es)
  where
    one : (b : Bool) → eqb e.kind j ≡ false → has j (edge_kinds (kept can es)) ≡ false → has j (edge_kinds (cond b (e ∷ kept can es) (kept can es))) ≡ false
    one true q i = rw q i
    one false q i = i

    at : (b : Bool) → eqb e.kind j ≡ b → (has j (edge_kinds es) ≡ false → has j (edge_kinds (kept can es)) ≡ false) → has j (edge_kinds (cond (get_or can e.kind false) (e ∷ kept can es) (kept can es))) ≡ false
    at true q i = absurd (let t : true || has j (edge_kinds es) ≡ false = subst (λ (b : Bool). b || has j (edge_kinds es) ≡ false) q h in cc)
    at false q i = one (get_or can e.kind false) q (i (subst (λ (b : Bool). b || has j (edge_kinds es) ≡ false) q h))

kept-parted : (can : List Bool) (es : List Edge) → Parted es → Parted (kept can es)
kept-parted can [] h = tt
kept-parted can (e ∷ es) h = at (get_or can e.kind false) (kept-parted can es h.1)
  where
    at : (b : Bool) → Parted (kept can es) → Parted (cond b (e ∷ kept can es) (kept can es))
    at true i = (has-kept can e.kind es h.0, i)
    at false i = i

kept-inside : (can : List Bool) (n : ℕ) (es : List Edge) → Inside n es → Inside n (kept can es)
kept-inside can n [] h = tt
kept-inside can n (e ∷ es) h = at (get_or can e.kind false) (kept-inside can n es h.1)
  where
    at : (b : Bool) → Inside n (kept can es) → Inside n (cond b (e ∷ kept can es) (kept can es))
    at true i = (h.0, i)
    at false i = i

pub kept-graph : (can : List Bool) (n : ℕ) (ess : List (List Edge)) → Is_graph n ess → Is_graph n (makeable can ess)
kept-graph can n [] g = tt
kept-graph can n (es ∷ ess) g = ((kept-parted can es g.0.0, kept-inside can n es g.0.1), kept-graph can n ess g.1)

pub length-fits : (ss : List PlaceSet) (ess : List (List Edge)) (to_end : Bool) (after : List ℕ) (s : ℕ) (xs : List PlaceSet) → length (fits_from ss ess to_end after s xs) ≡ length xs
length-fits ss ess to_end after s [] = refl
length-fits ss ess to_end after s (x ∷ xs) = ap suc (length-fits ss ess to_end after (suc s) xs)

-- the links of wrappers
module _ (may : List Bool) (n : ℕ) (to_end : Bool) (ss : List PlaceSet) where
  has-wrappers : (j : ℕ) (es : List Edge) → has j (edge_kinds es) ≡ false → has j (edge_kinds (wrappers may n to_end ss es)) ≡ false
  has-wrappers j [] h = refl
  has-wrappers j (e ∷ es) h = at (eqb e.kind j) refl (has-wrappers j es)
    where
      one : (b : Bool) → eqb e.kind j ≡ false → has j (edge_kinds (wrappers may n to_end ss es)) ≡ false → has j (edge_kinds (cond b (record { kind = e.kind; to = e.kind } ∷ wrappers may n to_end ss es) (wrappers may n to_end ss es))) ≡ false
      one true q i = rw q i
      one false q i = i

      at : (b : Bool) → eqb e.kind j ≡ b → (has j (edge_kinds es) ≡ false → has j (edge_kinds (wrappers may n to_end ss es)) ≡ false) → has j (edge_kinds (wrappers may n to_end ss (e ∷ es))) ≡ false
      at true q i = absurd (let t : true || has j (edge_kinds es) ≡ false = subst (λ (b : Bool). b || has j (edge_kinds es) ≡ false) q h in cc)
      at false q i = one ((nat_lt e.kind n && get_or may e.kind false) && (not to_end || ends_at ss e.to)) q (i (subst (λ (b : Bool). b || has j (edge_kinds es) ≡ false) q h))

  wrappers-parted : (es : List Edge) → Parted es → Parted (wrappers may n to_end ss es)
  wrappers-parted [] h = tt
  wrappers-parted (e ∷ es) h = at ((nat_lt e.kind n && get_or may e.kind false) && (not to_end || ends_at ss e.to)) (wrappers-parted es h.1)
    where
      at : (b : Bool) → Parted (wrappers may n to_end ss es) → Parted (cond b (record { kind = e.kind; to = e.kind } ∷ wrappers may n to_end ss es) (wrappers may n to_end ss es))
      at true i = (has-wrappers e.kind es h.0, i)
      at false i = i

  wrappers-inside : (es : List Edge) → Inside (n + 1) (wrappers may n to_end ss es)
  wrappers-inside [] = tt
  wrappers-inside (e ∷ es) = at (nat_lt e.kind n) (get_or may e.kind false && true) refl (wrappers-inside es)
    where
      at : (b c : Bool) → nat_lt e.kind n ≡ b → Inside (n + 1) (wrappers may n to_end ss es) → Inside (n + 1) (wrappers may n to_end ss (e ∷ es))
      at true c q i = one ((nat_lt e.kind n && get_or may e.kind false) && (not to_end || ends_at ss e.to))
        where
          one : (b : Bool) → Inside (n + 1) (cond b (record { kind = e.kind; to = e.kind } ∷ wrappers may n to_end ss es) (wrappers may n to_end ss es))
          one true = (let l : e.kind < n = ltb-true e.kind n q in omega (arith, l), i)
          one false = i
      at false c q i = rw q i

inner-parted : (may : List Bool) (n : ℕ) (a : Auto) → Parted (edges_at a.edges 0) → Parted (inner_links may n a)
inner-parted may n a h = wrappers-parted may n true a.sets (edges_at a.edges 0) h

edges-parted : (n : ℕ) (ess : List (List Edge)) (s : ℕ) → Is_graph n ess → Parted (edges_at ess s)
edges-parted n [] s g = tt
edges-parted n (es ∷ ess) zero g = g.0.0
edges-parted n (es ∷ ess) (suc s) g = edges-parted n ess s g.1

all-inner : (may : List Bool) (n : ℕ) (autos : List Auto) (last : List Edge) → Parted last × Inside (n + 1) last → Is_graph (n + 1) (map (inner_links may n) autos ++ last ∷ [])
all-inner may n [] last h = (h, tt)
all-inner may n (a ∷ more) last h =
    ((inner-parted may n a (edges-parted (length a.sets) a.edges 0 a.graph), wrappers-inside may n true a.sets (edges_at a.edges 0)), all-inner may n more last h)

pub wrap-length : (a : Auto) (s : ℕ) (autos : List Auto) (may : List Bool) → length (wrap_links a s autos may) ≡ length autos + 1
wrap-length a s autos may =
    length-append (map (inner_links may (length autos)) autos) (wrappers may (length autos) false a.sets (edges_at a.edges s) ∷ []) ∙ rw (length-map autos (inner_links may (length autos))) (omega arith)

pub wrap-graph : (a : Auto) (s : ℕ) (autos : List Auto) (may : List Bool) → Is_graph (length (wrap_links a s autos may)) (wrap_links a s autos may)
wrap-graph a s autos may =
    subst (λ (n : ℕ). Is_graph n (wrap_links a s autos may)) (sym (wrap-length a s autos may))
    (all-inner may (length autos) autos (wrappers may (length autos) false a.sets (edges_at a.edges s))
    (wrappers-parted may (length autos) false a.sets (edges_at a.edges s) (edges-parted (length a.sets) a.edges s a.graph), wrappers-inside may (length autos) false a.sets (edges_at a.edges s)))
