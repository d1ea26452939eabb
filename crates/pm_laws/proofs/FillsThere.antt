-- Where some list of types that can be made leads from an automaton's start to a valid end, there is a shortest one.
use Rattle.std.proofs.Common.{◌≡◌, ◌<◌, ℕ, zero, suc, List, [], ◌∷◌, length, Bool, true, false, get_or, refl, ap, sym, ◌∙◌, subst, arith}
use Rattle.std.proofs.lemmas.List.{length-map}
use Rattle.pm_auto.specs.declared.auto.Edge.{Edge}
use Rattle.pm_auto.specs.declared.auto.Auto.{Auto}
use Rattle.pm_auto.specs.Graph.{leads, Shortest, Is_graph}
use Rattle.pm_auto.specs.Near.{near, nearer}
use Rattle.pm_auto.specs.Fills.{kept, makeable, filled}
use Rattle.pm_auto.specs.Finish.{Finishes}
use Rattle.pm_auto.proofs.GraphLaws.{kept-graph}
use Rattle.pm_auto.proofs.SearchLaws.{leads-near, is-shortest}
use Rattle.pm_auto.proofs.ReachLaws.{leads-ends}

-- the first number at which a test holds
record FirstOf (test : ℕ → Bool) : Type 0 where
  number : ℕ
  holds : test number ≡ true
  no_sooner : (i : ℕ) → i < number → test i ≡ false

first-of : (test : ℕ → Bool) (n : ℕ) → test n ≡ true → FirstOf test
first-of test zero h = record { number = 0; holds = h; no_sooner = λ i l. absurd (omega (arith, l)) }
first-of test (suc n) h = at (test 0) refl (first-of (λ i. test (suc i)) n h)
  where
    later : test 0 ≡ false → (f : FirstOf (λ i. test (suc i))) → (i : ℕ) → i < suc f.number → test i ≡ false
    later e f zero l = e
    later e f (suc i) l = f.no_sooner i (omega (arith, l))

    at : (b : Bool) → test 0 ≡ b → FirstOf (λ i. test (suc i)) → FirstOf test
    at true e f = record { number = 0; holds = e; no_sooner = λ i l. absurd (omega (arith, l)) }
    at false e f = record { number = suc f.number; holds = f.holds; no_sooner = later e f }

module _ (can : List Bool) where
  -- the list is the automaton's fill
  abbrev pub FillIs : Auto → List ℕ → Type 0
  FillIs a w = Shortest (makeable can a.edges) (filled a true []) 0 w

  pub long-links : (a : Auto) → length (makeable can a.edges) ≡ length a.sets
  long-links a = length-map a.edges (kept can) ∙ a.full

  pub links-graph : (a : Auto) → Is_graph (length (makeable can a.edges)) (makeable can a.edges)
  links-graph a = subst (λ (n : ℕ). Is_graph n (makeable can a.edges)) (sym (long-links a)) (kept-graph can (length a.sets) a.edges a.graph)

  fill-there : (a : Auto) → Finishes can a 0 → (w : List ℕ) × FillIs a w
  fill-there a f =
      let links : List (List Edge) = makeable can a.edges in
      let goals : List Bool = filled a true [] in
      let inside : 0 < length links = omega (arith, long-links a, a.some) in
      let on : leads links goals 0 f.list ≡ true = leads-ends can a f.list 0 a.some ∙ rw (f.makeable, f.ends) refl in
      let found : get_or (near links goals (length f.list)) 0 false ≡ true = leads-near links goals (links-graph a) f.list 0 inside on in
      let m = first-of (λ n. get_or (near links goals n) 0 false) (length f.list) found in
      (nearer links goals m.number 0, is-shortest links goals (links-graph a) m.number 0 (record { inside = inside; found = m.holds; no_sooner = m.no_sooner }))

  -- the fill of each automaton
  pub record FillsAre (autos : List Auto) (fills : List (List ℕ)) : Type 0 where
    pub full : length fills ≡ length autos
    pub each : (k : ℕ) (d : Auto) → k < length autos → FillIs (get_or autos k d) (get_or fills k [])

  one-more : (a : Auto) (as' : List Auto) (w : List ℕ) (ws : List (List ℕ)) → FillIs a w → FillsAre as' ws → FillsAre (a ∷ as') (w ∷ ws)
  one-more a as' w ws one rest = record { full = ap suc rest.full; each = at }
    where
      at : (k : ℕ) (d : Auto) → k < length (a ∷ as') → FillIs (get_or (a ∷ as') k d) (get_or (w ∷ ws) k [])
      at zero d l = one
      at (suc k) d l = rest.each k d (omega (arith, l))

  pub fills-there : (autos : List Auto) → ((k : ℕ) (d : Auto) → k < length autos → Finishes can (get_or autos k d) 0) → (fills : List (List ℕ)) × FillsAre autos fills
  fills-there [] f = ([], record { full = refl; each = λ k d l. absurd (omega (arith, l)) })
  fills-there (a ∷ as') f =
      let one = fill-there a (f 0 a (omega arith)) in
      let rest = fills-there as' (λ k d l. f (suc k) d (omega (arith, l))) in
      (one.0 ∷ rest.0, one-more a as' one.0 rest.0 one.1 rest.1)
