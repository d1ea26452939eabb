-- The shortest list to a goal is what the function gives.
use Rattle.std.proofs.Common.{◌≡◌, ℕ, zero, suc, ◌+◌, ◌<◌, ◌≤◌, List, [], ◌∷◌, ◌++◌, length, map, length-append, get_or, Bool, true, false, ◌||◌, ◌&&◌, not, cond, nat_lt, Option, Some, None, ◌⊎◌, inl, inr, refl, ap, sym, ◌∙◌, arith}
use Rattle.std.specs.Option.{option_or}
use Rattle.std.specs.List.{range_with_len}
use borrow.Author.Tests.{ltb-true}
use Rattle.std.proofs.lemmas.List.{length-map}
use Rattle.pm_auto.specs.declared.sets.PlaceSet.{PlaceSet}
use Rattle.pm_auto.specs.declared.auto.Edge.{Edge}
use Rattle.pm_auto.specs.declared.auto.Auto.{Auto}
use Rattle.pm_auto.specs.Walks.{target, edges_at, ends_at, via}
use Rattle.pm_auto.specs.Graph.{leads, Before, Shortest, Is_shortest, Inside}
use Rattle.pm_auto.specs.Wraps.{wrappers, inner_links, wrap_links, wrap_goals}
use Rattle.pm_auto.proofs.Orders.{le_or_lt}
use Rattle.pm_fit.specs.Paths.{first_some, first_of_length, shortest}
use Rattle.pm_fit.proofs.LengthLaws.{led, lead, sound, found, not-both}
use Rattle.pm_auto.proofs.SearchLaws.{target-inside}

-- ---- marks

-- a node less
abbrev clear : ℕ → List Bool → List Bool
clear s [] = []
clear zero (b ∷ bs) = false ∷ bs
clear (suc s) (b ∷ bs) = b ∷ clear s bs

abbrev trues : List Bool → ℕ
trues [] = 0
trues (true ∷ bs) = suc (trues bs)
trues (false ∷ bs) = trues bs

trues-clear : (s : ℕ) (bs : List Bool) → get_or bs s false ≡ true → trues bs ≡ suc (trues (clear s bs))
trues-clear s [] h = absurd (cc)
trues-clear zero (true ∷ bs) h = refl
trues-clear zero (false ∷ bs) h = absurd (cc)
trues-clear (suc s) (true ∷ bs) h = ap suc (trues-clear s bs h)
trues-clear (suc s) (false ∷ bs) h = trues-clear s bs h

clear-other : (s t : ℕ) (bs : List Bool) → (t ≡ s → ⊥) → get_or bs t false ≡ true → get_or (clear s bs) t false ≡ true
clear-other s t [] n h = h
clear-other zero zero (b ∷ bs) n h = absurd (n refl)
clear-other zero (suc t) (b ∷ bs) n h = h
clear-other (suc s) zero (b ∷ bs) n h = h
clear-other (suc s) (suc t) (b ∷ bs) n h = clear-other s t bs (λ e. n (ap suc e)) h

-- each node is marked
abbrev all : List (List Edge) → List Bool
all [] = []
all (es ∷ ess) = true ∷ all ess

trues-all : (ess : List (List Edge)) → trues (all ess) ≡ length ess
trues-all [] = refl
trues-all (es ∷ ess) = ap suc (trues-all ess)

all-marked : (ess : List (List Edge)) (s : ℕ) → s < length ess → get_or (all ess) s false ≡ true
all-marked [] s l = absurd (omega (arith, l))
all-marked (es ∷ ess) zero l = refl
all-marked (es ∷ ess) (suc s) l = all-marked ess s (omega (arith, l))

-- ---- no node twice

module _ (links : List (List Edge)) (goals : List Bool) where
  -- each node on the way is marked
  abbrev Stays : List Bool → ℕ → List ℕ → Type 0
  Stays bs s [] = get_or bs s false ≡ true
  Stays bs s (k ∷ w) = (get_or bs s false ≡ true) × ((t : ℕ) → target k (edges_at links s) ≡ Some t → Stays bs t w)

  -- no list to a goal is shorter than n
  abbrev No_shorter : ℕ → ℕ → Type 0
  No_shorter n s = (v : List ℕ) → leads links goals s v ≡ true → n ≤ length v

  -- a list that is shorter than each from s does not pass s
  avoids : (bs : List Bool) (s n : ℕ) → No_shorter n s → (w : List ℕ) (t : ℕ) → leads links goals t w ≡ true → length w < n → Stays bs t w → Stays (clear s bs) t w
  avoids bs s n least [] t h l st = clear-other s t bs (λ e. omega (arith, l, least [] (ap (λ z. leads links goals z []) (sym e) ∙ h))) st
  avoids bs s n least (k ∷ w) t h l st = (
    clear-other s t bs (λ e. omega (arith, l, least (k ∷ w) (ap (λ z. leads links goals z (k ∷ w)) (sym e) ∙ h))) st.0,
    λ r e. avoids bs s n least w r (sym (ap (via (λ z. leads links goals z w)) e) ∙ h) (omega (arith, l)) (st.1 r e),
  )

  few : (w : List ℕ) (s : ℕ) (bs : List Bool) → leads links goals s w ≡ true → No_shorter (length w) s → Stays bs s w → length w < trues bs
  few [] s bs h least st = omega (arith, trues-clear s bs st)
  few (k ∷ w) s bs h least st =
      let l = led links goals s k w h in
      let rest : Stays (clear s bs) l.to w = avoids bs s (suc (length w)) least w l.to l.on (omega arith) (st.1 l.to l.link) in
      let i : length w < trues (clear s bs) = few w l.to (clear s bs) l.on (λ v g. omega (arith, least (k ∷ v) (lead links goals s k l.to v l.link g))) rest in
      omega (arith, i, trues-clear s bs st.0)

-- ---- the first number with an answer

module _ (f : ℕ → Option (List ℕ)) where
  none-of : ((i : ℕ) → f i ≡ None) → (a m : ℕ) → first_some (map f (range_with_len a m)) ≡ None
  none-of h a zero = refl
  none-of h a (suc m) = ap (λ z. option_or z (first_some (map f (range_with_len (a + 1) m)))) (h a) ∙ none-of h (a + 1) m

  first-of : (n : ℕ) (w : List ℕ) → f n ≡ Some w → ((i : ℕ) → i < n → f i ≡ None) → (a m : ℕ) → a ≤ n → n < a + m → first_some (map f (range_with_len a m)) ≡ Some w
  first-of n w h before a zero l u = absurd (omega (arith, l, u))
  first-of n w h before a (suc m) l u = at (le_or_lt n a) (first-of n w h before (a + 1) m)
    where
      rest : Option (List ℕ)
      rest = first_some (map f (range_with_len (a + 1) m))

      at : (n ≤ a) ⊎ (a < n) → (a + 1 ≤ n → n < a + 1 + m → rest ≡ Some w) → option_or (f a) rest ≡ Some w
      at (inl g) i = let same : a ≡ n = omega (arith, l, g) in ap (λ z. option_or z rest) (ap f same ∙ h)
      at (inr g) i = ap (λ z. option_or z rest) (before a g) ∙ i (omega (arith, g)) (omega (arith, u))

-- ---- the shortest

module _ (links : List (List Edge)) (goals : List Bool) (inside : (s k t : ℕ) → target k (edges_at links s) ≡ Some t → t < length links) where
  stays : (w : List ℕ) (s : ℕ) → s < length links → Stays links goals (all links) s w
  stays [] s l = all-marked links s l
  stays (k ∷ w) s l = (all-marked links s l, λ t e. stays w t (inside s k t e))

  no-shorter : (s : ℕ) (w : List ℕ) → Shortest links goals s w → No_shorter links goals (length w) s
  no-shorter s w h v g = at (h.least v g)
    where
      at : (w ≡ v) ⊎ ((length w < length v) ⊎ ((length w ≡ length v) × Before links s w v)) → length w ≤ length v
      at (inl e) = omega (arith, ap length e)
      at (inr (inl l)) = omega (arith, l)
      at (inr (inr p)) = omega (arith, p.0)

  -- the shortest list, or None where there is none
  pub shortest-is : (s : ℕ) → s < length links → (o : Option (List ℕ)) → Is_shortest links goals s o → o ≡ shortest links goals s
  shortest-is s l None h = sym (none-of (λ n. first_of_length links goals n s) (λ n. no n (first_of_length links goals n s) refl) 0 (length links))
    where
      no : (n : ℕ) (o : Option (List ℕ)) → first_of_length links goals n s ≡ o → first_of_length links goals n s ≡ None
      no n None e = e
      no n (Some y) e = absurd (let t : true ≡ false = sym (sound links goals n s y e).leads_on ∙ h y in cc)
  shortest-is s l (Some w) h =
      let f = found links goals w s h.leads_on in
      let there = sound links goals (length w) s f.list f.is in
      let own : f.list ≡ w = same f.list there.size f.order (h.least f.list there.leads_on) in
      let size : length w < length links = omega (arith, few links goals w s (all links) h.leads_on (no-shorter s w h) (stays w s l), trues-all links) in
      sym (first-of (λ n. first_of_length links goals n s) (length w) w (f.is ∙ ap Some own) (λ i g. no i g (first_of_length links goals i s) refl) 0 (length links) (omega arith) (omega (arith, size)))
    where
      same : (u : List ℕ) → length u ≡ length w → (u ≡ w) ⊎ Before links s u w → (w ≡ u) ⊎ ((length w < length u) ⊎ ((length w ≡ length u) × Before links s w u)) → u ≡ w
      same u e (inl q) h = q
      same u e (inr b) (inl q) = sym q
      same u e (inr b) (inr (inl g)) = absurd (omega (arith, e, g))
      same u e (inr b) (inr (inr p)) = absurd (not-both links goals u w s b p.1)

      no : (i : ℕ) → i < length w → (o : Option (List ℕ)) → first_of_length links goals i s ≡ o → first_of_length links goals i s ≡ None
      no i g None e = e
      no i g (Some y) e = let y-is = sound links goals i s y e in absurd (omega (arith, g, y-is.size, no-shorter s w h y y-is.leads_on))

-- ---- the wrappers around a content

module _ (may : List Bool) (n : ℕ) where
  wrappers-inside : (to_end : Bool) (ss : List PlaceSet) (es : List Edge) → Inside (n + 1) (wrappers may n to_end ss es)
  wrappers-inside to_end ss [] = tt
  wrappers-inside to_end ss (e ∷ es) = at (nat_lt e.kind n) refl (wrappers-inside to_end ss es)
    where
      kept : (b : Bool) → e.kind < n → Inside (n + 1) (wrappers may n to_end ss es) → Inside (n + 1) (cond b (record { kind = e.kind; to = e.kind } ∷ wrappers may n to_end ss es) (wrappers may n to_end ss es))
      kept true l i = (omega (arith, l), i)
      kept false l i = i

      at : (b : Bool) → nat_lt e.kind n ≡ b → Inside (n + 1) (wrappers may n to_end ss es) → Inside (n + 1) (wrappers may n to_end ss (e ∷ es))
      at true q i = kept ((nat_lt e.kind n && get_or may e.kind false) && (not to_end || ends_at ss e.to)) (ltb-true e.kind n q) i
      at false q i = rw q i

  nodes-inside : (autos : List Auto) (last : List Edge) → Inside (n + 1) last → (node : ℕ) → Inside (n + 1) (edges_at (map (inner_links may n) autos ++ last ∷ []) node)
  nodes-inside [] last h zero = h
  nodes-inside [] last h (suc node) = tt
  nodes-inside (a ∷ autos) last h zero = wrappers-inside true a.sets (edges_at a.edges 0)
  nodes-inside (a ∷ autos) last h (suc node) = nodes-inside autos last h node

-- the shortest list of wrappers is what the function gives
module _ (a : Auto) (s to : ℕ) (autos : List Auto) (may : List Bool) where
  abbrev links : List (List Edge)
  links = wrap_links a s autos may

  abbrev first : List Edge
  first = wrappers may (length autos) false a.sets (edges_at a.edges s)

  pub nodes : length links ≡ length autos + 1
  nodes = length-append (map (inner_links may (length autos)) autos) (first ∷ []) ∙ rw (length-map autos (inner_links may (length autos))) (omega arith)

  pub inside : (node k t : ℕ) → target k (edges_at links node) ≡ Some t → t < length links
  inside node k t e =
      let h : Inside (length autos + 1) (edges_at links node) = nodes-inside may (length autos) autos first (wrappers-inside may (length autos) false a.sets (edges_at a.edges s)) node in
      let l : t < length autos + 1 = target-inside (length autos + 1) k t (edges_at links node) h e in
      omega (arith, l, nodes)

  pub wrapping-is : (o : Option (List ℕ)) → Is_shortest links (wrap_goals a s to autos) (length autos) o → o ≡ shortest links (wrap_goals a s to autos) (length autos)
  wrapping-is o h = shortest-is links (wrap_goals a s to autos) inside (length autos) (omega (arith, nodes)) o h
