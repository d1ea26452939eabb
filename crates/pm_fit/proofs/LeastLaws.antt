-- What the function gives is the shortest list.
use Rattle.std.proofs.Common.{◌≡◌, ℕ, zero, suc, ◌+◌, ◌<◌, ◌≤◌, List, length, map, slice_get, Bool, true, false, Option, Some, None, ◌⊎◌, inl, inr, refl, ap, sym, ◌∙◌, subst, arith}
use Rattle.std.specs.Option.{option_or}
use Rattle.std.specs.List.{range_with_len}
use Rattle.pm_auto.specs.declared.auto.Edge.{Edge}
use Rattle.pm_auto.specs.declared.auto.Auto.{Auto}
use Rattle.pm_auto.specs.Walks.{target, edges_at}
use Rattle.pm_auto.specs.Graph.{leads, Before, Shortest, Is_shortest}
use Rattle.pm_auto.specs.Wraps.{wrap_links, wrap_goals}
use Rattle.pm_auto.proofs.Orders.{le_or_lt}
use Rattle.pm_schema.specs.declared.schema.Schema.{Schema}
use Rattle.pm_schema.specs.Made.{can_wrap}
use Rattle.pm_fit.specs.Paths.{first_some, first_of_length, shortest}
use Rattle.pm_fit.specs.Wrappings.{state_after, wrapping_of}
use Rattle.pm_fit.proofs.LengthLaws.{Sound, sound, Found, found}
use Rattle.pm_fit.proofs.PathLaws.{shortest-is, inside, nodes}

-- ---- the least number with an answer

module _ (f : ℕ → Option (List ℕ)) where
  -- the least number that has one, and all before it have none
  record Least : Type 0 where
    at : ℕ
    list : List ℕ
    is : f at ≡ Some list
    before : (i : ℕ) → i < at → f i ≡ None

  -- from a number on, where none before it has one
  least-from : (more n : ℕ) → ((i : ℕ) → i < n → f i ≡ None) → (w : List ℕ) → f (n + more) ≡ Some w → Least
  least-from zero n none w h = record { at = n; list = w; is = ap f (omega arith) ∙ h; before = none }
  least-from (suc more) n none w h = by (f n) refl (λ g. least-from more (n + 1) g w (ap f (omega arith) ∙ h))
    where
      -- none up to n has one
      up-to : f n ≡ None → (i : ℕ) → i < n + 1 → f i ≡ None
      up-to e i l = below (le_or_lt n i)
        where
          below : (n ≤ i) ⊎ (i < n) → f i ≡ None
          below (inl g) = let t : i ≡ n = omega (arith, l, g) in ap f t ∙ e
          below (inr g) = none i g

      by : (o : Option (List ℕ)) → f n ≡ o → (((i : ℕ) → i < n + 1 → f i ≡ None) → Least) → Least
      by (Some y) e on = record { at = n; list = y; is = e; before = none }
      by None e on = on (up-to e)

  -- the first of a list of numbers with one has it at some number
  some-of : (a m : ℕ) (y : List ℕ) → first_some (map f (range_with_len a m)) ≡ Some y → (i : ℕ) × (f i ≡ Some y)
  some-of a zero y h = absurd (cc)
  some-of a (suc m) y h = at (f a) refl (some-of (a + 1) m y)
    where
      rest : Option (List ℕ)
      rest = first_some (map f (range_with_len (a + 1) m))

      at : (o : Option (List ℕ)) → f a ≡ o → (rest ≡ Some y → (i : ℕ) × (f i ≡ Some y)) → (i : ℕ) × (f i ≡ Some y)
      at None e on = on (subst (λ (o : Option (List ℕ)). option_or o rest ≡ Some y) e h)
      at (Some x) e on = (a, e ∙ subst (λ (o : Option (List ℕ)). option_or o rest ≡ Some y) e h)

-- ---- the shortest

module _ (links : List (List Edge)) (goals : List Bool) (s : ℕ) where
  abbrev of : ℕ → Option (List ℕ)
  of n = first_of_length links goals n s

  -- the list of the least length is the shortest
  least-shortest : (l : Least of) → Shortest links goals s l.list
  least-shortest l = record { leads_on = own.leads_on; least = than }
    where
      own : Sound links goals l.at s l.list
      own = sound links goals l.at s l.list l.is

      than : (v : List ℕ) → leads links goals s v ≡ true → (l.list ≡ v) ⊎ ((length l.list < length v) ⊎ ((length l.list ≡ length v) × Before links s l.list v))
      than v h = by (found links goals v s h).order
        where
          g : Found links goals s v
          g = found links goals v s h

          not-less : length v < l.at → ⊥
          not-less i = let b : Some g.list ≡ None = sym g.is ∙ l.before (length v) i in cc

          same : l.at ≡ length v → l.list ≡ g.list
          same e = let b : Some l.list ≡ Some g.list = sym l.is ∙ (ap of e ∙ g.is) in cc

          by : (g.list ≡ v) ⊎ Before links s g.list v → (l.list ≡ v) ⊎ ((length l.list < length v) ⊎ ((length l.list ≡ length v) × Before links s l.list v))
          by o = at (le_or_lt (length v) l.at) o
            where
              at : (length v ≤ l.at) ⊎ (l.at < length v) → (g.list ≡ v) ⊎ Before links s g.list v → (l.list ≡ v) ⊎ ((length l.list < length v) ⊎ ((length l.list ≡ length v) × Before links s l.list v))
              at (inr i) o = inr (inl (omega (arith, i, own.size)))
              at (inl i) (inl p) = let e : l.at ≡ length v = omega (arith, i, not-less) in inl (same e ∙ p)
              at (inl i) (inr p) = let e : l.at ≡ length v = omega (arith, i, not-less) in inr (inr (own.size ∙ e, subst (λ (z : List ℕ). Before links s z v) (sym (same e)) p))

  -- where some list leads to a goal, the least is there
  least-of : (w : List ℕ) → leads links goals s w ≡ true → Least of
  least-of w h = least-from of (length w) 0 (λ i l. absurd (omega (arith, l))) (found links goals w s h).list (ap of (omega arith) ∙ (found links goals w s h).is)

  module _ (inside : (s k t : ℕ) → target k (edges_at links s) ≡ Some t → t < length links) (there : s < length links) where
    -- what the function gives is the shortest list, and it gives none where there is none
    pub is-least : Is_shortest links goals s (shortest links goals s)
    is-least = at (shortest links goals s) refl
      where
        given : (l : Least of) → Some l.list ≡ shortest links goals s
        given l = shortest-is links goals inside s there (Some l.list) (least-shortest l)

        none : shortest links goals s ≡ None → (w : List ℕ) (b : Bool) → leads links goals s w ≡ b → leads links goals s w ≡ false
        none e w false h = h
        none e w true h = absurd (let l = least-of w h in let b : Some l.list ≡ None = given l ∙ e in cc)

        at : (o : Option (List ℕ)) → shortest links goals s ≡ o → Is_shortest links goals s o
        at None e = λ w. none e w (leads links goals s w) refl
        at (Some y) e =
            let i = some-of of 0 (length links) y e in
            let l = least-of y (sound links goals i.0 s y i.1).leads_on in
            let b : Some l.list ≡ Some y = given l ∙ e in
            let same : l.list ≡ y = cc in
            subst (Shortest links goals s) same (least-shortest l)

-- ---- the wrapping

-- the wrapping is the shortest list of wrappers, and the first of these by the order of edges
pub wrapping-least : (s : Schema) (kind to : ℕ) (before : List ℕ) (a : Auto) (state : ℕ) → slice_get s.autos kind ≡ Some a → state_after a.edges 0 before ≡ Some state
    → Is_shortest (wrap_links a state s.autos (map can_wrap s.spec.nodes)) (wrap_goals a state to s.autos) (length s.autos) (wrapping_of s kind before to)
wrapping-least s kind to before a state e g =
    let may = map can_wrap s.spec.nodes in
    rw (e, g) (is-least (wrap_links a state s.autos may) (wrap_goals a state to s.autos) (length s.autos) (inside a state to s.autos may) (omega (arith, nodes a state to s.autos may)))
