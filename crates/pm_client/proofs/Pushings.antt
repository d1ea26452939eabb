-- A route to which the maps of steps were pushed one after another.
use Rattle.std.proofs.Common.{◌≡◌, ℕ, ◌+◌, ◌<◌, ◌^◌, List, [], ◌∷◌, ◌++◌, length, drop, get_or, suc, sym, ap, subst, ◌∙◌, append_assoc, append-nil, add-one, refl}
use Rattle.std.proofs.Math.Seq.{drop-cons}
use Rattle.pm_map.specs.declared.mapping.Mirrored.{Mirrored}
use Rattle.pm_map.specs.Fits.{FitBetween}
use Rattle.pm_frames.specs.declared.route.Route.{Route}
use Rattle.pm_frames.specs.Courses.{AreSmall}
use Rattle.pm_frames.specs.Growing.{HasPushed}
use Rattle.pm_frames.specs.Routes.{Guides}
use Rattle.pm_frames.proofs.Small.{sizes-small}
use Rattle.pm_change.specs.Changes.{Meaning}
use Rattle.pm_authority.specs.declared.named.Named.{Named}
use Rattle.pm_client.specs.Rebases.{map_of, maps_of}

first-small : (ms : List Mirrored) (n k : ℕ) → FitBetween ms n k → n < 2 ^ 32
first-small [] n k h = h.0
first-small (e ∷ es) n k (mid, h) = h.0

module _ {Rules Doc Reason C : Type 0} (m : Meaning Rules Doc Reason C) where
  -- the route stands for the maps of the steps before a place, and the maps of the rest lead on
  pub record Pushed (steps : List (Named C)) (i : ℕ) (route : Route) (n k : ℕ) : Type 0 where
    pub maps : List Mirrored
    pub mid : ℕ
    pub whole : maps ++ maps_of m (drop i steps) ≡ maps_of m steps
    pub leads : Guides route maps n mid
    pub rest : FitBetween (maps_of m (drop i steps)) mid k

  abbrev pub HasCome : List (Named C) → ℕ → Route → Type 0
  HasCome steps i route = (n k : ℕ) → FitBetween (maps_of m steps) n k → Pushed steps i route n k

  pub none-pushed : (steps : List (Named C)) (route : Route) → ((n : ℕ) → n < 2 ^ 32 → Guides route [] n n) → HasCome steps 0 route
  none-pushed steps route new n k fits =
      let small = first-small (maps_of m steps) n k fits in
      record { maps = []; mid = n; whole = refl; leads = new n small; rest = fits }

  module _ (steps : List (Named C)) (i : ℕ) (n : Named C) (within : i < length steps) (is : n ≡ get_or steps i n) (route : Route) (was : HasCome steps i route) where
    at-step : drop i steps ≡ n ∷ drop (suc i) steps
    at-step = drop-cons steps i n within ∙ ap (λ x. x ∷ drop (suc i) steps) (sym is)

    rest-of : (a k : ℕ) (fits : FitBetween (maps_of m steps) a k) → FitBetween (map_of m n ∷ maps_of m (drop (suc i) steps)) (was a k fits).mid k
    rest-of a k fits = subst (λ l. FitBetween (maps_of m l) (was a k fits).mid k) at-step (was a k fits).rest

    pub one-small : (a k : ℕ) → FitBetween (maps_of m steps) a k → AreSmall (m.step_map n.change)
    one-small a k fits =
        let r = rest-of a k fits in
        sizes-small (m.step_map n.change) (was a k fits).mid r.0 r.1.1 r.1.0 (first-small (maps_of m (drop (suc i) steps)) r.0 k r.1.2)

    pub one-pushed : (next : Route) → HasPushed Guides route (m.step_map n.change) next → HasCome steps (i + 1) next
    one-pushed next push a k fits =
        let p = was a k fits in
        let r = rest-of a k fits in
        let small = first-small (maps_of m (drop (suc i) steps)) r.0 k r.1.2 in
        record {
          maps = p.maps ++ map_of m n ∷ [];
          mid = r.0;
          whole = rw add-one
              (append_assoc p.maps (map_of m n ∷ []) (maps_of m (drop (suc i) steps)) ∙ ap (λ l. p.maps ++ maps_of m l) (sym at-step) ∙ p.whole);
          leads = push p.maps a p.mid r.0 small r.1.1 p.leads;
          rest = rw add-one r.1.2;
        }

  pub all-pushed : (steps : List (Named C)) (i : ℕ) (route : Route) → drop i steps ≡ [] → HasCome steps i route
      → (n k : ℕ) → FitBetween (maps_of m steps) n k → Guides route (maps_of m steps) n k
  all-pushed steps i route none was n k fits =
      let p = was n k fits in
      let whole : p.maps ≡ maps_of m steps = sym (append-nil p.maps) ∙ ap (λ l. p.maps ++ maps_of m l) (sym none) ∙ p.whole in
      let end : p.mid ≡ k = (subst (λ l. FitBetween (maps_of m l) p.mid k) none p.rest).1 in
      subst (λ ms. Guides route ms n k) whole (subst (λ (x : ℕ). Guides route p.maps n x) end p.leads)
