-- A route that goes along with a rebasing.
use Rattle.std.specs.Prelude.{◌≡◌, ℕ, ◌<◌, ◌^◌, List, [], ◌∷◌, ◌++◌, length, Option, Some, None, Result, Ok, Err, IfOk, OnOk}
use Rattle.std.proofs.Common.{sym, ap, subst, ◌∙◌}
use Rattle.pm_map.specs.declared.step_map.Span.{Span}
use Rattle.pm_map.specs.Moves.{inverted_ranges}
use Rattle.pm_map.specs.Mirrors.{fronted, enclosed}
use Rattle.pm_map.specs.Fits.{FitsSizes}
use Rattle.pm_map.specs.Positions.{MayLead, EachLed}
use Rattle.pm_map.proofs.Sizes.{inverted-fits}
use Rattle.pm_frames.specs.declared.route.Route.{Route}
use Rattle.pm_frames.specs.Courses.{AreSmall}
use Rattle.pm_frames.specs.Growing.{HasFronted, HasEnclosed}
use Rattle.pm_frames.specs.Routes.{Guides}
use Rattle.pm_frames.proofs.Small.{sizes-small}
use Rattle.pm_change.specs.declared.failed.Failed.{Failed}
use Rattle.pm_change.specs.declared.failed.Failed.TheVariants.{Reason as because}
use Rattle.pm_change.specs.Changes.{Meaning, Laws}
use Rattle.pm_change.specs.Failing.{Answers}
use Rattle.pm_authority.specs.declared.named.Named.{Named}
use Rattle.pm_history.specs.declared.item.Item.{Item}
use Rattle.pm_history.specs.Undos.{own_item}
use Rattle.pm_client.specs.declared.rebasing.Rebaser.{Rebaser}
use Rattle.pm_client.specs.Rebases.{Rebasing, lost, held, ended, led, rebased_one}
use Rattle.pm_client.specs.Rebasables.{MayRebase}
use Rattle.pm_client.specs.Rebasers.{over_maps, IsAt, GoesOn}

pub if-ok-then : {A E : Type 0} {P Q : A → Type 0} (r : Result A E) → ((x : A) → P x → Q x) → IfOk r P → IfOk r Q
if-ok-then (Ok x) f h = f x h
if-ok-then (Err e) f h = tt

-- a call told this reason
pub told-reason : {D R : Type 0} (o : Result D R) (f : Failed R) (why : R) → f ≡ because why → Answers o (Err f) → o ≡ Err why
told-reason o f why e h = subst (λ x. Answers o (Err x)) e h

pub on-ok-then : {A E P Q : Type 0} (r : Result A E) → (P → Q) → OnOk r P → OnOk r Q
on-ok-then (Ok x) f h = f h
on-ok-then (Err e) f h = tt

module _ {Rules Doc Reason C : Type 0} (m : Meaning Rules Doc Reason C) where
  pub at-lost : (r : Rebaser C Rules Doc Reason) (route : Route) (dropped : List ℕ) (so : Rebasing C Rules Doc Reason) (back : List Span) (serial n k : ℕ) → k < 2 ^ 32 → FitsSizes back k n
      → dropped ≡ r.dropped ++ serial ∷ []
      → HasFronted Guides r.route back route
      → IsAt m r so n → IsAt m (record r { route = route; dropped = dropped }) (record so { maps = fronted so.maps back; dropped = so.dropped ++ serial ∷ [] }) k
  at-lost r route dropped so back serial n k small fits is step h = record {
    same =
        ap (λ l. over_maps (record r { route = route; dropped = l }) (fronted so.maps back)) is
        ∙ ap (λ (s : Rebasing C Rules Doc Reason). record s { maps = fronted so.maps back; dropped = s.dropped ++ serial ∷ [] }) h.same;
    leads = step so.maps k n (m.size so.doc) small fits h.leads;
  }

  pub at-held : (r : Rebaser C Rules Doc Reason) (route : Route) (kept : List (Named C)) (items : List (Item C)) (so : Rebasing C Rules Doc Reason) (back behind : List Span) (n k : ℕ) (doc : Doc)
      (step : Named C) (item : Doc → Item C) → k < 2 ^ 32 → m.size doc < 2 ^ 32 → FitsSizes back k n → FitsSizes behind (m.size r.doc) (m.size doc)
      → kept ≡ r.kept ++ step ∷ [] → items ≡ r.items ++ item r.doc ∷ []
      → HasEnclosed Guides r.route back behind route
      → IsAt m r so n
      → IsAt m (record r { doc = doc; route = route; kept = kept; items = items })
      (record so { doc = doc; maps = enclosed so.maps back behind; kept = so.kept ++ step ∷ []; items = so.items ++ item so.doc ∷ [] }) k
  at-held r route kept items so back behind n k doc step item small end fits after kept_is items_are go h =
      let there : r.doc ≡ so.doc = ap (λ (s : Rebasing C Rules Doc Reason). s.doc) h.same in
      record {
        same =
            ap (λ l. over_maps (record r { doc = doc; route = route; kept = l; items = items }) (enclosed so.maps back behind)) kept_is
            ∙ ap (λ l. over_maps (record r { doc = doc; route = route; kept = r.kept ++ step ∷ []; items = l }) (enclosed so.maps back behind)) items_are
            ∙ ap (λ (s : Rebasing C Rules Doc Reason). record s { doc = doc; maps = enclosed so.maps back behind; kept = s.kept ++ step ∷ []; items = s.items ++ item s.doc ∷ [] }) h.same;
        leads =
            go so.maps k n (m.size so.doc) (m.size doc) small end fits (subst (λ (d : Doc). FitsSizes behind (m.size d) (m.size doc)) there after) h.leads;
      }

module _ {Rules Doc Reason C : Type 0} (m : Meaning Rules Doc Reason C) (rules : Rules) (laws : Laws m) where
  -- the map back leads from the document after a step to the one before it
  module _ (before after : Doc) (n : Named C) (good : m.is_good rules before) (applies : m.outcome rules n.change before ≡ Ok after) where
    pub after-small : m.size after < 2 ^ 32
    after-small = laws.small rules after (laws.good rules n.change before after good applies)

    pub back-fits : FitsSizes (inverted_ranges (m.step_map n.change)) (m.size after) (m.size before)
    back-fits = inverted-fits (m.step_map n.change) (m.size before) (m.size after) (laws.fits rules n.change before after good applies)

    pub back-small : AreSmall (inverted_ranges (m.step_map n.change))
    back-small = sizes-small (inverted_ranges (m.step_map n.change)) (m.size after) (m.size before) back-fits after-small (laws.small rules before good)

  -- and the step may be carried over what leads from there
  pub may-carry : (before : Doc) (so : Rebasing C Rules Doc Reason) (n : Named C) (r : Rebaser C Rules Doc Reason) → MayRebase m rules before so n → IsAt m r so (m.size before)
      → MayLead m.is_within Guides n.change r.route
  may-carry before so n r may at = (so.maps, m.size before, m.size so.doc, (at.leads, laws.within rules n.change before may.applies.0 may.old_good may.applies.1))

  pub carried-as : (before : Doc) (so : Rebasing C Rules Doc Reason) (n : Named C) (r : Rebaser C Rules Doc Reason) (o : Option C) → MayRebase m rules before so n → IsAt m r so (m.size before)
      → EachLed m.is_within Guides n.change r.route (λ ms. o ≡ m.carry n.change ms) → m.carry n.change so.maps ≡ o
  carried-as before so n r o may at each =
      sym (each so.maps (m.size before) (m.size so.doc) at.leads (laws.within rules n.change before may.applies.0 may.old_good may.applies.1))

  -- the document of a rebasing is that which the rebaser has
  same-doc : (so : Rebasing C Rules Doc Reason) (r : Rebaser C Rules Doc Reason) (size : ℕ) → IsAt m r so size → r.doc ≡ so.doc
  same-doc so r size at = ap (λ (s : Rebasing C Rules Doc Reason). s.doc) at.same

  pub is-lost : (so : Rebasing C Rules Doc Reason) (n : Named C) → m.carry n.change so.maps ≡ None → rebased_one m rules so n ≡ lost m so n
  is-lost so n none = ap (led m rules so n) none

  pub is-refused : (so : Rebasing C Rules Doc Reason) (n : Named C) (c : C) (r : Rebaser C Rules Doc Reason) (why : Reason) (size : ℕ) → IsAt m r so size → m.carry n.change so.maps ≡ Some c
      → m.outcome rules c r.doc ≡ Err why → rebased_one m rules so n ≡ lost m so n
  is-refused so n c r why size at some err =
      ap (led m rules so n) some ∙ ap (ended m rules so n c) (ap (m.outcome rules c) (sym (same-doc so r size at)) ∙ err)

  pub is-held : (so : Rebasing C Rules Doc Reason) (n : Named C) (c : C) (d : Doc) (r : Rebaser C Rules Doc Reason) (size : ℕ) → IsAt m r so size → m.carry n.change so.maps ≡ Some c
      → m.outcome rules c r.doc ≡ Ok d → rebased_one m rules so n ≡ held m rules so n c d
  is-held so n c d r size at some ok =
      ap (led m rules so n) some ∙ ap (ended m rules so n c) (ap (m.outcome rules c) (sym (same-doc so r size at)) ∙ ok)

  pub goes-lost : (r new : Rebaser C Rules Doc Reason) (n : Named C) (back : List Span) → back ≡ inverted_ranges (m.step_map n.change)
      → ((so : Rebasing C Rules Doc Reason) (s t : ℕ) → t < 2 ^ 32 → FitsSizes back t s → IsAt m r so s
      → IsAt m new (record so { maps = fronted so.maps back; dropped = so.dropped ++ n.name.serial ∷ [] }) t)
      → ((before : Doc) (so : Rebasing C Rules Doc Reason) → MayRebase m rules before so n → IsAt m r so (m.size before) → rebased_one m rules so n ≡ lost m so n)
      → GoesOn m rules r n new
  goes-lost r new n back is lose same before after so may ok at =
      let go = (rw is at lose) so (m.size before) (m.size after) (after-small before after n may.old_good ok) (back-fits before after n may.old_good ok) at in
      subst (λ (s : Rebasing C Rules Doc Reason). IsAt m new s (m.size after)) (sym (same before so may at)) go

  pub goes-held : (r new : Rebaser C Rules Doc Reason) (n : Named C) (back : List Span) (c : C) (d : Doc) → back ≡ inverted_ranges (m.step_map n.change)
      → ((so : Rebasing C Rules Doc Reason) (s t : ℕ) → t < 2 ^ 32 → FitsSizes back t s → IsAt m r so s
      → IsAt m new (record so {
        doc = d;
        maps = enclosed so.maps back (m.step_map c);
        kept = so.kept ++ record { name = n.name; change = c } ∷ [];
        items = so.items ++ own_item m rules n.name.client so.doc c n.name.serial None ∷ [];
      }) t)
      → ((before : Doc) (so : Rebasing C Rules Doc Reason) → MayRebase m rules before so n → IsAt m r so (m.size before) → rebased_one m rules so n ≡ held m rules so n c d)
      → GoesOn m rules r n new
  goes-held r new n back c d is hold same before after so may ok at =
      let go = (rw is at hold) so (m.size before) (m.size after) (after-small before after n may.old_good ok) (back-fits before after n may.old_good ok) at in
      subst (λ (s : Rebasing C Rules Doc Reason). IsAt m new s (m.size after)) (sym (same before so may at)) go
