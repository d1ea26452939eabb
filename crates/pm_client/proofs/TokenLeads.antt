-- A cursor with side `After` before a named token stays before it over steps one after another, and while pending steps are
-- carried over others' steps.
use Rattle.std.specs.Prelude.{◌≡◌, ◌⊎◌, ℕ, false, ◌+◌, ◌-◌, List, [], ◌∷◌, ◌++◌, length, slice_get, Option, Some, None, Result, Ok, Err, refl}
use Rattle.std.specs.List.{AllByRecursion as Each}
use Rattle.std.proofs.Common.{arith, sym, ap, ◌∙◌, subst, inl, inr, append_assoc, append-nil}
use Rattle.pm_map.specs.declared.step_map.Span.{Span}
use Rattle.pm_map.specs.declared.step_map.Moved.{Moved}
use Rattle.pm_map.specs.Moves.{moved_from, kept_at, inverted_ranges}
use Rattle.pm_map.specs.Through.{joined}
use Rattle.pm_map.specs.Fits.{FitsSizes}
use Rattle.pm_map.proofs.Rooms.{zero-sums}
use Rattle.pm_change.specs.declared.name.Name.{Name}
use Rattle.pm_change.specs.Changes.{Meaning, Laws}
use Rattle.pm_change.proofs.Folds.{fold-cons}
use Rattle.pm_authority.specs.declared.named.Named.{Named}
use Rattle.pm_authority.specs.Runs.{changes_of, AllApply}
use Rattle.pm_client.proofs.Lists.{Each-front, Each-back}
use Rattle.pm_client.specs.Rebases.{Rebasing, maps_of, ended, led, rebased_one, rebased}
use Rattle.pm_client.specs.Rebasables.{CanRebase}
use Rattle.pm_client.proofs.RebaseLaws.{one-can}
use Rattle.pm_client.specs.TokenNames.{Token, Put, spliced, Unpinched, Has, names_after, Once, NotBy, NoneBy, AllDiffer, AllUnpinched}
use Rattle.pm_client.proofs.Tokens.{Survives, stands-moved}
use Rattle.pm_client.proofs.Origins.{Origin, Old, New, origin, place_of}
use Rattle.pm_client.proofs.Leads.{Leads, through-pos, lost-leads, held-leads}
use Rattle.pm_client.proofs.TokenRuns.{once-spliced, once-distinct, not-unseen, none-spliced, spliced-size}

module _ {Rules Doc Reason C : Type 0} (m : Meaning Rules Doc Reason C) where
  pub names-append : (names : List Token) (xs ys : List (Named C)) → names_after m names (xs ++ ys) ≡ names_after m (names_after m names xs) ys
  names-append names [] ys = refl
  names-append names (x ∷ xs) ys = names-append (spliced (Put x.name) (m.step_map x.change) names) xs ys

-- none of these steps puts the token in
abbrev NotIn : {C : Type 0} → List (Named C) → Token → Type 0
NotIn ns t = Each (λ n. (j : ℕ) → t ≡ Put n.name j → ⊥) ns

-- a token of these names is put in by none of the steps that put none of the names in
not-in : {C : Type 0} (ns : List (Named C)) (names : List Token) (p : ℕ) (t : Token) → NoneBy ns names → slice_get names p ≡ Some t → NotIn ns t
not-in [] names p t h at = tt
not-in (n ∷ ns) names p t h at = ((λ j e. not-unseen n.name names h.0 j (p, at ∙ ap Some e)), not-in ns names p t h.1 at)

module _ {Rules Doc Reason C : Type 0} (m : Meaning Rules Doc Reason C) (rules : Rules) (laws : Laws m) where
  -- a token that one step leaves, or puts in
  has-back : (a : Name) (rs : List Span) (n k : ℕ) (names : List Token) (t : Token) → FitsSizes rs n k → Unpinched rs → length names ≡ n
      → Has (spliced (Put a) rs names) t → NotBy a names → Has names t ⊎ ((j : ℕ) × (t ≡ Put a j))
  has-back a rs n k names t fits apart size has not =
      from (moved_from (inverted_ranges rs) 0 0 0 has.0 false)
      (origin (Put a) rs 0 0 0 0 n k 0 has.0 has.0 names t (zero-sums rs n k fits) apart (omega arith) (omega (arith, size)) (omega arith) has.1)
    where
      from : (mv : Moved) → Origin (Put a) rs 0 0 0 names mv t → Has names t ⊎ ((j : ℕ) × (t ≡ Put a j))
      from mv (Old above g none s) = inl (mv.pos - 0, g)
      from mv (New j o lt w rec made) = inr (0 + place_of rs j + o, made)

  -- a token of the names that no step puts in, and that stands after the first step, was there before it, and the step left it
  survives : (a : Name) (rs : List Span) (n k p : ℕ) (names : List Token) (t : Token) → FitsSizes rs n k → Unpinched rs → length names ≡ n → Once names → NotBy a names
      → slice_get names p ≡ Some t → Has (spliced (Put a) rs names) t → Survives rs p
  survives a rs n k p names t fits apart size once not at has =
      from (moved_from (inverted_ranges rs) 0 0 0 has.0 false)
      (origin (Put a) rs 0 0 0 0 n k 0 has.0 has.0 names t (zero-sums rs n k fits) apart (omega arith) (omega (arith, size)) (omega arith) has.1)
    where
      from : (mv : Moved) → Origin (Put a) rs 0 0 0 names mv t → Survives rs p
      from mv (Old above g none s) =
          let z : mv.pos - 0 ≡ mv.pos = omega arith in
          subst (Survives rs) (once-distinct names once mv.pos p t (rw z at g) at) s
      from mv (New j o lt w rec made) = absurd (not-unseen a names not (0 + place_of rs j + o) (p, at ∙ ap Some made))

  -- names that differ and that none of these steps puts in, of a document to which the steps apply
  pub record Named_well (doc : Doc) (ns : List (Named C)) (names : List Token) : Type 0 where
    pub good : m.is_good rules doc
    pub size : length names ≡ m.size doc
    pub once : Once names
    pub none : NoneBy ns names
    pub differ : AllDiffer ns

  pub next-named : (doc next : Doc) (n : Named C) (ns : List (Named C)) (names : List Token) → m.outcome rules n.change doc ≡ Ok next → Named_well doc (n ∷ ns) names
      → Named_well next ns (spliced (Put n.name) (m.step_map n.change) names)
  next-named doc next n ns names ok h = record {
    good = laws.good rules n.change doc next h.good ok;
    size = spliced-size (Put n.name) (m.step_map n.change) (m.size doc) (m.size next) names (laws.fits rules n.change doc next h.good ok) h.size;
    once = once-spliced n.name (m.step_map n.change) 0 0 names h.once h.none.0;
    none = none-spliced n.name ns (m.step_map n.change) names h.differ.0 h.none.1;
    differ = h.differ.1;
  }

  -- a token after steps was there before them, or one of them put it in
  has-before : (doc end : Doc) (ns : List (Named C)) (names : List Token) (t : Token) → AllApply m rules doc ns end → Named_well doc ns names → AllUnpinched m ns
      → Has (names_after m names ns) t → NotIn ns t → Has names t
  has-before doc end [] names t applies h apart has not = has
  has-before doc end (n ∷ ns) names t applies h apart has not =
      let f = fold-cons m rules doc end n.change (changes_of ns) applies in
      let rest = has-before f.0 end ns (spliced (Put n.name) (m.step_map n.change) names) t f.2 (next-named doc f.0 n ns names f.1 h) apart.1 has not.1 in
      from (has-back n.name (m.step_map n.change) (m.size doc) (m.size f.0) names t (laws.fits rules n.change doc f.0 h.good f.1) apart.0 h.size rest h.none.0)
    where
      from : Has names t ⊎ ((j : ℕ) × (t ≡ Put n.name j)) → Has names t
      from (inl x) = x
      from (inr x) = absurd (not.0 x.0 x.1)

  -- A cursor with side `After` stays before its token over the maps of steps one after another, none of which is pinched.
  pub maps-lead : (doc end : Doc) (ns : List (Named C)) (names : List Token) → AllApply m rules doc ns end → Named_well doc ns names → AllUnpinched m ns
      → Leads (maps_of m ns) names (names_after m names ns)
  maps-lead doc end [] names applies h apart p t at has = at
  maps-lead doc end (n ∷ ns) names applies h apart p t at has =
      let rs = m.step_map n.change in
      let f = fold-cons m rules doc end n.change (changes_of ns) applies in
      let fits = laws.fits rules n.change doc f.0 h.good f.1 in
      let next = next-named doc f.0 n ns names f.1 h in
      let there = has-before f.0 end ns (spliced (Put n.name) rs names) t f.2 next apart.1 has (not-in ns names p t h.none.1 at) in
      let left = survives n.name rs (m.size doc) (m.size f.0) p names t fits apart.0 h.size h.once h.none.0 at there in
      let one = stands-moved (Put n.name) rs (m.size doc) (m.size f.0) p names t fits apart.0 left h.size at in
      let mv : Moved = moved_from rs 0 0 0 p false in
      rw (through-pos (maps_of m ns) 0 false (joined (kept_at p) mv) (kept_at mv.pos) refl)
      (maps-lead f.0 end ns (spliced (Put n.name) rs names) f.2 next apart.1 mv.pos t one.0 has)

  kept-grows : (so : Rebasing C Rules Doc Reason) (ns : List (Named C)) → (more : List (Named C)) × ((rebased m rules so ns).kept ≡ so.kept ++ more)
  kept-grows so [] = ([], sym (append-nil so.kept))
  kept-grows so (n ∷ ns) =
      let rest = kept-grows (rebased_one m rules so n) ns in
      let one = first (m.carry n.change so.maps) in
      (one.0 ++ rest.0, rest.1 ∙ ap (λ l. l ++ rest.0) one.1 ∙ append_assoc so.kept one.0 rest.0)
    where
      tried : (c : C) (r : Result Doc Reason) → (more : List (Named C)) × ((ended m rules so n c r).kept ≡ so.kept ++ more)
      tried c (Ok d) = (record { name = n.name; change = c } ∷ [], refl)
      tried c (Err r) = ([], sym (append-nil so.kept))

      first : (o : Option C) → (more : List (Named C)) × ((led m rules so n o).kept ≡ so.kept ++ more)
      first None = ([], sym (append-nil so.kept))
      first (Some c) = tried c (m.outcome rules c so.doc)

  -- How far the names of the old document's tokens and of the new one's have come while steps are carried.
  pub record Following (old : Doc) (so : Rebasing C Rules Doc Reason) (ns : List (Named C)) (before from : List Token) : Type 0 where
    pub can : CanRebase m rules old so ns
    pub old_names : Named_well old ns before
    pub old_apart : AllUnpinched m ns
    pub new_size : length (names_after m from so.kept) ≡ m.size so.doc
    pub new_once : Once (names_after m from so.kept)
    pub new_none : NoneBy ns (names_after m from so.kept)
    pub leads : Leads so.maps before (names_after m from so.kept)

  module _ (old : Doc) (so : Rebasing C Rules Doc Reason) (n : Named C) (ns : List (Named C)) (before from : List Token) (h : Following old so (n ∷ ns) before from)
      (unpinched : AllUnpinched m (rebased_one m rules so n).kept) where
    step : (next : Doc) × (m.outcome rules n.change old ≡ Ok next) × AllApply m rules next ns h.can.applies.0
    step = fold-cons m rules old h.can.applies.0 n.change (changes_of ns) h.can.applies.1

    abbrev after : List Token
    after = names_after m from so.kept

    next_can : CanRebase m rules step.0 (rebased_one m rules so n) ns
    next_can = one-can m rules laws old step.0 so n h.can.old_good h.can.new_good step.1 h.can.fits ns h.can.paired (h.can.applies.0, step.2)

    fits : FitsSizes (m.step_map n.change) (m.size old) (m.size step.0)
    fits = laws.fits rules n.change old step.0 h.can.old_good step.1

    -- the names of the new document, and how the cursor stands, once the step was gone through
    record Gone (so2 : Rebasing C Rules Doc Reason) : Type 0 where
      size : length (names_after m from so2.kept) ≡ m.size so2.doc
      once : Once (names_after m from so2.kept)
      none : NoneBy ns (names_after m from so2.kept)
      leads : Leads so2.maps (spliced (Put n.name) (m.step_map n.change) before) (names_after m from so2.kept)

    one-follows : Following step.0 (rebased_one m rules so n) ns (spliced (Put n.name) (m.step_map n.change) before) from
    one-follows =
        let g = by-carry (m.carry n.change so.maps) refl unpinched in
        record { can = next_can; old_names = next-named old step.0 n ns before step.1 h.old_names; old_apart = h.old_apart.1; new_size = g.size; new_once = g.once; new_none = g.none; leads = g.leads }
      where
        lost : Gone (led m rules so n None)
        lost = record {
          size = h.new_size;
          once = h.new_once;
          none = h.new_none.1;
          leads = lost-leads (Put n.name) (m.step_map n.change) (m.size old) (m.size step.0) so.maps before after fits h.old_apart.0 h.old_names.size h.leads
              (not-unseen n.name after h.new_none.0);
        }

        tried : (c : C) → m.carry n.change so.maps ≡ Some c → (r : Result Doc Reason) → m.outcome rules c so.doc ≡ r → AllUnpinched m (ended m rules so n c r).kept
            → Gone (ended m rules so n c r)
        tried c o (Err r) e u = lost
        tried c o (Ok d) e u =
            let rs = m.step_map c in
            let fits2 = laws.fits rules c so.doc d h.can.new_good e in
            let apart2 = (Each-back (λ k. Unpinched (m.step_map k.change)) so.kept (record { name = n.name; change = c } ∷ []) u).0 in
            let is : names_after m from (so.kept ++ record { name = n.name; change = c } ∷ []) ≡ spliced (Put n.name) rs after =
            names-append m from so.kept (record { name = n.name; change = c } ∷ []) in
            record {
              size = rw is (spliced-size (Put n.name) rs (m.size so.doc) (m.size d) after fits2 h.new_size);
              once = rw is (once-spliced n.name rs 0 0 after h.new_once h.new_none.0);
              none = rw is (none-spliced n.name ns rs after h.old_names.differ.0 h.new_none.1);
              leads = rw is (held-leads (Put n.name) (m.step_map n.change) (m.size old) (m.size step.0) so.maps before after fits h.old_apart.0 h.old_names.size h.leads
                  rs (m.size so.doc) (m.size d) fits2 apart2 h.new_size (laws.carried n.change c so.maps o) h.can.paired (not-unseen n.name before h.old_names.none.0)
                  (once-distinct after h.new_once));
            }

        by-carry : (o : Option C) → m.carry n.change so.maps ≡ o → AllUnpinched m (led m rules so n o).kept → Gone (led m rules so n o)
        by-carry None e u = lost
        by-carry (Some c) e u = tried c e (m.outcome rules c so.doc) refl u

  -- A cursor with side `After` stays before its token over the whole mapping.
  pub rebased-leads : (old : Doc) (so : Rebasing C Rules Doc Reason) (ns : List (Named C)) (before from : List Token) → Following old so ns before from
      → AllUnpinched m (rebased m rules so ns).kept → Leads (rebased m rules so ns).maps (names_after m before ns) (names_after m from (rebased m rules so ns).kept)
  rebased-leads old so [] before from h u = h.leads
  rebased-leads old so (n ∷ ns) before from h u =
      let grows = kept-grows (rebased_one m rules so n) ns in
      let first = Each-front (λ k. Unpinched (m.step_map k.change)) (rebased_one m rules so n).kept grows.0 (rw grows.1 at u) in
      let s = step old so n ns before from h first in
      rebased-leads s.0 (rebased_one m rules so n) ns (spliced (Put n.name) (m.step_map n.change) before) from (one-follows old so n ns before from h first) u
