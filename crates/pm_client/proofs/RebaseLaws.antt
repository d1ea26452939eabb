-- What holds while steps are carried over others' steps.
use Rattle.std.specs.Prelude.{◌≡◌, ℕ, List, [], ◌∷◌, ◌++◌, length, Option, Some, None, Result, Ok, Err, refl}
use Rattle.std.specs.List.{AllByRecursion as Each}
use Rattle.std.proofs.Common.{subst, ap, sym, ◌∙◌}
use Rattle.std.proofs.lemmas.List.Elements.{All-from_recursion}
use Rattle.pm_map.specs.declared.mapping.Mirrored.{Mirrored}
use Rattle.pm_map.specs.Moves.{inverted_ranges}
use Rattle.pm_map.specs.Through.{SameShape, ArePaired}
use Rattle.pm_map.specs.Mirrors.{entry, gap_for}
use Rattle.pm_map.specs.Fits.{FitBetween}
use Rattle.pm_map.specs.Positions.{MayLead, IsItself}
use Rattle.pm_map.proofs.Growths.{paired-around, paired-fronted}
use Rattle.pm_map.proofs.Sizes.{fit-front, fit-behind, inverted-fits, position-fits, same-shape}
use Rattle.pm_change.specs.Changes.{Meaning, Laws, Applies, fold}
use Rattle.pm_change.proofs.Folds.{fold-cons, fold-append, fold-good}
use Rattle.pm_authority.specs.declared.named.Named.{Named}
use Rattle.pm_authority.specs.Runs.{changes_of, AllApply}
use Rattle.pm_authority.proofs.RunFolds.{changes-append}
use Rattle.pm_client.specs.Rebases.{Rebasing, maps_of, start, lost, held, ended, led, rebased_one, rebased}
use Rattle.pm_client.specs.Rebasables.{HasMap, NamedHasMap, CanRebase, CanRebaseOver}
use Rattle.pm_client.specs.declared.cursors.Cursor.{Cursor}
use Rattle.pm_client.specs.Cursors.{AreWithin, AreIn, moved_over}
use Rattle.pm_client.proofs.Prefixes.{front-applies}

-- cursors may go over maps that lead from their document, and stand in the one that these lead to
pub cursors-move : (ms : List Mirrored) (n k : ℕ) → ArePaired ms → FitBetween ms n k → (cs : List Cursor) → AreWithin n cs → AreWithin k (moved_over ms cs)
cursors-move ms n k paired fits [] h = tt
cursors-move ms n k paired fits (c ∷ cs) h =
    ((position-fits ms n k c.pos c.side paired fits h.0).1, cursors-move ms n k paired fits cs h.1)

pub cursors-led : (ms : List Mirrored) (n k : ℕ) → ArePaired ms → FitBetween ms n k → (cs : List Cursor) → AreWithin n cs → MayLead AreIn IsItself cs ms
cursors-led ms n k paired fits cs h = (ms, n, k, (record { is = refl; paired = paired; fits = fits }, h))

module _ {Rules Doc Reason C : Type 0} (m : Meaning Rules Doc Reason C) (rules : Rules) where
  pub has-map : Laws m → (c : C) (doc next : Doc) → m.is_good rules doc → Applies m rules c doc next → HasMap m c
  has-map laws c doc next good applies = (m.size doc, laws.small rules doc good, laws.within rules c doc next good applies)

  -- the map of a carried step mirrors the map back of the step
  pub mirrors : Laws m → (so : Rebasing C Rules Doc Reason) (n : Named C) (c : C) → m.carry n.change so.maps ≡ Some c
      → SameShape (inverted_ranges (m.step_map n.change)) (m.step_map c)
  mirrors laws so n c h = same-shape (m.step_map n.change) (m.step_map c) (laws.carried n.change c so.maps h)

  module _ (laws : Laws m) (old next : Doc) (so : Rebasing C Rules Doc Reason) (n : Named C) (old_good : m.is_good rules old) (new_good : m.is_good rules so.doc)
      (applies : m.outcome rules n.change old ≡ Ok next) (fits : FitBetween so.maps (m.size old) (m.size so.doc)) where
    next_good : m.is_good rules next
    next_good = laws.good rules n.change old next old_good applies

    lost-fits : FitBetween (lost m so n).maps (m.size next) (m.size so.doc)
    lost-fits =
        fit-front so.maps (inverted_ranges (m.step_map n.change)) None (m.size next) (m.size old) (m.size so.doc) (laws.small rules next next_good)
        (inverted-fits (m.step_map n.change) (m.size old) (m.size next) (laws.fits rules n.change old next old_good applies)) fits

    held-fits : (c : C) (d : Doc) → m.outcome rules c so.doc ≡ Ok d → FitBetween (held m rules so n c d).maps (m.size next) (m.size d)
    held-fits c d ok =
        let d_good : m.is_good rules d = laws.good rules c so.doc d new_good ok in
        fit-front (so.maps ++ entry (m.step_map c) None ∷ []) (inverted_ranges (m.step_map n.change))
        (gap_for (inverted_ranges (m.step_map n.change)) (length so.maps)) (m.size next) (m.size old) (m.size d) (laws.small rules next next_good)
        (inverted-fits (m.step_map n.change) (m.size old) (m.size next) (laws.fits rules n.change old next old_good applies))
        (fit-behind so.maps (m.step_map c) (m.size old) (m.size so.doc) (m.size d) (laws.small rules d d_good) (laws.fits rules c so.doc d new_good ok) fits)

    -- with one step more gone through, the maps lead on from the document after it
    pub one-can : (ns : List (Named C)) → ArePaired so.maps → (end : Doc) × AllApply m rules next ns end → CanRebase m rules next (rebased_one m rules so n) ns
    one-can ns paired rest = from (m.carry n.change so.maps) refl
      where
        gone : CanRebase m rules next (lost m so n) ns
        gone = record {
          old_good = next_good;
          new_good = new_good;
          applies = rest;
          fits = lost-fits;
          paired = paired-fronted so.maps (inverted_ranges (m.step_map n.change)) paired;
        }

        tried : (c : C) → m.carry n.change so.maps ≡ Some c → (r : Result Doc Reason) → m.outcome rules c so.doc ≡ r → CanRebase m rules next (ended m rules so n c r) ns
        tried c o (Ok d) e = record {
          old_good = next_good;
          new_good = laws.good rules c so.doc d new_good e;
          applies = rest;
          fits = held-fits c d e;
          paired = paired-around so.maps (inverted_ranges (m.step_map n.change)) (m.step_map c) (mirrors laws so n c o) paired;
        }
        tried c o (Err r) e = gone

        from : (o : Option C) → m.carry n.change so.maps ≡ o → CanRebase m rules next (led m rules so n o) ns
        from None e = gone
        from (Some c) e = tried c e (m.outcome rules c so.doc) refl

  -- the whole mapping leads from the document after the steps to the one after those kept
  pub rebased-can : Laws m → (old end : Doc) (so : Rebasing C Rules Doc Reason) (ns : List (Named C)) → CanRebase m rules old so ns → AllApply m rules old ns end
      → CanRebase m rules end (rebased m rules so ns) []
  rebased-can laws old end so [] h f =
      let e : old ≡ end = cc in
      subst (λ d. CanRebase m rules d so []) e (record { old_good = h.old_good; new_good = h.new_good; applies = (old, refl); fits = h.fits; paired = h.paired })
  rebased-can laws old end so (n ∷ ns) h f =
      let g = fold-cons m rules old end n.change (changes_of ns) f in
      rebased-can laws g.0 end (rebased_one m rules so n) ns (one-can laws old g.0 so n h.old_good h.new_good g.1 h.fits ns h.paired (end, g.2)) g.2

  pub plain-paired : (ns : List (Named C)) → ArePaired (maps_of m ns)
  plain-paired [] = tt
  plain-paired (n ∷ ns) = (tt, plain-paired ns)

  -- the maps of steps that apply lead from the document before to the one after
  pub maps-fit : Laws m → (doc end : Doc) (ns : List (Named C)) → m.is_good rules doc → AllApply m rules doc ns end
      → FitBetween (maps_of m ns) (m.size doc) (m.size end) × Each (NamedHasMap m) ns
  maps-fit laws doc end [] good h =
      let e : doc ≡ end = cc in
      ((laws.small rules doc good, ap m.size e), tt)
  maps-fit laws doc end (n ∷ ns) good h =
      let f = fold-cons m rules doc end n.change (changes_of ns) h in
      let r = maps-fit laws f.0 end ns (laws.good rules n.change doc f.0 good f.1) f.2 in
      ((m.size f.0, (laws.small rules doc good, laws.fits rules n.change doc f.0 good f.1, r.0)), (has-map laws n.change doc f.0 good f.1, r.1))

  -- steps that apply where others' steps apply too may be carried over these
  pub can-over : Laws m → (old base end : Doc) (foreign pending : List (Named C)) → m.is_good rules old → AllApply m rules old foreign base
      → AllApply m rules old pending end → CanRebaseOver m rules base foreign pending end
  can-over laws old base end foreign pending good f p =
      let r = maps-fit laws old base foreign good f in
      record {
        old = old;
        can = record { old_good = good; new_good = fold-good m rules laws old base (changes_of foreign) good f; applies = (end, p); fits = r.0; paired = plain-paired foreign };
        ends = p;
        have_maps = All-from_recursion (NamedHasMap m) foreign r.1;
      }

  -- and cursors of the document after them go over the whole mapping
  pub over-can : Laws m → (old base end : Doc) (foreign pending : List (Named C)) → m.is_good rules old → AllApply m rules old foreign base
      → AllApply m rules old pending end → CanRebase m rules end (rebased m rules (start m base (maps_of m foreign)) pending) []
  over-can laws old base end foreign pending good f p =
      let r = maps-fit laws old base foreign good f in
      rebased-can laws old end (start m base (maps_of m foreign)) pending
      (record { old_good = good; new_good = fold-good m rules laws old base (changes_of foreign) good f; applies = (end, p); fits = r.0; paired = plain-paired foreign }) p

  one-applied : (base : Doc) (so : Rebasing C Rules Doc Reason) (n : Named C) → AllApply m rules base so.kept so.doc
      → AllApply m rules base (rebased_one m rules so n).kept (rebased_one m rules so n).doc
  one-applied base so n h = from (m.carry n.change so.maps)
    where
      tried : (c : C) (r : Result Doc Reason) → m.outcome rules c so.doc ≡ r → AllApply m rules base (ended m rules so n c r).kept (ended m rules so n c r).doc
      tried c (Ok d) e =
          ap (fold m rules base) (changes-append so.kept (record { name = n.name; change = c } ∷ []))
          ∙ fold-append m rules base so.doc (changes_of so.kept) (c ∷ []) h ∙ rw e refl
      tried c (Err r) e = h

      from : (o : Option C) → AllApply m rules base (led m rules so n o).kept (led m rules so n o).doc
      from None = h
      from (Some c) = tried c (m.outcome rules c so.doc) refl

  -- the steps kept apply to the base one after another
  pub rebased-applied : (base : Doc) (so : Rebasing C Rules Doc Reason) (ns : List (Named C)) → AllApply m rules base so.kept so.doc
      → AllApply m rules base (rebased m rules so ns).kept (rebased m rules so ns).doc
  rebased-applied base so [] h = h
  rebased-applied base so (n ∷ ns) h = rebased-applied base (rebased_one m rules so n) ns (one-applied base so n h)

  -- Two ways on from a document that share their first steps: where those lead, and the rest of both ways from there.
  pub record Fork (doc left right : Doc) (shared to_left to_right : List (Named C)) : Type 0 where
    pub at : Doc
    pub at_good : m.is_good rules at
    pub reached : AllApply m rules doc shared at
    pub left_applies : AllApply m rules at to_left left
    pub right_applies : AllApply m rules at to_right right

  pub fork : Laws m → (doc left right : Doc) (shared to_left to_right : List (Named C)) → m.is_good rules doc → AllApply m rules doc (shared ++ to_left) left
      → AllApply m rules doc (shared ++ to_right) right → Fork doc left right shared to_left to_right
  fork laws doc left right shared to_left to_right good l r =
      let b = front-applies m rules doc left shared to_left l in
      record {
        at = b.0;
        at_good = fold-good m rules laws doc b.0 (changes_of shared) good b.1;
        reached = b.1;
        left_applies = sym (fold-append m rules doc b.0 (changes_of shared) (changes_of to_left) b.1) ∙ ap (fold m rules doc) (sym (changes-append shared to_left)) ∙ l;
        right_applies = sym (fold-append m rules doc b.0 (changes_of shared) (changes_of to_right) b.1) ∙ ap (fold m rules doc) (sym (changes-append shared to_right)) ∙ r;
      }
