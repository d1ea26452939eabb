-- Changes that undo entries may be carried one after another.
use Rattle.std.specs.Prelude.{◌≡◌, ℕ, ◌+◌, ◌≤◌, ◌<◌, ◌^◌, List, [], ◌∷◌, ◌++◌, length, Option, Some, None, Result, Ok, Err, All, refl}
use Rattle.std.specs.List.{AllByRecursion as Each}
use Rattle.std.proofs.Common.{arith, ap, sym, subst, ◌∙◌}
use Rattle.std.proofs.lemmas.List.Elements.{recursion_from_All}
use Rattle.pm_map.specs.declared.step_map.Span.{Span}
use Rattle.pm_map.specs.declared.mapping.Mirrored.{Mirrored}
use Rattle.pm_map.specs.Moves.{inverted_ranges}
use Rattle.pm_map.specs.Through.{SameShape}
use Rattle.pm_map.specs.Mirrors.{entry, gap_for}
use Rattle.pm_map.specs.Fits.{FitsSizes, FitBetween}
use Rattle.pm_map.specs.Positions.{MayLead, EachLed, IsItself}
use Rattle.pm_map.proofs.Growths.{paired-around, paired-fronted}
use Rattle.pm_map.proofs.Sizes.{fit-front, fit-behind, inverted-fits, same-shape}
use Rattle.pm_change.specs.Changes.{Meaning, Laws, Applies, HasInverseMap, fold}
use Rattle.pm_change.proofs.Folds.{fold-cons}
use Rattle.pm_authority.specs.declared.running.Refusal.{Refusal}
use Rattle.pm_client.specs.Rebasables.{HasMap}
use Rattle.pm_client.proofs.RebaseLaws.{has-map}
use Rattle.pm_revert.specs.declared.backs.Back.{Back}
use Rattle.pm_revert.specs.declared.taking.Taking.{Taking}
use Rattle.pm_revert.specs.Backs.{backs_at, then_backs, backs_onto}
use Rattle.pm_revert.specs.Takings.{passed, put, tried, led, taken_one}
use Rattle.pm_revert.specs.Chains.{IsBack, AreBacks, IsAt, MayTake, MayTakeAll}

first-small : {Rules Doc Reason C : Type 0} (m : Meaning Rules Doc Reason C) (rules : Rules) (so : Taking Doc C) (n : ℕ) → IsAt m rules so n → n < 2 ^ 32
first-small m rules so n at = from so.maps at.fits
  where
    from : (ms : List Mirrored) → FitBetween ms n (m.size so.doc) → n < 2 ^ 32
    from [] h = h.0
    from (e ∷ es) (mid, h) = h.0

module _ {Rules Doc Reason C : Type 0} (m : Meaning Rules Doc Reason C) (rules : Rules) where
  -- changes without ranges lead from a size to the same
  still-backs : (i n : ℕ) (cs : List C) (bs : List (Back C)) → n < 2 ^ 32 → Each (λ b. m.step_map b ≡ []) cs → Each (λ b. m.is_within b n) cs → AreBacks m bs n → AreBacks m (backs_at i cs ++ bs) n
  still-backs i n [] bs small none within h = h
  still-backs i n (c ∷ cs) bs small none within h =
      let stays : FitsSizes [] n n = (omega arith, refl) in
      (n, (record { within = within.0; fits = subst (λ rs. FitsSizes rs n n) (sym none.0) stays; small = small }, still-backs i n cs bs small none.1 within.1 h))

  -- the changes that undo one entry, before those that undo the earlier ones
  one-back : (ranges : List Span) (i n k : ℕ) (cs : List C) (bs : List (Back C)) → n < 2 ^ 32 → k < 2 ^ 32 → FitsSizes ranges n k → HasInverseMap m rules ranges cs → Each (λ b. m.is_within b k) cs → AreBacks m bs n
      → AreBacks m (backs_at i cs ++ bs) k
  one-back [] i n k cs bs ns ks fits maps within h =
      let same : n ≡ k = fits.1 in
      still-backs i k cs bs ks (recursion_from_All (λ b. m.step_map b ≡ []) cs maps) within (subst (AreBacks m bs) same h)
  one-back (r ∷ rs) i n k [] bs ns ks fits maps within h = absurd maps
  one-back (r ∷ rs) i n k (c ∷ []) bs ns ks fits maps within h =
      (n, (record { within = within.0; fits = subst (λ x. FitsSizes x k n) (sym maps) (inverted-fits (r ∷ rs) n k fits); small = ns }, h))
  one-back (r ∷ rs) i n k (c ∷ d ∷ cs) bs ns ks fits maps within h = absurd maps

module _ {Rules Doc Reason C : Type 0} (m : Meaning Rules Doc Reason C) (rules : Rules) (laws : Laws m) where
  pub all-backs : (doc end : Doc) (i : ℕ) (es : List C) (bs : List (Back C)) → m.is_good rules doc → fold m rules doc es ≡ Some end → AreBacks m bs (m.size doc) → AreBacks m (backs_onto m rules doc i es bs) (m.size end)
  all-backs doc end i [] bs good apply h = let same : doc ≡ end = cc in subst (λ d. AreBacks m bs (m.size d)) same h
  all-backs doc end i (e ∷ es) bs good apply h =
      let f = fold-cons m rules doc end e es apply in
      let next = f.0 in
      let next_good = laws.good rules e doc next good f.1 in
      let first =
      one-back m rules (m.step_map e) i (m.size doc) (m.size next) (m.inverse rules e doc) bs (laws.small rules doc good) (laws.small rules next next_good) (laws.fits rules e doc next good f.1)
      (laws.inverse_map rules e doc next good f.1) (recursion_from_All (λ b. m.is_within b (m.size next)) (m.inverse rules e doc) (laws.inverse_within rules e doc next good f.1)) h in
      let rest = all-backs next end (i + 1) es (backs_at i (m.inverse rules e doc) ++ bs) next_good f.2 first in
      subst (λ r. AreBacks m (then_backs m rules r (λ d. backs_onto m rules d (i + 1) es (backs_at i (m.inverse rules e doc) ++ bs))) (m.size end)) (sym f.1) rest

  module _ (so : Taking Doc C) (b : Back C) (n k : ℕ) (at : IsAt m rules so n) (is : IsBack m b n k) where
    pub back-has-map : HasMap m b.change
    back-has-map = (n, first-small m rules so n at, is.within)

    pub may-carry : MayLead m.is_within IsItself b.change so.maps
    may-carry = (so.maps, n, m.size so.doc, (record { is = refl; paired = at.paired; fits = at.fits }, is.within))

    pub carried-as : (o : Option C) → EachLed m.is_within IsItself b.change so.maps (λ ms. o ≡ m.carry b.change ms) → o ≡ m.carry b.change so.maps
    carried-as o each = each so.maps n (m.size so.doc) (record { is = refl; paired = at.paired; fits = at.fits }) is.within

    pub mirrors : (c : C) → m.carry b.change so.maps ≡ Some c → SameShape (inverted_ranges (m.step_map b.change)) (m.step_map c)
    mirrors c some = same-shape (m.step_map b.change) (m.step_map c) (laws.carried b.change c so.maps some)

    passed-at : IsAt m rules (passed m so b) k
    passed-at = record {
      good = at.good;
      paired = paired-fronted so.maps (inverted_ranges (m.step_map b.change)) at.paired;
      fits = fit-front so.maps (inverted_ranges (m.step_map b.change)) None k n (m.size so.doc) is.small (inverted-fits (m.step_map b.change) n k is.fits) at.fits;
    }

    put-at : (c : C) (d : Doc) → m.carry b.change so.maps ≡ Some c → m.outcome rules c so.doc ≡ Ok d → IsAt m rules (put m so b c d) k
    put-at c d some ok =
        let d_good = laws.good rules c so.doc d at.good ok in
        let front = inverted_ranges (m.step_map b.change) in
        record {
          good = d_good;
          paired = paired-around so.maps front (m.step_map c) (mirrors c some) at.paired;
          fits = fit-front (so.maps ++ entry (m.step_map c) None ∷ []) front (gap_for front (length so.maps)) k n (m.size d) is.small (inverted-fits (m.step_map b.change) n k is.fits)
              (fit-behind so.maps (m.step_map c) n (m.size so.doc) (m.size d) (laws.small rules d d_good) (laws.fits rules c so.doc d at.good ok) at.fits);
        }

    -- wherever the change leads, the maps lead on from the document before its entry
    pub goes-on : (next : Taking Doc C) → taken_one m rules so b ≡ Ok next → IsAt m rules next k
    goes-on next e = from (m.carry b.change so.maps) refl e
      where
        same_ok : (r : Result (Taking Doc C) (Refusal Reason)) (x y : Taking Doc C) → r ≡ Ok x → r ≡ Ok y → x ≡ y
        same_ok r x y e d = cc

        made : (c : C) → m.carry b.change so.maps ≡ Some c → (r : Result Doc Reason) → m.outcome rules c so.doc ≡ r → tried m so b c r ≡ Ok next → IsAt m rules next k
        made c some (Ok d) ok e = let same : put m so b c d ≡ next = same_ok (tried m so b c (Ok d)) (put m so b c d) next refl e in subst (λ s. IsAt m rules s k) same (put-at c d some ok)
        made c some (Err r) ok e = absurd (cc)

        from : (o : Option C) → m.carry b.change so.maps ≡ o → led m rules so b o ≡ Ok next → IsAt m rules next k
        from None some e = let same : passed m so b ≡ next = same_ok (led m rules so b None) (passed m so b) next refl e in subst (λ s. IsAt m rules s k) same passed-at
        from (Some c) some e = made c some (m.outcome rules c so.doc) refl e
