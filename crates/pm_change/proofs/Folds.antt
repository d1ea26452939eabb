-- Changes one after another: what holds of every change that keeps the laws.
use Rattle.std.specs.Prelude.{◌≡◌, List, [], ◌∷◌, ◌++◌, Some, Result, Ok, Err, refl}
use Rattle.std.proofs.Common.{ap, subst}
use Rattle.pm_change.specs.Changes.{Meaning, Laws, fold, then_some}

module _ {Rules Doc Reason C : Type 0} (m : Meaning Rules Doc Reason C) (rules : Rules) where
  -- a fold that comes to a document applies its first change and then folds the rest
  pub fold-cons : (doc end : Doc) (c : C) (cs : List C) → fold m rules doc (c ∷ cs) ≡ Some end
      → (next : Doc) × (m.outcome rules c doc ≡ Ok next) × (fold m rules next cs ≡ Some end)
  fold-cons doc end c cs h = from (m.outcome rules c doc) refl h
    where
      from : (r : Result Doc Reason) → m.outcome rules c doc ≡ r → then_some m rules r (λ d. fold m rules d cs) ≡ Some end
          → (next : Doc) × (m.outcome rules c doc ≡ Ok next) × (fold m rules next cs ≡ Some end)
      from (Ok next) e h = (next, e, h)
      from (Err r) e h = absurd (cc)

  -- the fold over two lists is the fold over the second from where the first comes to
  pub fold-append : (doc mid : Doc) (cs ds : List C) → fold m rules doc cs ≡ Some mid → fold m rules doc (cs ++ ds) ≡ fold m rules mid ds
  fold-append doc mid [] ds h = let e : doc ≡ mid = cc in ap (λ d. fold m rules d ds) e
  fold-append doc mid (c ∷ cs) ds h =
      let f = fold-cons doc mid c cs h in
      rw f.1 (fold-append f.0 mid cs ds f.2)

  -- a fold from a good document comes to a good document
  pub fold-good : Laws m → (doc end : Doc) (cs : List C) → m.is_good rules doc → fold m rules doc cs ≡ Some end → m.is_good rules end
  fold-good laws doc end [] good h = let e : doc ≡ end = cc in subst (m.is_good rules) e good
  fold-good laws doc end (c ∷ cs) good h =
      let f = fold-cons doc end c cs h in
      fold-good laws f.0 end cs (laws.good rules c doc f.0 good f.1) f.2
