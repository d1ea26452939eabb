-- What takes steps back leads to the document before them.
use Rattle.std.specs.Prelude.{◌≡◌, List, [], ◌∷◌, ◌++◌, reverse, Some, Ok, refl}
use Rattle.std.proofs.Common.{sym, ap, ◌∙◌, subst, append-nil}
use Rattle.std.proofs.lemmas.Grind.{reverse_onto}
use Rattle.std.proofs.lemmas.List.Concat.{flat_map-append}
use Rattle.pm_change.specs.Changes.{Meaning, Laws, fold}
use Rattle.pm_change.proofs.Folds.{fold-cons, fold-append}
use Rattle.pm_remote.specs.Backs.{joined, undos, backs}

module _ {Rules Doc Reason C : Type 0} (m : Meaning Rules Doc Reason C) (rules : Rules) where
  -- changes in two parts, with the document between them
  fold-parts : (doc end : Doc) (cs ds : List C) → fold m rules doc (cs ++ ds) ≡ Some end → (mid : Doc) × (fold m rules doc cs ≡ Some mid) × (fold m rules mid ds ≡ Some end)
  fold-parts doc end [] ds h = (doc, refl, h)
  fold-parts doc end (c ∷ cs) ds h =
      let f = fold-cons m rules doc end c (cs ++ ds) h in
      let r = fold-parts f.0 end cs ds f.2 in
      (r.0, rw f.1 r.1, r.2)

  -- the first change is taken back last
  backs-cons : (before next : Doc) (c : C) (cs : List C) → m.outcome rules c before ≡ Ok next
      → joined (backs m rules before (c ∷ cs)) ≡ joined (backs m rules next cs) ++ m.inverse rules c before
  backs-cons before next c cs ok =
      let undo : List C = m.inverse rules c before in
      let all : undos m rules before (c ∷ cs) ≡ undo ∷ undos m rules next cs = rw ok refl in
      ap (λ l. joined (reverse l)) all ∙ ap joined (reverse_onto (undos m rules next cs) undo [])
      ∙ flat_map-append (λ l. l) (reverse (undos m rules next cs)) (undo ∷ []) ∙ ap (λ l. joined (backs m rules next cs) ++ l) (append-nil undo)

  -- where it applies
  pub backs-restore : Laws m → (before doc back : Doc) (cs : List C) → m.is_good rules before → fold m rules before cs ≡ Some doc
      → fold m rules doc (joined (backs m rules before cs)) ≡ Some back → back ≡ before
  backs-restore laws before doc back [] good leads h = let e : doc ≡ back = cc in let f : before ≡ doc = cc in sym (f ∙ e)
  backs-restore laws before doc back (c ∷ cs) good leads h =
      let f = fold-cons m rules before doc c cs leads in
      let p = fold-parts doc back (joined (backs m rules f.0 cs)) (m.inverse rules c before) (sym (ap (fold m rules doc) (backs-cons before f.0 c cs f.1)) ∙ h) in
      let e : p.0 ≡ f.0 = backs-restore laws f.0 doc p.0 cs (laws.good rules c before f.0 good f.1) f.2 p.1 in
      laws.restores rules c before f.0 back good f.1 (subst (λ d. fold m rules d (m.inverse rules c before) ≡ Some back) e p.2)

  -- under loose rules it does
  pub backs-apply : Laws m → m.is_loose rules → (before doc : Doc) (cs : List C) → m.is_good rules before → fold m rules before cs ≡ Some doc
      → fold m rules doc (joined (backs m rules before cs)) ≡ Some before
  backs-apply laws loose before doc [] good leads = sym leads
  backs-apply laws loose before doc (c ∷ cs) good leads =
      let f = fold-cons m rules before doc c cs leads in
      let to : fold m rules doc (joined (backs m rules f.0 cs)) ≡ Some f.0 = backs-apply laws loose f.0 doc cs (laws.good rules c before f.0 good f.1) f.2 in
      let u = laws.undoes rules c before f.0 loose good f.1 in
      let e : u.0 ≡ before = laws.restores rules c before f.0 u.0 good f.1 u.1 in
      ap (fold m rules doc) (backs-cons before f.0 c cs f.1)
      ∙ fold-append m rules doc f.0 (joined (backs m rules f.0 cs)) (m.inverse rules c before) to ∙ u.1 ∙ ap Some e
