-- The front of steps that apply applies.
use Rattle.std.specs.Prelude.{◌≡◌, List, [], ◌∷◌, ◌++◌, Some, refl}
use Rattle.pm_change.specs.Changes.{Meaning, fold}
use Rattle.pm_change.proofs.Folds.{fold-cons}
use Rattle.pm_authority.specs.declared.named.Named.{Named}
use Rattle.pm_authority.specs.Runs.{changes_of, AllApply}
use Rattle.pm_authority.proofs.RunFolds.{changes-append}

module _ {Rules Doc Reason C : Type 0} (m : Meaning Rules Doc Reason C) (rules : Rules) where
  fold-front : (doc end : Doc) (cs ds : List C) → fold m rules doc (cs ++ ds) ≡ Some end → (mid : Doc) × (fold m rules doc cs ≡ Some mid)
  fold-front doc end [] ds h = (doc, refl)
  fold-front doc end (c ∷ cs) ds h =
      let f = fold-cons m rules doc end c (cs ++ ds) h in
      let r = fold-front f.0 end cs ds f.2 in
      (r.0, rw f.1 r.1)

  pub front-applies : (doc end : Doc) (xs ys : List (Named C)) → AllApply m rules doc (xs ++ ys) end → (mid : Doc) × AllApply m rules doc xs mid
  front-applies doc end xs ys h = fold-front doc end (changes_of xs) (changes_of ys) (rw changes-append at h)
