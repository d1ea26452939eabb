-- What an authority keeps.
use Rattle.pm_change.specs.Changes.{Meaning}
use Rattle.pm_authority.specs.Runs.{AllApply}
use Rattle.pm_authority.specs.declared.authority.Authority.{Authority}

module _ {Rules Doc Reason C : Type 0} (m : Meaning Rules Doc Reason C) (rules : Rules) where
  -- Both documents are good, and the log's steps apply one after another to the first document and give the document.
  pub record IsKept (a : Authority C Rules Doc Reason) : Type 0 where
    pub first_good : m.is_good rules a.first
    pub good : m.is_good rules a.doc
    pub folded : AllApply m rules a.first a.log a.doc
