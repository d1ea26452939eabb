-- What was heard.
use Rattle.std.specs.Prelude.{◌≡◌, ℕ, List, drop}
use Rattle.pm_change.specs.Changes.{Meaning}
use Rattle.pm_authority.specs.Runs.{changes_of, AllApply}
use Rattle.pm_client.specs.declared.client.Client.{Client}
use Rattle.pm_remote.specs.declared.hearing.News.{News}
use Rattle.pm_remote.specs.Backs.{backs, IsBack}
use Rattle.pm_remote.specs.Hearings.{heard, IsMiddle}

module _ {Rules Doc Reason C : Type 0} (m : Meaning Rules Doc Reason C) (rules : Rules) where
  -- The log past the client's version, with the document that it leads to from the base, and what takes the later pending
  -- steps back.
  pub record IsNews (c : Client C Rules Doc Reason) (other own : ℕ) (foreign : List C) (news : News C Rules Doc Reason) : Type 0 where
    pub entries_are : news.entries ≡ heard c other own foreign
    pub middle : Doc
    pub middle_is : IsMiddle m rules c own middle
    pub leads : AllApply m rules c.base (heard c other own foreign) news.end
    pub back_is : IsBack m rules c.doc (backs m rules middle (changes_of (drop own c.pending))) news.back
