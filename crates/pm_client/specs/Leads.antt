-- The document that the entries of an answer lead to.
use Rattle.std.specs.Prelude.{◌≡◌, ℕ, ◌+◌, List, length, Some}
use Rattle.pm_change.specs.Changes.{Meaning}
use Rattle.pm_authority.specs.declared.named.Named.{Named}
use Rattle.pm_authority.specs.declared.message.Answer.TheVariants.{Entries}
use Rattle.pm_authority.specs.Runs.{AllApply}
use Rattle.pm_client.specs.declared.client.Client.{Client}
use Rattle.pm_client.specs.Clients.{answer_at}
use Rattle.pm_client.specs.Kins.{Kin}

module _ {Rules Doc Reason C : Type 0} (m : Meaning Rules Doc Reason C) (rules : Rules) where
  -- The client stands to a log that ends with these entries, which begin at this place, and that gives this document.
  pub record EndsLog (c : Client C Rules Doc Reason) (since : ℕ) (entries : List (Named C)) (end : Doc) : Type 0 where
    pub first : Doc
    pub log : List (Named C)
    pub kin : Kin m rules first log c
    pub whole : since + length entries ≡ length log
    pub gives : AllApply m rules first log end

  -- Where the answer of this number is entries, a log ends with them that gives this document.
  abbrev pub Leads : Client C Rules Doc Reason → ℕ → Doc → Type 0
  Leads c i end = (since : ℕ) (entries : List (Named C)) → answer_at c i ≡ Some (Entries since entries) → EndsLog c since entries end
