-- What a host of clients' messages keeps, and what an act at a host comes to.
use Rattle.std.specs.Prelude.{◌≡◌, ℕ, ◌+◌, ◌<◌, ◌^◌, ◌++◌, List, length, Option, Some, None, Result}
use Rattle.std.specs.List.{AllByRecursion as Each}
use Rattle.pm_change.specs.Changes.{Meaning}
use Rattle.pm_change.specs.declared.no_step.NoStep.{NoStep}
use Rattle.pm_authority.specs.declared.named.Named.{Named}
use Rattle.pm_authority.specs.declared.authority.Authority.{Authority}
use Rattle.pm_authority.specs.declared.message.Message.{Message}
use Rattle.pm_authority.specs.declared.message.Answer.{Answer}
use Rattle.pm_authority.specs.declared.message.Answer.TheVariants.{Entries}
use Rattle.pm_authority.specs.Kept.{IsKept}
use Rattle.pm_authority.specs.Presents.{presented}
use Rattle.pm_authority.specs.Runs.{AllApply}
use Rattle.pm_client.specs.Kins.{IsForeign}
use Rattle.pm_session.specs.declared.line.Act.{Act}
use Rattle.pm_session.specs.declared.member.Member.{Member}
use Rattle.pm_session.specs.declared.outcome.Outcome.{Outcome}
use Rattle.pm_session.specs.Events.{asked, finished}

-- Where the answer is entries, the log ends with them.
abbrev pub EndsWith : {Rules Doc Reason C : Type 0} → List (Named C) → Option (Answer C Rules Doc Reason) → Type 0
EndsWith log (Some (Entries since entries)) = since + length entries ≡ length log
EndsWith log x = Unit {0}

module _ {Rules Doc Reason C : Type 0} (m : Meaning Rules Doc Reason C) (rules : Rules) where
  -- The first document is good, the log's steps apply to it one after another, and the log's length is a number of 64 bits.
  pub record IsLog (first : Doc) (log : List (Named C)) : Type 0 where
    pub first_good : m.is_good rules first
    pub applies : (end : Doc) × AllApply m rules first log end
    pub short : length log < 2 ^ 64

  -- What a client's message got at a host. Entries that others named may have been added to the log first. The answer and
  -- the new log are then those that an authority with this log gives.
  pub record IsAnswered (client : ℕ) (first : Doc) (log : List (Named C)) (message : Message C) (answer : Answer C Rules Doc Reason) (new : List (Named C)) : Type 0 where
    pub others : List (Named C)
    pub foreign : Each (IsForeign client) others
    pub authority : Authority C Rules Doc Reason
    pub first_is : authority.first ≡ first
    pub log_is : authority.log ≡ log ++ others
    pub kept : IsKept m rules authority
    pub answer_is : answer ≡ (presented m rules authority message).0
    pub new_is : new ≡ (presented m rules authority message).1.log

  module _ {Op : Type 0} (makes : Doc → Op → Result (List C) NoStep) (same : Type 0) (tells : Message C → Answer C Rules Doc Reason → Type 0) where
    abbrev pub ActsBy : Option (Message C) → Act Op C → Member C Rules Doc Reason → Outcome C Rules Doc Reason → Member C Rules Doc Reason → Type 0
    ActsBy None act x o next = same × ((o, next) ≡ finished m rules makes act x None)
    ActsBy (Some message) act x o next = (answer : Answer C Rules Doc Reason) × tells message answer × ((o, next) ≡ finished m rules makes act x (Some answer))

    -- A member did this act, wherever messages are presented. `same` says that whoever answers them is as before, and `tells`
    -- that it was presented a message once, gave an answer, and became what it is. Where the act presents a message, the
    -- outcome and the member after it are those of the one answer that came; where it presents none, nothing was asked.
    abbrev pub Acts : Act Op C → Member C Rules Doc Reason → Outcome C Rules Doc Reason → Member C Rules Doc Reason → Type 0
    Acts act x o next = ActsBy (asked act x) act x o next
