-- How the source, the sink and the status stand together where submissions have a limit of work.
use Rattle.std.specs.Prelude.{◌≡◌, ℕ, true, List, [], Option, Some}
use Rattle.pm_serve.specs.declared.serving.Served.{Served}
use Rattle.pm_serve.specs.Serves.{Serves}
use Rattle.pm_talk.specs.declared.limited.Limited.{Limited}
use Rattle.pm_talk.specs.declared.talk.Talk.TheVariants.{AwaitsSchema}
use Rattle.pm_talk.specs.Texts.{no_memory}
use Rattle.pm_talk.specs.Talk.{is_open}
use Rattle.pm_talk.specs.Limited.{RepliesWithin, IsGoodWithin, last_within}
use Rattle.pm_house.specs.declared.limited.LimitedHouse.{LimitedHouse}
use Rattle.pm_house.specs.Houses.{empty}
use Rattle.pm_house.specs.Limits as limits
use Rattle.pm_live.specs.declared.status.Status.{Status}
use Rattle.pm_live.specs.Calls.{status_of}

-- line 1 is awaited
abbrev pub begun : ℕ → Limited
begun limit = record { talk = AwaitsSchema; limit = Some limit }

-- The bytes that came are lines, and what was written is the answers to them in order, from the awaited schema on (`Serves` of
-- pm_serve): each is what the line is answered within the limit where the talk stands after the lines before it (`RepliesWithin` of
-- pm_talk), or that there was no memory for it, and then the talk stands where it stood. The status says how it was over.
pub record TalkedWithin (limit : ℕ) (status : Status) (left rest : Option (List ℕ)) (old new : Option (List ℕ)) : Type 0 where
  pub served : Served
  pub end : Limited
  pub unread : List ℕ
  pub serves : Serves RepliesWithin last_within no_memory served (begun limit) end left rest [] unread old new
  pub good : IsGoodWithin end
  pub says : status ≡ status_of served (is_open end.talk)

-- no schemas and no documents
abbrev pub empty_within : ℕ → LimitedHouse
empty_within limit = record { house = empty; limit = Some limit }

-- the same of a house, from the empty one on (`ServingWithin` of pm_house)
pub record HousedWithin (limit : ℕ) (status : Status) (left rest : Option (List ℕ)) (old new : Option (List ℕ)) : Type 0 where
  pub served : Served
  pub end : LimitedHouse
  pub unread : List ℕ
  pub serves : Serves limits.ServingWithin limits.last_within no_memory served (empty_within limit) end left rest [] unread old new
  pub good : limits.IsGoodWithin end
  pub says : status ≡ status_of served true
