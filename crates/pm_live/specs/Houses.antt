-- How the source, the sink and the status of a house stand together.
use Rattle.std.specs.Prelude.{◌≡◌, ℕ, true, List, [], Option}
use Rattle.pm_serve.specs.declared.serving.Served.{Served}
use Rattle.pm_serve.specs.Serves.{Serves}
use Rattle.pm_talk.specs.Texts.{no_memory}
use Rattle.pm_house.specs.declared.house.House.{House}
use Rattle.pm_house.specs.Houses.{IsGood, empty}
use Rattle.pm_house.specs.Replies.{Serving, last_text}
use Rattle.pm_live.specs.declared.status.Status.{Status}
use Rattle.pm_live.specs.Calls.{status_of}

-- The bytes that came are lines, and what was written is the answers to them in order, from the empty house on (`Serves` of pm_serve):
-- each is what the line is answered where the house stands after the lines before it (`Replies` of pm_house), or that there was no
-- memory for it, and then the house stands where it stood. The status says how it was over.
pub record Housed (status : Status) (left rest : Option (List ℕ)) (old new : Option (List ℕ)) : Type 0 where
  pub served : Served
  pub end : House
  pub unread : List ℕ
  pub serves : Serves Serving last_text no_memory served empty end left rest [] unread old new
  pub good : IsGood end
  pub says : status ≡ status_of served true
