-- How the words, the source, the sink and the status stand together.
use Rattle.std.specs.Prelude.{◌≡◌, ◌⊎◌, ℕ, Bool, List, [], Option, if◌then◌else◌}
use Rattle.pm_io.specs.Faults.{Rose}
use Rattle.pm_serve.specs.declared.serving.Served.{Served}
use Rattle.pm_serve.specs.declared.serving.Served.TheVariants as served
use Rattle.pm_serve.specs.Serves.{Serves}
use Rattle.pm_talk.specs.declared.talk.Talk.{Talk}
use Rattle.pm_talk.specs.declared.talk.Talk.TheVariants.{AwaitsSchema}
use Rattle.pm_talk.specs.Texts.{no_memory}
use Rattle.pm_talk.specs.Talk.{Replies, last_text, is_open, IsGood}
use Rattle.pm_live.specs.declared.status.Status.{Status}
use Rattle.pm_live.specs.declared.status.Status.TheVariants.{Done, Refused, Usage, ReadFault, WriteFault, NoMemory, Spent}

-- How serving ended, and whether lines 1 and 2 had come. Only a fault of line 1 or 2 closes a talk.
abbrev pub status_of : Served → Bool → Status
status_of served.End is_open = if is_open then Done else Refused
status_of served.Closed is_open = Refused
status_of served.ReadFault is_open = ReadFault
status_of served.WriteFault is_open = WriteFault
status_of served.Spent is_open = Spent

-- The bytes that came are lines, and what was written is the answers to them in order, from the awaited schema on (`Serves` of
-- pm_serve): each is what the line is answered where the talk stands after the lines before it (`Replies` of pm_talk), or that there
-- was no memory for it, and then the talk stands where it stood. The status says how it was over.
pub record Talked (status : Status) (left rest : Option (List ℕ)) (old new : Option (List ℕ)) : Type 0 where
  pub served : Served
  pub end : Talk
  pub unread : List ℕ
  pub serves : Serves Replies last_text no_memory served AwaitsSchema end left rest [] unread old new
  pub good : IsGood end
  pub says : status ≡ status_of served (is_open end)

-- nothing was read or written where there are words, or no memory to begin with
abbrev pub IsSilent : Status → Type 0
IsSilent status = (status ≡ Usage) ⊎ (status ≡ NoMemory)

-- a failed read or write raised its count of faults, and no other did
abbrev pub FaultsAt : Status → ℕ → ℕ → ℕ → ℕ → Type 0
FaultsAt Done old new old_w new_w = (new ≡ old) × (new_w ≡ old_w)
FaultsAt Refused old new old_w new_w = (new ≡ old) × (new_w ≡ old_w)
FaultsAt Usage old new old_w new_w = (new ≡ old) × (new_w ≡ old_w)
FaultsAt ReadFault old new old_w new_w = Rose old new × (new_w ≡ old_w)
FaultsAt WriteFault old new old_w new_w = (new ≡ old) × Rose old_w new_w
FaultsAt NoMemory old new old_w new_w = (new ≡ old) × (new_w ≡ old_w)
FaultsAt Spent old new old_w new_w = (new ≡ old) × (new_w ≡ old_w)

-- the number with which the program ends
abbrev pub number_of : Status → ℕ
number_of Done = 0
number_of Refused = 1
number_of Usage = 2
number_of ReadFault = 3
number_of WriteFault = 4
number_of NoMemory = 5
number_of Spent = 3
