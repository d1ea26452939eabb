-- A seat of a desk over an authority, which serves one client.
use Rattle.std.specs.Prelude.{◌≡◌, ℕ, ◌+◌, ◌-◌, ◌<◌, ◌^◌, List, length, min}
use Rattle.pm_change.specs.Changes.{Meaning}
use Rattle.pm_authority.specs.declared.authority.Authority.{Authority}
use Rattle.pm_authority.specs.declared.machine.Request.{Request}
use Rattle.pm_authority.specs.declared.message.Message.{Message}
use Rattle.pm_authority.specs.declared.message.Answer.{Answer}
use Rattle.pm_authority.specs.Kept.{IsKept}
use Rattle.pm_authority.specs.Requests.{IsOwn}
use Rattle.pm_desk.specs.declared.history.Past.{Past}
use Rattle.pm_desk.specs.Desks.{DeskValue, SeatValue, IsSeatOf, Told}
use Rattle.pm_desk.specs.Histories.{state_at, StartsWith}
use Rattle.pm_session.specs.Hosts.{IsLog}
use Rattle.pm_workers.specs.Threads.{after_request, reply_to}

-- what a client asks by a message
abbrev pub request_of : {C : Type 0} → ℕ → Message C → Request C
request_of client message = record { client = client; message = message }

-- one call more than so many, in a count of 32 bits, which stands still at its end
abbrev pub one_more : ℕ → ℕ
one_more calls = min (calls + 1) (2 ^ 32 - 1)

-- the seat t is the seat s that has seen more, or as much
abbrev pub SeesMore : {M R Q : Type 0} → SeatValue M R Q → SeatValue M R Q → Type 0
SeesMore s t = (t ≡ record s { seen = t.seen }) × StartsWith t.seen s.seen

module _ {Rules Doc Reason C : Type 0} (m : Meaning Rules Doc Reason C) where
  -- what an authority keeps as a machine
  abbrev pub IsSound : Rules → Authority C Rules Doc Reason → Type 0
  IsSound rules a = IsKept m rules a × (length a.log < 2 ^ 64)

  -- a desk's authority after these calls
  abbrev pub authority_after : DeskValue (Authority C Rules Doc Reason) Rules → List (Past (Request C)) → Authority C Rules Doc Reason
  authority_after d seen = state_at (after_request m) d.opening.rules d.opening.machine seen

  -- The seat is this desk's and has the client's number. The rules are the desk's. The log that the seat has seen is a log by
  -- these rules of the document that the desk began with.
  pub record Serves (d : DeskValue (Authority C Rules Doc Reason) Rules) (s : SeatValue (Authority C Rules Doc Reason) Rules (Request C)) (rules : Rules) (client : ℕ) : Type 0 where
    pub seat : IsSeatOf d s
    pub number : s.number ≡ client
    pub rules_are : rules ≡ d.opening.rules
    pub log_is : IsLog m rules d.opening.machine.first (authority_after d s.seen).log

  -- The client presented a message at the seat s: the seat has one call more, and the answer is the one at the call's place in
  -- the history that the seat t has then seen.
  abbrev pub Answers : DeskValue (Authority C Rules Doc Reason) Rules → SeatValue (Authority C Rules Doc Reason) Rules (Request C) → ℕ → Message C
      → Answer C Rules Doc Reason → SeatValue (Authority C Rules Doc Reason) Rules (Request C) → Type 0
  Answers d s client message answer t = Told (after_request m) (reply_to m) IsSound IsOwn d.opening s (request_of client message) answer t
