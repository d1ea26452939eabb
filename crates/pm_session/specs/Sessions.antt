-- A session: lines played one after another, and what follows the last.
use Rattle.std.specs.Prelude.{ℕ, zero, suc, ◌+◌, Bool, true, false, Result, List, [], ◌∷◌, length}
use Rattle.pm_change.specs.Changes.{Meaning}
use Rattle.pm_change.specs.declared.no_step.NoStep.{NoStep}
use Rattle.pm_client.specs.declared.taken.MessageKind.{MessageKind}
use Rattle.pm_client.specs.declared.taken.MessageKind.TheVariants.{Submit, Ask}
use Rattle.pm_client.specs.Clients.{new_client}
use Rattle.pm_session.specs.declared.line.Line.{Line}
use Rattle.pm_session.specs.declared.member.Member.{Member}
use Rattle.pm_session.specs.declared.member.Member.TheVariants.{Editor, Raw}
use Rattle.pm_session.specs.declared.outcome.Outcome.{Outcome}
use Rattle.pm_session.specs.Events.{State, by_member, played, member_exchanges}

module _ {Rules Doc Reason C : Type 0} where
  -- a member just come to a document: a raw client that has drawn no serial, or an editor at version 0 with nothing pending
  abbrev pub new_member : Doc → ℕ → Bool → Member C Rules Doc Reason
  new_member doc i true = Raw i 0
  new_member doc i false = Editor (new_client i doc)

  -- members just come to a document, named from i on, of which `raw` says in order whether each is a raw client
  abbrev pub new_members : Doc → ℕ → List Bool → List (Member C Rules Doc Reason)
  new_members doc i [] = []
  new_members doc i (is_raw ∷ raw) = new_member doc i is_raw ∷ new_members doc (i + 1) raw

  -- a room just opened at a document: an empty log, and these members
  abbrev pub opened : Doc → List Bool → State C Rules Doc Reason
  opened doc raw = record { authority = record { first = doc; doc = doc; log = [] }; members = new_members doc 0 raw }

  -- n members from i on, in order, each do this
  abbrev pub in_turn : (ℕ → State C Rules Doc Reason → State C Rules Doc Reason) → ℕ → ℕ → State C Rules Doc Reason → State C Rules Doc Reason
  in_turn does i zero s = s
  in_turn does i (suc n) s = in_turn does (i + 1) n (does i s)

module _ {Rules Doc Reason C : Type 0} (m : Meaning Rules Doc Reason C) (rules : Rules) where
  module _ {Op : Type 0} (makes : Doc → Op → Result (List C) NoStep) where
    -- the outcomes of the lines in order, and the room after the last
    abbrev pub session : State C Rules Doc Reason → List (Line Op C) → List (Outcome C Rules Doc Reason) × State C Rules Doc Reason
    session s [] = ([], s)
    session s (line ∷ lines) =
        let p = played m rules makes s line in
        let rest = session p.1 lines in
        (p.0 ∷ rest.0, rest.1)

  -- member i exchanges a message of this kind, and takes the answer; a raw client does nothing
  abbrev pub exchanged : MessageKind → ℕ → State C Rules Doc Reason → State C Rules Doc Reason
  exchanged kind i s = (by_member s i (member_exchanges m rules s.authority kind)).1

  -- editor i asks for what is past its version, and then submits what is pending; a raw client is passed by
  abbrev pub brought_up : ℕ → State C Rules Doc Reason → State C Rules Doc Reason
  brought_up i s = exchanged Submit i (exchanged Ask i s)

  -- after the last line each editor asks and submits, and then each asks; raw clients are passed by
  abbrev pub settled : State C Rules Doc Reason → State C Rules Doc Reason
  settled s =
      let n = length s.members in
      in_turn (exchanged Ask) 0 n (in_turn brought_up 0 n s)
