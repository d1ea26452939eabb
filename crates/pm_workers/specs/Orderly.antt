-- A session that was played on threads.
use Rattle.std.specs.Prelude.{◌≡◌, ℕ, ◌<◌, Bool, List, [], length, map, All, Result}
use Rattle.pm_change.specs.Changes.{Meaning}
use Rattle.pm_change.specs.declared.no_step.NoStep.{NoStep}
use Rattle.pm_authority.specs.declared.authority.Authority.{Authority}
use Rattle.pm_authority.specs.declared.machine.Request.{Request}
use Rattle.pm_desk.specs.declared.history.Past.{Past}
use Rattle.pm_desk.specs.Desks.{DeskValue, SeatValue}
use Rattle.pm_desk.specs.Histories.{state_at}
use Rattle.pm_session.specs.declared.line.Line.{Line}
use Rattle.pm_session.specs.Events.{state_of}
use Rattle.pm_session.specs.Sessions.{opened, session}
use Rattle.pm_session.specs.Sounds.{Sound}
use Rattle.pm_session.specs.Suits.{LinesSuit}
use Rattle.pm_workers.specs.declared.threaded.Threaded.{Threaded}
use Rattle.pm_workers.specs.Merges.{numbers, merged, IsOrder}
use Rattle.pm_workers.specs.Seatings.{IsCovered}
use Rattle.pm_workers.specs.Threads.{after_request, by_client, callers, in_order, order_of}

-- A history of calls at this authority makes the order of the lines of n clients, and the room's authority is the one after these
-- calls.
pub record HasHistory {Rules Doc Reason C Op : Type 0} (m : Meaning Rules Doc Reason C) (given : Rules) (first : Authority C Rules Doc Reason) (n : ℕ)
    (file : List (Line Op C)) (t : Threaded C Op Rules Doc Reason) : Type 0 where
  pub log : List (Past (Request C))
  pub order : t.order.items ≡ order_of n file log
  pub authority : t.room.authority ≡ state_at (after_request m) given first log

-- The same of a desk with these seats, one for each of n clients: the history is the desk's. It begins with what each seat has
-- seen, has no other call of it, and each of its calls is of one of the seats.
pub record HasDeskHistory {Rules Doc Reason C Op : Type 0} (m : Meaning Rules Doc Reason C) (d : DeskValue (Authority C Rules Doc Reason) Rules)
    (seats : List (SeatValue (Authority C Rules Doc Reason) Rules (Request C))) (n : ℕ) (file : List (Line Op C)) (t : Threaded C Op Rules Doc Reason) : Type 0 where
  pub made : HasHistory m d.opening.rules d.opening.machine n file t
  pub covered : All (λ s. IsCovered made.log s) seats
  pub calls : All (λ past. past.seat < n) made.log

-- The lines of `file` were played by the clients of a room that was opened at this document under the given rules. Of these clients `raw`
-- says of each whether it is a raw one.
-- `history`: a history of calls at a new authority makes this order, and the room's authority is the one after them.
-- `order`: the order is what the calls of its own presenting lines make of the clients' lines.
-- `once`: each line stands in the order once, and each client's lines stand in their order.
-- `suit`, `plays`: the lines suit the room in that order, and the outcomes and the room are what the session on one thread comes
-- to in that order.
-- `sound`: the room is sound.
pub record IsOrderly {Rules Doc Reason C Op : Type 0} (m : Meaning Rules Doc Reason C) (makes : Rules → Doc → Op → Result (List C) NoStep) (given : Rules) (doc : Doc)
    (raw : List Bool) (file : List (Line Op C)) (t : Threaded C Op Rules Doc Reason) : Type 0 where
  pub rules : t.rules ≡ given
  pub history : HasHistory m given (record { first = doc; doc = doc; log = [] }) (length raw) file t
  pub order : t.order.items ≡ merged (callers t.lines.items) (by_client 0 (length raw) file)
  pub once : IsOrder (map numbers (by_client 0 (length raw) file)) t.order.items
  pub lines : t.lines.items ≡ in_order file t.order.items
  pub suit : LinesSuit (opened {Rules = Rules} {Reason = Reason} {C = C} doc raw) t.lines.items
  pub plays : (t.outcomes.items, state_of t.room) ≡ session m t.rules (makes t.rules) (opened doc raw) t.lines.items
  pub sound : Sound m t.rules (state_of t.room)
