-- The steps of an undo or a redo are tied to the steps of its event.
use Rattle.std.specs.Prelude.{ℕ}
use Rattle.pm_change.specs.Changes.{Meaning}
use Rattle.pm_history.specs.declared.turn.Turn.{Turn}
use Rattle.pm_history.specs.declared.turn.Turn.TheVariants as turn
use Rattle.pm_authority.specs.declared.authority.Authority.{Authority}
use Rattle.pm_client.specs.declared.client.Client.{Client}
use Rattle.pm_client.specs.Kins.{Kin}
use Rattle.pm_client.specs.Undoings.{TiesLast}
use Rattle.pm_session.specs.declared.line.Act.{Act}
use Rattle.pm_session.specs.declared.line.Act.TheVariants.{Undo, Redo, UndoEvent}
use Rattle.pm_session.specs.declared.member.Member.{Member}
use Rattle.pm_session.specs.declared.member.Member.TheVariants.{Editor}
use Rattle.pm_session.specs.declared.outcome.Outcome.{Outcome}
use Rattle.pm_session.specs.declared.outcome.Outcome.TheVariants.{Made}

module _ {Rules Doc Reason C : Type 0} (m : Meaning Rules Doc Reason C) (rules : Rules) where
  -- Client c became d, which stands to the authority's log, by undoing this event or redoing it, in so many steps: these are the
  -- last ones of each timeline of d, and each was made to undo a step of the event.
  abbrev pub IsTied : Turn → Authority C Rules Doc Reason → ℕ → Client C Rules Doc Reason → Client C Rules Doc Reason → Type 0
  IsTied way a count c d = (kin : Kin m rules a.first a.log d) → TiesLast way c count kin.timeline

  -- where steps were made, as the outcome tells
  abbrev pub TiedWay : Turn → Authority C Rules Doc Reason → Outcome C Rules Doc Reason → Client C Rules Doc Reason → Client C Rules Doc Reason → Type 0
  TiedWay way a (Made count) c d = IsTied way a count c d
  TiedWay way a o c d = Unit {0}

  -- so it is with an act that undoes or redoes an event
  abbrev pub TiedBy : {Op : Type 0} → Act Op C → Authority C Rules Doc Reason → Outcome C Rules Doc Reason → Client C Rules Doc Reason → Client C Rules Doc Reason → Type 0
  TiedBy Undo a o c d = TiedWay turn.Undo a o c d
  TiedBy Redo a o c d = TiedWay turn.Redo a o c d
  TiedBy (UndoEvent number) a o c d = TiedWay (turn.UndoEvent number) a o c d
  TiedBy act a o c d = Unit {0}

  -- the same of a member
  abbrev pub MemberTied : {Op : Type 0} → Act Op C → Authority C Rules Doc Reason → Outcome C Rules Doc Reason → Member C Rules Doc Reason → Member C Rules Doc Reason → Type 0
  MemberTied act a o (Editor c) (Editor d) = TiedBy act a o c d
  MemberTied act a o x y = Unit {0}
