-- An undo, a redo or an undo of a numbered event gives the earlier document back, where nothing has changed since.
use Rattle.std.specs.Prelude.{◌≡◌, slice_get, Some}
use Rattle.pm_change.specs.Changes.{Meaning}
use Rattle.pm_history.specs.declared.turn.Turn.{Turn}
use Rattle.pm_history.specs.declared.turn.Turn.TheVariants as turn
use Rattle.pm_authority.specs.declared.authority.Authority.{Authority}
use Rattle.pm_client.specs.declared.client.Client.{Client}
use Rattle.pm_client.specs.Kins.{Kin}
use Rattle.pm_client.specs.Undoings.{GivesBack}
use Rattle.pm_session.specs.declared.line.Act.{Act}
use Rattle.pm_session.specs.declared.line.Act.TheVariants.{Undo, Redo, UndoEvent}
use Rattle.pm_session.specs.declared.line.Line.{Line}
use Rattle.pm_session.specs.declared.member.Member.TheVariants.{Editor}
use Rattle.pm_session.specs.Events.{State}

module _ {Rules Doc Reason C : Type 0} (m : Meaning Rules Doc Reason C) (rules : Rules) where
  -- Client c, which stood to the authority's log, became d by undoing its last event, or the last one that has a number, or by
  -- redoing the last one that was undone. Where nothing has changed in its timeline since that event, its document is the one
  -- before the event. Nothing has changed where, from the event's first step on, the timeline reads the event's steps, each
  -- followed by an idle stretch, and the rules are loose or the steps of the stored inverses apply at their turn.
  abbrev pub Restored : Turn → Authority C Rules Doc Reason → Client C Rules Doc Reason → Client C Rules Doc Reason → Type 0
  Restored way a c d = (kin : Kin m rules a.first a.log c) → GivesBack m rules way c a.first kin.timeline d.doc

  -- so it is with what an act makes of a client, where the act undoes or redoes an event
  abbrev pub RestoredBy : {Op : Type 0} → Act Op C → Authority C Rules Doc Reason → Client C Rules Doc Reason → Client C Rules Doc Reason → Type 0
  RestoredBy Undo a c d = Restored turn.Undo a c d
  RestoredBy Redo a c d = Restored turn.Redo a c d
  RestoredBy (UndoEvent number) a c d = Restored (turn.UndoEvent number) a c d
  RestoredBy _ a c d = Unit {0}

  -- One room comes after another by this line: so it is with the line's editor.
  abbrev pub Restores : {Op : Type 0} → State C Rules Doc Reason → Line Op C → State C Rules Doc Reason → Type 0
  Restores s line t =
      (c d : Client C Rules Doc Reason) → slice_get s.members line.client ≡ Some (Editor c) → slice_get t.members line.client ≡ Some (Editor d)
      → RestoredBy line.act s.authority c d
