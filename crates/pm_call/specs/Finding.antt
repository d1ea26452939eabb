-- What an input was found to be.
use Rattle.std.specs.Prelude.{List, Result, Ok, Err, ⊤}
use Rattle.pm_head.specs.declared.fault.Refusal.{Refusal}
use Rattle.pm_head.specs.declared.form.Form.{Form}
use Rattle.pm_head.specs.declared.form.Form.TheVariants as form
use Rattle.pm_script.specs.declared.rooms.RoomSession.{RoomSession}
use Rattle.pm_script.specs.declared.session.Session.{Session}
use Rattle.pm_script.specs.Held.{Holds, HoldsLate}
use Rattle.pm_script.specs.OwnLines.{AllHold}
use Rattle.pm_call.specs.declared.finding.Found.{Found}
use Rattle.pm_call.specs.declared.finding.Found.TheVariants.{IsSession, AreRooms, Refused}
use Rattle.pm_call.specs.declared.files.FileForm.{FileForm}
use Rattle.pm_call.specs.declared.files.FileForm.TheVariants.{OneRoom, ManyRooms}
use Rattle.pm_call.specs.Contents.{Content, one, many}

-- a session, or rooms, or the line and the code that refuse the input
abbrev pub found_of : Found → Result Content Refusal
found_of (IsSession s) = Ok (one s)
found_of (AreRooms rooms) = Ok (many rooms.items)
found_of (Refused refusal) = Err refusal

-- what a session of this form holds that is read
abbrev pub HoldsIn : Form → Session → Type 0
HoldsIn form.Plain s = Holds s
HoldsIn form.Late s = HoldsLate s

-- A session is found in a file of this form, and holds it.
abbrev pub FoundSession : FileForm → Session → Type 0
FoundSession (OneRoom f) s = HoldsIn f s
FoundSession ManyRooms s = ⊥

-- Rooms are found in a file of this form, and each of them holds it.
abbrev pub FoundRooms : FileForm → List RoomSession → Type 0
FoundRooms (OneRoom f) rooms = ⊥
FoundRooms ManyRooms rooms = AllHold rooms

-- what was found holds it
abbrev pub FoundHolds : FileForm → Found → Type 0
FoundHolds f (IsSession s) = FoundSession f s
FoundHolds f (AreRooms rooms) = FoundRooms f rooms.items
FoundHolds f (Refused refusal) = ⊤
