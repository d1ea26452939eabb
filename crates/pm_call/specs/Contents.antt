-- What a file of a form is: a session, or rooms with a session each, or its least faulty line with the code of that line's first fault.
use Rattle.std.specs.Prelude.{ℕ, List, Result, Ok, Err}
use Rattle.pm_head.specs.declared.fault.Refusal.{Refusal}
use Rattle.pm_script.specs.declared.rooms.RoomSession.{RoomSession}
use Rattle.pm_script.specs.declared.session.Session.{Session}
use Rattle.pm_script.specs.Rooms.{RoomsAre}
use Rattle.pm_script.specs.Sessions.{SessionIs}
use Rattle.pm_call.specs.declared.files.FileForm.{FileForm}
use Rattle.pm_call.specs.declared.files.FileForm.TheVariants.{OneRoom, ManyRooms}

pub data Content : Type 0 where
  one : Session → Content
  many : List RoomSession → Content

abbrev pub FileIs : FileForm → List ℕ → Result Content Refusal → Type 0
FileIs (OneRoom form) input (Ok (one s)) = SessionIs form input (Ok s)
FileIs (OneRoom form) input (Ok (many rooms)) = ⊥
FileIs (OneRoom form) input (Err refusal) = SessionIs form input (Err refusal)
FileIs ManyRooms input (Ok (one s)) = ⊥
FileIs ManyRooms input (Ok (many rooms)) = RoomsAre input (Ok rooms)
FileIs ManyRooms input (Err refusal) = RoomsAre input (Err refusal)
