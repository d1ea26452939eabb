-- The file that a command plays, and its form.
use Rattle.std.specs.Prelude.{ℕ, List, ⊤}
use Rattle.pm_gen.specs.Session.{generated}
use Rattle.pm_head.specs.declared.form.Form.TheVariants as form
use Rattle.pm_call.specs.declared.files.FileForm.{FileForm}
use Rattle.pm_call.specs.declared.files.FileForm.TheVariants.{OneRoom, ManyRooms}
use Rattle.pm_call.specs.declared.words.Command.{Command}
use Rattle.pm_call.specs.declared.words.Command.TheVariants.{Check, Replay, Select, Run, Gen, Late, At, Rooms, RunRooms}

-- the bytes of the file, where the input is this: `gen` makes them, whatever the input is, and to the others they are the input
abbrev pub file_of : Command → List ℕ → List ℕ
file_of Check input = input
file_of Replay input = input
file_of Select input = input
file_of Run input = input
file_of Late input = input
file_of (At n) input = input
file_of Rooms input = input
file_of RunRooms input = input
file_of (Gen asked) input = generated asked.clients asked.rounds asked.number

-- the form of the file: by `late` and `at` clients may come late, and by `rooms` and `runrooms` there are many rooms
abbrev pub form_of : Command → FileForm
form_of Check = OneRoom form.Plain
form_of Replay = OneRoom form.Plain
form_of Select = OneRoom form.Plain
form_of Run = OneRoom form.Plain
form_of (Gen asked) = OneRoom form.Plain
form_of Late = OneRoom form.Late
form_of (At n) = OneRoom form.Late
form_of Rooms = ManyRooms
form_of RunRooms = ManyRooms

-- the command reads its input
abbrev pub ReadsInput : Command → Type 0
ReadsInput Check = ⊤
ReadsInput Replay = ⊤
ReadsInput Select = ⊤
ReadsInput Run = ⊤
ReadsInput Late = ⊤
ReadsInput (At n) = ⊤
ReadsInput Rooms = ⊤
ReadsInput RunRooms = ⊤
ReadsInput (Gen asked) = ⊥
