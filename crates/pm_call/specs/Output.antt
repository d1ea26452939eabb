-- What is written for an input, and the status that says so.
use Rattle.std.specs.Prelude.{◌≡◌, ◌+◌, ◌≤◌, ◌⊎◌, ℕ, List, length, take, codes, decimal, Option, Result, Ok, Err}
use Rattle.std.specs.Io.KnownBytes.{Consumes}
use Rattle.pm_io.specs.Moves.{Adds}
use Rattle.pm_head.specs.declared.fault.Refusal.{Refusal}
use Rattle.pm_head.specs.Numbers.{number_of}
use Rattle.pm_script.specs.declared.session.TheConstants.{MAX_INPUT}
use Rattle.pm_script.specs.declared.session.Session.{Session}
use Rattle.pm_report.specs.Words.{◌&◌, line}
use Rattle.pm_call.specs.declared.call.Status.{Status}
use Rattle.pm_call.specs.declared.call.Status.TheVariants.{Done, SessionRefused, Usage, ReadFault, WriteFault, NoMemory}
use Rattle.pm_call.specs.declared.words.Command.{Command}
use Rattle.pm_call.specs.declared.words.Command.TheVariants.{Check, Replay, Select, Run, Gen, Late, At, Rooms, RunRooms}
use Rattle.pm_call.specs.Contents.{Content, one, many, FileIs}
use Rattle.pm_call.specs.Files.{file_of, form_of}
use Rattle.pm_call.specs.Playing.{report_of}
use Rattle.pm_call.specs.RoomReports.{rooms_report}
use Rattle.pm_call.specs.RoomRuns.{AreRun}
use Rattle.pm_call.specs.LatePlaying.{late_report_of, IsVersionText}
use Rattle.pm_call.specs.Selecting.{IsSelected}
use Rattle.pm_call.specs.Summing.{summary_of}
use Rattle.pm_call.specs.Running.{IsRun}

-- the line that refuses an input
abbrev pub refusal : Refusal → List ℕ
refusal r = line (codes "refused" & decimal r.line & decimal (number_of r.code))

-- what `check` writes of a session: its number of op lines, and the size of its first document in tokens
abbrev pub counts_of : Session → List ℕ
counts_of s = line (codes "ok" & decimal (length s.lines) & decimal (length s.head.doc.tokens))

-- What a command may write of what its file is found to be. Of `check`, `replay`, `gen`, `late`, `at` and `rooms` it is one
-- text; what `select` writes tells lines, and what `run` and `runrooms` write is of an order of the lines of each room. No other file is found than one of the command's form.
abbrev pub IsTextOf : Command → Result Content Refusal → List ℕ → Type 0
IsTextOf Check (Ok (one s)) text = text ≡ counts_of s
IsTextOf Replay (Ok (one s)) text = text ≡ report_of s
IsTextOf Select (Ok (one s)) text = IsSelected s text
IsTextOf Run (Ok (one s)) text = IsRun s text
IsTextOf (Gen asked) (Ok (one s)) text = text ≡ summary_of asked s
IsTextOf Late (Ok (one s)) text = text ≡ late_report_of s
IsTextOf (At n) (Ok (one s)) text = IsVersionText s n text
IsTextOf Rooms (Ok (many rooms)) text = text ≡ rooms_report rooms
IsTextOf RunRooms (Ok (many rooms)) text = AreRun rooms text
IsTextOf command (Err r) text = text ≡ refusal r
IsTextOf command (Ok other) text = ⊥

-- Done for a session or for rooms, SessionRefused for any other input
abbrev pub status_for : Result Content Refusal → Status
status_for (Ok content) = Done
status_for (Err r) = SessionRefused

-- what a command writes for an input, and the status that says so: its file is a session, or rooms, or it is refused
pub record IsOutput (command : Command) (input text : List ℕ) (status : Status) : Type 0 where
  pub found : Result Content Refusal
  pub is : FileIs (form_of command) (file_of command input) found
  pub written : IsTextOf command found text
  pub says : status ≡ status_for found

-- the command's output for the input was written whole, and this status says so
pub record IsWritten (asked : Command) (input : List ℕ) (status : Status) (old new : Option (List ℕ)) : Type 0 where
  pub text : List ℕ
  pub output : IsOutput asked input text status
  pub whole : Adds old new text

-- a front of the command's output for the input was written
pub record IsFrontWritten (asked : Command) (input : List ℕ) (old new : Option (List ℕ)) : Type 0 where
  pub text : List ℕ
  pub status : Status
  pub output : IsOutput asked input text status
  pub count : ℕ
  pub within : count ≤ length text
  pub front : Adds old new (take count text)

-- what was written of the command's output for the input
abbrev pub Answered : Command → List ℕ → Status → Option (List ℕ) → Option (List ℕ) → Type 0
Answered asked input Done old new = IsWritten asked input Done old new
Answered asked input SessionRefused old new = IsWritten asked input SessionRefused old new
Answered asked input Usage old new = ⊥
Answered asked input ReadFault old new = new ≡ old
Answered asked input WriteFault old new = IsFrontWritten asked input old new
Answered asked input NoMemory old new = new ≡ old

-- the statuses with which an output is written whole
abbrev pub IsAnswer : Status → Type 0
IsAnswer status = (status ≡ Done) ⊎ (status ≡ SessionRefused)

-- Bytes that were taken from a source have this output, which was written whole, and this status. What a source has left says
-- which bytes they are, where the source tells it.
pub record AnswersRead (asked : Command) (status : Status) (left rest old new : Option (List ℕ)) : Type 0 where
  pub input : List ℕ
  pub read : Consumes left rest input
  pub written : IsWritten asked input status old new

-- one byte more than the limit of an input was read from a source
abbrev pub IsPastLimit : Option (List ℕ) → Option (List ℕ) → Type 0
IsPastLimit old new = (bytes : List ℕ) × Consumes old new bytes × (length bytes ≡ MAX_INPUT + 1)
