-- How a call over a file ends, and what the file is then.
use Rattle.std.specs.Prelude.{◌≡◌, ◌≢◌, ◌⊎◌, ℕ, Bool, true, false, IsTrue, List, [], Option, if◌then◌else◌}
use Rattle.sqlite_disk.specs.Disk.{MoreFaults}
use Rattle.pm_io.specs.Faults.{Rose}
use Rattle.pm_io.specs.Moves.{Adds}
use Rattle.pm_serve.specs.declared.serving.Served.{Served}
use Rattle.pm_serve.specs.Serves.{ServeFaults, FrontWritten}
use Rattle.pm_journal.specs.Lines.{recorded, IsAtRest}
use Rattle.pm_journal.specs.declared.errors.RecoverError.TheVariants as recover
use Rattle.pm_kept.specs.declared.kept.Kept.{Kept}
use Rattle.pm_kept.specs.declared.opening.OpenError.{OpenError}
use Rattle.pm_kept.specs.declared.opening.OpenError.TheVariants as error
use Rattle.pm_kept.specs.Means.{Meaning}
use Rattle.pm_kept.specs.Behind.{Behind, KeepsSome}
use Rattle.pm_kept.specs.Kept.{IsGoodKept, accepted}
use Rattle.pm_kept.specs.Opens.{IsNotAccepted, AwaitsMore}
use Rattle.pm_kept.specs.Runs.{KeptRun}
use Rattle.pm_live.specs.declared.keeping.FileStatus.{FileStatus}
use Rattle.pm_live.specs.declared.keeping.FileStatus.TheVariants as file
use Rattle.pm_live.specs.declared.status.Status.TheVariants.{WriteFault, NoMemory}
use Rattle.pm_live.specs.Calls.{status_of, number_of}

-- how serving ended, whether the service had begun, and whether a call of the disk failed
abbrev pub file_status_of : Served → Bool → Bool → FileStatus
file_status_of served is_open failed = if failed then file.DiskFault else file.Served (status_of served is_open)

-- the status where no service stands behind a file
abbrev pub error_status_of : OpenError → FileStatus
error_status_of (error.Unread (recover.Failed e)) = file.DiskFault
error_status_of (error.Unread recover.Memory) = file.Served NoMemory
error_status_of (error.Unread recover.Broken) = file.NotOurs
error_status_of error.Memory = file.Served NoMemory
error_status_of (error.NotAccepted line) = file.NotAccepted line
error_status_of error.NoDocument = file.NotOurs

-- the number with which the program ends
abbrev pub file_number_of : FileStatus → ℕ
file_number_of (file.Served status) = number_of status
file_number_of file.DiskFault = 6
file_number_of file.FileIsThere = 7
file_number_of file.NotOurs = 9
file_number_of (file.NotAccepted line) = 9

-- Whatever a crash leaves, a service stands behind its lines.
abbrev pub LeavesSome : {S D : Type 0} → Meaning S → (D → List ℕ → Type 0) → (D → Bool) → D → Type 0
LeavesSome m may_leave is_clean disk = IsTrue (is_clean disk) → (c : List ℕ) → may_leave disk c → KeepsSome m c

-- the file is as it was: it reads the same, and a crash leaves what one could leave before
pub record IsUntouched {D : Type 0} (seen : D → List ℕ) (may_leave : D → List ℕ → Type 0) (old new : D) : Type 0 where
  pub same : seen new ≡ seen old
  pub crash : (c : List ℕ) → may_leave new c → may_leave old c

-- The file has no lines and a closed gate behind them, or the service behind them has not begun: they are a schema alone.
abbrev pub IsNotOurs : {S : Type 0} → Meaning S → List ℕ → Type 0
IsNotOurs m bytes = ((lines : List (List ℕ)) → lines ≢ [] → ¬ IsAtRest lines bytes) ⊎ AwaitsMore m (recorded bytes)

-- Why a file was not begun, by the counts of the disk's faults and the file, which is told where the disk is clean.
abbrev pub NotBegunFor : FileStatus → ℕ → ℕ → Type 0 → List ℕ → Type 0
NotBegunFor (file.Served status) old new clean bytes = (status ≡ NoMemory) × (new ≡ old)
NotBegunFor file.DiskFault old new clean bytes = MoreFaults old new
NotBegunFor file.FileIsThere old new clean bytes = (new ≡ old) × (clean → bytes ≢ [])
NotBegunFor file.NotOurs old new clean bytes = ⊥
NotBegunFor (file.NotAccepted line) old new clean bytes = ⊥

-- why a file was not taken up
abbrev pub NotOpenedFor : {S : Type 0} → Meaning S → FileStatus → ℕ → ℕ → Type 0 → List ℕ → Type 0
NotOpenedFor m (file.Served status) old new clean bytes = (status ≡ NoMemory) × (new ≡ old)
NotOpenedFor m file.DiskFault old new clean bytes = MoreFaults old new
NotOpenedFor m file.FileIsThere old new clean bytes = ⊥
NotOpenedFor m file.NotOurs old new clean bytes = (new ≡ old) × (clean → IsNotOurs m bytes)
NotOpenedFor m (file.NotAccepted line) old new clean bytes = (new ≡ old) × (clean → IsNotAccepted m (recorded bytes) line)

-- A file that a crash may have left is never refused for a line, and for being no file of ours only where no line has a closed gate
-- behind it.
abbrev pub TakesUp : FileStatus → List ℕ → Type 0
TakesUp (file.Served status) bytes = Unit {0}
TakesUp file.DiskFault bytes = Unit {0}
TakesUp file.FileIsThere bytes = Unit {0}
TakesUp file.NotOurs bytes = (lines : List (List ℕ)) → lines ≢ [] → ¬ IsAtRest lines bytes
TakesUp (file.NotAccepted line) bytes = ⊥

-- nothing was read from the source, and nothing written
pub record NothingMoved (left rest old new : Option (List ℕ)) (r r_new w w_new : ℕ) : Type 0 where
  pub read : rest ≡ left
  pub written : new ≡ old
  pub reads : r_new ≡ r
  pub writes : w_new ≡ w

module _ {S D : Type 0} (m : Meaning S) (seen : D → List ℕ) (may_leave : D → List ℕ → Type 0) (is_clean is_usable : D → Bool) (faults : D → ℕ) where
  -- A service was served over a file: it is this at first, and stood behind these lines. `run` says what was written, which lines
  -- were accepted, and which of them a crash leaves.
  pub record KeptTalked (status : FileStatus) (first : S) (lines : List (List ℕ)) (opened disk : D) (left rest old new : Option (List ℕ)) (r r_new w w_new : ℕ) : Type 0 where
    pub served : Served
    pub begin : Kept S D
    pub end : Kept S D
    pub unread : List ℕ
    pub begins : begin.service ≡ first
    pub over : begin.journal.disk ≡ opened
    pub before : IsTrue (is_clean opened) → accepted seen begin ≡ lines
    pub up : begin.failed ≡ false
    pub was_good : IsGoodKept m seen may_leave is_clean is_usable begin
    pub run : KeptRun m seen may_leave is_clean faults served begin end left rest [] unread old new
    pub ends : ServeFaults served r r_new w w_new
    pub good : IsGoodKept m seen may_leave is_clean is_usable end
    pub gives : disk ≡ end.journal.disk
    pub says : status ≡ file_status_of served (m.is_begun end.service) end.failed

  -- the file was not begun, and is as it was
  pub record NotBegun (status : FileStatus) (was disk : D) (left rest old new : Option (List ℕ)) (r r_new w w_new : ℕ) : Type 0 where
    pub untouched : IsUntouched seen may_leave was disk
    pub cause : NotBegunFor status (faults was) (faults disk) (IsTrue (is_clean disk)) (seen was)
    pub nothing : NothingMoved left rest old new r r_new w w_new

  -- The file was empty, and a service was served over it from the first line on, with this limit of work or none.
  pub record Begun (limit : Option ℕ) (status : FileStatus) (was disk : D) (left rest old new : Option (List ℕ)) (r r_new w w_new : ℕ) : Type 0 where
    pub opened : D
    pub untouched : IsUntouched seen may_leave was opened
    pub empty : IsTrue (is_clean opened) → seen was ≡ []
    pub talked : KeptTalked status (m.limited limit m.start) [] opened disk left rest old new r r_new w w_new

  -- the file was not taken up, and is as it was
  pub record NotOpened (status : FileStatus) (was disk : D) (left rest old new : Option (List ℕ)) (r r_new w w_new : ℕ) : Type 0 where
    pub untouched : IsUntouched seen may_leave was disk
    pub cause : NotOpenedFor m status (faults was) (faults disk) (IsTrue (is_clean disk)) (seen was)
    pub nothing : NothingMoved left rest old new r r_new w w_new

  -- A service stands behind the lines of the file, but a write of what is said then failed.
  pub record NotSaid (status : FileStatus) (was disk : D) (left rest old new : Option (List ℕ)) (r r_new w w_new : ℕ) : Type 0 where
    pub untouched : IsUntouched seen may_leave was disk
    pub first : S
    pub stands : IsTrue (is_clean disk) → Behind m (recorded (seen was)) m.start first
    pub is : status ≡ file.Served WriteFault
    pub front : FrontWritten (m.resumed first) old new
    pub rose : Rose w w_new
    pub read : rest ≡ left
    pub reads : r_new ≡ r

  -- A service stands behind the lines of the file, whatever limits of work there were before; it was written where it stands, and then it
  -- was served over the file with this limit or none.
  pub record Resumed (limit : Option ℕ) (status : FileStatus) (was disk : D) (left rest old new : Option (List ℕ)) (r r_new w w_new : ℕ) : Type 0 where
    pub opened : D
    pub untouched : IsUntouched seen may_leave was opened
    pub first : S
    pub stands : IsTrue (is_clean opened) → Behind m (recorded (seen was)) m.start first
    pub taken_up : m.is_begun first ≡ true
    pub said : Option (List ℕ)
    pub says : Adds old said (m.resumed first)
    pub talked : KeptTalked status (m.limited limit first) (recorded (seen was)) opened disk left rest said new r r_new w w_new
