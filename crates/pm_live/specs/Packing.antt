-- How packing ends, and what the two files are then: OLD, which is read, and NEW, which is written.
use Rattle.std.specs.Prelude.{◌≡◌, ◌≢◌, ◌⊎◌, ℕ, Bool, true, false, IsTrue, List, [], Option, None}
use Rattle.sqlite_disk.specs.Disk.{Only, MoreFaults}
use Rattle.pm_io.specs.Faults.{Rose}
use Rattle.pm_io.specs.Moves.{Adds}
use Rattle.pm_serve.specs.Serves.{FrontWritten}
use Rattle.pm_journal.specs.Lines.{recorded, IsAtRest}
use Rattle.pm_kept.specs.Behind.{Behind}
use Rattle.pm_kept.specs.Kept.{CouldNotKeep}
use Rattle.pm_house.specs.declared.house.House.{House}
use Rattle.pm_house.specs.declared.limited.LimitedHouse.{LimitedHouse}
use Rattle.pm_house.specs.Same.{same_house}
use Rattle.pm_house.specs.Keeping.{house_meaning, resumed_text}
use Rattle.pm_live.specs.declared.keeping.FileStatus.{FileStatus}
use Rattle.pm_live.specs.declared.packing.PackStatus.{PackStatus}
use Rattle.pm_live.specs.declared.packing.PackStatus.TheVariants as pack
use Rattle.pm_live.specs.declared.filling.Filling.{Filling}
use Rattle.pm_live.specs.declared.filling.Filling.TheVariants as filling
use Rattle.pm_live.specs.Keeping.{IsUntouched, LeavesSome, NotOpenedFor, file_number_of}

-- the number with which the program ends
abbrev pub pack_number_of : PackStatus → ℕ
pack_number_of pack.Packed = 0
pack_number_of pack.WriteFault = 4
pack_number_of pack.NoMemory = 5
pack_number_of pack.DiskFault = 6
pack_number_of pack.FileIsThere = 7
pack_number_of pack.NotPacked = 10
pack_number_of (pack.NotOpened status) = file_number_of status

-- a house without a limit of work
abbrev pub plain : House → LimitedHouse
plain house = record { house = house; limit = None }

-- nothing was written to the sink
abbrev pub IsSilent : Option (List ℕ) → Option (List ℕ) → ℕ → ℕ → Type 0
IsSilent old new w w_new = (new ≡ old) × (w_new ≡ w)

module _ {D : Type 0} (seen : D → List ℕ) (may_leave : D → List ℕ → Type 0) (is_clean : D → Bool) where
  -- This house, without a limit of work, stands behind the lines of the file. All of it is on the disk: the lines and a closed gate behind them, or nothing.
  pub record StandsIn (house : House) (disk : D) : Type 0 where
    pub behind : IsTrue (is_clean disk) → Behind house_meaning (recorded (seen disk)) house_meaning.start (plain house)
    pub rest : IsTrue (is_clean disk) → (seen disk ≡ []) ⊎ IsAtRest (recorded (seen disk)) (seen disk)
    pub durable : IsTrue (is_clean disk) → Only (seen disk) (may_leave disk)

  -- A house stands behind the lines of the file, all of it on the disk, and it is the same as this one, or it is not.
  pub record HasHouse (is_same : Bool) (house : House) (disk : D) : Type 0 where
    pub next : House
    pub stands : StandsIn next disk
    pub compared : same_house house next ≡ is_same

module _ {D : Type 0} (seen : D → List ℕ) (may_leave : D → List ℕ → Type 0) (is_clean : D → Bool) (faults : D → ℕ) where
  -- why lines could not be kept in the file
  abbrev pub CouldNotKeepSome : D → D → Type 0
  CouldNotKeepSome was disk =
      (lines : List (List ℕ)) × (more : List (List ℕ)) × CouldNotKeep may_leave is_clean (faults was) (faults disk) disk lines more

  -- what an empty file is once the lines of this house were played into it
  abbrev pub FillsAs : Filling → House → D → D → Type 0
  FillsAs filling.Same house was disk = HasHouse seen may_leave is_clean true house disk
  FillsAs filling.Other house was disk = HasHouse seen may_leave is_clean false house disk
  FillsAs filling.DiskFault house was disk = LeavesSome house_meaning may_leave is_clean disk × CouldNotKeepSome was disk
  FillsAs filling.NoMemory house was disk = LeavesSome house_meaning may_leave is_clean disk

  -- What NEW is, and what was written to the sink, where this house stands behind the lines of OLD.
  abbrev pub PacksAs : PackStatus → House → D → D → Option (List ℕ) → Option (List ℕ) → ℕ → ℕ → Type 0
  PacksAs pack.Packed house was disk old new w w_new =
      HasHouse seen may_leave is_clean true house disk × Adds old new (resumed_text house) × (w_new ≡ w)
  PacksAs pack.WriteFault house was disk old new w w_new =
      HasHouse seen may_leave is_clean true house disk × FrontWritten (resumed_text house) old new × Rose w w_new
  PacksAs pack.NoMemory house was disk old new w w_new =
      (IsUntouched seen may_leave was disk ⊎ LeavesSome house_meaning may_leave is_clean disk) × IsSilent old new w w_new
  PacksAs pack.DiskFault house was disk old new w w_new =
      ((IsUntouched seen may_leave was disk × MoreFaults (faults was) (faults disk))
      ⊎ (LeavesSome house_meaning may_leave is_clean disk × CouldNotKeepSome was disk))
      × IsSilent old new w w_new
  PacksAs pack.FileIsThere house was disk old new w w_new =
      IsUntouched seen may_leave was disk × (IsTrue (is_clean disk) → seen was ≢ []) × IsSilent old new w w_new
  PacksAs pack.NotPacked house was disk old new w w_new = HasHouse seen may_leave is_clean false house disk × IsSilent old new w w_new
  PacksAs (pack.NotOpened status) house was disk old new w w_new = ⊥

module _ {O N : Type 0} (old_seen : O → List ℕ) (old_clean : O → Bool) (old_faults : O → ℕ) (seen : N → List ℕ) (may_leave : N → List ℕ → Type 0) (is_clean : N → Bool) (faults : N → ℕ) where
  -- No house stands behind the lines of OLD, with the cause. NEW is as it was, and nothing was written.
  pub record NotOpenedToPack (status : PackStatus) (old old_now : O) (new new_now : N) (written written_now : Option (List ℕ)) (w w_now : ℕ) : Type 0 where
    pub why : FileStatus
    pub is : status ≡ pack.NotOpened why
    pub cause : NotOpenedFor house_meaning why (old_faults old) (old_faults old_now) (IsTrue (old_clean old_now)) (old_seen old)
    pub untouched : IsUntouched seen may_leave new new_now
    pub silent : IsSilent written written_now w w_now

  -- A house stands behind the lines of OLD, and this became of NEW.
  pub record OpenedToPack (status : PackStatus) (old old_now : O) (new new_now : N) (written written_now : Option (List ℕ)) (w w_now : ℕ) : Type 0 where
    pub opened : LimitedHouse
    pub stands : IsTrue (old_clean old_now) → Behind house_meaning (recorded (old_seen old)) house_meaning.start opened
    pub packs : PacksAs seen may_leave is_clean faults status opened.house new new_now written written_now w w_now

-- ---- for private clauses

-- how it was judged, by what the two houses are and whether a call of the disk failed
abbrev pub JudgedAs : Filling → House → House → Bool → Type 0
JudgedAs filling.Same house next failed = (failed ≡ false) × (same_house house next ≡ true)
JudgedAs filling.Other house next failed = (failed ≡ false) × (same_house house next ≡ false)
JudgedAs filling.DiskFault house next failed = failed ≡ true
JudgedAs filling.NoMemory house next failed = failed ≡ false

-- a text was written whole, or a front of it
abbrev pub SaysPacked : List ℕ → PackStatus → Option (List ℕ) → Option (List ℕ) → ℕ → ℕ → Type 0
SaysPacked text pack.Packed old new w w_new = Adds old new text × (w_new ≡ w)
SaysPacked text pack.WriteFault old new w w_new = FrontWritten text old new × Rose w w_new
SaysPacked text pack.NoMemory old new w w_new = ⊥
SaysPacked text pack.DiskFault old new w w_new = ⊥
SaysPacked text pack.FileIsThere old new w w_new = ⊥
SaysPacked text pack.NotPacked old new w w_new = ⊥
SaysPacked text (pack.NotOpened status) old new w w_new = ⊥

-- how packing ends, by what became of NEW and a text that was to be written where it is packed
abbrev pub EndsAs : Filling → List ℕ → PackStatus → Option (List ℕ) → Option (List ℕ) → ℕ → ℕ → Type 0
EndsAs filling.Same text status old new w w_new = SaysPacked text status old new w w_new
EndsAs filling.Other text status old new w w_new = (status ≡ pack.NotPacked) × IsSilent old new w w_new
EndsAs filling.DiskFault text status old new w w_new = (status ≡ pack.DiskFault) × IsSilent old new w w_new
EndsAs filling.NoMemory text status old new w w_new = (status ≡ pack.NoMemory) × IsSilent old new w w_new
