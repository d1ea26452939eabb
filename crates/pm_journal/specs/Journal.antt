-- What holds of a journal, and why a call on one fails.
use Rattle.std.specs.Prelude.{◌≡◌, ◌≢◌, ◌⊎◌, ℕ, ◌+◌, ◌^◌, ◌≤◌, Bool, IsTrue, List, [], map, length}
use Rattle.sqlite_disk.specs.Disk.{Only, MoreFaults}
use Rattle.pm_journal.specs.Lines.{recorded, records, IsAtRest}
use Rattle.pm_journal.specs.declared.errors.AppendError.{AppendError}
use Rattle.pm_journal.specs.declared.errors.AppendError.TheVariants as append
use Rattle.pm_journal.specs.declared.errors.RecoverError.{RecoverError}
use Rattle.pm_journal.specs.declared.errors.RecoverError.TheVariants as recover
use Rattle.pm_journal.specs.declared.journal.Journal.{Journal}
use Rattle.pm_journal.specs.declared.recovery.Recovered.{Recovered}

-- The members of a disk: what is read, what a crash may leave, whether it told the truth so far, and whether no sync has failed.
module _ {D : Type 0} (seen : D → List ℕ) (may_leave : D → List ℕ → Type 0) (is_clean is_usable : D → Bool) where
  -- the file is whole lines and a closed gate, whose place is known, all of it on the disk
  pub record IsSettled (journal : Journal D) : Type 0 where
    pub file : IsAtRest (recorded (seen journal.disk)) (seen journal.disk)
    pub end : journal.end ≡ length (records (recorded (seen journal.disk)))
    pub durable : Only (seen journal.disk) (may_leave journal.disk)

  -- No sync has failed; and the file is so unless the disk has told something else than what was written.
  pub record IsReady (journal : Journal D) : Type 0 where
    pub usable : IsTrue (is_usable journal.disk)
    pub settled : IsTrue (is_clean journal.disk) → IsSettled journal

  -- It is so, and the file has a line, so it is one that a journal made.
  pub record IsOpen (journal : Journal D) : Type 0 where
    pub ready : IsReady journal
    pub some : IsTrue (is_clean journal.disk) → recorded (seen journal.disk) ≢ []

  -- the file is empty, and a crash leaves it so
  pub record IsBlank (journal : Journal D) : Type 0 where
    pub usable : IsTrue (is_usable journal.disk)
    pub end : journal.end ≡ 0
    pub empty : IsTrue (is_clean journal.disk) → seen journal.disk ≡ []
    pub durable : IsTrue (is_clean journal.disk) → Only [] (may_leave journal.disk)

  -- the file is empty, or it has a line and a closed gate behind its lines
  abbrev pub TakesLines : Journal D → Type 0
  TakesLines journal = IsBlank journal ⊎ IsOpen journal

-- the lines' bytes
abbrev pub texts : Recovered → List (List ℕ)
texts r = map (λ line. line.items) r.lines.items

-- the file is these lines, one at least, and a closed gate at this place
pub record IsRecovered (r : Recovered) (file : List ℕ) : Type 0 where
  pub some : texts r ≢ []
  pub at_rest : IsAtRest (texts r) file
  pub end : r.end ≡ length (records (texts r))

-- ---- why a call fails

-- Why lines were not added, by the counts of faults and where the text would end: a call of the disk failed and was counted; or the
-- file would be too long.
abbrev pub AppendFails : AppendError → ℕ → ℕ → ℕ → Type 0
AppendFails (append.Failed _) old new end = MoreFaults old new
AppendFails append.TooLong old new end = (new ≡ old) × (2 ^ 64 ≤ end + 2)

-- Why the lines of a file are not known: a call of the disk failed and was counted, or there was no memory, or it is no file of
-- lines, or has none.
abbrev pub RecoverFails : RecoverError → ℕ → ℕ → Type 0
RecoverFails (recover.Failed _) old new = MoreFaults old new
RecoverFails recover.Memory old new = new ≡ old
RecoverFails recover.Broken old new = new ≡ old
