-- What holds of a service whose lines are kept, and what a crash leaves of it.
use Rattle.std.specs.Prelude.{◌≡◌, ◌⊎◌, ◌+◌, ◌^◌, ◌≤◌, ◌++◌, ℕ, Bool, true, false, IsTrue, List, [], length, codes, Option, None, Some}
use Rattle.sqlite_disk.specs.Disk.{MoreFaults}
use Rattle.pm_journal.specs.Lines.{recorded, records, lines_of, HoldsLines, IsBeforeOrAfter}
use Rattle.pm_journal.specs.Journal.{TakesLines}
use Rattle.pm_journal.specs.declared.group.Group.{Group}
use Rattle.pm_journal.specs.declared.journal.Journal.{Journal}
use Rattle.pm_kept.specs.declared.kept.Kept.{Kept}
use Rattle.pm_kept.specs.Means.{Meaning}
use Rattle.pm_kept.specs.Behind.{Stands, Keeps, KeepsSome}

-- what is said where a call of the disk failed
abbrev pub disk_fault : List ℕ
disk_fault = codes "{\"fault\":\"disk\"}\n"

-- the lines that are held
abbrev pub held_lines : Option Group → List (List ℕ)
held_lines None = []
held_lines (Some group) = lines_of group.text.items

-- they are lines
abbrev pub AreHeld : Option Group → Type 0
AreHeld None = Unit {0}
AreHeld (Some group) = HoldsLines group.text.items

module _ {D : Type 0} (seen : D → List ℕ) where
  -- the lines that were accepted so far: those of the file, and those that are held
  abbrev pub lines_so_far : Option Group → Journal D → List (List ℕ)
  lines_so_far held journal = recorded (seen journal.disk) ++ held_lines held

  abbrev pub accepted : {S : Type 0} → Kept S D → List (List ℕ)
  accepted k = lines_so_far k.held k.journal

module _ {S D : Type 0} (m : Meaning S) (seen : D → List ℕ) (may_leave : D → List ℕ → Type 0) (is_clean is_usable : D → Bool) where
  -- The service stands behind the lines of the file and those that are held. The file has none before it has begun.
  pub record IsInStep (service : S) (held : Option Group) (journal : Journal D) : Type 0 where
    pub file : TakesLines seen may_leave is_clean is_usable journal
    pub are_held : AreHeld held
    pub behind : IsTrue (is_clean journal.disk) → Stands m (lines_so_far seen held journal) service
    pub unbegun : m.is_begun service ≡ false → IsTrue (is_clean journal.disk) → recorded (seen journal.disk) ≡ []

  -- A call of the disk failed, and a crash leaves a file with a service behind its lines; or file and service are in step, and once it
  -- has begun no line is held.
  abbrev pub IsUp : Bool → S → Option Group → Journal D → Type 0
  IsUp true service held journal = IsTrue (is_clean journal.disk) → (c : List ℕ) → may_leave journal.disk c → KeepsSome m c
  IsUp false service held journal = IsInStep service held journal × (m.is_begun service ≡ true → held ≡ None)

  pub record IsGoodKept (k : Kept S D) : Type 0 where
    pub service : m.good k.service
    pub up : IsUp k.failed k.service k.held k.journal

module _ {S D : Type 0} (m : Meaning S) (may_leave : D → List ℕ → Type 0) (is_clean : D → Bool) where
  -- whatever a crash leaves keeps these lines, behind which this service stands
  abbrev pub Leaves : D → S → List (List ℕ) → Type 0
  Leaves disk service lines = IsTrue (is_clean disk) → (c : List ℕ) → may_leave disk c → Keeps m c service lines

  -- whatever a crash leaves keeps these lines, or them and all of the new ones, with which the service is the next
  abbrev pub LeavesEither : D → S → List (List ℕ) → List (List ℕ) → S → Type 0
  LeavesEither disk service lines new next =
      IsTrue (is_clean disk) → (c : List ℕ) → may_leave disk c → Keeps m c service lines ⊎ Keeps m c next (lines ++ new)

module _ {D : Type 0} (may_leave : D → List ℕ → Type 0) (is_clean : D → Bool) where
  -- Why lines could not be kept behind these: a call of the disk failed and was counted, or the file would have 2^64 bytes or more.
  abbrev pub CouldNotKeep : ℕ → ℕ → D → List (List ℕ) → List (List ℕ) → Type 0
  CouldNotKeep old new disk lines more =
      MoreFaults old new ⊎ (IsTrue (is_clean disk) → 2 ^ 64 ≤ length (records (lines ++ more)) + 1)

-- ---- for private clauses

module _ {S D : Type 0} (m : Meaning S) (seen : D → List ℕ) (may_leave : D → List ℕ → Type 0) (is_clean : D → Bool) (faults : D → ℕ) where
  -- These lines more were accepted. They are in the file, once the service has begun. No call of the disk failed.
  pub record Went (k t : Kept S D) (new : List (List ℕ)) : Type 0 where
    pub up : t.failed ≡ k.failed
    pub no_fault : faults t.journal.disk ≡ faults k.journal.disk
    pub clean : IsTrue (is_clean t.journal.disk) → IsTrue (is_clean k.journal.disk)
    pub lines : IsTrue (is_clean t.journal.disk) → accepted seen t ≡ accepted seen k ++ new
    pub leaves : Leaves m may_leave is_clean t.journal.disk t.service (accepted seen t)

  -- These lines more were accepted, and a call of the disk failed: all of them are in the file or none.
  pub record Lost (k t : Kept S D) (new : List (List ℕ)) : Type 0 where
    pub down : t.failed ≡ true
    pub cause : CouldNotKeep may_leave is_clean (faults k.journal.disk) (faults t.journal.disk) t.journal.disk (accepted seen k) new
    pub clean : IsTrue (is_clean t.journal.disk) → IsTrue (is_clean k.journal.disk)
    pub leaves : LeavesEither m may_leave is_clean t.journal.disk k.service (accepted seen k) new t.service

module _ {S D : Type 0} (m : Meaning S) (seen : D → List ℕ) (may_leave : D → List ℕ → Type 0) (is_clean is_usable : D → Bool) (faults : D → ℕ) where
  -- The lines that were held are in the file. Before the service has begun they are held still.
  pub record InFile (old new : Kept S D) : Type 0 where
    pub up : new.failed ≡ old.failed
    pub no_fault : faults new.journal.disk ≡ faults old.journal.disk
    pub clean : IsTrue (is_clean new.journal.disk) → IsTrue (is_clean old.journal.disk)
    pub file : TakesLines seen may_leave is_clean is_usable new.journal
    pub are_held : AreHeld new.held
    pub same : IsTrue (is_clean new.journal.disk) → accepted seen new ≡ accepted seen old
    pub none : m.is_begun old.service ≡ true → new.held ≡ None
    pub still : m.is_begun old.service ≡ false → new.journal ≡ old.journal

  -- A call of the disk failed: all of the lines that were held are in the file or none.
  pub record NotInFile (old new : Kept S D) : Type 0 where
    pub down : new.failed ≡ true
    pub opens : m.is_begun old.service ≡ true
    pub cause : CouldNotKeep may_leave is_clean (faults old.journal.disk) (faults new.journal.disk) new.journal.disk (recorded (seen old.journal.disk)) (held_lines old.held)
    pub clean : IsTrue (is_clean new.journal.disk) → IsTrue (is_clean old.journal.disk)
    pub crash : IsTrue (is_clean new.journal.disk) → (c : List ℕ) → may_leave new.journal.disk c
        → IsBeforeOrAfter (recorded (seen old.journal.disk)) (held_lines old.held) c

  -- what came of the lines that were held
  abbrev pub PutsHeld : Bool → Kept S D → Kept S D → Type 0
  PutsHeld true old new = InFile old new
  PutsHeld false old new = NotInFile old new
