-- What is written for lines one after another, and which of them are in the file then.
use Rattle.std.specs.Prelude.{◌≡◌, ◌≢◌, ◌⊎◌, ◌≤◌, ◌++◌, ◌∷◌, ℕ, Bool, true, false, IsTrue, List, [], length, map, Option}
use Rattle.std.specs.Io.KnownBytes.{Consumes}
use Rattle.pm_io.specs.Faults.{Rose}
use Rattle.pm_io.specs.Moves.{Adds}
use Rattle.pm_journal.specs.declared.group.Group.{Group}
use Rattle.pm_serve.specs.declared.serving.Served.{Served}
use Rattle.pm_serve.specs.declared.serving.Served.TheVariants.{End, Closed, ReadFault, WriteFault, Spent}
use Rattle.pm_serve.specs.declared.serving.Next.{Next}
use Rattle.pm_serve.specs.declared.serving.Next.TheVariants.{More, Over}
use Rattle.pm_serve.specs.Lines.{with_lf, AreLines}
use Rattle.pm_serve.specs.Reads.{EndCame, IsLong, WasWaiting, most}
use Rattle.pm_serve.specs.Serves.{FrontWritten, kept}
use Rattle.pm_talk.specs.Texts.{no_memory}
use Rattle.pm_kept.specs.declared.kept.Kept.{Kept}
use Rattle.pm_kept.specs.Means.{Meaning}
use Rattle.pm_kept.specs.Behind.{Takes}
use Rattle.pm_kept.specs.Kept.{disk_fault, held_lines, accepted, Leaves, LeavesEither, CouldNotKeep, Went, Lost}

-- ---- what lines are answered, and which of them are accepted

module _ {S : Type 0} (m : Meaning S) where
  -- What a line is answered, what the service is then, and the line again if it was accepted. One for which there is no memory is
  -- not.
  abbrev pub Told : S → List ℕ → List ℕ → Bool → S → List (List ℕ) → Type 0
  Told was line text more next new =
      (m.replies was line text more next × Takes was line next new)
      ⊎ ((text ≡ no_memory) × (more ≡ true) × (next ≡ was) × (new ≡ []))

  -- Lines one after another from this service on: what they are answered, those of them that are accepted, and what the service is
  -- then.
  abbrev pub Hears : S → List (List ℕ) → List ℕ → List (List ℕ) → S → Type 0
  Hears first [] out some now = (out ≡ []) × (some ≡ []) × (now ≡ first)
  Hears first (line ∷ lines) out some now =
      (text : List ℕ) × (next : S) × (new : List (List ℕ)) × (rest : List ℕ) × (later : List (List ℕ))
      × Told first line text true next new × (out ≡ text ++ rest) × (some ≡ new ++ later) × Hears next lines rest later now

  -- The same of a line at least, where the answer to the last one says whether further lines are answered.
  pub record HearsSome (first : S) (lines : List (List ℕ)) (out : List ℕ) (some : List (List ℕ)) (more : Bool) (now : S) : Type 0 where
    pub front : List (List ℕ)
    pub line : List ℕ
    pub split : lines ≡ front ++ line ∷ []
    pub out_front : List ℕ
    pub some_front : List (List ℕ)
    pub mid : S
    pub hears : Hears first front out_front some_front mid
    pub text : List ℕ
    pub new : List (List ℕ)
    pub told : Told mid line text more now new
    pub out_is : out ≡ out_front ++ text
    pub some_is : some ≡ some_front ++ new

-- ---- how lines come

-- Lines came whole: what was there and what was taken is these lines with their LFs, and what is there now.
pub record CameWhole (left rest : Option (List ℕ)) (before after : List ℕ) (lines : List (List ℕ)) : Type 0 where
  pub taken : List ℕ
  pub took : Consumes left rest taken
  pub split : before ++ taken ≡ with_lf lines ++ after
  pub each : AreLines lines

-- the bytes after the last LF are a line, if there are any
abbrev pub last_line : List ℕ → List (List ℕ)
last_line [] = []
last_line (b ∷ line) = (b ∷ line) ∷ []

-- Lines came, of which this is heard: whole, or the bytes after the last LF at the end of input.
abbrev pub CameSome : Option (List ℕ) → Option (List ℕ) → List ℕ → List ℕ → List (List ℕ) → Type 0
CameSome left rest before after heard =
    ((lines : List (List ℕ)) × CameWhole left rest before after lines × (heard ≡ map kept lines))
    ⊎ ((line : List ℕ) × EndCame left rest before after line × (heard ≡ last_line line))

module _ {S : Type 0} (m : Meaning S) where
  -- What was to be said: the answers to lines that came; or, at the end of input, those to the bytes after the last LF, and what is
  -- said at the end.
  abbrev pub ToSay : S → S → Option (List ℕ) → Option (List ℕ) → List ℕ → List ℕ → List (List ℕ) → List ℕ → Type 0
  ToSay was now left rest before after some text =
      ((heard : List (List ℕ)) × (more : Bool) × CameSome left rest before after heard × HearsSome m was heard text some more now)
      ⊎ ((line : List ℕ) × (out : List ℕ) × EndCame left rest before after line × Hears m was (last_line line) out some now × (text ≡ out ++ m.last now))

-- what is said where a call of the disk failed, written whole or in part
abbrev pub SaysFault : Served → Option (List ℕ) → Option (List ℕ) → Type 0
SaysFault End old new = ⊥
SaysFault Closed old new = Adds old new disk_fault
SaysFault ReadFault old new = ⊥
SaysFault WriteFault old new = FrontWritten disk_fault old new
SaysFault Spent old new = ⊥

-- ---- how it was over

module _ {S D : Type 0} (m : Meaning S) (may_leave : D → List ℕ → Type 0) (is_clean : D → Bool) (faults : D → ℕ) where
  -- Whatever a crash leaves keeps these lines. No call of the disk failed.
  pub record IsKept (lines : List (List ℕ)) (begin end : Kept S D) : Type 0 where
    pub leaves : Leaves m may_leave is_clean end.journal.disk end.service lines
    pub clean : IsTrue (is_clean end.journal.disk) → IsTrue (is_clean begin.journal.disk)
    pub up : end.failed ≡ begin.failed
    pub no_fault : faults end.journal.disk ≡ faults begin.journal.disk

  -- A call of the disk failed: whatever a crash leaves keeps the lines from before, and all of the new ones or none.
  pub record IsLost (was : S) (lines new : List (List ℕ)) (begin end : Kept S D) : Type 0 where
    pub leaves : LeavesEither m may_leave is_clean end.journal.disk was lines new end.service
    pub clean : IsTrue (is_clean end.journal.disk) → IsTrue (is_clean begin.journal.disk)
    pub down : end.failed ≡ true
    pub cause : CouldNotKeep may_leave is_clean (faults begin.journal.disk) (faults end.journal.disk) end.journal.disk lines new

  -- Bytes were taken, and nothing was said: a read failed; or so many lines had been answered, or these bytes are a line without
  -- end.
  pub record Quiet (count : ℕ) (served : Served) (was : S) (lines : List (List ℕ)) (begin end : Kept S D) (left rest : Option (List ℕ)) (before after : List ℕ) (old new : Option (List ℕ)) : Type 0 where
    pub taken : List ℕ
    pub took : Consumes left rest taken
    pub same : end.service ≡ was
    pub none : Adds old new []
    pub cause : (served ≡ ReadFault) ⊎ ((served ≡ Spent) × ((most ≤ count) ⊎ IsLong before taken after))
    pub is_kept : IsKept lines begin end

  -- The input ended. The bytes after the last LF were answered, if there were any, and what is said at the end was written.
  pub record Ended (served : Served) (was : S) (lines : List (List ℕ)) (begin end : Kept S D) (left rest : Option (List ℕ)) (before after : List ℕ) (old new : Option (List ℕ)) : Type 0 where
    pub is : served ≡ End
    pub line : List ℕ
    pub came : EndCame left rest before after line
    pub out : List ℕ
    pub some : List (List ℕ)
    pub hears : Hears m was (last_line line) out some end.service
    pub added : Adds old new (out ++ m.last end.service)
    pub is_kept : IsKept (lines ++ some) begin end

  -- Lines came and were answered, the last of them for the last time.
  pub record Shut (served : Served) (was : S) (lines : List (List ℕ)) (begin end : Kept S D) (left rest : Option (List ℕ)) (before after : List ℕ) (old new : Option (List ℕ)) : Type 0 where
    pub is : served ≡ Closed
    pub heard : List (List ℕ)
    pub came : CameSome left rest before after heard
    pub out : List ℕ
    pub some : List (List ℕ)
    pub hears : HearsSome m was heard out some false end.service
    pub added : Adds old new out
    pub is_kept : IsKept (lines ++ some) begin end

  -- Lines or the end of input came. Those that were accepted are in the file; of what was to be said a front was written, and not all.
  pub record Broken (served : Served) (was : S) (lines : List (List ℕ)) (begin end : Kept S D) (left rest : Option (List ℕ)) (before after : List ℕ) (old new : Option (List ℕ)) : Type 0 where
    pub is : served ≡ WriteFault
    pub text : List ℕ
    pub some : List (List ℕ)
    pub to_say : ToSay m was end.service left rest before after some text
    pub front : FrontWritten text old new
    pub is_kept : IsKept (lines ++ some) begin end

  -- Lines came, and a call of the disk failed: those of them that were accepted are in the file, all or none. The words for that were
  -- written, or a front of them, and nothing of the answers.
  pub record Failed (served : Served) (was : S) (lines : List (List ℕ)) (begin end : Kept S D) (left rest : Option (List ℕ)) (before after : List ℕ) (old new : Option (List ℕ)) : Type 0 where
    pub heard : List (List ℕ)
    pub came : CameSome left rest before after heard
    pub out : List ℕ
    pub some : List (List ℕ)
    pub more : Bool
    pub hears : HearsSome m was heard out some more end.service
    pub says : SaysFault served old new
    pub is_lost : IsLost was lines some begin end

  -- how it was over after so many lines, when this was the service and these lines had been accepted
  abbrev pub OverBy : ℕ → Served → S → List (List ℕ) → Kept S D → Kept S D → Option (List ℕ) → Option (List ℕ) → List ℕ → List ℕ → Option (List ℕ) → Option (List ℕ) → Type 0
  OverBy count served was lines begin end left rest before after old new =
      Quiet count served was lines begin end left rest before after old new
      ⊎ (Ended served was lines begin end left rest before after old new
      ⊎ (Shut served was lines begin end left rest before after old new
      ⊎ (Broken served was lines begin end left rest before after old new
      ⊎ Failed served was lines begin end left rest before after old new)))

module _ {S D : Type 0} (m : Meaning S) (seen : D → List ℕ) (may_leave : D → List ℕ → Type 0) (is_clean : D → Bool) (faults : D → ℕ) where
  -- Lines came whole, they were answered in order, and those of them that were accepted are in the file.
  pub record SoFar (begin now : Kept S D) (left rest : Option (List ℕ)) (before after : List ℕ) (old new : Option (List ℕ)) : Type 0 where
    pub lines : List (List ℕ)
    pub came : CameWhole left rest before after lines
    pub out : List ℕ
    pub some : List (List ℕ)
    pub hears : Hears m begin.service (map kept lines) out some now.service
    pub added : Adds old new out
    pub went : Went m seen may_leave is_clean faults begin now some

  -- What one group of lines does: a line at least was answered, and what was accepted is in the file; or it was over.
  abbrev pub GroupServed : Next → Kept S D → Kept S D → Option (List ℕ) → Option (List ℕ) → List ℕ → List ℕ → Option (List ℕ) → Option (List ℕ) → Type 0
  GroupServed More k t left rest before after old new =
      (so_far : SoFar k t left rest before after old new) × (so_far.lines ≢ [])
  GroupServed (Over served) k t left rest before after old new =
      OverBy m may_leave is_clean faults 0 served k.service (accepted seen k) k t left rest before after old new

  -- The bytes that came are lines, and what was written is the answers to them in order. A crash leaves a file of the lines from
  -- before and those that were accepted, in order: each whose answer was written or begun, and at most those of one more group, which
  -- are lines that were waiting together, all of them or none. A crash at any moment is a run in which each later call of source, sink
  -- and disk fails.
  pub record KeptRun (served : Served) (begin end : Kept S D) (left rest : Option (List ℕ)) (before after : List ℕ) (old new : Option (List ℕ)) : Type 0 where
    pub mid : S
    pub left_then : Option (List ℕ)
    pub there_then : List ℕ
    pub written_then : Option (List ℕ)
    pub lines : List (List ℕ)
    pub came : CameWhole left left_then before there_then lines
    pub out : List ℕ
    pub some : List (List ℕ)
    pub hears : Hears m begin.service (map kept lines) out some mid
    pub added : Adds old written_then out
    pub over : OverBy m may_leave is_clean faults (length lines) served mid (accepted seen begin ++ some) begin end left_then rest there_then after written_then new

-- ---- for private clauses

module _ {S : Type 0} (m : Meaning S) where
  -- Lines were heard, the first of which had come and the others were waiting: what they are answered, and those of them that are
  -- accepted, which are held.
  pub record HearsAll (was now : S) (first before after : List ℕ) (old new : Option Group) (out : List ℕ) (more : Bool) : Type 0 where
    pub lines : List (List ℕ)
    pub split : before ≡ with_lf lines ++ after
    pub each : AreLines lines
    pub some : List (List ℕ)
    pub hears : HearsSome m was (first ∷ map kept lines) out some more now
    pub are_held : held_lines new ≡ held_lines old ++ some

-- a further line was taken where one was waiting, or none
abbrev pub TakesFurther : Bool → List ℕ → List ℕ → List ℕ → Type 0
TakesFurther true before after line = WasWaiting before after line
TakesFurther false before after line = after ≡ before

-- the sink's faults rose where a write failed, and not else
abbrev pub WroteFaults : Next → ℕ → ℕ → Type 0
WroteFaults More old new = new ≡ old
WroteFaults (Over End) old new = ⊥
WroteFaults (Over Closed) old new = new ≡ old
WroteFaults (Over ReadFault) old new = ⊥
WroteFaults (Over WriteFault) old new = Rose old new
WroteFaults (Over Spent) old new = ⊥

module _ {S D : Type 0} (m : Meaning S) (seen : D → List ℕ) (may_leave : D → List ℕ → Type 0) (is_clean : D → Bool) (faults : D → ℕ) where
  -- A line that had come and those that were waiting were heard, and what was accepted is in the file.
  pub record GroupHeard (k t : Kept S D) (first before after out : List ℕ) (more : Bool) : Type 0 where
    pub lines : List (List ℕ)
    pub split : before ≡ with_lf lines ++ after
    pub each : AreLines lines
    pub some : List (List ℕ)
    pub hears : HearsSome m k.service (first ∷ map kept lines) out some more t.service
    pub went : Went m seen may_leave is_clean faults k t some

  -- They were heard, and a call of the disk failed: all that was accepted is in the file or none.
  pub record GroupLost (k t : Kept S D) (first before after : List ℕ) : Type 0 where
    pub lines : List (List ℕ)
    pub split : before ≡ with_lf lines ++ after
    pub each : AreLines lines
    pub out : List ℕ
    pub some : List (List ℕ)
    pub more : Bool
    pub hears : HearsSome m k.service (first ∷ map kept lines) out some more t.service
    pub lost : Lost m seen may_leave is_clean faults k t some

  -- what is written for them, and how it goes on
  abbrev pub AnswersAll : Next → Kept S D → Kept S D → List ℕ → List ℕ → List ℕ → Option (List ℕ) → Option (List ℕ) → Type 0
  AnswersAll More k t first before after old new = (out : List ℕ) × GroupHeard k t first before after out true × Adds old new out
  AnswersAll (Over End) k t first before after old new = ⊥
  AnswersAll (Over Closed) k t first before after old new =
      ((out : List ℕ) × GroupHeard k t first before after out false × Adds old new out) ⊎ (GroupLost k t first before after × Adds old new disk_fault)
  AnswersAll (Over ReadFault) k t first before after old new = ⊥
  AnswersAll (Over WriteFault) k t first before after old new =
      ((out : List ℕ) × (more : Bool) × GroupHeard k t first before after out more × FrontWritten out old new)
      ⊎ (GroupLost k t first before after × FrontWritten disk_fault old new)
  AnswersAll (Over Spent) k t first before after old new = ⊥
