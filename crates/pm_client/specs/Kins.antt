-- How a client stands to the log.
use Rattle.std.specs.List.{AllByRecursion as Each}
use Rattle.std.specs.Prelude.{◌≡◌, ℕ, ◌+◌, ◌≤◌, ◌<◌, ◌^◌, ◌⊎◌, List, ◌++◌, length, All}
use Rattle.pm_change.specs.Changes.{Meaning}
use Rattle.pm_authority.specs.declared.named.Named.{Named}
use Rattle.pm_authority.specs.declared.message.Message.{Message}
use Rattle.pm_authority.specs.declared.message.Message.TheVariants.{Submit, Ask}
use Rattle.pm_authority.specs.declared.message.Answer.{Answer}
use Rattle.pm_authority.specs.declared.message.Answer.TheVariants.{Accepted, WrongVersion, StepRefused, Entries}
use Rattle.pm_authority.specs.Runs.{AllApply}
use Rattle.pm_history.specs.Timelines.{Step}
use Rattle.pm_history.specs.Standing.{IsHistoryOf}
use Rattle.pm_client.specs.declared.client.Client.{Client}
use Rattle.pm_client.specs.Serials.{Parted}
use Rattle.pm_client.specs.Cursors.{AreWithin}
use Rattle.pm_client.specs.Timelines.{IsTimeline}

module _ {C : Type 0} where
  -- the step is this client's
  abbrev pub IsOwn : ℕ → Named C → Type 0
  IsOwn client n = n.name.client ≡ client

  -- the step is another's
  abbrev pub IsForeign : ℕ → Named C → Type 0
  IsForeign client n = n.name.client ≡ client → ⊥

  -- the second list begins with the first
  abbrev pub IsPrefix : List (Named C) → List (Named C) → Type 0
  IsPrefix xs ys = (rest : List (Named C)) × (xs ++ rest ≡ ys)

  -- the entries are a part of the log, from this place on
  abbrev pub IsPart : List (Named C) → ℕ → List (Named C) → Type 0
  IsPart log since entries = (before after : List (Named C)) × (length before ≡ since) × (before ++ entries ++ after ≡ log)

  -- A composed message of a client at this version, with these pending steps. Its version is at most the client's. A
  -- submission of the client's very version has the first pending steps.
  abbrev pub MessageStands : ℕ → List (Named C) → Message C → Type 0
  MessageStands version pending (Submit v steps) = (v ≤ version) × (v ≡ version → IsPrefix steps pending)
  MessageStands version pending (Ask v) = v ≤ version

  -- The log past the version: first the standing steps, which are the first pending ones, and then others' entries. The
  -- later pending steps do not stand in the log.
  pub record Past (client : ℕ) (pending past : List (Named C)) (count : ℕ) : Type 0 where
    pub standing : List (Named C)
    pub foreign : List (Named C)
    pub later : List (Named C)
    pub counted : length standing ≡ count
    pub past_is : past ≡ standing ++ foreign
    pub pending_is : pending ≡ standing ++ later
    pub are_foreign : Each (IsForeign client) foreign

-- A kept answer of a client at this version, of which so many pending steps stand in the log. An Accepted ends at or
-- before the version, or it is that of the standing steps. Entries are a part of the log that begins at or before the
-- version and does not end among the standing steps.
abbrev pub AnswerStands : {Rules Doc Reason C : Type 0} → List (Named C) → ℕ → ℕ → Answer C Rules Doc Reason → Type 0
AnswerStands log version standing (Accepted from count) = (from + count ≤ version) ⊎ ((from ≡ version) × (count ≡ standing))
AnswerStands log version standing (WrongVersion size) = Unit {0}
AnswerStands log version standing (StepRefused index reason) = Unit {0}
AnswerStands log version standing (Entries since entries) =
    (since ≤ version) × IsPart log since entries
    × ((since + length entries ≤ version) ⊎ (version + standing ≤ since + length entries))

module _ {Rules Doc Reason C : Type 0} (m : Meaning Rules Doc Reason C) (rules : Rules) (first : Doc) where
  -- The client stands to the log that begins with the first document. The log falls into what is before the client's
  -- version and what is past it. The first document is good, and the log's steps apply to it one after another; those
  -- before the version give the base, and the pending steps, which are all the client's, make of it the client's
  -- document, within which the cursors are. The serials drawn are parted, the log past the version is as `Past` says, and
  -- each message and answer stands. The client's history stands for its timeline, which is the log before the version and
  -- then the pending steps: its items are the last of these, and have every step whose name stands in an event.
  pub record Kin (log : List (Named C)) (c : Client C Rules Doc Reason) : Type 0 where
    pub before : List (Named C)
    pub past : List (Named C)
    pub standing : ℕ
    pub log_is : log ≡ before ++ past
    pub version_is : c.version ≡ length before
    pub first_good : m.is_good rules first
    pub log_applies : (end : Doc) × AllApply m rules first log end
    pub base_is : AllApply m rules first before c.base
    pub doc_is : AllApply m rules c.base c.pending c.doc
    pub own : Each (IsOwn c.name) c.pending
    pub cursors : AreWithin (m.size c.doc) c.cursors
    pub parted : Parted c.name before c.pending c.dropped c.serials
    pub stands : Past c.name c.pending past standing
    pub timeline : List (Step C)
    pub timeline_is : IsTimeline c.name timeline (before ++ c.pending)
    pub history : IsHistoryOf m rules c.name c.serials first timeline c.history
    pub messages : All (MessageStands c.version c.pending) c.messages
    pub answers : All (AnswerStands log c.version standing) c.answers

-- the client stands to some log, whose length is a number of 64 bits
pub record Stands {Rules Doc Reason C : Type 0} (m : Meaning Rules Doc Reason C) (rules : Rules) (c : Client C Rules Doc Reason) : Type 0 where
  pub first : Doc
  pub log : List (Named C)
  pub short : length log < 2 ^ 64
  pub kin : Kin m rules first log c
