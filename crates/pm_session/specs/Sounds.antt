-- What stays true of a room after every line.
use Rattle.std.specs.List.{AllByRecursion as Each}
use Rattle.std.specs.Prelude.{◌≡◌, ℕ, ◌<◌, ◌≤◌, List, [], length, slice_get, Some}
use Rattle.pm_change.specs.Changes.{Meaning}
use Rattle.pm_authority.specs.Kept.{IsKept}
use Rattle.pm_authority.specs.declared.named.Named.{Named}
use Rattle.pm_authority.specs.declared.authority.Authority.{Authority}
use Rattle.pm_authority.specs.Requests.{NamedBy}
use Rattle.pm_client.specs.declared.client.Client.{Client}
use Rattle.pm_client.specs.Kins.{Kin}
use Rattle.pm_client.specs.Serials.{times, own_serials, Rises}
use Rattle.pm_session.specs.declared.member.Member.{Member}
use Rattle.pm_session.specs.declared.member.Member.TheVariants.{Editor, Raw}
use Rattle.pm_session.specs.Events.{State}
use Rattle.pm_session.specs.Members.{name_of}

-- the step was made by one of so many members
abbrev pub IsOfOne : {C : Type 0} → ℕ → Named C → Type 0
IsOfOne members n = n.name.client < members

-- a step that is named by this client has a serial of at most so many
abbrev pub IsDrawn : {C : Type 0} → ℕ → ℕ → Named C → Type 0
IsDrawn client drawn n = n.name.client ≡ client → n.name.serial ≤ drawn

-- No two entries of a log have one name: for each client and serial at most one entry has both. Each client's serials
-- rise in it.
pub record NamesDiffer {C : Type 0} (log : List (Named C)) : Type 0 where
  pub once : (client serial : ℕ) → times serial (own_serials client log) ≤ 1
  pub rise : (client : ℕ) → Rises (own_serials client log)

module _ {Rules Doc Reason C : Type 0} (m : Meaning Rules Doc Reason C) (rules : Rules) where
  -- An editor stands to a log and its first document as `Kin` says, and each step of a submission that it composed has its
  -- name.
  pub record EditorStands (first : Doc) (log : List (Named C)) (c : Client C Rules Doc Reason) : Type 0 where
    pub kin : Kin m rules first log c
    pub messages : Each (NamedBy c.name) c.messages

  -- How a member stands to a log and its first document. A raw client stands to them where no entry that has its name has a
  -- serial above those that it drew.
  abbrev pub MemberStands : Doc → List (Named C) → Member C Rules Doc Reason → Type 0
  MemberStands first log (Editor c) = EditorStands first log c
  MemberStands first log (Raw name serial) = Each (IsDrawn name serial) log

  -- Every document is good and the authority's is the first one after the log. Member i is named i and stands to the log. Of
  -- an editor this says: its base is the first document after the first `version` steps, its document is the base after the
  -- pending steps, and the serials that it drew are parted among the log, the pending and the dropped. Each entry is of a
  -- member. No two entries have one name, and each member's serials rise in the log.
  pub record Sound (s : State C Rules Doc Reason) : Type 0 where
    pub authority : IsKept m rules s.authority
    pub stand : (i : ℕ) (x : Member C Rules Doc Reason) → slice_get s.members i ≡ Some x
        → (name_of x ≡ i) × MemberStands s.authority.first s.authority.log x
    pub entries : Each (IsOfOne (length s.members)) s.authority.log
    pub names : NamesDiffer s.authority.log

-- A client that has the whole log and nothing pending: its document is the authority's.
pub record IsCaughtUp {Rules Doc Reason C : Type 0} (a : Authority C Rules Doc Reason) (c : Client C Rules Doc Reason) : Type 0 where
  pub version : c.version ≡ length a.log
  pub pending : c.pending ≡ []
  pub doc : c.doc ≡ a.doc

-- Each editor is caught up.
abbrev pub AllCaughtUp : {Rules Doc Reason C : Type 0} → State C Rules Doc Reason → Type 0
AllCaughtUp {Rules} {Doc} {Reason} {C} s = (i : ℕ) (c : Client C Rules Doc Reason) → slice_get s.members i ≡ Some (Editor c) → IsCaughtUp s.authority c
