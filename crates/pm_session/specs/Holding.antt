-- What holds of a room.
use Rattle.std.specs.Prelude.{◌≡◌, ℕ, ◌≤◌, [], length, take, slice_get, Some}
use Rattle.pm_change.specs.Changes.{Meaning}
use Rattle.pm_authority.specs.Kept.{IsKept}
use Rattle.pm_authority.specs.Runs.{AllApply}
use Rattle.pm_authority.specs.declared.authority.Authority.{Authority}
use Rattle.pm_client.specs.declared.client.Client.{Client}
use Rattle.pm_client.specs.Serials.{Parted}
use Rattle.pm_session.specs.declared.member.Member.TheVariants.{Editor}
use Rattle.pm_session.specs.Events.{State}
use Rattle.pm_session.specs.Sounds.{Sound, NamesDiffer}
use Rattle.pm_session.specs.Refusals.{NoMessageRefused}
use Rattle.pm_session.specs.Standing.{AllNamed}

module _ {Rules Doc Reason C : Type 0} (m : Meaning Rules Doc Reason C) (rules : Rules) where
  -- An editor of an authority. Its base and its document are good. Its base is the first document after the log's first
  -- `version` steps, and its document is the base after its pending steps. With nothing pending its document is the first
  -- one after the log's first `version` steps. Each serial that it drew is that of an entry among these steps of the log, of
  -- a pending step or of a dropped one, and of one of these alone.
  pub record ClientHolds (a : Authority C Rules Doc Reason) (c : Client C Rules Doc Reason) : Type 0 where
    pub base_good : m.is_good rules c.base
    pub doc_good : m.is_good rules c.doc
    pub version_within : c.version ≤ length a.log
    pub base_is : AllApply m rules a.first (take c.version a.log) c.base
    pub doc_is : AllApply m rules c.base c.pending c.doc
    pub with_nothing_pending : c.pending ≡ [] → AllApply m rules a.first (take c.version a.log) c.doc
    pub serials : Parted c.name (take c.version a.log) c.pending c.dropped c.serials

  -- A room. The authority's documents are good, and its document is the first one after the log. Where member i is an editor,
  -- it is named i and holds what an editor holds. No two entries of the log have one name. No message that an editor composed
  -- would be refused for a step. No two tokens of an editor's document have one name. `sound` says how each member, also each
  -- raw client, stands to the log in full.
  pub record RoomHolds (s : State C Rules Doc Reason) : Type 0 where
    pub authority : IsKept m rules s.authority
    pub clients : (i : ℕ) (c : Client C Rules Doc Reason) → slice_get s.members i ≡ Some (Editor c) → (c.name ≡ i) × ClientHolds s.authority c
    pub names : NamesDiffer s.authority.log
    pub messages : NoMessageRefused m rules s
    pub tokens : AllNamed m s
    pub sound : Sound m rules s
