-- Taking an answer in two steps: a plan, which needs memory, and carrying it out, which needs none.
use Rattle.std.specs.Prelude.{ℕ, ◌+◌, ◌-◌, ◌≤◌, ◌<◌, ◌^◌, List, length, drop, All}
use Rattle.pm_change.specs.Changes.{Meaning}
use Rattle.pm_authority.specs.declared.named.Named.{Named}
use Rattle.pm_authority.specs.declared.message.Answer.{Answer}
use Rattle.pm_authority.specs.declared.message.Answer.TheVariants.{Entries}
use Rattle.pm_authority.specs.Runs.{AllApply}
use Rattle.pm_client.specs.declared.client.Client.{Client}
use Rattle.pm_client.specs.declared.plan.Plan.{Plan}
use Rattle.pm_client.specs.declared.plan.Plan.TheVariants.{Confirm, Rebase, PassOver, TellRefused}
use Rattle.pm_client.specs.declared.taken.Taken.{Taken}
use Rattle.pm_client.specs.declared.taken.Taken.TheVariants.{Confirmed, Rebased, Stale, Refused}
use Rattle.pm_client.specs.Clients.{confirmed, carried_history, own_run}
use Rattle.pm_client.specs.Cursors.{AreWithin}
use Rattle.pm_client.specs.Rebasables.{NamedHasMap, CanRebaseOver}
use Rattle.pm_client.specs.Kins.{AnswerStands, Kin}

module _ {Rules Doc Reason C : Type 0} where
  -- what carrying out a plan tells, and the client after it
  abbrev pub carried_out : Client C Rules Doc Reason → Plan C Rules Doc Reason → Taken × Client C Rules Doc Reason
  carried_out c PassOver = (Stale, c)
  carried_out c TellRefused = (Refused, c)
  carried_out c (Confirm own base) = (Confirmed own, confirmed c own base)
  carried_out c (Rebase own foreign base r dropped cursors) = (
    Rebased own (length foreign.items) (length r.dropped),
    record c {
      version = c.version + (own + length foreign.items);
      base = base;
      doc = r.doc;
      pending = r.kept;
      dropped = dropped;
      cursors = cursors;
      history = carried_history c.history (length c.pending - own) foreign.items r.items;
    },
  )

  -- A plan that may be carried out: what it confirms is pending, and the version stays a number of 64 bits.
  abbrev pub MayCarryOut : Client C Rules Doc Reason → Plan C Rules Doc Reason → Type 0
  MayCarryOut c (Confirm own base) = (own ≤ length c.pending) × (c.version + own < 2 ^ 64)
  MayCarryOut c (Rebase own foreign base r dropped cursors) = (own ≤ length c.pending) × (c.version + (own + length foreign.items) < 2 ^ 64)
  MayCarryOut c p = Unit {0}

module _ {Rules Doc Reason C : Type 0} (m : Meaning Rules Doc Reason C) (rules : Rules) where
  -- the client stands to some log, and this answer with it
  pub record Meets (c : Client C Rules Doc Reason) (answer : Answer C Rules Doc Reason) : Type 0 where
    pub first : Doc
    pub log : List (Named C)
    pub short : length log < 2 ^ 64
    pub kin : Kin m rules first log c
    pub stands : AnswerStands log c.version kin.standing answer

  -- What these entries hold past the version leads from the base to this document.
  abbrev pub Reaches : Client C Rules Doc Reason → Answer C Rules Doc Reason → Doc → Type 0
  Reaches c (Entries since entries) end = c.version - since < length entries → AllApply m rules c.base (drop (c.version - since) entries) end
  Reaches c answer end = Unit {0}

  -- The first so many pending steps may be confirmed: they apply to the base, which is good, and the version stays a
  -- number of 64 bits.
  pub record MayConfirm (c : Client C Rules Doc Reason) (own : ℕ) : Type 0 where
    pub good : m.is_good rules c.base
    pub applies : AllApply m rules c.base c.pending c.doc
    pub within : own ≤ length c.pending
    pub short : c.version + own < 2 ^ 64

  -- The entries past the version apply to the base one after another, their leading own ones may be confirmed, the later
  -- pending steps may be carried over others', the cursors are within the document, and the version stays a
  -- number of 64 bits.
  pub record Fits (c : Client C Rules Doc Reason) (rest : List (Named C)) : Type 0 where
    pub leading : MayConfirm c (own_run c.name rest)
    pub applies : (end : Doc) × AllApply m rules c.base rest end
    pub over : (base : Doc) → AllApply m rules c.base rest base
        → CanRebaseOver m rules base (drop (own_run c.name rest) rest) (drop (own_run c.name rest) c.pending) c.doc
    pub cursors : AreWithin (m.size c.doc) c.cursors
    pub have_maps : All (NamedHasMap m) (drop (own_run c.name rest) rest)
    pub short : c.version + length rest < 2 ^ 64
