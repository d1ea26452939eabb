-- How a client stands to a log is the same under two schemas that are the same to documents.
use Rattle.std.proofs.Common.{◌≡◌, ℕ, List, subst}
use Rattle.std.specs.Prelude.{true, Some}
use Rattle.std.specs.List.{AllByRecursion as Each}
use Rattle.pm_change.specs.Changes.{Meaning, fold}
use Rattle.pm_authority.specs.declared.named.Named.{Named}
use Rattle.pm_authority.specs.Runs.{AllApply}
use Rattle.pm_tokens.specs.Tokens.{Doc}
use Rattle.pm_tokens.specs.Faults.{Valid}
use Rattle.pm_tokens.specs.Schemas as documents
use Rattle.pm_schema.specs.declared.schema.Schema.{Schema}
use Rattle.pm_schema.specs.Documents.{documents_of}
use Rattle.pm_meaning.specs.Steps.{Step}
use Rattle.pm_meaning.specs.declared.reason.Reason.{Reason}
use Rattle.pm_meaning.specs.Meanings.{meaning_by}
use Rattle.pm_apply.specs.Changes.{meaning}
use Rattle.pm_change.specs.declared.name.Name.{Name}
use Rattle.pm_history.specs.declared.item.Item.{Item}
use Rattle.pm_history.specs.declared.branches.Branches.{Branches}
use Rattle.pm_history.specs.Histories.{holds}
use Rattle.pm_history.specs.Remembers.{Lacks, StandFor, live_names, Remembers}
use Rattle.pm_history.specs.Standing.{HasDrawn, IsHistoryOf}
use Rattle.pm_history.specs.Tidy.{NoneUndoes, IsTidy}
use Rattle.pm_history.specs.Timelines.{Step as TimelineStep, changes_of, items_from}
use Rattle.pm_client.specs.declared.client.Client.{Client}
use Rattle.pm_client.specs.Kins.{Kin}

-- what changes mean to documents of this schema, whatever the rules
abbrev pub by : documents.Schema → Meaning Schema Doc Reason Step
by d = meaning_by (λ rules. d)

module _ (s t : Schema) (same : documents_of s.spec ≡ documents_of t.spec) where
  remembers-to : (live : List Name) (first : Doc) (steps : List (TimelineStep Step)) (items : List (Item Step)) → Remembers meaning s live first steps items → Remembers meaning t live first steps items
  remembers-to live first steps items h = record {
    gone = h.gone;
    kept = h.kept;
    mid = h.mid;
    steps_are = h.steps_are;
    reaches = subst (λ d. fold (by d) s first (changes_of h.gone) ≡ Some h.mid) same h.reaches;
    stand = subst (λ d. StandFor live items (items_from (by d) s h.mid h.kept)) same h.stand;
    lacks = subst (λ d. Each (Lacks (items_from (by d) s first h.gone)) live) same h.lacks;
  }

  pub history-to : (client drawn : ℕ) (first : Doc) (steps : List (TimelineStep Step)) (h : Branches Step) → IsHistoryOf meaning s client drawn first steps h → IsHistoryOf meaning t client drawn first steps h
  history-to client drawn first steps h x = record {
    remembers = remembers-to (live_names h) first steps h.items x.remembers;
    tidy = subst (λ d. IsTidy (items_from (by d) s first steps) (live_names h)) same x.tidy;
    live = subst (λ d. Each (λ n. NoneUndoes n (items_from (by d) s first steps)) (live_names h)) same x.live;
    stand = subst (λ d. Each (λ n. holds n (items_from (by d) s first steps) ≡ true) (live_names h)) same x.stand;
    drawn_are = subst (λ d. Each (HasDrawn client drawn) (items_from (by d) s first steps)) same x.drawn_are;
  }

  -- with the same timeline
  abbrev pub kin-to : (first : Doc) (log : List (Named Step)) (c : Client Step Schema Doc Reason) → Kin meaning s first log c → Kin meaning t first log c
  kin-to first log c k = record {
    before = k.before;
    past = k.past;
    standing = k.standing;
    log_is = k.log_is;
    version_is = k.version_is;
    first_good = subst (λ d. Valid d first) same k.first_good;
    log_applies = (k.log_applies.0, subst (λ d. AllApply (by d) s first log k.log_applies.0) same k.log_applies.1);
    base_is = subst (λ d. AllApply (by d) s first k.before c.base) same k.base_is;
    doc_is = subst (λ d. AllApply (by d) s c.base c.pending c.doc) same k.doc_is;
    own = k.own;
    cursors = k.cursors;
    parted = k.parted;
    stands = k.stands;
    timeline = k.timeline;
    timeline_is = k.timeline_is;
    history = history-to c.name c.serials first k.timeline c.history k.history;
    messages = k.messages;
    answers = k.answers;
  }
