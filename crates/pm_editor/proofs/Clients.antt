-- The editor's client, and what it is after steps were made or undone.
use Rattle.std.specs.Prelude.{◌≡◌, ℕ, ◌+◌, ◌<◌, ◌^◌, List, ◌++◌, length, drop, Option, Some, Result, Ok, Err, true, refl}
use Rattle.std.proofs.Common.{sym, ap, ◌∙◌, subst}
use Rattle.std.proofs.Math.Seq.{drop-append_seam}
use Rattle.pm_tokens.specs.Tokens.{Doc as Document}
use Rattle.pm_schema.specs.declared.schema.Schema.{Schema}
use Rattle.pm_meaning.specs.Steps.{Step}
use Rattle.pm_meaning.specs.declared.reason.Reason.{Reason}
use Rattle.pm_apply.specs.Changes.{meaning}
use Rattle.pm_apply.specs.Laws.{laws}
use Rattle.pm_history.specs.declared.branch.Event.{Event}
use Rattle.pm_history.specs.declared.turn.Turn.{Turn}
use Rattle.pm_history.specs.declared.branches.MadeBy.TheVariants.{Edit as MadeByEdit}
use Rattle.pm_history.specs.Histories.{noted_all}
use Rattle.pm_history.specs.Trims.{trimmed}
use Rattle.pm_history.specs.Timelines.{items_from}
use Rattle.pm_history.specs.Undos.{undo_event}
use Rattle.pm_authority.specs.declared.named.Named.{Named}
use Rattle.pm_authority.specs.declared.running.Refusal.{Refusal}
use Rattle.pm_authority.specs.Runs.{run, changes_of}
use Rattle.pm_client.specs.Clients.{named, gone_on, tried, edited, event_turned, turned_if}
use Rattle.pm_client.specs.Cursors.{AreWithin}
use Rattle.pm_client.specs.Kins.{Kin, Stands}
use Rattle.pm_client.specs.Timelines.{edit_steps}
use Rattle.pm_client.proofs.Keeps.{doc-good}
use Rattle.pm_client.proofs.TimelineLaws.{named-changes}
use Rattle.pm_remote.specs.Bare.{IsBare}
use Rattle.pm_told.specs.Showing.{DocClient}
use Rattle.pm_editor.specs.declared.editor.Editor.{Editor}
use Rattle.pm_editor.specs.Editors.{IsEditor, moved, added}

-- a client that stands to each log that another stands to
pub stands-on : (s : Schema) (a b : DocClient) → Stands meaning s a
    → ((first : Document) (log : List (Named Step)) → Kin meaning s first log a → Kin meaning s first log b) → Stands meaning s b
stands-on s a b h f = record { first = h.first; log = h.log; short = h.short; kin = f h.first h.log h.kin }

module _ (e : Editor) (good : IsEditor e) where
  -- its document is good, and its cursors are within it
  pub doc-valid : meaning.is_good e.schema e.client.doc
  doc-valid = doc-good meaning e.schema good.stands.first good.stands.log e.client good.stands.kin laws

  pub doc-small : meaning.size e.client.doc < 2 ^ 32
  doc-small = laws.small e.schema e.client.doc doc-valid

  pub cursors-within : AreWithin (meaning.size e.client.doc) e.client.cursors
  cursors-within = good.stands.kin.cursors

-- The client went on by these steps of its own: its name is the same, and it has drawn a serial for each.
pub record GoesOn (c next : DocClient) (cs : List Step) : Type 0 where
  pub name : next.name ≡ c.name
  pub serials : next.serials ≡ c.serials + length cs
  pub more : next.pending ≡ c.pending ++ named c.name (c.serials + 1) cs

module _ (s : Schema) (c next : DocClient) where
  tried-on : (cs : List Step) (event : Option ℕ) (r : Result Document (Refusal Reason)) → tried meaning s c cs event r ≡ Ok next → GoesOn c next cs
  tried-on cs event (Err x) h = absurd (cc)
  tried-on cs event (Ok doc) h =
      let is : gone_on meaning c cs doc (trimmed (noted_all c.history (items_from meaning s c.doc (edit_steps (named c.name (c.serials + 1) cs))) (MadeByEdit event true))) ≡ next = cc in
      subst (λ (d : DocClient). GoesOn c d cs) is (record { name = refl; serials = refl; more = refl })

  -- steps made
  pub edited-on : (cs : List Step) (event : Option ℕ) → edited meaning s c cs event ≡ Ok next → GoesOn c next cs
  edited-on cs event h = tried-on cs event (run meaning s c.doc 0 (named c.name (c.serials + 1) cs)) h

  -- an event undone or redone
  pub turned-on : (turn : Turn) (x : Event) (n : ℕ) → turned_if meaning s c turn (Some x) ≡ Some (n, next)
      → GoesOn c next (undo_event meaning s c.name x.names c.history.items c.doc (c.serials + 1)).made
  turned-on turn x n h =
      let is : (event_turned meaning s c turn x).1 ≡ next = cc in
      subst (λ (d : DocClient). GoesOn c d (undo_event meaning s c.name x.names c.history.items c.doc (c.serials + 1)).made) is
      (record { name = refl; serials = refl; more = refl })

  -- the steps that are pending more are those that it went on by
  pub added-are : (cs : List Step) → GoesOn c next cs → added c next ≡ cs
  added-are cs on =
      ap (λ (l : List (Named Step)). changes_of (drop (length c.pending) l)) on.more
      ∙ ap changes_of (drop-append_seam c.pending (named c.name (c.serials + 1) cs)) ∙ named-changes c.name (c.serials + 1) cs

-- the editor with a client that went on
module _ (e : Editor) (good : IsEditor e) (next : DocClient) (cs : List Step) (on : GoesOn e.client next cs) (bare : IsBare next) (stands : Stands meaning e.schema next)
    (n : ℕ) (drawn : n ≡ e.serials + length cs) where
  pub on-serials : n ≡ next.serials
  on-serials = drawn ∙ ap (λ (k : ℕ). k + length cs) good.serials ∙ sym on.serials

  pub on-good : IsEditor (record { schema = e.schema; client = next; id = e.id; serials = n })
  on-good = record { stands = stands; bare = bare; name = on.name ∙ good.name; serials = on-serials }

  pub on-moved : record { schema = e.schema; client = next; id = e.id; serials = n } ≡ moved e next
  on-moved = ap (λ (k : ℕ). record { schema = e.schema; client = next; id = e.id; serials = k }) on-serials
