-- Entries of a log of steps taken back, and later entries that lie apart from them.
use Rattle.std.specs.Prelude.{◌≡◌, ◌<◌, List, length, Result, Ok, Err}
use Rattle.pm_change.specs.declared.failed.Failed.{Failed}
use Rattle.pm_change.specs.declared.failed.Failed.TheVariants.{Reason as because, NoMemory}
use Rattle.pm_authority.specs.declared.named.Named.{Named}
use Rattle.pm_authority.specs.declared.running.Refusal.{Refusal}
use Rattle.pm_tokens.specs.Tokens.{Doc}
use Rattle.pm_schema.specs.declared.schema.Schema.{Schema}
use Rattle.pm_meaning.specs.Steps.{Step}
use Rattle.pm_meaning.specs.declared.reason.Reason.{Reason}
use Rattle.pm_apply.specs.Changes.{meaning}
use Rattle.pm_selective.specs.Apart.{LieApart}
use Rattle.pm_selective.specs.Carried.{AreSplices, step_maps}
use Rattle.pm_revert.specs.declared.taken.Taken.{Taken}
use Rattle.pm_revert.specs.declared.reverting.Reverted.{Reverted}
use Rattle.pm_revert.specs.Takings.{EndsAt}

-- The later steps lie apart from these, of which there is at least one. Each of all of them is a replace, or a replaceAround
-- whose gap is not pinched.
pub record LieApartFrom (es later : List Step) : Type 0 where
  pub some : 0 < length es
  pub entries_splice : AreSplices es
  pub later_splice : AreSplices later
  pub apart : LieApart (step_maps es) (step_maps later)

-- the entries and then the later ones apply one after another to some valid document
pub record MayTell (entries later : List (Named Step)) : Type 0 where
  pub schema : Schema
  pub before : Doc
  pub doc : Doc
  pub ends : EndsAt meaning schema before entries later doc

-- The call gave these very steps and this document, or this very refusal, or memory ran out.
abbrev pub Tells : Result (Taken Doc Step) (Refusal Reason) → Result Reverted (Failed (Refusal Reason)) → Type 0
Tells o (Ok r) = o ≡ Ok (record { doc = r.doc; steps = r.steps })
Tells o (Err (because e)) = o ≡ Err e
Tells o (Err NoMemory) = Unit {0}
