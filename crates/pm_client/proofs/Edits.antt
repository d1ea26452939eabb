-- What `edit` asks of a client holds after it too.
use Rattle.std.specs.Prelude.{◌≡◌, ℕ, ◌+◌, true, List, Option, Result, Ok, Err, refl}
use Rattle.std.proofs.Common.{subst}
use Rattle.pm_change.specs.Changes.{Meaning, Laws}
use Rattle.pm_change.proofs.Folds.{fold-good}
use Rattle.pm_authority.specs.declared.named.Named.{Named}
use Rattle.pm_authority.specs.declared.running.Refusal.{Refusal}
use Rattle.pm_authority.specs.Runs.{run, changes_of, AllApply}
use Rattle.pm_authority.proofs.RunFolds.{run-fold}
use Rattle.pm_history.specs.declared.branches.MadeBy.TheVariants.{Edit}
use Rattle.pm_history.specs.Histories.{noted_all}
use Rattle.pm_history.specs.Trims.{trimmed}
use Rattle.pm_history.specs.Timelines.{items_from}
use Rattle.pm_client.specs.declared.client.Client.{Client}
use Rattle.pm_client.specs.Clients.{named, gone_on, tried, edited}
use Rattle.pm_client.specs.Cursors.{AreWithin}
use Rattle.pm_client.specs.Rebases.{maps_of}
use Rattle.pm_client.proofs.RebaseLaws.{maps-fit, plain-paired, cursors-move}
use Rattle.pm_client.specs.Timelines.{edit_steps}

module _ {Rules Doc Reason C : Type 0} (m : Meaning Rules Doc Reason C) (rules : Rules) (laws : Laws m) (c next : Client C Rules Doc Reason) where
  -- the document is good, and the cursors are within it
  abbrev IsReady : Client C Rules Doc Reason → Type 0
  IsReady d = m.is_good rules d.doc × AreWithin (m.size d.doc) d.cursors

  tried-ready : (cs : List C) (event : Option ℕ) (r : Result Doc (Refusal Reason)) → run m rules c.doc 0 (named c.name (c.serials + 1) cs) ≡ r
      → m.is_good rules c.doc → AreWithin (m.size c.doc) c.cursors → tried m rules c cs event r ≡ Ok next → IsReady next
  tried-ready cs event (Err e) ran good cursors h = absurd (cc)
  tried-ready cs event (Ok doc) ran good cursors h =
      let new : List (Named C) = named c.name (c.serials + 1) cs in
      let applies : AllApply m rules c.doc new doc = run-fold m rules c.doc doc 0 new ran in
      let fits = maps-fit m rules laws c.doc doc new good applies in
      let is : gone_on m c cs doc (trimmed (noted_all c.history (items_from m rules c.doc (edit_steps new)) (Edit event true))) ≡ next = cc in
      subst IsReady is (fold-good m rules laws c.doc doc (changes_of new) good applies, (cursors-move (maps_of m new) (m.size c.doc) (m.size doc) (plain-paired m rules new) fits.0 c.cursors cursors))

  pub edited-ready : (cs : List C) (event : Option ℕ) → m.is_good rules c.doc → AreWithin (m.size c.doc) c.cursors → edited m rules c cs event ≡ Ok next → IsReady next
  edited-ready cs event good cursors h = tried-ready cs event (run m rules c.doc 0 (named c.name (c.serials + 1) cs)) refl good cursors h
