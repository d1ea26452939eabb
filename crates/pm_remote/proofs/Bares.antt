-- A client that keeps no message and no answer keeps none once steps were made or undone.
use Rattle.std.specs.Prelude.{◌≡◌, ℕ, ◌+◌, true, List, Option, Some, None, Result, Ok, Err}
use Rattle.std.proofs.Common.{subst}
use Rattle.pm_change.specs.Changes.{Meaning}
use Rattle.pm_history.specs.declared.branch.Event.{Event}
use Rattle.pm_history.specs.declared.turn.Turn.{Turn}
use Rattle.pm_history.specs.declared.branches.MadeBy.TheVariants.{Edit}
use Rattle.pm_history.specs.Histories.{noted_all}
use Rattle.pm_history.specs.Trims.{trimmed}
use Rattle.pm_history.specs.Timelines.{items_from}
use Rattle.pm_authority.specs.declared.running.Refusal.{Refusal}
use Rattle.pm_authority.specs.Runs.{run}
use Rattle.pm_client.specs.declared.client.Client.{Client}
use Rattle.pm_client.specs.Clients.{named, gone_on, tried, edited, event_turned, turned_if}
use Rattle.pm_client.specs.Timelines.{edit_steps}
use Rattle.pm_remote.specs.Bare.{IsBare}

module _ {Rules Doc Reason C : Type 0} (m : Meaning Rules Doc Reason C) (rules : Rules) (c next : Client C Rules Doc Reason) (bare : IsBare c) where
  bare-tried : (cs : List C) (event : Option ℕ) (r : Result Doc (Refusal Reason)) → tried m rules c cs event r ≡ Ok next → IsBare next
  bare-tried cs event (Err e) h = absurd (cc)
  bare-tried cs event (Ok doc) h =
      let is : gone_on m c cs doc (trimmed (noted_all c.history (items_from m rules c.doc (edit_steps (named c.name (c.serials + 1) cs))) (Edit event true))) ≡ next = cc in
      subst (IsBare {Rules = Rules} {Doc = Doc} {Reason = Reason} {C = C}) is bare

  -- steps made
  pub bare-edited : (cs : List C) (event : Option ℕ) → edited m rules c cs event ≡ Ok next → IsBare next
  bare-edited cs event h = bare-tried cs event (run m rules c.doc 0 (named c.name (c.serials + 1) cs)) h

  -- an event undone or redone
  pub bare-turned : (turn : Turn) (o : Option Event) (n : ℕ) → turned_if m rules c turn o ≡ Some (n, next) → IsBare next
  bare-turned turn None n h = absurd (cc)
  bare-turned turn (Some e) n h =
      let is : (event_turned m rules c turn e).1 ≡ next = cc in
      subst (IsBare {Rules = Rules} {Doc = Doc} {Reason = Reason} {C = C}) is bare
