-- What making own steps gives.
use Rattle.std.specs.Prelude.{List, Result, Ok, Err}
use Rattle.pm_change.specs.Changes.{Meaning}
use Rattle.pm_authority.specs.declared.named.Named.{Named}
use Rattle.pm_authority.specs.declared.running.Refusal.{Refusal}
use Rattle.pm_authority.specs.Runs.{run}
use Rattle.pm_history.specs.Timelines.{items_from}
use Rattle.pm_client.specs.declared.making.Made.{Made}
use Rattle.pm_client.specs.Timelines.{edit_steps}

module _ {Rules Doc Reason C : Type 0} (m : Meaning Rules Doc Reason C) (rules : Rules) where
  -- the document that the steps lead to, and their items
  abbrev pub made_where : Doc → List (Named C) → Result Doc (Refusal Reason) → Result (Made Doc C) (Refusal Reason)
  made_where doc ns (Ok end) = Ok (record { doc = end; items = items_from m rules doc (edit_steps ns) })
  made_where doc ns (Err r) = Err r

  -- own steps of an edit, one after another, or the first of them that does not apply
  abbrev pub made_all : Doc → List (Named C) → Result (Made Doc C) (Refusal Reason)
  made_all doc ns = made_where doc ns (run m rules doc 0 ns)
