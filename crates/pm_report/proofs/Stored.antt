-- The steps of a log apply one after another to valid documents, so that each can be stored.
use Rattle.std.specs.Prelude.{◌≡◌, List, [], ◌∷◌, Some}
use Rattle.std.specs.List.{AllByRecursion}
use Rattle.std.proofs.lemmas.List.Elements.{All-from_recursion}
use Rattle.pm_change.specs.Changes.{fold}
use Rattle.pm_change.proofs.Folds.{fold-cons}
use Rattle.pm_tokens.specs.Tokens.{Doc}
use Rattle.pm_tokens.specs.Faults.{Valid}
use Rattle.pm_schema.specs.declared.schema.Schema.{Schema}
use Rattle.pm_schema.specs.Documents.{documents_of}
use Rattle.pm_meaning.specs.Steps.{Step}
use Rattle.pm_meaning.proofs.StepLaws.{good}
use Rattle.pm_apply.specs.Changes.{meaning}
use Rattle.pm_authority.specs.declared.named.Named.{Named}
use Rattle.pm_authority.specs.Runs.{changes_of}
use Rattle.pm_stepjson.specs.Writable.{IsStorable}
use Rattle.pm_stepjson.proofs.Applied.{applied-storable}
use Rattle.pm_report.specs.Stored.{LogIsStorable}

module _ (s : Schema) where
  abbrev Storable : Named Step → Type 0
  Storable n = IsStorable s.spec n.change

  each-storable : (d end : Doc) (log : List (Named Step)) → Valid (documents_of s.spec) d → fold meaning s d (changes_of log) ≡ Some end → AllByRecursion Storable log
  each-storable d end [] v h = tt
  each-storable d end (n ∷ log) v h =
      let f = fold-cons meaning s d end n.change (changes_of log) h in
      (applied-storable s.spec n.change d f.0 v f.1, each-storable f.0 end log (good (documents_of s.spec) n.change d f.0 v f.1) f.2)

  pub log-storable : LogIsStorable s
  log-storable = λ a kept. All-from_recursion Storable a.log (each-storable a.first a.doc a.log kept.first_good kept.folded)
