use Rattle.std.proofs.Common.{◌≡◌, ◌∙◌, ◌-◌, ℕ, List, take, ap, sym, subst, Ok, Err}
use Rattle.pm_schema.specs.declared.schema.Schema.{Schema}
use Rattle.pm_meaning.specs.Steps.{Step}
use Rattle.pm_apply.specs.Changes.{meaning}
use Rattle.pm_change.specs.Failing.{Answers}
use Rattle.pm_authority.specs.declared.named.Named.{Named}
use Rattle.pm_authority.specs.Runs.{run}
use Rattle.pm_archive.proofs.Fronts.{never-refused}
use Rattle.pm_archive.proofs.Earlier.{run-at, last-at}
use Rattle.pm_archive.proofs.archive.Archive.old_doc.Goals as goal

pub unreachable-requires : goal.unreachable-requires
unreachable-requires c =
    let a = c.args.self.now in
    let n : ℕ = c.args.version - a.from in
    let f = c.in-Err-Reason.field-0 in
    let steps : c.front-steps.result.now ≡ take n a.log = c.front-steps.ensures ∙ ap (λ (xs : List (Named Step)). take n xs) c.as_slice.ensures in
    never-refused meaning a.schema a.first a.doc a.log n f c.in-Err-Reason.field-0-0 c.requires.good.folded c.in-Err-Reason.field-0-is
    (subst (λ (xs : List (Named Step)). Answers (run meaning a.schema a.first 0 xs) (Err f)) steps
    (subst (λ (s : Schema). Answers (run meaning s a.first 0 c.front-steps.result.now) (Err f)) c.get.ensures c.in-Err-Reason.ensures))

pub returns-in-Ok : goal.returns-in-Ok
returns-in-Ok c =
    let a = c.args.self.now in
    let n : ℕ = c.args.version - a.from in
    let doc = c.in-Ok.doc in
    let steps : c.front-steps.result.now ≡ take n a.log = c.front-steps.ensures ∙ ap (λ (xs : List (Named Step)). take n xs) c.as_slice.ensures in
    run-at a c.args.version doc
    (subst (λ (xs : List (Named Step)). run meaning a.schema a.first 0 xs ≡ Ok doc) steps
    (subst (λ (s : Schema). run meaning s a.first 0 c.front-steps.result.now ≡ Ok doc) c.get.ensures c.in-Ok.ensures))
