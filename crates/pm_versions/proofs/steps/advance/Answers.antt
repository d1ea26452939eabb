use Rattle.std.proofs.Common.{rules, ◌≡◌, ◌+◌, ◌∷◌, drop, subst}
use Rattle.std.proofs.lemmas.List.{drop_more}
use Rattle.pm_authority.specs.Runs.{AllApply}
use Rattle.pm_versions.proofs.Parts.{applies-first}
use Rattle.pm_versions.proofs.steps.advance.Goals as goal

pub apply_counted-requires-clause-applies : goal.apply_counted-requires-clause-applies
apply_counted-requires-clause-applies g c =
    let m = g.C.Change.means in
    let rules_now = c.args.rules.now in
    let i = c.loop-step.step-index in
    let changes = c.args.changes.now in
    let rest : drop i changes ≡ c.step-item.result ∷ drop (i + 1) changes = search (rules, drop_more) in
    let end = c.requires.applies.0 in
    let goes = c.loop-step.invariant.goes end c.requires.applies.1 in
    let f = applies-first m rules_now c.loop-step.so_far end c.step-item.result (drop (i + 1) changes) (subst (λ l. AllApply m rules_now c.loop-step.so_far l end) rest goes) in
    (f.0, f.1)
