use Rattle.std.proofs.Common.{◌≡◌, ◌∙◌, ◌≤◌, List, ℕ, [], ◌∷◌, ◌++◌, IfOk, string_bytes, subst, ap, sym, arith, Ok}
use Rattle.pm_meaning.specs.Steps.{Step}
use Rattle.pm_archive.specs.declared.archive.Archive.{Archive}
use Rattle.pm_archive.specs.declared.reverting.TheConstants.{MAX_VERSION}
use Rattle.pm_archive.specs.Archives.{version_of}
use Rattle.pm_archive.specs.Answers.{submitted, made}
use Rattle.pm_archive.proofs.Edited.{edited-is}
use Rattle.pm_archive.proofs.archive.Archive.submit_edit.Goals as goal

pub returns-clause-text : goal.returns-clause-text
returns-clause-text c =
    let a : Archive = c.args.self.now in
    let id : List ℕ = c.args.id.now in
    let small : version_of a ≤ MAX_VERSION = omega (arith, c.if-version-gt-MAX_VERSION.false, c.version-version.ensures) in
    let same : c.as_slice.result.now ≡ c.args.step ∷ [] =
    c.as_slice.ensures.value ∙ (c.in_ok-push.ensures.items ∙ ap (λ (xs : List Step). xs ++ c.args.step ∷ []) c.in_ok-steps.ensures.items) in
    let told = subst (λ (xs : List Step). IfOk c.submit_made.result (λ s. string_bytes s ≡ (made a xs (submitted a (version_of a) id xs)).0)) same c.submit_made.ensures.text in
    subst (λ (p : List ℕ × Archive). IfOk c.submit_made.result (λ s. string_bytes s ≡ p.0)) (sym (edited-is a id (c.args.step ∷ []) small)) told
