use Rattle.std.proofs.Common.{ℕ, List, ◌∙◌, subst}
use Rattle.std.specs.Prelude.{IfOk}
use Rattle.pm_head.specs.declared.form.Form.TheVariants.{Plain}
use Rattle.pm_call.specs.declared.files.FileForm.TheVariants.{OneRoom}
use Rattle.pm_call.specs.Contents.{FileIs}
use Rattle.pm_call.specs.Finding.{found_of}
use Rattle.pm_call.proofs.finding.found_made.Goals as goal

-- what was read are the bytes that were made
pub returns-clause-is : goal.returns-clause-is
returns-clause-is c =
    subst (λ (bytes : List ℕ). IfOk c.found_of.result (λ f. FileIs (OneRoom Plain) bytes (found_of f))) (c.as_bytes.ensures.value ∙ c.in_ok-file.ensures) c.found_of.ensures.is
