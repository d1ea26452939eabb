-- A file that is made from numbers is a session, so what is answered to it is no refusal.
use Rattle.std.proofs.Common.{◌≡◌, ℕ, List, Option, Result, Ok, Err, ◌∙◌, sym}
use Rattle.pm_gen.specs.declared.asking.Asked.{Asked}
use Rattle.pm_gen.specs.Bounds.{InBounds}
use Rattle.pm_gen_laws.proofs.Whole.{never-refused}
use Rattle.pm_head.specs.declared.fault.Refusal.{Refusal}
use Rattle.pm_head.specs.declared.form.Form.TheVariants as form
use Rattle.pm_call.specs.declared.files.FileForm.TheVariants.{OneRoom}
use Rattle.pm_call.specs.Contents.{Content, FileIs}
use Rattle.pm_call.specs.declared.call.Status.{Status}
use Rattle.pm_call.specs.declared.call.Status.TheVariants.{SessionRefused}
use Rattle.pm_call.specs.declared.words.Command.TheVariants.{Gen}
use Rattle.pm_call.specs.Files.{file_of}
use Rattle.pm_call.specs.Output.{status_for, AnswersRead}

pub made-session : (numbers : Asked) (status : Status) (left rest old new : Option (List ℕ)) → InBounds numbers.clients numbers.rounds → AnswersRead (Gen numbers) status left rest old new → status ≡ SessionRefused → ⊥
made-session numbers status left rest old new b a e = at a.written.output.found a.written.output.is (sym e ∙ a.written.output.says)
  where
    at : (found : Result Content Refusal) → FileIs (OneRoom form.Plain) (file_of (Gen numbers) a.input) found → SessionRefused ≡ status_for found → ⊥
    at (Ok s) h f = absurd (cc)
    at (Err refusal) h f = never-refused numbers.clients numbers.rounds numbers.number b refusal h
