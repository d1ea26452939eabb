use Rattle.std.proofs.Common.{◌≡◌, [], subst, sym}
use Rattle.pm_call.specs.Contents.{FileIs}
use Rattle.pm_call.specs.declared.words.Command.{Command}
use Rattle.pm_call.specs.declared.words.Command.TheVariants.{Gen}
use Rattle.pm_call.specs.Files.{file_of, form_of}
use Rattle.pm_call.specs.Finding.{found_of}
use Rattle.pm_call.proofs.TooLong.{nothing-read}
use Rattle.pm_call.proofs.finding.found_for.Goals as goal

-- `gen` plays the file that was made, whatever the input is
pub returns-in_ok-found_made-in-Gen-clause-is : goal.returns-in_ok-found_made-in-Gen-clause-is
returns-in_ok-found_made-in-Gen-clause-is g c input told =
    let asks : c.args.command ≡ Gen c.in-Gen.asked = cc in
    let found = c.in_ok-found_made-in-Gen.field-0 in
    subst (λ (k : Command). FileIs (form_of k) (file_of k input) (found_of found)) (sym asks) c.in_ok-found_made-in-Gen.ensures.is

pub returns-in_ok-found_made-in-Gen-clause-took : goal.returns-in_ok-found_made-in-Gen-clause-took
returns-in_ok-found_made-in-Gen-clause-took g c =
    let asks : c.args.command ≡ Gen c.in-Gen.asked = cc in
    let found = c.in_ok-found_made-in-Gen.field-0 in
    let is = subst (λ (k : Command). FileIs (form_of k) (file_of k []) (found_of found)) (sym asks) c.in_ok-found_made-in-Gen.ensures.is in
    ([], nothing-read (g.R.Source.left c.args.source.now), is)
