use Rattle.std.proofs.Common.{ap, ◌≡◌, ◌∙◌, true, length, subst}
use Rattle.std.specs.Prelude.{nat_lt, Err}
use Rattle.pm_script.specs.declared.session.TheConstants.{MAX_INPUT}
use Rattle.pm_call.specs.Contents.{FileIs}
use Rattle.pm_call.specs.Finding.{found_of}
use Rattle.pm_call.proofs.TooLong.{whole_input, past_limit, no_session}
use Rattle.pm_call.proofs.finding.found_in.Goals as goal

pub returns-in-Err-TooLong-clause-is : goal.returns-in-Err-TooLong-clause-is
returns-in-Err-TooLong-clause-is g c input is =
    let more = c.in-Err-TooLong.ensures.too_long (ap Err c.in-Err-TooLong.field-0-is) in
    let past : nat_lt MAX_INPUT (length input) ≡ true = past_limit _ (g.R.Source.left c.read_all.new.source) more.0 input more.1 more.2 is in
    no_session c.args.form input past

pub returns-in_ok-found_of-in-Ok-clause-is : goal.returns-in_ok-found_of-in-Ok-clause-is
returns-in_ok-found_of-in-Ok-clause-is g c input is =
    let all = c.in-Ok.ensures.all in
    let same : c.in-Ok.input.items ≡ input = whole_input _ (g.R.Source.left c.read_all.new.source) c.in-Ok.input.items input all.0 all.1 is in
    subst (λ i. FileIs c.args.form i (found_of c.in_ok-found_of-in-Ok.field-0)) (c.deref.ensures.value ∙ same) c.in_ok-found_of-in-Ok.ensures.is
