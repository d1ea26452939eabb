use Rattle.std.proofs.Common.{◌≡◌, inr, subst}
use Rattle.pm_call.specs.declared.words.Command.TheVariants.{Gen}
use Rattle.pm_call.specs.Words.{IsBounded}
use Rattle.pm_call.proofs.Obeyed.{as-asked, tells-of, by-case-of}
use Rattle.pm_call.proofs.Made.{made-session}
use Rattle.pm_call.proofs.RoomReports.{all_rooms_apart}
use Rattle.pm_call.proofs.call.run.Goals as goal

pub returns-clause-silent : goal.returns-clause-silent
returns-clause-silent g c = c.obey_any.ensures.silent

pub returns-clause-read_fault : goal.returns-clause-read_fault
returns-clause-read_fault g c = c.obey_any.ensures.read_fault

pub returns-clause-write_fault : goal.returns-clause-write_fault
returns-clause-write_fault g c = c.obey_any.ensures.write_fault

pub returns-clause-no_read_fault : goal.returns-clause-no_read_fault
returns-clause-no_read_fault g c = c.obey_any.ensures.no_read_fault

pub returns-clause-no_write_fault : goal.returns-clause-no_write_fault
returns-clause-no_write_fault g c = c.obey_any.ensures.no_write_fault

pub returns-clause-output : goal.returns-clause-output
returns-clause-output g c asked input is left =
    let same : c.in-Some.command ≡ asked = cc in
    (as-asked c.in-Some.command asked c.obey_any.result _ _ _ _ _ _ _ _ same c.obey_any.ensures).output input left

pub returns-clause-read_whole : goal.returns-clause-read_whole
returns-clause-read_whole g c asked is reads done =
    let same : c.in-Some.command ≡ asked = cc in
    (as-asked c.in-Some.command asked c.obey_any.result _ _ _ _ _ _ _ _ same c.obey_any.ensures).read_whole reads done

pub returns-clause-read_enough : goal.returns-clause-read_enough
returns-clause-read_enough g c asked is reads refused =
    let same : c.in-Some.command ≡ asked = cc in
    (as-asked c.in-Some.command asked c.obey_any.result _ _ _ _ _ _ _ _ same c.obey_any.ensures).read_enough reads refused

pub returns-clause-made : goal.returns-clause-made
returns-clause-made g c asked is =
    let same : c.in-Some.command ≡ asked = cc in
    (as-asked c.in-Some.command asked c.obey_any.result _ _ _ _ _ _ _ _ same c.obey_any.ensures).made

pub returns-clause-complete : goal.returns-clause-complete
returns-clause-complete g c asked is no_read no_write =
    let same : c.in-Some.command ≡ asked = cc in
    (as-asked c.in-Some.command asked c.obey_any.result _ _ _ _ _ _ _ _ same c.obey_any.ensures).complete no_read no_write

pub returns-clause-tells : goal.returns-clause-tells
returns-clause-tells g c asked input is left =
    let same : c.in-Some.command ≡ asked = cc in
    tells-of asked c.obey_any.result _ _ _ _ _ _ _ _ (as-asked c.in-Some.command asked c.obey_any.result _ _ _ _ _ _ _ _ same c.obey_any.ensures) input left

pub returns-clause-by_case : goal.returns-clause-by_case
returns-clause-by_case g c asked input is left no_read no_write =
    let same : c.in-Some.command ≡ asked = cc in
    by-case-of asked c.obey_any.result _ _ _ _ _ _ _ _ (as-asked c.in-Some.command asked c.obey_any.result _ _ _ _ _ _ _ _ same c.obey_any.ensures) input left no_read no_write

pub returns-clause-answers : goal.returns-clause-answers
returns-clause-answers g c asked is h =
    let same : c.in-Some.command ≡ asked = cc in
    (as-asked c.in-Some.command asked c.obey_any.result _ _ _ _ _ _ _ _ same c.obey_any.ensures).answers h

pub returns-clause-session : goal.returns-clause-session
returns-clause-session g c numbers is e =
    let same : c.in-Some.command ≡ Gen numbers = cc in
    made-session numbers c.obey_any.result _ _ _ _ (subst IsBounded same c.in-Some.ensures.bounds) (returns-clause-answers g c (Gen numbers) is (inr e)) e

pub returns-clause-rooms_apart : goal.returns-clause-rooms_apart
returns-clause-rooms_apart g c input = all_rooms_apart input

pub returns-in_default-clause-rooms_apart : goal.returns-in_default-clause-rooms_apart
returns-in_default-clause-rooms_apart g c input = all_rooms_apart input
