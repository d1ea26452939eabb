use Rattle.pm_call.proofs.SameReports.{one-report}
use Rattle.pm_call.proofs.OneOutput.{one-count, check-output, replay-output, gen-output, late-output, at-output, rooms-output}
use Rattle.pm_call.proofs.one_output.output_is_one.Goals as goal

pub returns-clause-one_report : goal.returns-clause-one_report
returns-clause-one_report c = λ s t f g. one-report c.args.input.now s t f g

pub returns-clause-one_count : goal.returns-clause-one_count
returns-clause-one_count c = λ s t f g. one-count c.args.input.now s t f g

pub returns-clause-check : goal.returns-clause-check
returns-clause-check c = λ text other a b x y. check-output c.args.input.now text other a b x y

pub returns-clause-replay : goal.returns-clause-replay
returns-clause-replay c = λ text other a b x y. replay-output c.args.input.now text other a b x y

pub returns-clause-made : goal.returns-clause-made
returns-clause-made c = λ asked text other a b x y. gen-output asked c.args.input.now text other a b x y

pub returns-clause-late : goal.returns-clause-late
returns-clause-late c = λ text other a b x y. late-output c.args.input.now text other a b x y

pub returns-clause-version : goal.returns-clause-version
returns-clause-version c = λ n text other a b x y. at-output n c.args.input.now text other a b x y

pub returns-clause-rooms : goal.returns-clause-rooms
returns-clause-rooms c = λ text other a b x y. rooms-output c.args.input.now text other a b x y
