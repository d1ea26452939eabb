use Rattle.pm_script.proofs.OneRooms.{rooms-apart, one-rooms-refusal, one-rooms}
use Rattle.pm_script.proofs.laws.rooms_mean_one.Goals as goal

pub returns-clause-apart : goal.returns-clause-apart
returns-clause-apart c = λ rooms refusal f g. rooms-apart c.args.input.now rooms refusal f g

pub returns-clause-one_refusal : goal.returns-clause-one_refusal
returns-clause-one_refusal c = λ refusal other f g. one-rooms-refusal c.args.input.now refusal other f g

pub returns-clause-one_rooms : goal.returns-clause-one_rooms
returns-clause-one_rooms c = λ rooms others f g. one-rooms c.args.input.now rooms others f g
