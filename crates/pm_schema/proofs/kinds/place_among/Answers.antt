use Rattle.std.proofs.Common.{◌∙◌, sym}
use Rattle.std.specs.Str.{bytes_eq}
use Rattle.pm_schema.specs.Types.{declared}
use Rattle.pm_schema.proofs.Places.{position-map}
use Rattle.pm_schema.proofs.kinds.place_among.Goals as goal

pub returns-clause-place : goal.returns-clause-place
returns-clause-place c = c.first_place.ensures.place ∙ sym (position-map (λ a. bytes_eq c.args.name.now a.name) declared c.args.attrs.now)
