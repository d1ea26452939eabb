use Rattle.pm_map.proofs.Sizes.{all-fit}
use Rattle.pm_map.proofs.laws.fits_has_room.Goals as goal

pub returns : goal.returns
returns c = λ sizes p side h l. all-fit c.args.mapping.now sizes p side c.paired.ensures h l
