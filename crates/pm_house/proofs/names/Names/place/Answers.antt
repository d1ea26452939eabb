use Rattle.std.proofs.Common.{◌∙◌, sym, string_bytes}
use Rattle.std.specs.Str.{bytes_eq}
use Rattle.pm_house.proofs.Places.{position-map, any-map}
use Rattle.pm_house.proofs.names.Names.place.Goals as goal

pub returns-clause-place : goal.returns-clause-place
returns-clause-place c = rw (← c.self.view_is) (c.get_index_of.ensures.index ∙ sym (position-map (λ n. bytes_eq c.args.name.now n) string_bytes c.self.inside.names.keys))

pub returns-clause-has : goal.returns-clause-has
returns-clause-has c = rw (← c.self.view_is) (c.get_index_of.ensures.found ∙ sym (any-map (λ n. bytes_eq c.args.name.now n) string_bytes c.self.inside.names.keys))
