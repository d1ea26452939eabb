use Rattle.std.proofs.Common.{◌∙◌, sym, string_bytes}
use Rattle.std.specs.Str.{bytes_eq}
use Rattle.pm_schema.proofs.Places.{position-map}
use Rattle.pm_schema.proofs.names.Names.place.Goals as goal

pub returns : goal.returns
returns c = rw (← c.self.view_is) (c.get_index_of.ensures.index ∙ sym (position-map (λ n. bytes_eq c.args.name.now n) string_bytes c.self.inside.names.keys))
