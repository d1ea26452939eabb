use Rattle.std.proofs.Common.{◌∙◌, sym, string_bytes}
use Rattle.std.specs.Str.{bytes_eq}
use Rattle.pm_schema.proofs.Places.{any-map}
use Rattle.pm_schema.proofs.names.Names.has.Goals as goal

pub returns : goal.returns
returns c = rw (← c.self.view_is) (c.contains.ensures ∙ sym (any-map (λ n. bytes_eq c.args.name.now n) string_bytes c.self.inside.names.keys))
