use Rattle.std.proofs.Common.{◌∙◌, ap, sym, string_bytes, map, take}
use Rattle.std.proofs.lemmas.List.{take-map}
use Rattle.pm_house.proofs.names.Names.truncate.Goals as goal

pub returns : goal.returns
returns c = ap (map string_bytes) c.truncate.ensures.keys ∙ (sym (take-map string_bytes c.args.count c.self.inside.names.keys) ∙ ap (λ ks. take c.args.count ks) c.self.view_is)
