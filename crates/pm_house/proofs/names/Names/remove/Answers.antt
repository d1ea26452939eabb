use Rattle.std.proofs.Common.{◌∙◌, ap, map, string_bytes}
use Rattle.std.specs.Prelude.{remove}
use Rattle.indexmap.proofs.SetLemmas.{map-remove}
use Rattle.pm_house.proofs.names.Names.remove.Goals as goal

pub returns : goal.returns
returns c =
    ap (map string_bytes) c.shift_remove_index-name.ensures.keys
    ∙ (map-remove string_bytes c.self.inside.names.keys c.args.place ∙ ap (λ ks. remove ks c.args.place) c.self.view_is)
