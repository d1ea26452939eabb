use Rattle.std.proofs.Common.{◌≡◌, ◌∙◌, rules}
use Rattle.pm_map.proofs.Numbered.{partner-at}
use Rattle.pm_map.proofs.mapping.Mapping.map_at.Goals as goal

pub returns : goal.returns
returns c =
    let v : c.self.inside.maps.items ≡ c.args.self.now = search rules in
    c.copy.ensures ∙ partner-at c.args.self.now c.args.i c.index.result.now c.requires (rw v at c.index.ensures)
