use Rattle.std.proofs.Common.{◌∙◌, ap, sym, take, drop, take-append-drop}
use Rattle.pm_map.specs.Moves.{is_before, kept_at}
use Rattle.pm_map.specs.Through.{through_from}
use Rattle.pm_map.proofs.Joins.{goes-on}
use Rattle.pm_map.proofs.laws.drops_front.Goals as goal

pub returns : goal.returns
returns c = λ h p side.
    let ms = c.args.mapping.now in
    let k = c.args.count in
    ap (λ es. through_from es 0 (is_before side) (kept_at p)) (sym (take-append-drop k ms)) ∙ goes-on (take k ms) (drop k ms) (is_before side) p h
