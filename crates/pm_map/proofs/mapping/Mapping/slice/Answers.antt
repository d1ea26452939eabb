use Rattle.std.proofs.Common.{◌≡◌, ◌∙◌, ap, drop}
use Rattle.pm_map.proofs.Pairs.{paired-drop, to-end}
use Rattle.pm_map.proofs.mapping.Mapping.slice.Goals as goal

pub invariant_of-result : goal.invariant_of-result
invariant_of-result c =
    let is : c.in_ok-copy_maps.field-0.items ≡ drop c.args.from c.self.inside.maps.items =
    c.in_ok-copy_maps.ensures ∙ to-end c.deref.result.now c.args.from ∙ ap (drop c.args.from) c.deref.ensures.value in
    rw is (paired-drop c.self.inside.maps.items c.args.from c.self.invariant)
