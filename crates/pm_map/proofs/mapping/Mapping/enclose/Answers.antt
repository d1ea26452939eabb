use Rattle.std.proofs.Common.{◌≡◌, rules, length, vec_len}
use Rattle.pm_map.specs.Mirrors.{pushed}
use Rattle.pm_map.proofs.Growths.{paired-enclosed}
use Rattle.pm_map.proofs.mapping.Mapping.enclose.Goals as goal

pub invariant_of-self : goal.invariant_of-self
invariant_of-self c =
    let is : c.self-2.inside.maps.items ≡ pushed c.args.self.now c.args.behind = search rules in
    let n : vec_len c.self.inside.maps ≡ length c.args.self.now = search rules in
    rw (c.in-Ok.ensures.items, is, c.gap-later.ensures, c.len.ensures, n)
    (paired-enclosed c.args.self.now c.args.front c.args.behind c.requires (rw is at c.self-2.invariant))
