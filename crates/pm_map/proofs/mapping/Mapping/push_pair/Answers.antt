use Rattle.std.proofs.Common.{◌≡◌, ◌-◌, rules, length, vec_len, refl}
use Rattle.pm_map.specs.Mirrors.{pushed}
use Rattle.pm_map.proofs.Growths.{paired-with}
use Rattle.pm_map.proofs.Pairs.{noted}
use Rattle.pm_map.proofs.mapping.Mapping.push_pair.Goals as goal

pub invariant_of-self-2 : goal.invariant_of-self-2
invariant_of-self-2 c =
    let ms = c.args.self.now in
    let items : c.push.new.self.items ≡ pushed ms c.args.map = search rules in
    let n : vec_len c.self.inside.maps ≡ length ms = search rules in
    let v : c.self.inside.maps.items ≡ ms = search rules in
    let is = noted ms c.push.new.self.items c.args.map c.args.earlier ((c.len.result - c.args.earlier) - 1) c.index_mut.result.now c.index.result.now c.gap-later.result
    c.requires.earlier_in items c.index_mut.ensures.value (rw v at c.index.ensures) (rw (c.len.ensures, n) refl) c.gap-later.ensures in
    rw is (paired-with ms c.args.map c.args.earlier c.requires.shape (rw v at c.self.invariant))

pub returns-clause-ok : goal.returns-clause-ok
returns-clause-ok c =
    let ms = c.args.self.now in
    let items : c.push.new.self.items ≡ pushed ms c.args.map = search rules in
    let n : vec_len c.self.inside.maps ≡ length ms = search rules in
    let v : c.self.inside.maps.items ≡ ms = search rules in
    noted ms c.push.new.self.items c.args.map c.args.earlier ((c.len.result - c.args.earlier) - 1) c.index_mut.result.now c.index.result.now c.gap-later.result
    c.requires.earlier_in items c.index_mut.ensures.value (rw v at c.index.ensures) (rw (c.len.ensures, n) refl) c.gap-later.ensures
