use Rattle.std.proofs.Common.{◌≡◌, length, arith}
use Rattle.pm_sized.specs.Pairs.{parts_of}
use Rattle.pm_sized.proofs.GroupLaws.{rest-start, group-total}
use Rattle.pm_sized.proofs.CopyLaws.{length-shared}
use Rattle.pm_sized.proofs.groups.Groups.total.Goals as goal

pub index-requires : goal.index-requires
index-requires g c =
    let s = c.args.self.now in
    omega (arith, c.len.ensures, s.parts.ok.0, s.starts.ok.0, length-shared s.parts.items, c.requires.laid.starts_count)

pub overflow_add-result : goal.overflow_add-result
overflow_add-result g c =
    let s = c.args.self.now in
    let h = c.requires.laid in
    let n : c.len.result ≡ length (parts_of s) = omega (arith, c.len.ensures, s.parts.ok.0, length-shared s.parts.items) in
    omega (arith, rest-start s h c.len.result c.index.result.now n c.index.ensures, h.rest.total, group-total s, h.bound)

pub returns : goal.returns
returns g c =
    let s = c.args.self.now in
    let h = c.requires.laid in
    let n : c.len.result ≡ length (parts_of s) = omega (arith, c.len.ensures, s.parts.ok.0, length-shared s.parts.items) in
    omega (arith, rest-start s h c.len.result c.index.result.now n c.index.ensures, h.rest.total, group-total s)
