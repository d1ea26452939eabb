use Rattle.std.proofs.Common.{sym, ◌∙◌, ◌≤◌, ◌<◌, length, arith}
use Rattle.std.proofs.lemmas.List.{get_or_past}
use Rattle.pm_sized.specs.Pairs.{parts_of}
use Rattle.pm_sized.proofs.CopyLaws.{length-shared, shared-at}
use Rattle.pm_sized.proofs.groups.Groups.part.Goals as goal

pub returns-then-at-len : goal.returns-then-at-len
returns-then-at-len g c =
    let s = c.args.self.now in
    let lt : c.args.at < length s.parts.items = omega (arith, c.if-at-len.true, c.len.ensures, s.parts.ok.0) in
    c.deref.ensures ∙ shared-at s.parts.items c.args.at c.index.result.now s.rest lt c.index.ensures

pub returns-else-at-len : goal.returns-else-at-len
returns-else-at-len g c =
    let s = c.args.self.now in
    let past : length (parts_of s) ≤ c.args.at = omega (arith, c.if-at-len.false, c.len.ensures, s.parts.ok.0, length-shared s.parts.items) in
    sym (get_or_past (parts_of s) c.args.at s.rest past)
