use Rattle.std.proofs.Common.{sym, ◌∙◌, ◌+◌, ◌<◌, length, arith}
use Rattle.std.proofs.lemmas.Grind.{get_or_default_zero}
use Rattle.std.proofs.lemmas.List.{get_or_past}
use Rattle.pm_sized.proofs.chunk.Chunk.end_of.Goals as goal

pub returns-then-next-len : goal.returns-then-next-len
returns-then-next-len g c =
    let s = c.args.self.now in
    let ss = s.starts.items in
    let j = c.args.i + 1 in
    let lt : j < length ss = omega (arith, c.if-next-len.true, c.len.ensures, s.starts.ok.0) in
    c.index.ensures ∙ (get_or_default_zero ss j c.index.result.now lt ∙ sym (get_or_default_zero ss j s.size lt))

pub returns-else-next-len : goal.returns-else-next-len
returns-else-next-len g c =
    let s = c.args.self.now in
    sym (get_or_past s.starts.items (c.args.i + 1) s.size (omega (arith, c.if-next-len.false, c.len.ensures, s.starts.ok.0)))
