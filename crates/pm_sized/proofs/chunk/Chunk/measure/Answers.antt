use Rattle.std.proofs.Common.{◌≡◌, ◌<◌, ◌+◌, ◌-◌, ap, sym, ◌∙◌, length, get_or, arith}
use Rattle.std.proofs.lemmas.Grind.{get_or_default_zero}
use Rattle.pm_sized.proofs.PartLaws.{measure-at, rises-at}
use Rattle.pm_sized.proofs.chunk.Chunk.measure.Goals as goal

pub overflow_sub-result : goal.overflow_sub-result
overflow_sub-result g c =
    let s = c.args.self.now in
    let ss = s.starts.items in
    let i = c.args.i in
    let k = c.requires.counted in
    let lt : i < length ss = omega (arith, c.requires.within, k.same) in
    let start : c.index.result.now ≡ get_or ss i s.size = c.index.ensures ∙ (get_or_default_zero ss i c.index.result.now lt ∙ sym (get_or_default_zero ss i s.size lt)) in
    omega (arith, start, c.end_of.ensures, rises-at ss s.size i k.rises lt)

pub returns-clause-is : goal.returns-clause-is
returns-clause-is g c x =
    let s = c.args.self.now in
    let ss = s.starts.items in
    let i = c.args.i in
    let k = c.requires.counted in
    let lt : i < length ss = omega (arith, c.requires.within, k.same) in
    let start : c.index.result.now ≡ get_or ss i s.size = c.index.ensures ∙ (get_or_default_zero ss i c.index.result.now lt ∙ sym (get_or_default_zero ss i s.size lt)) in
    ap (λ z. z - c.index.result.now) c.end_of.ensures ∙ (ap (λ z. get_or ss (i + 1) s.size - z) start ∙ sym (measure-at s i x k c.requires.within))

pub returns-clause-some : goal.returns-clause-some
returns-clause-some g c =
    let s = c.args.self.now in
    let ss = s.starts.items in
    let i = c.args.i in
    let k = c.requires.counted in
    let lt : i < length ss = omega (arith, c.requires.within, k.same) in
    let start : c.index.result.now ≡ get_or ss i s.size = c.index.ensures ∙ (get_or_default_zero ss i c.index.result.now lt ∙ sym (get_or_default_zero ss i s.size lt)) in
    omega (arith, start, c.end_of.ensures, rises-at ss s.size i k.rises lt)
