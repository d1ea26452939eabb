use Rattle.std.proofs.Common.{◌++◌, ◌∷◌, [], ap, sym, ◌∙◌, arith}
use Rattle.pm_sized.specs.Pairs.{many_pairs, total_of}
use Rattle.pm_sized.specs.Parts.{values_of}
use Rattle.pm_sized.proofs.FewLaws.{entry-is}
use Rattle.pm_sized.proofs.PartLaws.{length-values}
use Rattle.pm_sized.proofs.append.Chunks+Arc+T+Global.append_item.Goals as goal

pub item-requires-clause-within : goal.item-requires-clause-within
item-requires-clause-within g c = omega (arith, c.requires.within, length-values (many_pairs c.args.source.now))

pub measure-requires-clause-within : goal.measure-requires-clause-within
measure-requires-clause-within g c = omega (arith, c.requires.within, length-values (many_pairs c.args.source.now))

pub push-requires-clause-room : goal.push-requires-clause-room
push-requires-clause-room g c =
    let ps = many_pairs c.args.source.now in
    let x = c.item.result.now in
    let e = entry-is ps c.args.i x c.measure.result (omega (arith, c.requires.within, length-values ps)) c.item.ensures (c.measure.ensures.is x) in
    omega (arith, c.requires.room, ap total_of e)

pub returns-clause-ok : goal.returns-clause-ok
returns-clause-ok g c =
    let ps = many_pairs c.args.source.now in
    let x = c.item.result.now in
    let vs = values_of c.args.self.now in
    let e = entry-is ps c.args.i x c.measure.result (omega (arith, c.requires.within, length-values ps)) c.item.ensures (c.measure.ensures.is x) in
    c.in_ok-push.ensures.ok ∙ (ap (λ z. vs ++ (z, c.measure.result) ∷ []) c.in_ok-item.ensures ∙ ap (λ z. vs ++ z) (sym e))
