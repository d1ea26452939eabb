use Rattle.std.proofs.Common.{◌++◌, ◌∷◌, [], ap, sym, ◌∙◌, arith}
use Rattle.pm_sized.specs.Pairs.{total_of}
use Rattle.pm_sized.specs.Parts.{values_of}
use Rattle.pm_sized.proofs.FewLaws.{counts-at, one-value}
use Rattle.pm_sized.proofs.append.Chunks+Arc+T+Global.append_one.Goals as goal

pub push-requires-clause-some : goal.push-requires-clause-some
push-requires-clause-some g c = counts-at c.args.source.now.items.items c.args.i c.index-entry.result.now c.requires.source.counts c.requires.within c.index-entry.ensures

pub push-requires-clause-room : goal.push-requires-clause-room
push-requires-clause-room g c =
    omega (arith, c.requires.room, ap total_of (one-value c.args.source.now.items.items c.args.i c.index-entry.result.now c.requires.within c.index-entry.ensures))

pub returns-clause-ok : goal.returns-clause-ok
returns-clause-ok g c =
    let p = c.index-entry.result.now in
    let vs = values_of c.args.self.now in
    c.in_ok-push.ensures.ok ∙ (ap (λ z. vs ++ (z, p.1) ∷ []) c.in_ok-item.ensures
    ∙ ap (λ z. vs ++ z) (sym (one-value c.args.source.now.items.items c.args.i p c.requires.within c.index-entry.ensures)))
