use Rattle.std.proofs.Common.{[], ◌∷◌, ap, ◌∙◌, arith}
use Rattle.pm_sized.specs.Pairs.{many_pairs}
use Rattle.pm_sized.specs.Parts.{values_in}
use Rattle.pm_sized.proofs.PartLaws.{total-values, values-append}
use Rattle.pm_sized.proofs.grow.Many+Arc+T+Global.push.Goals as goal

pub grow-requires-clause-room : goal.grow-requires-clause-room
grow-requires-clause-room g c = omega (arith, c.requires.room, total-values (many_pairs c.args.self.now))

pub returns-in_default-clause-ok : goal.returns-in_default-clause-ok
returns-in_default-clause-ok g c =
    let s = many_pairs c.args.self.now in
    let h = rw c.in_default.is at c.in_ok-item.ensures.ok in
    ap values_in h ∙ values-append s ((c.args.item, c.args.measure) ∷ [])
