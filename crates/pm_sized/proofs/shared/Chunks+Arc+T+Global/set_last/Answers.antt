use Rattle.std.proofs.Common.{◌++◌, ◌∷◌, [], ap, sym, ◌∙◌, arith}
use Rattle.std.specs.Arc.{arc_value}
use Rattle.pm_sized.specs.Pairs.{total_of}
use Rattle.pm_sized.specs.Parts.{all_but_last, values_of}
use Rattle.pm_sized.proofs.PartLaws.{total-values}
use Rattle.pm_sized.proofs.FewLaws.{front-values, values-last}
use Rattle.pm_sized.proofs.shared.Chunks+Arc+T+Global.set_last.Goals as goal

pub set_last-requires-clause-room : goal.set_last-requires-clause-room
set_last-requires-clause-room g c =
    let ps = c.in-Few.few.items.items in
    omega (arith, c.requires.room, ap (λ z. total_of (all_but_last (values_of z))) c.in-Few.is, total-values (all_but_last ps), ap total_of (front-values ps))

pub returns-in-Few-clause-ok : goal.returns-in-Few-clause-ok
returns-in-Few-clause-ok g c =
    let ps = c.in-Few.few.items.items in
    values-last ps c.set_last.new.self.items.items c.args.item c.args.measure c.set_last.ensures.items ∙ ap (λ z. all_but_last (values_of z) ++ (arc_value c.args.item, c.args.measure) ∷ []) (sym c.in-Few.is)
