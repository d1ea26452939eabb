use Rattle.std.proofs.Common.{◌++◌, ◌∷◌, [], ap, sym, ◌∙◌, subst, arith}
use Rattle.std.specs.declared.sync.Arc.{Arc}
use Rattle.std.specs.declared.alloc.Global.{Global}
use Rattle.std.specs.Arc.{arc_value}
use Rattle.std.proofs.lemmas.Result.{on_ok_weaker}
use Rattle.pm_sized.specs.Pairs.{total_of}
use Rattle.pm_sized.specs.declared.chunks.Chunks.{Chunks}
use Rattle.pm_sized.specs.Parts.{values_of, IsBelow}
use Rattle.pm_sized.proofs.PartLaws.{total-values}
use Rattle.pm_sized.proofs.FewLaws.{values-push}
use Rattle.pm_sized.proofs.shared.Chunks+Arc+T+Global.push.Goals as goal

pub push-requires-clause-fewer : goal.push-requires-clause-fewer
push-requires-clause-fewer g c =
    let P : Chunks (Arc g.row.T.Denot Global) → Type 0 = IsBelow 6 in
    subst P c.in-Few.is (c.in_ok-deepen.ensures.below 6 c.in_ok-widen.ensures.below)

pub push-requires-clause-room : goal.push-requires-clause-room
push-requires-clause-room g c =
    omega (arith, c.requires.room, ap (λ z. total_of (values_of z)) c.in-Few.is, ap total_of c.in_ok-widen.ensures.values, ap total_of c.in_ok-deepen.ensures.values, total-values c.in-Few.few.items.items)

pub returns-in-Few-clause-ok : goal.returns-in-Few-clause-ok
returns-in-Few-clause-ok g c =
    let x = c.args.item in
    let m = c.args.measure in
    let same = sym (ap values_of c.in-Few.is) ∙ (c.in_ok-deepen.ensures.values ∙ c.in_ok-widen.ensures.values) in
    on_ok_weaker c.push.result (λ h. values-push c.in-Few.few.items.items c.push.new.self.items.items x m h ∙ ap (λ z. z ++ (arc_value x, m) ∷ []) same) c.push.ensures.ok
