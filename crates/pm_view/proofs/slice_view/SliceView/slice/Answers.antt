use Rattle.std.proofs.Common.{◌≡◌, ap, sym, ◌∙◌, subst, IfOk}
use Rattle.pm_view.specs.Sliced.{sliced}
use Rattle.pm_view.proofs.SlicedLaws.{sliced-viewed}
use Rattle.pm_view.proofs.slice_view.SliceView.slice.Goals as goal

pub returns : goal.returns
returns c =
    let v = c.self.inside in
    let is = sym (sliced-viewed v.content.now v.from v.to c.size.ensures.whole c.self.invariant.0 c.self.invariant.1) ∙ ap sliced c.self.view_is in
    subst (λ z. IfOk c.cut_content.result (λ s. s ≡ z)) is c.cut_content.ensures
