use Rattle.std.proofs.Common.{ap, sym, ◌∙◌, length}
use Rattle.pm_view.proofs.KnownLaws.{viewed-length}
use Rattle.pm_view.proofs.slice_view.SliceView.size.Goals as goal

pub returns : goal.returns
returns c =
    let v = c.self.inside in
    sym (viewed-length v.content.now v.from v.to c.self.invariant.1) ∙ ap length c.self.view_is
