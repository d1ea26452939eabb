use Rattle.std.proofs.Common.{subst}
use Rattle.pm_view.specs.Views.{IsView}
use Rattle.pm_view.proofs.slice_view.view.Goals as goal

pub returns : goal.returns
returns c = subst (λ ts. IsView ts c.args.from c.args.to c.view_content.result) c.content-content.ensures c.view_content.ensures
