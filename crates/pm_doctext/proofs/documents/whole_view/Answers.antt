use Rattle.std.proofs.Common.{◌∙◌}
use Rattle.pm_doctext.proofs.Between.{whole-view}
use Rattle.pm_doctext.proofs.documents.whole_view.Goals as goal

pub returns : goal.returns
returns c = c.in-Ok.ensures.is ∙ whole-view c.args.document.now.tokens c.size-size.result c.size-size.ensures
