use Rattle.pm_editor.proofs.Following.{views-follow}
use Rattle.pm_editor.proofs.laws.views_follow.Goals as goal

pub returns : goal.returns
returns c = views-follow
