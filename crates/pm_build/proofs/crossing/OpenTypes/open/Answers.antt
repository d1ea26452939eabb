use Rattle.std.proofs.Common.{◌∷◌, [], ap, ◌∙◌}
use Rattle.std.specs.Prelude.{reverse}
use Rattle.std.proofs.lemmas.List.{reverse-append}
use Rattle.pm_build.proofs.crossing.OpenTypes.open.Goals as goal

pub returns : goal.returns
returns c =
    ap reverse c.in_ok-push.ensures.items ∙ (reverse-append c.self.inside.kinds.items (c.args.kind ∷ []) ∙ ap (λ z. c.args.kind ∷ z) c.self.view_is)
