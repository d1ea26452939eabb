use Rattle.std.proofs.Common.{◌∙◌, ap, ◌++◌, ◌∷◌}
use Rattle.pm_tokens.specs.Tokens.{Open}
use Rattle.pm_build.specs.Frames.{frames_tokens}
use Rattle.pm_build.proofs.FrameLaws.{fed-push, whole-push}
use Rattle.pm_build.proofs.builder.Builder.open.Goals as goal

pub invariant_of-self-2 : goal.invariant_of-self-2
invariant_of-self-2 c =
    rw c.in_ok-push.ensures.items (record { at_base = c.self.invariant.at_base; at_frames = whole-push c.self.inside.frames.items _ c.self.invariant.at_frames c.size.ensures.whole })

pub returns : goal.returns
returns c =
    let base = c.self.inside.base in
    ap (λ z. base ++ frames_tokens z) c.in_ok-push.ensures.items ∙ (fed-push base c.self.inside.frames.items _ ∙ (ap (λ z. z ++ (Open c.args.kind c.args.attrs c.args.marks ∷ c.new-content.result)) c.self.view_is ∙ ap (λ z. c.args.self.now ++ (Open c.args.kind c.args.attrs c.args.marks ∷ z)) c.new-content.ensures))
