use Rattle.std.proofs.Common.{◌≡◌, ◌∙◌, sym, ap, arith, ◌++◌, length, []}
use Rattle.std.proofs.lemmas.List.{nil_from_length, append-nil}
use Rattle.pm_tokens.specs.Scan.{unclosed}
use Rattle.pm_build.specs.Frames.{frames_tokens}
use Rattle.pm_build.proofs.FrameLaws.{kinds_up, unclosed-fed, length-kinds_up}
use Rattle.pm_build.proofs.builder.Builder.finish.Goals as goal

pub returns : goal.returns
returns c =
    let base = c.self.inside.base in
    let fs = c.self.inside.frames.items in
    let k : kinds_up fs [] ≡ [] = sym (unclosed-fed base fs c.self.invariant) ∙ (ap (unclosed []) c.self.view_is ∙ c.requires) in
    let none : fs ≡ [] = nil_from_length fs (omega (arith, ap length k, length-kinds_up fs [])) in
    sym (append-nil base) ∙ (ap (λ z. base ++ frames_tokens z) (sym none) ∙ c.self.view_is)
