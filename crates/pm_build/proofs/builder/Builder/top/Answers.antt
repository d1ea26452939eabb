use Rattle.std.proofs.Common.{◌≡◌, ◌∙◌, sym, ap, arith, ◌+◌, ◌-◌, length, []}
use Rattle.std.proofs.lemmas.List.{nil_from_length}
use Rattle.pm_tokens.specs.Scan.{unclosed}
use Rattle.pm_build.specs.Frames.{first_of}
use Rattle.pm_build.proofs.FrameLaws.{kinds_up, unclosed-fed, kinds_last}
use Rattle.pm_build.proofs.builder.Builder.top.Goals as goal

pub returns-then-len-gt0 : goal.returns-then-len-gt0
returns-then-len-gt0 c =
    let fs = c.self.inside.frames.items in
    let v : c.self.inside.frames.len ≡ length fs = c.self.inside.frames.ok.0 in
    let e : (c.len-len.result - 1) + 1 ≡ length fs = omega arith in
    sym (ap first_of (ap (unclosed []) (sym c.self.view_is) ∙ (unclosed-fed c.self.inside.base fs c.self.invariant ∙ kinds_last fs _ c.index.result.now e c.index.ensures)))

pub returns-else-len-gt0 : goal.returns-else-len-gt0
returns-else-len-gt0 c =
    let fs = c.self.inside.frames.items in
    let v : c.self.inside.frames.len ≡ length fs = c.self.inside.frames.ok.0 in
    let none : fs ≡ [] = nil_from_length fs (omega arith) in
    sym (ap first_of (ap (unclosed []) (sym c.self.view_is) ∙ (unclosed-fed c.self.inside.base fs c.self.invariant ∙ ap (λ z. kinds_up z []) none)))
