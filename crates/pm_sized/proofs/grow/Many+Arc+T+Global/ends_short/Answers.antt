use Rattle.std.proofs.Common.{◌≡◌, ◌-◌, ◌≤◌, ap, ◌∙◌, length, get_or, arith}
use Rattle.std.proofs.lemmas.Bool.{ltb-false}
use Rattle.pm_sized.proofs.LastLaws.{split-last, full-all}
use Rattle.pm_sized.specs.Parts.{all_but_last}
use Rattle.pm_sized.proofs.grow.Many+Arc+T+Global.ends_short.Goals as goal

pub returns-then-count-gt0-clause-no : goal.returns-then-count-gt0-clause-no
returns-then-count-gt0-clause-no g c = λ no.
    let s = c.args.self.now in
    let cs = s.chunks.items in
    let last = c.index.result.now in
    let n : c.len-count.result - 1 ≡ length cs - 1 = omega (arith, c.len-count.ensures, s.chunks.ok.0) in
    let was = split-last cs last (omega (arith, c.if-count-gt0.true, c.len-count.ensures, s.chunks.ok.0)) (c.index.ensures ∙ ap (λ z. get_or cs z last) n) in
    let many : 32 ≤ c.len.result = ltb-false c.len.result 32 no in
    full-all (all_but_last cs) cs last was c.requires.laid.chunks (omega (arith, many, c.len.ensures, c.deref.result.now.items.ok.0, ap (λ z. length z.items.items) c.deref.ensures))
