use Rattle.std.proofs.Common.{◌≡◌, ◌++◌, sym, ap, ◌∙◌}
use Rattle.pm_tokens.specs.Kids.{text_tokens}
use Rattle.pm_node.proofs.TreeLaws.{text_tokens-append}
use Rattle.pm_build.proofs.typing.with_letters.Goals as goal

pub returns-in-Some : goal.returns-in-Some
returns-in-Some c =
    let m = c.args.marks.now in
    let us = c.args.units in
    let more = c.in-Some.more.now in
    let joined : c.in_ok-join-in-Some.field-0 ≡ us ++ more = cc (c.in_ok-join-in-Some.ensures, c.units.view_is) in
    ap (text_tokens m) joined ∙ (text_tokens-append m us more ∙ ap (λ z. text_tokens m us ++ z) (sym c.in-Some.ensures))
