use Rattle.std.proofs.Common.{◌≡◌, ◌∙◌, ap, arith, ◌++◌, length, min}
use Rattle.std.proofs.lemmas.Result.{IfOk-equal}
use Rattle.pm_tokens.specs.Scan.{part}
use Rattle.pm_tokens.specs.Kids.{text_tokens}
use Rattle.pm_build.proofs.FedLaws.{part_clip}
use Rattle.pm_node.proofs.TreeLaws.{length-text_tokens}
use Rattle.pm_build.proofs.builder.Builder.feed_text.Goals as goal
use Rattle.pm_build.proofs.builder.Builder.feed_text.Goals.{After-push_copy-arg-1}
use Rattle.pm_tokens.proofs.OwnedParts.{length-part}

cut_is : (c : After-push_copy-arg-1) → c.in_ok-units.units ≡ part c.args.from c.args.to c.args.units.now
cut_is c =
    let us = c.args.units.now in
    let a : c.min-end.result ≡ min (length us) c.args.to = c.min-end.ensures ∙ ap (λ z. min z c.args.to) c.len.ensures in
    let b : c.min.result ≡ min (min (length us) c.args.to) c.args.from = c.min.ensures ∙ ap (λ z. min z c.args.from) a in
    c.in_ok-units.ensures ∙ (ap (λ z. part z c.min-end.result us) b ∙ (ap (λ z. part (min (min (length us) c.args.to) c.args.from) z us) a ∙ part_clip c.args.from c.args.to us c.requires.some))

pub push_copy-requires : goal.push_copy-requires
push_copy-requires c =
    omega (arith, c.requires.room, ap length (cut_is c), length-part c.args.from c.args.to c.args.units.now, length-text_tokens c.args.head.now.marks c.in_ok-units.units)

pub returns : goal.returns
returns c =
    IfOk-equal c.push_copy.result _ _ _ c.push_copy.ensures (ap (λ z. c.args.self.now ++ text_tokens c.args.head.now.marks z) (cut_is ((goal.at.returns c).After-push_copy-arg-1)))
