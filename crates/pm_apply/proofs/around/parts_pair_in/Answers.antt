use Rattle.std.proofs.Common.{◌+◌, ap, ◌∙◌}
use Rattle.pm_tokens.specs.Scan.{parts_pair}
use Rattle.pm_apply.proofs.SlicePairs.{parts-pair-in}
use Rattle.pm_apply.proofs.around.parts_pair_in.Goals as goal

pub returns : goal.returns
returns c =
    c.parts_pair.ensures ∙ (ap (λ z. parts_pair z (c.open_start.result + c.args.insert)) c.content-content.ensures
    ∙ parts-pair-in c.args.slice.now c.args.insert c.open_start.result c.size.ensures.slice c.requires c.open_start.ensures.side)
