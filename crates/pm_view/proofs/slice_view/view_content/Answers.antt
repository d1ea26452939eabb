use Rattle.std.proofs.Common.{refl}
use Rattle.pm_view.proofs.KnownLaws.{tokens-viewed}
use Rattle.pm_view.proofs.SlicedLaws.{sliced-viewed}
use Rattle.pm_view.proofs.slice_view.view_content.Goals as goal

pub returns : goal.returns
returns c =
    let ts = c.args.content.now in
    let from = c.args.from in
    let to = c.args.to in
    let r = c.requires in
    record {
      in_range = (r.order, r.within);
      is = refl;
      tokens = tokens-viewed ts from to;
      slice = sliced-viewed ts from to c.size.ensures.whole r.order r.within;
    }
