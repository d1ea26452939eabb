use Rattle.std.proofs.Common.{◌≡◌, ap, ◌∙◌, subst}
use Rattle.std.specs.Prelude.{IfOk}
use Rattle.pm_schema.specs.Documents.{documents_of}
use Rattle.pm_slice.specs.Sides.{opens_first}
use Rattle.pm_slice.proofs.SideLaws.{sides-fit}
use Rattle.pm_replace.proofs.KnownSides.{known}
use Rattle.pm_replace.proofs.known.knows_slice.Goals as goal

pub knows_opens-requires : goal.knows_opens-requires
knows_opens-requires c =
    let sl = c.args.slice.now in
    ap (λ n. opens_first n c.content.result.now) c.open_start.ensures.side
    ∙ (ap (opens_first sl.open_start) c.content.ensures ∙ (sides-fit sl.content sl.open_start sl.open_end c.size.ensures.slice).0)

pub returns : goal.returns
returns c =
    let s = documents_of c.args.schema.now.spec in
    let sl = c.args.slice.now in
    subst (λ z. IfOk c.knows_opens.result (λ b. b ≡ z))
    (ap (λ n. known s n c.content.result.now) c.open_start.ensures.side ∙ ap (known s sl.open_start) c.content.ensures)
    c.knows_opens.ensures
