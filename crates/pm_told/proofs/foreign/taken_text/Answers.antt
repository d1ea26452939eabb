use Rattle.std.specs.Prelude.{codes, decimal, ◌++◌}
use Rattle.std.proofs.Common.{ap}
use Rattle.pm_told.specs.Texts.{numbers_text}
use Rattle.pm_told.specs.Showing.{positions_of, back_of, shown_text}
use Rattle.pm_told.specs.Previews.{views_by}
use Rattle.pm_told.proofs.Tellings.{taken-joined}
use Rattle.pm_told.proofs.foreign.taken_text.Goals as goal

pub returns : goal.returns
returns c =
    let view = views_by c.args.shown.now in
    taken-joined _ _ _ _ _ (codes "{\"back\":") (decimal c.back_of-back.result) (decimal (back_of view)) (codes ",\"confirmed\":") (decimal c.args.confirmed)
    (codes ",\"cursors\":") (numbers_text (positions_of c.args.cursors.now)) (codes ",\"dropped\":") (numbers_text c.args.dropped.now)
    (codes ",\"foreign\":") (decimal c.args.foreign) (codes ",\"pairs\":") (shown_text c.args.schema.now.spec view)
    (codes ",\"version\":" ++ (decimal c.args.version ++ codes "}\n"))
    (ap decimal c.back_of-back.ensures)
    c.in_ok-text.ensures.ok c.in_ok-push_places.ensures c.in_ok-write.ensures.bytes c.in_ok-push_shown.ensures c.in_ok-write-2.ensures.bytes
