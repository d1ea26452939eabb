use Rattle.std.proofs.Common.{◌+◌, [], ◌∷◌, length, Some, sym, ap, ◌∙◌, subst, length-append}
use Rattle.std.proofs.lemmas.Option.{slice_get-get_or}
use Rattle.pm_rooms.specs.Parted.{ArePlaces}
use Rattle.pm_rooms.specs.Stands.{HasStand}
use Rattle.pm_rooms.proofs.Partings.{places-next}
use Rattle.pm_rooms.proofs.parting.places_of.Goals as goal

pub stand_of-requires : goal.stand_of-requires
stand_of-requires g c = subst (λ l. HasStand c.args.stands.now l) (sym c.line-item.is) (c.requires c.loop-line.line-index c.line-item.result c.loop-line-test.true)

pub loop-line-preserved : goal.loop-line-preserved
loop-line-preserved g c =
    let i = c.loop-line.invariant in
    let k = c.loop-line.line-index in
    let lines = c.args.lines.now in
    let at = slice_get-get_or lines k c.line-item.result c.loop-line-test.true ∙ ap Some (sym c.line-item.is) in
    record {
      count = ap length c.in_ok-push.ensures.items ∙ length-append c.loop-line.places.items (c.stand_of.result ∷ []) ∙ ap (λ n. n + 1) i.count;
      places = subst (λ l. ArePlaces c.args.stands.now lines l) (sym c.in_ok-push.ensures.items)
          (places-next c.args.stands.now lines c.loop-line.places.items k i.count c.stand_of.result c.line-item.result at c.stand_of.ensures i.places);
    }
