use Rattle.std.proofs.Common.{subst, sym, ap, ◌∙◌}
use Rattle.std.specs.Prelude.{List}
use Rattle.pm_map.specs.declared.mapping.Mirrored.{Mirrored}
use Rattle.pm_map.specs.Moves.{is_before, kept_at}
use Rattle.pm_map.specs.Through.{HasRoom, through}
use Rattle.pm_map.proofs.Sizes.{position-fits}
use Rattle.pm_history.proofs.later.LaterPositions.place.Goals as goal

pub map-requires : goal.map-requires
map-requires g c =
    let r = c.requires in
    let led = r.3.0 in
    let P : List Mirrored → Type 0 = λ ms. HasRoom ms 0 (is_before c.args.side) (kept_at c.args.pos) in
    record {
      room = subst P led.is (position-fits r.0 r.1 r.2 c.args.pos c.args.side led.paired_are led.fits r.3.1).0;
      told = led.told;
    }

pub returns : goal.returns
returns g c = λ ms n k led within. c.map.ensures ∙ ap (λ (es : List Mirrored). through es c.args.pos c.args.side) (sym led.is)
