use Rattle.std.proofs.Common.{◌≡◌, take, drop, vec_len}
use Rattle.pm_rooms.proofs.Playings.{AllAt}
use Rattle.pm_rooms.proofs.person.Floor.play.Given as goal

abbrev pub invariant-loop-line : goal.invariant-loop-line
invariant-loop-line g l = record {
  count : vec_len l.outcomes ≡ l.line-index;
  all : AllAt g.C.Change.means l.self.desks.now (g.K.Maker.makes l.self.crew.now.maker.now) l.fn.stands l.stands (take l.line-index l.lines) (drop l.line-index l.lines) l.outcomes.items;
}
