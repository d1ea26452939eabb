use Rattle.std.proofs.Common.{◌≡◌, drop, take}
use Rattle.pm_rooms.specs.Handed.{Matched}
use Rattle.pm_rooms.specs.Opened.{all_stands}
use Rattle.pm_rooms.specs.Played.{HallPlayed, StandPlayed, RoomIsOrderly}
use Rattle.pm_rooms.proofs.ending.close_all.Given as goal

abbrev pub invariant-loop-file : goal.invariant-loop-file
invariant-loop-file g l = record {
  desks : l.desks.items ≡ drop l.file-index l.fn.desks.items;
  left : (p : HallPlayed g.C.Change.means l.fn.desks.items l.files l.fn.workers.items)
      → Matched (λ x v. StandPlayed g.C.Change.means p.makes p.rooms l.fn.desks.items x v) (all_stands l.file-index (drop l.file-index p.rooms) (drop l.file-index l.fn.desks.items)) l.workers.items;
  done : (p : HallPlayed g.C.Change.means l.fn.desks.items l.files l.fn.workers.items) → Matched (λ room t. RoomIsOrderly g.C.Change.means p.makes room t) (take l.file-index p.rooms) l.rooms.items;
}
