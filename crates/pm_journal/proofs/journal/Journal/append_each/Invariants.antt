use Rattle.std.proofs.Common.{◌≡◌, ◌++◌, map, take, IsTrue}
use Rattle.pm_journal.specs.Lines.{recorded}
use Rattle.pm_journal.specs.Journal.{IsOpen}
use Rattle.pm_journal.proofs.journal.Journal.append_each.Given as goal

abbrev pub invariant-loop-line : goal.invariant-loop-line
invariant-loop-line g l = record {
  ready : IsOpen g.D.Disk.seen g.D.Disk.may_leave g.D.Disk.is_clean g.D.Disk.is_usable l.self;
  told : l.told ≡ l.line-index;
  clean : IsTrue (g.D.Disk.is_clean l.self.disk) → IsTrue (g.D.Disk.is_clean l.fn.self.disk);
  added : IsTrue (g.D.Disk.is_clean l.self.disk) → recorded (g.D.Disk.seen l.self.disk) ≡ recorded (g.D.Disk.seen l.fn.self.disk) ++ take l.line-index (map (λ line. line.items) l.lines);
}
