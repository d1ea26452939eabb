use Rattle.std.proofs.Common.{◌≡◌, map, take}
use Rattle.pm_kept.specs.Behind.{Behind}
use Rattle.pm_kept.proofs.opening.replay.Given as goal

abbrev pub invariant-loop-line : goal.invariant-loop-line
invariant-loop-line g l = record {
  stands : Behind g.S.Keepable.means (take l.line-index (map (λ line. line.items) l.lines)) g.S.Keepable.means.start l.service;
  good : g.S.Keepable.means.good l.service;
  count : l.count ≡ l.line-index;
}
