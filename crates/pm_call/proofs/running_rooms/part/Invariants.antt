use Rattle.std.proofs.Common.{◌≡◌, map}
use Rattle.pm_call.specs.Handing.{entry_of, opening_in, opening_of}
use Rattle.pm_call.proofs.running_rooms.part.Given as goal

abbrev pub invariant-loop-room : goal.invariant-loop-room
invariant-loop-room l = record {
  entries : l.entries.items ≡ map entry_of l.yielded;
  rooms : map opening_of l.parted.items ≡ map opening_in l.yielded;
}
