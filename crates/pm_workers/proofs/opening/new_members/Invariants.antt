use Rattle.std.proofs.Common.{◌≡◌, ◌++◌, drop, vec_len}
use Rattle.pm_session.specs.Sessions.{new_members}
use Rattle.pm_workers.proofs.opening.new_members.Given as goal

abbrev pub invariant-loop-is_raw : goal.invariant-loop-is_raw
invariant-loop-is_raw g l = record {
  counted : vec_len l.members ≡ l.is_raw-index;
  members : l.members.items ++ new_members l.doc l.is_raw-index (drop l.is_raw-index l.raw) ≡ new_members l.doc 0 l.raw;
}
