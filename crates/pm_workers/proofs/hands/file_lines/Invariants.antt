use Rattle.std.proofs.Common.{◌≡◌, map, take, vec_len}
use Rattle.pm_workers.specs.Threads.{by_client}
use Rattle.pm_workers.proofs.hands.file_lines.Given as goal

abbrev pub invariant-loop-at : goal.invariant-loop-at
invariant-loop-at g l = record {
  count : vec_len l.files ≡ l.fn.count;
  filed : map (λ v. v.items) l.files.items ≡ by_client 0 l.fn.count (take l.at l.lines);
}
