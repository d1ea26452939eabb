use Rattle.std.proofs.Common.{◌≡◌, ◌≤◌, ◌+◌, [], length, vec_len}
use Rattle.pm_list.specs.Readings.{with_front}
use Rattle.pm_head.specs.Lines.{lines_of}
use Rattle.pm_script.specs.Sessions.{ops_of}
use Rattle.pm_script.proofs.session.ops_from.Given as goal

abbrev pub invariant-loop-line : goal.invariant-loop-line
invariant-loop-line l = record {
  number : l.number ≡ vec_len l.earlier.lines + 4;
  last : l.number ≤ 100004;
  composed : vec_len l.earlier.composed ≡ length l.clients;
  answered : vec_len l.earlier.answered ≡ length l.clients;
  cursors : vec_len l.earlier.cursors ≡ length l.clients;
  own : vec_len l.earlier.own ≡ length l.clients;
  read : with_front l.earlier.lines.items (ops_of l.form l.schema.spec l.clients l.earlier.lines.items l.number (lines_of l.rest)) ≡ ops_of l.form l.schema.spec l.clients [] 4 (lines_of l.input);
}

abbrev pub decreases-loop-line : goal.decreases-loop-line
decreases-loop-line l = length l.rest
