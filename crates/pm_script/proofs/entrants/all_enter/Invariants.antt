use Rattle.std.proofs.Common.{◌≡◌, length, vec_len}
use Rattle.pm_head.specs.Lines.{lines_of}
use Rattle.pm_script.specs.Entrants.{all_enter}
use Rattle.pm_script.proofs.Entering.{all_by}
use Rattle.pm_script.proofs.entrants.all_enter.Given as goal

abbrev pub invariant-loop-rest : goal.invariant-loop-rest
invariant-loop-rest l = record {
  long : vec_len l.entered ≡ length l.clients;
  found : all_by l.clients l.entered.items (lines_of l.rest) ≡ all_enter l.clients (lines_of l.input);
}

abbrev pub decreases-loop-rest : goal.decreases-loop-rest
decreases-loop-rest l = length l.rest
