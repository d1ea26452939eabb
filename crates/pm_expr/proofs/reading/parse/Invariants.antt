use Rattle.std.proofs.Common.{◌≡◌, ◌-◌, length}
use Rattle.pm_expr.specs.Levels.{no_levels, IsShallow}
use Rattle.pm_expr.specs.Tokens.{tokens}
use Rattle.pm_expr.specs.Reader.{start, outcome}
use Rattle.pm_expr.specs.Views.{left_of, levels_in, state_of}
use Rattle.pm_expr.proofs.reading.parse.Given as goal

abbrev pub invariant-loop-token : goal.invariant-loop-token
invariant-loop-token l = record {
  text : l.tokens.text.now ≡ l.text;
  shallow : IsShallow l.levels.last;
  same : outcome l.names (length l.text) (left_of l.tokens) (levels_in l.levels) (state_of l.reader) ≡ outcome l.names (length l.text) (tokens l.text) no_levels start;
}

abbrev pub decreases-loop-token : goal.decreases-loop-token
decreases-loop-token l = length l.tokens.text.now - l.tokens.at
