use Rattle.std.proofs.Common.{◌-◌, ◌<◌, ◌≤◌, length, ℕ}
use Rattle.pm_loose.specs.Repeats.{LeadsUpTo, Repeats}
use Rattle.pm_loose.proofs.loose.repeats_texts.Given as goal

-- the states before the state repeat texts, and lead up to `last`
abbrev pub invariant-states : goal.invariant-states
invariant-states l = record {
  order : l.state ≤ l.last;
  within : l.last < length l.auto'.sets;
  closed : (s : ℕ) → s < l.state → LeadsUpTo l.auto' s l.last;
  repeat : (s : ℕ) → s < l.state → Repeats l.text l.auto' s;
}

abbrev pub decreases-states : goal.decreases-states
decreases-states l = length l.auto'.sets - l.state
