-- Steps around a gap whose first tests are passed.
use Rattle.std.specs.Prelude.{◌≡◌, ◌≤◌, true, List, length}
use Rattle.pm_tokens.specs.Tokens.{Token}
use Rattle.pm_tokens.specs.Scan.{is_whole, part}
use Rattle.pm_tokens.specs.Slices.{Slice, is_slice, slice_size, depths_fit}
use Rattle.pm_step.specs.declared.around.ReplaceAroundStep.{ReplaceAroundStep}
use Rattle.pm_apply.specs.declared.around.Ends.{Ends}

-- the positions of a step around a gap
abbrev pub ends_of : ReplaceAroundStep → Ends
ends_of s = record { from = s.from; to = s.to; gap_from = s.gap_from; gap_to = s.gap_to; insert = s.insert }

-- the positions are in order, what is inserted does not pass the slice, the gap is whole, and the open sides fit the depths
pub record IsPlaced (ts : List Token) (ends : Ends) (sl : Slice) : Type 0 where
  pub slice : is_slice sl ≡ true
  pub before : ends.from ≤ ends.gap_from
  pub gap : ends.gap_from ≤ ends.gap_to
  pub behind : ends.gap_to ≤ ends.to
  pub within : ends.to ≤ length ts
  pub insert : ends.insert ≤ slice_size sl
  pub whole : is_whole (part ends.gap_from ends.gap_to ts) ≡ true
  pub depths : depths_fit ts ends.from ends.to sl ≡ true
