use Rattle.std.proofs.Common.{◌≡◌, ◌++◌, drop, string_bytes, false, codes}
use Rattle.pm_told.specs.Texts.{pair_items}
use Rattle.pm_told.proofs.writing.push_pairs.Given as goal

abbrev pub invariant-loop-pair : goal.invariant-loop-pair
invariant-loop-pair l = string_bytes l.text ++ pair_items l.later (drop l.pair-index l.pairs) ≡ (string_bytes l.fn.text ++ codes "[") ++ pair_items false l.pairs
