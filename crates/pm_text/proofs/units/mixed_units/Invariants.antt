use Rattle.std.proofs.Common.{◌≡◌, ◌++◌}
use Rattle.std.specs.Str.{IsUtf8}
use Rattle.std.specs.Str.Iter.{encode_utf16_pending, encode_utf16_rest}
use Rattle.pm_text.specs.Units.{utf16}
use Rattle.pm_text.proofs.units.mixed_units.Given as goal

abbrev pub invariant-loop-unit : goal.invariant-loop-unit
invariant-loop-unit l = record {
  sum : l.units.items ++ (encode_utf16_pending l.unit-iterator ++ utf16 (encode_utf16_rest l.unit-iterator)) ≡ utf16 l.text;
  is_text : IsUtf8 (encode_utf16_rest l.unit-iterator);
}
