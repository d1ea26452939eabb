use Rattle.std.proofs.Common.{◌≡◌, ℕ, ◌<◌, [], ◌∷◌, false}
use Rattle.std.specs.Prelude.{slice_index}
use Rattle.json.specs.Print.{escape_byte}
use Rattle.pm_doctext.proofs.quoted.is_plain.Given as goal

abbrev pub invariant-loop-byte : goal.invariant-loop-byte
invariant-loop-byte l = l.any ≡ false → (j : ℕ) → j < l.byte-index → escape_byte (slice_index l.word j) ≡ slice_index l.word j ∷ []
