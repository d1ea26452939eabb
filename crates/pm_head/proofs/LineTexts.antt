-- The text of a line.
use Rattle.std.proofs.Common.{◌≡◌, ℕ, ◌<◌, List, length, sym, ap, ◌∙◌, false, nat_lt, arith}
use Rattle.std.proofs.lemmas.Bool.Decides.{nat_tests}
use Rattle.std.specs.Prelude.{Some, Ok}
use Rattle.std.specs.Str.{IsUtf8}
use Rattle.serde_json.specs.Data.{Data}
use Rattle.serde_json.specs.Read.{read}
use Rattle.pm_list.specs.Readings.{or_fault}
use Rattle.pm_head.specs.declared.code.Code.TheVariants.{NotJson}
use Rattle.pm_head.specs.declared.lines.TheConstants.{MAX_LINE}
use Rattle.pm_head.specs.Lines.{json_line}
use Rattle.pm_head.proofs.Split.{json_of-some}

-- what the text of a line that is short enough writes is the line's value
pub line-read : (bytes text : List ℕ) → (MAX_LINE < length bytes → ⊥) → IsUtf8 bytes → text ≡ bytes → (d : Data) → read text ≡ Some d → json_line bytes ≡ Ok d
unfolding json_line
line-read bytes text short utf same d e =
    let fits : nat_lt MAX_LINE (length bytes) ≡ false = grind (arith, nat_tests) in
    rw fits (ap (or_fault NotJson) (json_of-some bytes d utf (ap read (sym same) ∙ e)))
