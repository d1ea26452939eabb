-- What is written of a value is read back, as the value of a line too.
use Rattle.std.proofs.Common.{◌≡◌, ℕ, ◌<◌, ◌≤◌, Bool, true, false, nat_lt, if◌then◌else◌, List, [], length, Option, Some, Ok, Err, option_and_then, refl, sym, ap, ◌∙◌, arith, append-nil, ltb-true}
use Rattle.json.specs.Token.{Token}
use Rattle.json.specs.Lex.{tokens}
use Rattle.json.specs.Json as json
use Rattle.json.specs.Tree.{depth, json_tokens, HasNumbers}
use Rattle.json.proofs.Printed.Tokens.{tokens-print}
use Rattle.json.proofs.Printed.Trees.{value-json_tokens, ArePrintable-json_tokens}
use Rattle.json.proofs.Printed.Utf8.{IsUtf8-are_ascii}
use Rattle.serde_json.specs.Data.{Data}
use Rattle.serde_json.specs.Read.{read, max_depth, of_json}
use Rattle.serde_json.specs.Written.{outline, compact_text}
use Rattle.serde_json.proofs.Texts.{print-outline}
use Rattle.pm_list.specs.Readings.{or_fault}
use Rattle.pm_head.specs.declared.code.Code.TheVariants.{LineTooLong, NotJson}
use Rattle.pm_head.specs.Lines.{json_of, json_line}
use Rattle.pm_head.proofs.Split.{json_of-some}
use Rattle.pm_gen_laws.proofs.Pieces.{all_shown, ascii-shown}

abbrev whole : Option (json.Json × List Token) → Option Data
whole o = option_and_then of_json (option_and_then (λ p. json.if_last p.0 p.1) o)

pub read-written : (d : Data) → HasNumbers (outline d) → depth (outline d) ≤ max_depth → of_json (outline d) ≡ Some d → read (compact_text d) ≡ Some d
read-written d numbers shallow same =
    let ts = json_tokens (outline d) in
    let lexed : tokens (compact_text d) ≡ ts = ap tokens (sym (print-outline d)) ∙ tokens-print ts (ArePrintable-json_tokens (outline d) numbers) in
    ap whole (ap (json.value max_depth) (lexed ∙ sym (append-nil ts)) ∙ value-json_tokens (outline d) max_depth [] shallow) ∙ same

pub lt-false : (a b : ℕ) → b ≤ a → nat_lt a b ≡ false
lt-false a b h = at (nat_lt a b) refl
  where
    at : (r : Bool) → nat_lt a b ≡ r → r ≡ false
    at true e = absurd (let l : a < b = ltb-true a b e in omega arith)
    at false e = refl

pub line-reads : (text : List ℕ) (d : Data) → all_shown text ≡ true → length text ≤ 1000 → read text ≡ Some d → json_line text ≡ Ok d
unfolding json_line
line-reads text d shown short is =
    let long : nat_lt 1048576 (length text) ≡ false = lt-false 1048576 (length text) (omega arith) in
    let some : json_of text ≡ Some d = json_of-some text d (IsUtf8-are_ascii text (ascii-shown text shown)) is in
    ap (λ (b : Bool). if b then Err LineTooLong else or_fault NotJson (json_of text)) long ∙ ap (or_fault NotJson) some
