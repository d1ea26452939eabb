-- One op line. `c` and `op` are read first, then the op must be one of the client's and must come in its turn, then its fields
-- are read, and last the message or the answer that it names must be there.
use Rattle.std.specs.Prelude.{ℕ, nat_lt, nat_eq, position, Bool, true, false, not, ◌&&◌, ◌||◌, List, slice_get, option_map, unwrap_or, codes, Result, Ok, Err, if◌then◌else◌}
use Rattle.std.specs.Cmp.Lexicographic.{pointwise}
use Rattle.serde_json.specs.Data.{Data}
use Rattle.pm_list.specs.Readings.{◌>>=◌, or_fault}
use Rattle.pm_schema.specs.declared.spec.SchemaSpec.{SchemaSpec}
use Rattle.pm_head.specs.declared.form.Form.{Form}
use Rattle.pm_head.specs.declared.code.Code.{Code}
use Rattle.pm_head.specs.declared.code.Code.TheVariants.{TooManyLines, UnknownName, NoSuchMessage, OpNotAllowed, WrongEnter}
use Rattle.pm_head.specs.declared.clients.ClientEntry.{ClientEntry}
use Rattle.pm_head.specs.Lines.{json_line}
use Rattle.pm_meaning.specs.Steps.{Step}
use Rattle.pm_ops.specs.declared.op.Op.{Op}
use Rattle.pm_session.specs.declared.line.Act.{Act}
use Rattle.pm_session.specs.declared.line.Line.{Line}
use Rattle.pm_session.specs.Suits.{sets_one, names_one, enters, done_by, composed_by, answered_by}
use Rattle.pm_versions.specs.Suiting.{has_line}
use Rattle.pm_script.specs.declared.lines.TheConstants.{LAST_LINE}
use Rattle.pm_script.specs.declared.word.Word.{Word}
use Rattle.pm_script.specs.Words.{word_named, may_say, in_turn}
use Rattle.pm_opjson.specs.Fields.{text_in}
use Rattle.pm_script.specs.Acts.{act_in}

-- the place of the client that `c` names
abbrev pub client_in : List ClientEntry → Data → Result ℕ Code
client_in clients d = text_in (codes "c") d >>= (λ name. or_fault UnknownName (position (λ c. pointwise nat_eq name c.name) clients))

-- the word that `op` says
abbrev pub word_in : Form → Data → Result Word Code
word_in form d = text_in (codes "op") d >>= (λ text. or_fault UnknownName (word_named form text))

-- how many cursors the client set on these lines
abbrev pub cursors_by : ℕ → List (Line Op Step) → ℕ
cursors_by i lines = done_by sets_one i lines

-- how many of these lines are the client's
abbrev pub lines_by : ℕ → List (Line Op Step) → ℕ
lines_by i lines = done_by (λ act. true) i lines

-- client i is raw
abbrev pub is_raw : List ClientEntry → ℕ → Bool
is_raw clients i = unwrap_or (option_map (λ c. c.raw) (slice_get clients i)) false

-- client i comes late
abbrev pub is_late : List ClientEntry → ℕ → Bool
is_late clients i = unwrap_or (option_map (λ c. c.late) (slice_get clients i)) false

-- Client i is due to enter: it comes late, and none of these lines is its own.
abbrev pub is_due : List ClientEntry → List (Line Op Step) → ℕ → Bool
is_due clients earlier i = is_late clients i && not (has_line i earlier)

abbrev pub said : List ClientEntry → List (Line Op Step) → ℕ → Word → Result Word Code
said clients earlier client word = if may_say (is_raw clients client) (cursors_by client earlier) word then Ok word else Err OpNotAllowed

-- So a late client enters by its first line and by that alone, and nobody else enters.
abbrev pub turned : List ClientEntry → List (Line Op Step) → ℕ → Word → Result Word Code
turned clients earlier client word = if in_turn (is_due clients earlier client) word then Ok word else Err WrongEnter

-- The message or the answer that the act names is there. An act that enters names none.
abbrev pub is_there : List (Line Op Step) → ℕ → Act Op Step → Bool
is_there earlier client act = enters act || names_one (composed_by client earlier) (answered_by client earlier) act

abbrev pub named : List (Line Op Step) → ℕ → Act Op Step → Result (Act Op Step) Code
named earlier client act = if is_there earlier client act then Ok act else Err NoSuchMessage

module _ (form : Form) (s : SchemaSpec) (clients : List ClientEntry) (earlier : List (Line Op Step)) where
  -- the op line with this number, after these earlier ones
  unfoldable pub op_in : ℕ → Data → Result (Line Op Step) Code
  op_in n d = do
    client ← client_in clients d
    found ← word_in form d
    allowed ← said clients earlier client found
    word ← turned clients earlier client allowed
    read ← act_in s word d
    act ← named earlier client read
    Ok (record { number = n; client = client; act = act })

  -- Line 100,004 is refused, whatever it holds.
  unfoldable pub op_line : ℕ → List ℕ → Result (Line Op Step) Code
  op_line n line = if nat_lt LAST_LINE n then Err TooManyLines else (json_line line >>= (λ d. op_in n d))
