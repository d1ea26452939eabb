-- What an input is, in files of a form: a session, or its least faulty line with the code of that line's first fault.
use Rattle.std.specs.Prelude.{◌≡◌, ℕ, ◌+◌, List, [], ◌∷◌, ◌++◌, drop, length, nat_lt, Result, Ok, Err, MatchBool, if◌then◌else◌}
use Rattle.pm_list.specs.Readings.{◌>>=◌}
use Rattle.pm_schema.specs.declared.spec.SchemaSpec.{SchemaSpec}
use Rattle.pm_head.specs.declared.form.Form.{Form}
use Rattle.pm_head.specs.declared.code.Code.{Code}
use Rattle.pm_head.specs.declared.code.Code.TheVariants.{InputTooLong, WrongEnter}
use Rattle.pm_head.specs.declared.fault.Refusal.{Refusal}
use Rattle.pm_head.specs.Refusals.{refused}
use Rattle.pm_head.specs.declared.clients.ClientEntry.{ClientEntry}
use Rattle.pm_head.specs.declared.reading.Head.{Head}
use Rattle.pm_head.specs.Heads.{HeadIs}
use Rattle.pm_head.specs.Lines.{lines_of}
use Rattle.pm_meaning.specs.Steps.{Step}
use Rattle.pm_ops.specs.declared.op.Op.{Op}
use Rattle.pm_session.specs.declared.line.Line.{Line}
use Rattle.pm_script.specs.declared.session.TheConstants.{MAX_INPUT}
use Rattle.pm_script.specs.declared.session.Session.{Session}
use Rattle.pm_script.specs.Lines.{op_line}
use Rattle.pm_script.specs.Entrants.{all_enter}

-- a line's refusal, by its number and its fault's code
abbrev pub at_line : {A : Type 0} → ℕ → Result A Code → Result A Refusal
at_line n (Ok x) = Ok x
at_line n (Err code) = Err (refused n code)

-- the session of this head and these op lines, where they were read
abbrev pub with_ops : Head → Result (List (Line Op Step)) Refusal → Result Session Refusal
with_ops head (Ok ops) = Ok (record { head = head; lines = ops })
with_ops head (Err refusal) = Err refusal

module _ (form : Form) where
  -- the op lines from number n on, after these earlier ones
  unfoldable pub ops_of : SchemaSpec → List ClientEntry → List (Line Op Step) → ℕ → List (List ℕ) → Result (List (Line Op Step)) Refusal
  ops_of s clients earlier n [] = Ok []
  ops_of s clients earlier n (line ∷ rest) = do
    op ← at_line n (op_line form s clients earlier n line)
    later ← ops_of s clients (earlier ++ op ∷ []) (n + 1) rest
    Ok (op ∷ later)

  -- The session of this head, whose op lines these are. Line 3 is refused where a late client enters on none of them.
  abbrev pub behind : Head → List (List ℕ) → Result Session Refusal
  behind head lines =
      if all_enter head.clients lines then with_ops head (ops_of head.schema.spec head.clients [] 4 lines)
      else Err (refused 3 WrongEnter)

  -- the same, where the head may be refused
  abbrev pub behind_head : Result Head Refusal → List (List ℕ) → Result Session Refusal
  behind_head (Ok head) lines = behind head lines
  behind_head (Err refusal) lines = Err refusal

  -- what the lines are: the first three are the head, and the others op lines
  abbrev pub SessionOf : List (List ℕ) → Result Session Refusal → Type 0
  SessionOf lines r = (head : Result Head Refusal) × HeadIs form lines head × (r ≡ behind_head head (drop 3 lines))

  -- what the input is; too long an input is refused at line 0
  abbrev pub SessionIs : List ℕ → Result Session Refusal → Type 0
  SessionIs input r = MatchBool (nat_lt MAX_INPUT (length input)) (r ≡ Err (refused 0 InputTooLong)) (SessionOf (lines_of input) r)
