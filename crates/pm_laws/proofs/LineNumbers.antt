-- The numbers of the op lines of a session rise.
use Rattle.std.specs.List.{AllByRecursion as Each}
use Rattle.std.specs.Prelude.{Result, Ok, Err, MatchBool, nat_lt, if◌then◌else◌}
use Rattle.std.proofs.Common.{◌≡◌, ℕ, ◌+◌, ◌<◌, ◌≤◌, Bool, true, false, List, [], ◌∷◌, ◌++◌, length, drop, refl, sym, ap, subst, arith}
use Rattle.serde_json.specs.Data.{Data}
use Rattle.pm_list.specs.Readings.{◌>>=◌}
use Rattle.pm_schema.specs.declared.spec.SchemaSpec.{SchemaSpec}
use Rattle.pm_head.specs.declared.form.Form.{Form}
use Rattle.pm_head.specs.declared.form.Form.TheVariants.{Plain}
use Rattle.pm_head.specs.declared.code.Code.TheVariants.{InputTooLong, TooManyLines, WrongEnter}
use Rattle.pm_head.specs.declared.fault.Refusal.{Refusal}
use Rattle.pm_head.specs.declared.clients.ClientEntry.{ClientEntry}
use Rattle.pm_head.specs.declared.reading.Head.{Head}
use Rattle.pm_head.specs.Refusals.{refused}
use Rattle.pm_head.specs.Lines.{lines_of, json_line}
use Rattle.pm_meaning.specs.Steps.{Step}
use Rattle.pm_ops.specs.declared.op.Op.{Op}
use Rattle.pm_session.specs.declared.line.Line.{Line}
use Rattle.pm_script.specs.declared.session.Session.{Session}
use Rattle.pm_script.specs.declared.session.TheConstants.{MAX_INPUT}
use Rattle.pm_script.specs.Acts.{act_in}
use Rattle.pm_script.specs.Entrants.{all_enter}
use Rattle.pm_script.specs.Lines.{client_in, word_in, said, turned, named, op_in, op_line}
use Rattle.pm_script.specs.OwnLines.{is_of_room, own_lines, own_ops}
use Rattle.pm_script.specs.Sessions.{at_line, ops_of, with_ops, behind_head, SessionOf, SessionIs}
use Rattle.pm_script.proofs.Came.{then-ok, unless-ok, line-ok}
use Rattle.pm_laws.proofs.OneRun.{NumbersRise}

-- an op line has its number
op-number : (form : Form) (s : SchemaSpec) (clients : List ClientEntry) (earlier : List (Line Op Step)) (n : ℕ) (d : Data) (op : Line Op Step) → op_in form s clients earlier n d ≡ Ok op → op.number ≡ n
unfolding op_in
op-number form s clients earlier n d op h =
    let a = then-ok (client_in clients d) _ op h in
    let b = then-ok (word_in form d) _ op a.2 in
    let c = then-ok (said clients earlier a.0 b.0) _ op b.2 in
    let e = then-ok (turned clients earlier a.0 c.0) _ op c.2 in
    let f = then-ok (act_in s e.0 d) _ op e.2 in
    let g = then-ok (named earlier a.0 f.0) _ op f.2 in
    let made : record { number = n; client = a.0; act = g.0 } ≡ op = cc in
    ap (λ (l : Line Op Step). l.number) (sym made)

line-number : (form : Form) (s : SchemaSpec) (clients : List ClientEntry) (earlier : List (Line Op Step)) (n : ℕ) (line : List ℕ) (op : Line Op Step) → op_line form s clients earlier n line ≡ Ok op → op.number ≡ n
unfolding op_line
line-number form s clients earlier n line op h =
    let a = then-ok (json_line line) (λ d. op_in form s clients earlier n d) op (unless-ok _ TooManyLines _ op h) in
    op-number form s clients earlier n a.0 op a.2

-- the numbers rise from this one on
record From (n : ℕ) (lines : List (Line Op Step)) : Type 0 where
  pub least : Each (λ (l : Line Op Step). n ≤ l.number) lines
  pub rise : NumbersRise lines

above : (n m : ℕ) (lines : List (Line Op Step)) → n < m → Each (λ (l : Line Op Step). m ≤ l.number) lines → Each (λ (l : Line Op Step). n < l.number) lines
above n m [] h e = tt
above n m (l ∷ lines) h e = ((let lt : n < l.number = omega (arith, h, e.0) in lt), above n m lines h e.1)

lower : (n m : ℕ) (lines : List (Line Op Step)) → n ≤ m → Each (λ (l : Line Op Step). m ≤ l.number) lines → Each (λ (l : Line Op Step). n ≤ l.number) lines
lower n m [] h e = tt
lower n m (l ∷ lines) h e = ((let le : n ≤ l.number = omega (arith, h, e.0) in le), lower n m lines h e.1)

one-more : (n : ℕ) (op : Line Op Step) (later ops : List (Line Op Step)) → op.number ≡ n → From (n + 1) later → op ∷ later ≡ ops → From n ops
one-more n op later ops is f e =
    subst (From n) e (record {
      least = ((let le : n ≤ op.number = omega (arith, is) in le), lower n (n + 1) later (omega arith) f.least);
      rise = (subst (λ k. Each (λ (l : Line Op Step). k < l.number) later) (sym is) (above n (n + 1) later (omega arith) f.least), f.rise);
    })

none-from : (n : ℕ) (ops : List (Line Op Step)) → [] ≡ ops → From n ops
none-from n ops e = subst (From n) e (record { least = tt; rise = tt })

ops-from : (form : Form) (s : SchemaSpec) (clients : List ClientEntry) (earlier : List (Line Op Step)) (n : ℕ) (lines : List (List ℕ)) (ops : List (Line Op Step)) → ops_of form s clients earlier n lines ≡ Ok ops → From n ops
unfolding ops_of
ops-from form s clients earlier n [] ops h = none-from n ops (cc)
ops-from form s clients earlier n (line ∷ rest) ops h =
    let a = then-ok (at_line n (op_line form s clients earlier n line)) _ ops h in
    let b = then-ok (ops_of form s clients (earlier ++ a.0 ∷ []) (n + 1) rest) _ ops a.2 in
    let made : a.0 ∷ b.0 ≡ ops = cc in
    one-more n a.0 b.0 ops (line-number form s clients earlier n line a.0 (line-ok n (op_line form s clients earlier n line) a.0 a.1))
    (ops-from form s clients (earlier ++ a.0 ∷ []) (n + 1) rest b.0 b.1) made

-- the op lines of a room
own-from : (name : List ℕ) (s : SchemaSpec) (clients : List ClientEntry) (earlier : List (Line Op Step)) (n : ℕ) (lines : List (List ℕ)) (ops : List (Line Op Step)) → own_ops s clients earlier (own_lines name n lines) ≡ Ok ops → From n ops
unfolding own_lines own_ops
own-from name s clients earlier n [] ops h = none-from n ops (cc)
own-from name s clients earlier n (line ∷ rest) ops h = by (is_of_room name line) (λ before found. own-from name s clients before (n + 1) rest found) h
  where
    by : (b : Bool) → ((before found : List (Line Op Step)) → own_ops s clients before (own_lines name (n + 1) rest) ≡ Ok found → From (n + 1) found) → own_ops s clients earlier (if b then (n, line) ∷ own_lines name (n + 1) rest else own_lines name (n + 1) rest) ≡ Ok ops → From n ops
    by false next h =
        let f = next earlier ops h in
        record { least = lower n (n + 1) ops (omega arith) f.least; rise = f.rise }
    by true next h =
        let a = then-ok (at_line n (json_line line >>= (λ d. op_in Plain s clients earlier n d))) _ ops h in
        let b = then-ok (own_ops s clients (earlier ++ a.0 ∷ []) (own_lines name (n + 1) rest)) _ ops a.2 in
        let made : a.0 ∷ b.0 ≡ ops = cc in
        let read = then-ok (json_line line) (λ d. op_in Plain s clients earlier n d) a.0 (line-ok n (json_line line >>= (λ d. op_in Plain s clients earlier n d)) a.0 a.1) in
        one-more n a.0 b.0 ops (op-number Plain s clients earlier n read.0 a.0 read.2) (next (earlier ++ a.0 ∷ []) b.0 b.1) made

pub own-rise : (name : List ℕ) (s : SchemaSpec) (clients : List ClientEntry) (n : ℕ) (lines : List (List ℕ)) (ops : List (Line Op Step)) → own_ops s clients [] (own_lines name n lines) ≡ Ok ops → NumbersRise ops
own-rise name s clients n lines ops h = (own-from name s clients [] n lines ops h).rise

-- ---- a session

abbrev a_session : Session → Result Session Refusal
a_session s = Ok s

with-rise : (h : Head) (r : Result (List (Line Op Step)) Refusal) (s : Session) → ((ops : List (Line Op Step)) → r ≡ Ok ops → NumbersRise ops) → with_ops h r ≡ Ok s → NumbersRise s.lines
with-rise h (Ok ops) s rise e =
    let made : record { head = h; lines = ops } ≡ s = cc in
    subst (λ (x : Session). NumbersRise x.lines) made (rise ops refl)
with-rise h (Err refusal) s rise e = absurd (cc)

if-ok : (b : Bool) (r : Result Session Refusal) (refusal : Refusal) (s : Session) → (if b then r else Err refusal) ≡ Ok s → r ≡ Ok s
if-ok true r refusal s h = h
if-ok false r refusal s h = absurd (cc)

module _ (form : Form) where
  of-rise : (lines : List (List ℕ)) (s : Session) → SessionOf form lines (Ok s) → NumbersRise s.lines
  of-rise lines s h = by h.0 h.2
    where
      by : (head : Result Head Refusal) → a_session s ≡ behind_head form head (drop 3 lines) → NumbersRise s.lines
      by (Err refusal) e = absurd (cc)
      by (Ok head) e =
          let ops = ops_of form head.schema.spec head.clients [] 4 (drop 3 lines) in
          let read = if-ok (all_enter head.clients (drop 3 lines)) (with_ops head ops) (refused 3 WrongEnter) s (sym e) in
          with-rise head ops s (λ found are. (ops-from form head.schema.spec head.clients [] 4 (drop 3 lines) found are).rise) read

  pub session-rises : (input : List ℕ) (s : Session) → SessionIs form input (Ok s) → NumbersRise s.lines
  session-rises input s h = by (nat_lt MAX_INPUT (length input)) h
    where
      by : (b : Bool) → MatchBool b (a_session s ≡ Err (refused 0 InputTooLong)) (SessionOf form (lines_of input) (Ok s)) → NumbersRise s.lines
      by true h = absurd (cc)
      by false h = of-rise (lines_of input) s h
