-- The op lines that are read name one of the clients, forge exactly where it is raw, name messages and answers that are there,
-- and enter where a late client's first line does.
use Rattle.std.proofs.Common.{◌≡◌, ◌<◌, ◌+◌, ℕ, Bool, true, false, List, [], ◌∷◌, ◌++◌, length, refl, ap, ◌∙◌, sym, subst, arith, zero, suc, Ok}
use Rattle.std.specs.Prelude.{position, slice_get, nat_lt, nat_eq, not, ◌&&◌, ◌||◌, codes, Some, IfSome, MatchBool}
use Rattle.std.specs.Cmp.Lexicographic.{pointwise}
use Rattle.serde_json.specs.Data.{Data}
use Rattle.pm_schema.specs.declared.spec.SchemaSpec.{SchemaSpec}
use Rattle.pm_head.specs.declared.form.Form.{Form}
use Rattle.pm_head.specs.declared.form.Form.TheVariants.{Plain, Late}
use Rattle.pm_head.specs.declared.code.Code.TheVariants.{TooManyLines, UnknownName, NoSuchMessage, OpNotAllowed, WrongEnter}
use Rattle.pm_head.specs.declared.clients.ClientEntry.{ClientEntry}
use Rattle.pm_head.specs.Clients.{raw_flags}
use Rattle.pm_head.specs.Lines.{json_line}
use Rattle.pm_meaning.specs.Steps.{Step}
use Rattle.pm_ops.specs.declared.op.Op.{Op}
use Rattle.pm_session.specs.declared.line.Line.{Line}
use Rattle.pm_session.specs.declared.line.Act.{Act}
use Rattle.pm_session.specs.Suits.{is_forge, enters, names_one, composed_by, answered_by, Suits, AllSuit}
use Rattle.pm_versions.specs.Suiting.{has_line, EntersFirst, AllSuitLate}
use Rattle.pm_script.specs.declared.word.Word.{Word}
use Rattle.pm_opjson.specs.Fields.{text_in}
use Rattle.pm_script.specs.Words.{word_named, may_say, in_turn}
use Rattle.pm_script.specs.Acts.{act_in}
use Rattle.pm_script.specs.declared.lines.TheConstants.{LAST_LINE}
use Rattle.pm_script.specs.Lines.{client_in, word_in, cursors_by, is_raw, is_late, is_due, said, turned, named, op_in, op_line}
use Rattle.pm_script.specs.Sessions.{at_line, ops_of}
use Rattle.pm_list.specs.Readings.{◌>>=◌}
use Rattle.pm_script.specs.OwnLines.{own_ops}
use Rattle.pm_script.proofs.Came.{then-ok, fault-ok, when-ok, unless-ok, line-ok, both-true}
use Rattle.pm_script.proofs.Places.{position-within}
use Rattle.pm_script.proofs.Saying.{IsMade, says_forge, is_enter, act-made, kind-said, due-said, plain-other, names}

-- ---- the line's client

client-within : (clients : List ClientEntry) (d : Data) (i : ℕ) → client_in clients d ≡ Ok i → i < length clients
client-within clients d i h =
    let one = then-ok (text_in (codes "c") d) _ i h in
    let p : ClientEntry → Bool = λ c. pointwise nat_eq one.0 c.name in
    subst (λ o. IfSome o (λ k. k < length clients)) (fault-ok UnknownName (position p clients) i one.2) (position-within p clients)

-- the client that is there is raw, or not
flag-there : (clients : List ClientEntry) (i : ℕ) → i < length clients → slice_get (raw_flags clients) i ≡ Some (is_raw clients i)
flag-there [] i h = absurd (omega arith)
flag-there (c ∷ clients) zero h = refl
flag-there (c ∷ clients) (suc i) h = flag-there clients i (omega arith)

-- no client comes late and is raw
abbrev pub NoneBoth : List ClientEntry → Type 0
NoneBoth [] = Unit {0}
NoneBoth (c ∷ clients) = ((c.late && c.raw) ≡ false) × NoneBoth clients

one-not-raw : (late raw : Bool) → (late && raw) ≡ false → late ≡ true → raw ≡ false
one-not-raw true raw h e = h
one-not-raw false raw h e = absurd (cc)

late-not-raw : (clients : List ClientEntry) (i : ℕ) → NoneBoth clients → is_late clients i ≡ true → is_raw clients i ≡ false
late-not-raw [] i h e = refl
late-not-raw (c ∷ clients) zero h e = one-not-raw c.late c.raw h.0 e
late-not-raw (c ∷ clients) (suc i) h e = late-not-raw clients i h.1 e

-- ---- one line

-- the line enters as its client's first, or suits the lines before it
abbrev LineSuits : List Bool → List (Line Op Step) → Line Op Step → Type 0
LineSuits raw earlier line = MatchBool (enters line.act) (EntersFirst raw earlier line) (Suits raw earlier line)

not-true : (b : Bool) → not b ≡ true → b ≡ false
not-true true h = absurd (cc)
not-true false h = refl

-- which words the clients of a line say, by what is known of the line
module _ (clients : List ClientEntry) (apart : NoneBoth clients) (earlier : List (Line Op Step)) (n i : ℕ) (within : i < length clients) (w : Word) (act : Act Op Step)
    (made : IsMade (says_forge w) (is_enter w) act)
    (may : may_say (is_raw clients i) (cursors_by i earlier) w ≡ true)
    (turn : in_turn (is_due clients earlier i) w ≡ true)
    (there : (enters act || names_one (composed_by i earlier) (answered_by i earlier) act) ≡ true) where
  abbrev of : Line Op Step
  of = record { number = n; client = i; act = act }

  entered : is_enter w ≡ true → EntersFirst (raw_flags clients) earlier of
  entered e =
      let due = both-true (is_late clients i) (not (has_line i earlier)) (due-said (is_due clients earlier i) w e turn) in
      record {
        editor = flag-there clients i within ∙ ap Some (late-not-raw clients i apart due.0);
        first = not-true (has_line i earlier) due.1;
      }

  suited : is_enter w ≡ false → Suits (raw_flags clients) earlier of
  suited e =
      let forges : is_forge act ≡ is_raw clients i = made.0 ∙ kind-said (is_raw clients i) (cursors_by i earlier) w e may in
      let named_one : names_one (composed_by i earlier) (answered_by i earlier) act ≡ true =
      subst (λ b. (b || names_one (composed_by i earlier) (answered_by i earlier) act) ≡ true) (made.1 ∙ e) there in
      record {
        kind = flag-there clients i within ∙ ap Some (sym forges);
        named = names (composed_by i earlier) (answered_by i earlier) act named_one;
      }

  line-of : LineSuits (raw_flags clients) earlier of
  line-of = at (is_enter w) refl
    where
      at : (b : Bool) → is_enter w ≡ b → MatchBool (enters act) (EntersFirst (raw_flags clients) earlier of) (Suits (raw_flags clients) earlier of)
      at true e = subst (λ b. MatchBool b (EntersFirst (raw_flags clients) earlier of) (Suits (raw_flags clients) earlier of)) (sym (made.1 ∙ e)) (entered e)
      at false e = subst (λ b. MatchBool b (EntersFirst (raw_flags clients) earlier of) (Suits (raw_flags clients) earlier of)) (sym (made.1 ∙ e)) (suited e)

-- the word of a line where every client is there from the first line on
word-plain : (d : Data) (w : Word) → word_in Plain d ≡ Ok w → is_enter w ≡ false
word-plain d w h =
    let one = then-ok (text_in (codes "op") d) _ w h in
    plain-other one.0 w (fault-ok UnknownName (word_named Plain one.0) w one.2)

-- the line suits, and where every client is there from the first line on, it doesn't enter
abbrev LineIs : Form → List Bool → List (Line Op Step) → Line Op Step → Type 0
LineIs Plain raw earlier line = Suits raw earlier line
LineIs Late raw earlier line = LineSuits raw earlier line

line-is : (form : Form) (raw : List Bool) (earlier : List (Line Op Step)) (line : Line Op Step) (w : Word) (d : Data)
    → enters line.act ≡ is_enter w → word_in form d ≡ Ok w → LineSuits raw earlier line → LineIs form raw earlier line
line-is Plain raw earlier line w d made is suits = subst (λ b. MatchBool b (EntersFirst raw earlier line) (Suits raw earlier line)) (made ∙ word-plain d w is) suits
line-is Late raw earlier line w d made is suits = suits

module _ (form : Form) (s : SchemaSpec) (clients : List ClientEntry) (apart : NoneBoth clients) where
  op-suits : (earlier : List (Line Op Step)) (n : ℕ) (d : Data) (op : Line Op Step) → op_in form s clients earlier n d ≡ Ok op → LineIs form (raw_flags clients) earlier op
  unfolding op_in
  op-suits earlier n d op h =
      let a = then-ok (client_in clients d) _ op h in
      let b = then-ok (word_in form d) _ op a.2 in
      let c = then-ok (said clients earlier a.0 b.0) _ op b.2 in
      let t = then-ok (turned clients earlier a.0 c.0) _ op c.2 in
      let e = then-ok (act_in s t.0 d) _ op t.2 in
      let g = then-ok (named earlier a.0 e.0) _ op e.2 in
      let v = when-ok (may_say (is_raw clients a.0) (cursors_by a.0 earlier) b.0) b.0 c.0 OpNotAllowed c.1 in
      let u = when-ok (in_turn (is_due clients earlier a.0) c.0) c.0 t.0 WrongEnter t.1 in
      let w = when-ok (enters e.0 || names_one (composed_by a.0 earlier) (answered_by a.0 earlier) e.0) e.0 g.0 NoSuchMessage g.1 in
      let same : b.0 ≡ t.0 = v.1 ∙ u.1 in
      let line : Act Op Step → Line Op Step = λ act. record { number = n; client = a.0; act = act } in
      let made_op : line g.0 ≡ op = cc in
      let is : line e.0 ≡ op = ap line w.1 ∙ made_op in
      let may : may_say (is_raw clients a.0) (cursors_by a.0 earlier) t.0 ≡ true = subst (λ x. may_say (is_raw clients a.0) (cursors_by a.0 earlier) x ≡ true) same v.0 in
      let turn : in_turn (is_due clients earlier a.0) t.0 ≡ true = subst (λ x. in_turn (is_due clients earlier a.0) x ≡ true) u.1 u.0 in
      let made : IsMade (says_forge t.0) (is_enter t.0) e.0 = act-made s t.0 d e.0 e.1 in
      let suits = line-of clients apart earlier n a.0 (client-within clients d a.0 a.1) t.0 e.0 made may turn w.0 in
      let read : word_in form d ≡ Ok t.0 = b.1 ∙ ap Ok same in
      subst (λ l. LineIs form (raw_flags clients) earlier l) is (line-is form (raw_flags clients) earlier (line e.0) t.0 d made.1 read suits)

  pub line-suits : (earlier : List (Line Op Step)) (n : ℕ) (line : List ℕ) (op : Line Op Step) → op_line form s clients earlier n line ≡ Ok op → LineIs form (raw_flags clients) earlier op
  unfolding op_line
  line-suits earlier n line op h =
      let one = then-ok (json_line line) (λ d. op_in form s clients earlier n d) op (unless-ok (nat_lt LAST_LINE n) TooManyLines _ op h) in
      op-suits earlier n one.0 op one.2

-- ---- all lines

-- all lines suit
abbrev pub AllAre : Form → List Bool → List (Line Op Step) → List (Line Op Step) → Type 0
AllAre Plain raw earlier lines = AllSuit raw earlier lines
AllAre Late raw earlier lines = AllSuitLate raw earlier lines

none-are : (form : Form) (raw : List Bool) (earlier : List (Line Op Step)) → AllAre form raw earlier []
none-are Plain raw earlier = tt
none-are Late raw earlier = tt

more-are : (form : Form) (raw : List Bool) (earlier : List (Line Op Step)) (line : Line Op Step) (lines : List (Line Op Step))
    → LineIs form raw earlier line → AllAre form raw (earlier ++ line ∷ []) lines → AllAre form raw earlier (line ∷ lines)
more-are Plain raw earlier line lines first rest = (first, rest)
more-are Late raw earlier line lines first rest = (first, rest)

module _ (form : Form) (s : SchemaSpec) (clients : List ClientEntry) (apart : NoneBoth clients) where
  pub ops-suit : (earlier : List (Line Op Step)) (n : ℕ) (lines : List (List ℕ)) (ops : List (Line Op Step))
      → ops_of form s clients earlier n lines ≡ Ok ops → AllAre form (raw_flags clients) earlier ops
  unfolding ops_of
  ops-suit earlier n [] ops h = let none : [] ≡ ops = cc in subst (λ l. AllAre form (raw_flags clients) earlier l) none (none-are form (raw_flags clients) earlier)
  ops-suit earlier n (line ∷ rest) ops h =
      let one = then-ok (at_line n (op_line form s clients earlier n line)) _ ops h in
      let two = then-ok (ops_of form s clients (earlier ++ one.0 ∷ []) (n + 1) rest) _ ops one.2 in
      let is : one.0 ∷ two.0 ≡ ops = cc in
      let first = line-suits form s clients apart earlier n line one.0 (line-ok n (op_line form s clients earlier n line) one.0 one.1) in
      let all = more-are form (raw_flags clients) earlier one.0 two.0 first (ops-suit (earlier ++ one.0 ∷ []) (n + 1) rest two.0 two.1) in
      subst (λ l. AllAre form (raw_flags clients) earlier l) is all

-- the op lines that numbered lines are
module _ (s : SchemaSpec) (clients : List ClientEntry) (apart : NoneBoth clients) where
  pub own-suit : (earlier : List (Line Op Step)) (lines : List (ℕ × List ℕ)) (ops : List (Line Op Step)) → own_ops s clients earlier lines ≡ Ok ops → AllSuit (raw_flags clients) earlier ops
  unfolding own_ops
  own-suit earlier [] ops h = let none : [] ≡ ops = cc in subst (λ l. AllSuit (raw_flags clients) earlier l) none tt
  own-suit earlier (l ∷ rest) ops h =
      let line = json_line l.1 >>= (λ d. op_in Plain s clients earlier l.0 d) in
      let one = then-ok (at_line l.0 line) _ ops h in
      let two = then-ok (own_ops s clients (earlier ++ one.0 ∷ []) rest) _ ops one.2 in
      let value = then-ok (json_line l.1) (λ d. op_in Plain s clients earlier l.0 d) one.0 (line-ok l.0 line one.0 one.1) in
      let is : one.0 ∷ two.0 ≡ ops = cc in
      let first : Suits (raw_flags clients) earlier one.0 = op-suits Plain s clients apart earlier l.0 value.0 one.0 value.2 in
      let all : AllSuit (raw_flags clients) earlier (one.0 ∷ two.0) = (first, own-suit (earlier ++ one.0 ∷ []) rest two.0 two.1) in
      subst (λ l. AllSuit (raw_flags clients) earlier l) is all
