-- The op lines of a generated session are read.
use Rattle.std.proofs.Common.{◌≡◌, ℕ, zero, suc, ◌+◌, ◌*◌, ◌%◌, ◌<◌, ◌≤◌, Bool, true, false, nat_eq, nat_lt, if◌then◌else◌, List, [], ◌∷◌, ◌++◌, length, position, Some, None, Result, Ok, Err, Global, refl, ap, ◌∙◌, arith, length-append}
use Rattle.std.specs.Cmp.Lexicographic.{pointwise}
use Rattle.pm_list.specs.Readings.{◌>>=◌}
use Rattle.pm_meaning.specs.Steps.{Step}
use Rattle.pm_ops.specs.declared.op.Op.{Op}
use Rattle.pm_ops.specs.declared.op.Op.TheVariants as op
use Rattle.pm_session.specs.declared.line.Act.{Act}
use Rattle.pm_session.specs.declared.line.Act.TheVariants as act
use Rattle.pm_session.specs.declared.line.Line.{Line}
use Rattle.pm_docjson.specs.Values.{values_for}
use Rattle.pm_docjson.specs.Reading.{mark_of, attrs_read, given_at}
use Rattle.pm_head.specs.declared.form.Form.TheVariants.{Plain}
use Rattle.pm_head.specs.declared.code.Code.{Code}
use Rattle.pm_head.specs.declared.code.Code.TheVariants.{TooManyLines}
use Rattle.pm_head.specs.declared.clients.ClientEntry.{ClientEntry}
use Rattle.pm_head.specs.Lines.{json_line, lines_of}
use Rattle.pm_opjson.specs.Ops.{text_op, delete_op, split_op, add_mark_op}
use Rattle.pm_script.specs.Acts.{edit_in}
use Rattle.pm_script.specs.Lines.{is_raw, is_late, op_in, op_line}
use Rattle.pm_script.specs.Sessions.{at_line, ops_of}
use Rattle.pm_gen.specs.Lines.{turn_line}
use Rattle.pm_gen.specs.Turns.{turn_at, after_turn}
use Rattle.pm_gen.specs.Session.{turn_lines}
use Rattle.pm_gen.proofs.TurnLines.{Kind, Text, Delete, Split, AddMark, Undo, Redo, Push, Pull, kind_of, line-of-kind, IsSmall, turn-small}
use Rattle.pm_gen_laws.proofs.Readable.{lt-false}
use Rattle.pm_gen_laws.proofs.Lines.{next-line}
use Rattle.pm_gen_laws.proofs.Texts.{data_of, body, line-is, body-shown, body-short, body-reads}
use Rattle.pm_gen_laws.proofs.Spec.{spec}
use Rattle.pm_gen_laws.proofs.Clients.{name_of, editors, found, not-raw, not-late}

abbrev mark_kind : Bool → ℕ
mark_kind true = 2
mark_kind false = 1

abbrev pub act_of : Kind → Act Op Step
act_of (Text at letter) = act.Edit (op.InsertText at at (letter ∷ [])) None
act_of (Delete from to) = act.Edit (op.Delete from to) None
act_of (Split at) = act.Edit (op.Split at 1) None
act_of (AddMark from to strong) = act.Edit (op.AddMark from to (record { kind = mark_kind strong; attrs = [] })) None
act_of Undo = act.Undo
act_of Redo = act.Redo
act_of (Push lost) = act.Push lost
act_of Pull = act.Pull false

-- a small number is one of a field
counts : (n : ℕ) → n < 64 → nat_lt 4294967295 n ≡ false
counts n h = lt-false 4294967295 n (omega arith)

module _ (g : Global) (clients : List ClientEntry) (earlier : List (Line Op Step)) (n c i : ℕ) where
  abbrev IsAt : Type 0
  IsAt = position (λ (e : ClientEntry). pointwise nat_eq (name_of c) e.name) clients ≡ Some i

  op-read : (t : Kind) → IsSmall t → IsAt → is_raw clients i ≡ false → is_late clients i ≡ false → op_in Plain (spec g) clients earlier n (data_of c t) ≡ Ok (record { number = n; client = i; act = act_of t })
  unfolding op_in edit_in text_op delete_op split_op add_mark_op mark_of attrs_read given_at values_for
  op-read (Text at letter) s f r late = rw (f, r, late, counts at s.0) refl
  op-read (Delete from to) s f r late = rw (f, r, late, counts from s.0, counts to s.1) refl
  op-read (Split at) s f r late = rw (f, r, late, counts at s) refl
  op-read (AddMark from to true) s f r late = rw (f, r, late, counts from s.0, counts to s.1) refl
  op-read (AddMark from to false) s f r late = rw (f, r, late, counts from s.0, counts to s.1) refl
  op-read Undo s f r late = rw (f, r, late) refl
  op-read Redo s f r late = rw (f, r, late) refl
  op-read (Push true) s f r late = rw (f, r, late) refl
  op-read (Push false) s f r late = rw (f, r, late) refl
  op-read Pull s f r late = rw (f, r, late) refl

  line-read : (t : Kind) → c < 64 → IsSmall t → n ≤ 100003 → IsAt → is_raw clients i ≡ false → is_late clients i ≡ false → op_line Plain (spec g) clients earlier n (body c t) ≡ Ok (record { number = n; client = i; act = act_of t })
  unfolding op_line
  line-read t h s l f r late =
      ap (λ (b : Bool). if b then Err TooManyLines else (json_line (body c t) >>= (λ d. op_in Plain (spec g) clients earlier n d))) (lt-false 100003 n l)
      ∙ (ap (λ v. v >>= (λ d. op_in Plain (spec g) clients earlier n d)) (body-reads c t h s) ∙ op-read t s f r late)

-- the lines of n + 1 clients
module _ (g : Global) (n : ℕ) (few : n < 32) where
  pub lines-read : (count i x : ℕ) (earlier : List (Line Op Step)) (k : ℕ) → k + count ≤ 100004 → (ops : List (Line Op Step)) × (ops_of Plain (spec g) (editors 1 (suc n)) earlier k (lines_of (turn_lines (suc n) i count x)) ≡ Ok ops)
  unfolding turn_lines ops_of lines_of
  lines-read zero i x earlier k h = ([], refl)
  lines-read (suc m) i x earlier k h =
      let j : ℕ = i % suc n in
      let inside : i % suc n < suc n = omega arith in
      let t : Kind = kind_of (turn_at x) in
      let more = turn_lines (suc n) (i + 1) m (after_turn x) in
      let small : IsSmall (kind_of (turn_at x)) = turn-small x in
      let one : Line Op Step = record { number = k; client = i % suc n; act = act_of (kind_of (turn_at x)) } in
      let rest = lines-read m (i + 1) (after_turn x) (earlier ++ one ∷ []) (k + 1) (omega (arith, h)) in
      let split : lines_of (turn_lines (suc n) i (suc m) x) ≡ body (i % suc n + 1) (kind_of (turn_at x)) ∷ lines_of more =
      ap (λ z. lines_of (z ++ more)) (line-of-kind (i % suc n + 1) (turn_at x) ∙ line-is (i % suc n + 1) (kind_of (turn_at x))) ∙ next-line (body (i % suc n + 1) (kind_of (turn_at x))) more (body-shown (i % suc n + 1) (kind_of (turn_at x)) (omega (arith, inside, few)) small) in
      let read : op_line Plain (spec g) (editors 1 (suc n)) earlier k (body (i % suc n + 1) (kind_of (turn_at x))) ≡ Ok one =
      line-read g (editors 1 (suc n)) earlier k (i % suc n + 1) (i % suc n) (kind_of (turn_at x)) (omega (arith, inside, few)) small (omega (arith, h)) (found (suc n) (i % suc n) inside (omega (arith, few))) (not-raw (suc n) (i % suc n) 1 inside) (not-late (suc n) (i % suc n) 1 inside) in (
        one ∷ rest.0,
        ap (ops_of Plain (spec g) (editors 1 (suc n)) earlier k) split
            ∙ (ap (λ (r : Result (Line Op Step) Code). at_line k r >>= (λ o. ops_of Plain (spec g) (editors 1 (suc n)) (earlier ++ o ∷ []) (k + 1) (lines_of more) >>= (λ later. Ok (o ∷ later)))) read
            ∙ ap (λ r. r >>= (λ later. Ok (one ∷ later))) rest.1),
      )

  pub lines-short : (count i x : ℕ) → length (turn_lines (suc n) i count x) ≤ 321 * count
  unfolding turn_lines
  lines-short zero i x = omega arith
  lines-short (suc m) i x =
      let inside : i % suc n < suc n = omega arith in
      let more = turn_lines (suc n) (i + 1) m (after_turn x) in
      let rest : length more ≤ 321 * m = lines-short m (i + 1) (after_turn x) in
      let here : length (body (i % suc n + 1) (kind_of (turn_at x))) ≤ 320 = body-short (i % suc n + 1) (kind_of (turn_at x)) (omega (arith, inside, few)) (turn-small x) in
      let is : turn_line (i % suc n + 1) (turn_at x) ≡ body (i % suc n + 1) (kind_of (turn_at x)) ++ 10 ∷ [] = line-of-kind (i % suc n + 1) (turn_at x) ∙ line-is (i % suc n + 1) (kind_of (turn_at x)) in
      let own : length (turn_line (i % suc n + 1) (turn_at x)) ≤ 321 = omega (arith, ap length is, length-append (body (i % suc n + 1) (kind_of (turn_at x))) (10 ∷ []), here) in
      omega (arith, length-append (turn_line (i % suc n + 1) (turn_at x)) more, own, rest)
