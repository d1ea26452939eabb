-- What `select` writes for an input is one text.
use Rattle.std.proofs.Common.{◌≡◌, ℕ, List, [], ◌∷◌, ◌++◌, inl, inr, sym, ap, subst, ◌∙◌}
use Rattle.std.specs.Prelude.{Result, Ok, Err}
use Rattle.pm_tokens.specs.Tokens.{Doc}
use Rattle.pm_schema.specs.declared.schema.Schema.{Schema}
use Rattle.pm_schema.specs.Documents.{documents_of}
use Rattle.pm_schema.specs.Built.{IsBuilt}
use Rattle.pm_schemajson.specs.Views.{types_of_spec}
use Rattle.pm_schemajson.proofs.SameDocuments.{documents-alike}
use Rattle.pm_meaning.specs.Steps.{Step}
use Rattle.pm_apply.specs.Changes.{meaning}
use Rattle.pm_ops.specs.declared.op.Op.{Op}
use Rattle.pm_session.specs.declared.line.Line.{Line}
use Rattle.pm_session.specs.Events.{played}
use Rattle.pm_session.specs.Sessions.{opened}
use Rattle.pm_selective.specs.Playing.{Room, Outcome, FindsApart, UndoesApart, AreApartLines}
use Rattle.pm_head.specs.declared.fault.Refusal.{Refusal}
use Rattle.pm_head.specs.declared.form.Form.TheVariants as form
use Rattle.pm_head.specs.Clients.{raw_flags}
use Rattle.pm_making.specs.Making.{makes}
use Rattle.pm_same.proofs.Built.{session-built}
use Rattle.pm_same.proofs.SameSteps.{makes-alike}
use Rattle.pm_script.specs.declared.session.Session.{Session}
use Rattle.pm_script.specs.Sessions.{SessionIs}
use Rattle.pm_script.proofs.OneSession.{session-apart, one-refusal, one-session}
use Rattle.pm_call.specs.declared.call.Status.{Status}
use Rattle.pm_call.specs.declared.words.Command.TheVariants.{Select}
use Rattle.pm_call.specs.Output.{refusal, IsTextOf, IsOutput}
use Rattle.pm_call.specs.OneOutput.{HasOneOutput}
use Rattle.pm_call.specs.Playing.{room_of, report_of}
use Rattle.pm_call.specs.Selecting.{apart_line, IsSelected}
use Rattle.pm_call.proofs.Cases.{one-status}
use Rattle.pm_call.proofs.Contents.{as_content, read-text}
use Rattle.pm_call.proofs.SameReports.{one-report}
use Rattle.pm_laws.proofs.SameKins.{by, kin-to}

-- ---- lines that lie apart

module _ (s t : Schema) (same : documents_of s.spec ≡ documents_of t.spec) where
  finds-to : (room : Room) (line : Line Op Step) → FindsApart t room line → FindsApart s room line
  finds-to room line f = record {
    number = f.number;
    client = f.client;
    event = f.event;
    act_is = f.act_is;
    at = f.at;
    found = f.found;
    apart = λ kin. f.apart (kin-to s t same room.authority.first room.authority.log f.client kin);
  }

  undoes-to : (room : Room) (line : Line Op Step) (o q : Outcome) → q ≡ o → UndoesApart t room line o → UndoesApart s room line q
  unfolding finds-to
  undoes-to room line o q e u = (finds-to room line u.0, e ∙ u.1)

module _ (s t : Schema) (h : types_of_spec s.spec ≡ types_of_spec t.spec) (bs : IsBuilt s) (bt : IsBuilt t) where
  same : documents_of s.spec ≡ documents_of t.spec
  same = documents-alike s.spec t.spec h

  played-alike : (room : Room) (line : Line Op Step) → played meaning s (makes s) room line ≡ played meaning t (makes t) room line
  played-alike room line = λ i. played (by (documents-alike s.spec t.spec h i)) s (λ (d : Doc) (o : Op). makes-alike s t h bs bt d o i) room line

  abbrev Apart : Schema → Room → List (Line Op Step) → List ℕ → Type 0
  Apart schema room lines numbers = AreApartLines schema (makes schema) room lines numbers

  -- the rest of the lines, from one room
  later : (room : Room) (line : Line Op Step) (lines : List (Line Op Step)) (numbers : List ℕ)
      → Apart t (played meaning t (makes t) room line).1 lines numbers → Apart t (played meaning s (makes s) room line).1 lines numbers
  later room line lines numbers k = subst (λ r. Apart t r.1 lines numbers) (sym (played-alike room line)) k

  one-apart : (room : Room) (lines : List (Line Op Step)) (a b : List ℕ) → Apart s room lines a → Apart t room lines b → a ≡ b
  one-apart room [] a b x y = x ∙ sym y
  one-apart room (line ∷ lines) a b x y = by-case (λ c d u w. one-apart (played meaning s (makes s) room line).1 lines c d u w) x y
    where
      first : (played meaning s (makes s) room line).0 ≡ (played meaning t (makes t) room line).0
      first = ap (λ p. p.0) (played-alike room line)

      by-case : ((c d : List ℕ) → Apart s (played meaning s (makes s) room line).1 lines c → Apart t (played meaning s (makes s) room line).1 lines d → c ≡ d)
          → Apart s room (line ∷ lines) a → Apart t room (line ∷ lines) b → a ≡ b
      by-case rest (inl u) (inl w) = u.3 ∙ (ap (λ l. line.number ∷ l) (rest u.2 w.2 u.4 (later room line lines w.2 w.4)) ∙ sym w.3)
      by-case rest (inl u) (inr w) = absurd (w.0 (undoes-to t s (sym same) room line (played meaning s (makes s) room line).0 (played meaning t (makes t) room line).0 (sym first) u.0))
      by-case rest (inr u) (inl w) = absurd (u.0 (undoes-to s t same room line (played meaning t (makes t) room line).0 (played meaning s (makes s) room line).0 first w.0))
      by-case rest (inr u) (inr w) = rest a b u.1 (later room line lines b w.1)

-- ---- the text

one-selected : (input : List ℕ) (s t : Session) → SessionIs form.Plain input (Ok s) → SessionIs form.Plain input (Ok t) → (text other : List ℕ) → IsSelected s text → IsSelected t other → text ≡ other
one-selected input s t is it text other x y =
    let e = one-session form.Plain input s t is it in
    let T = t.head.schema in
    let lines : AreApartLines T (makes T) (room_of t) s.lines y.numbers = subst (λ l. AreApartLines T (makes T) (room_of t) l y.numbers) (sym e.lines) y.apart in
    let from : AreApartLines T (makes T) (room_of s) s.lines y.numbers =
    subst (λ (r : Room). AreApartLines T (makes T) r s.lines y.numbers) (sym (λ i. opened (e.head.doc i) (raw_flags (e.head.clients i)))) lines in
    let numbers : x.numbers ≡ y.numbers =
    one-apart s.head.schema T e.head.types (session-built form.Plain input s is) (session-built form.Plain input t it) (room_of s) s.lines x.numbers y.numbers x.apart from in
    let report : report_of s ≡ report_of t = one-report input s t is it in
    x.written ∙ ((λ i. apart_line (numbers i) ++ report i) ∙ sym y.written)

one-select : (input text other : List ℕ) (a b : Status) → IsOutput Select input text a → IsOutput Select input other b → text ≡ other
one-select input text other a b x y =
    let p = read-text Select form.Plain input text x.found x.is x.written in
    let q = read-text Select form.Plain input other y.found y.is y.written in
    at p.0 q.0 p.1 q.1 p.2 q.2
  where
    at : (f g : Result Session Refusal) → SessionIs form.Plain input f → SessionIs form.Plain input g → IsTextOf Select (as_content f) text → IsTextOf Select (as_content g) other → text ≡ other
    at (Ok s) (Ok t) h k v w = one-selected input s t h k text other v w
    at (Ok s) (Err refused) h k v w = absurd (session-apart form.Plain input s refused h k)
    at (Err refused) (Ok t) h k v w = absurd (session-apart form.Plain input t refused k h)
    at (Err refused) (Err g) h k v w = v ∙ ap refusal (one-refusal form.Plain input refused g h k) ∙ sym w

pub select-output : (input : List ℕ) → HasOneOutput Select input
select-output input text other a b x y = (one-select input text other a b x y, one-status Select input text other a b x y)
