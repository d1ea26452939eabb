-- A generated file is a session.
use Rattle.std.proofs.Common.{◌≡◌, ℕ, zero, suc, ◌+◌, ◌*◌, ◌<◌, ◌≤◌, Bool, MatchBool, if◌then◌else◌, List, [], ◌∷◌, ◌++◌, length, Result, Ok, Err, Global, refl, sym, ap, ◌∙◌, subst, arith, length-append, leb-true}
use Rattle.pm_node.specs.Documents.{doc_of}
use Rattle.pm_meaning.specs.Steps.{Step}
use Rattle.pm_ops.specs.declared.op.Op.{Op}
use Rattle.pm_session.specs.declared.line.Line.{Line}
use Rattle.pm_head.specs.declared.form.Form.TheVariants.{Plain}
use Rattle.pm_head.specs.declared.code.Code.TheVariants.{InputTooLong, WrongEnter}
use Rattle.pm_head.specs.declared.fault.Refusal.{Refusal}
use Rattle.pm_head.specs.declared.reading.Head.{Head}
use Rattle.pm_head.specs.Refusals.{refused}
use Rattle.pm_head.specs.Lines.{lines_of}
use Rattle.pm_head.specs.Heads.{with_clients}
use Rattle.pm_script.specs.declared.session.Session.{Session}
use Rattle.pm_script.specs.Sessions.{ops_of, with_ops, SessionOf, SessionIs}
use Rattle.pm_script.proofs.OneSession.{session-apart}
use Rattle.pm_gen.specs.Bounds.{InBounds}
use Rattle.pm_gen.specs.Session.{schema_text, document_text, names, turn_lines, line, generated}
use Rattle.pm_gen_laws.specs.Law.{IsSession, IsNeverRefused}
use Rattle.pm_gen_laws.proofs.Readable.{lt-false}
use Rattle.pm_gen_laws.proofs.Lines.{head-lines}
use Rattle.pm_gen_laws.proofs.Spec.{spec}
use Rattle.pm_gen_laws.proofs.Built.{schema}
use Rattle.pm_gen_laws.proofs.Document.{schema-shown, schema-line, doc-shown, doc-line, top}
use Rattle.pm_gen_laws.proofs.Clients.{editors, names-shown, names-short, clients-read, none-enters}
use Rattle.pm_gen_laws.proofs.Ops.{lines-read, lines-short}

schema-short : length (line schema_text) ≤ 1000
schema-short = leb-true (length (line schema_text)) 1000 refl

document-short : length (line document_text) ≤ 1000
document-short = leb-true (length (line document_text)) 1000 refl

-- the length of the file, of whose lines these are the parts
long : (a b c d : List ℕ) → length (((a ++ b) ++ c) ++ d) ≡ length a + length b + length c + length d
long a b c d = omega (arith, length-append ((a ++ b) ++ c) d, length-append (a ++ b) c, length-append a b)

module _ (g : Global) (n rounds number : ℕ) (few : n < 32) (small : suc n * rounds ≤ 100000) where
  abbrev turns : List ℕ
  turns = turn_lines (suc n) 0 (suc n * rounds) number

  abbrev head : Head
  head = record { schema = schema g; doc = doc_of top; clients = editors 1 (suc n) }

  abbrev read : (ops : List (Line Op Step)) × (ops_of Plain (spec g) (editors 1 (suc n)) [] 4 (lines_of turns) ≡ Ok ops)
  read = lines-read g n few (suc n * rounds) 0 number [] 4 (omega (arith, small))

  abbrev ops : Result (List (Line Op Step)) Refusal
  ops = ops_of Plain (spec g) (editors 1 (suc n)) [] 4 (lines_of turns)

  abbrev session : Session
  session = record { head = head; lines = read.0 }

  of-lines : SessionOf Plain (schema_text ∷ document_text ∷ names (suc n) ∷ lines_of turns) (Ok session)
  of-lines = (
    Ok head,
    (Ok (schema g), schema-line g, (Ok (doc_of top), doc-line g, sym (ap (with_clients (schema g) (doc_of top)) (clients-read n few)))),
    sym (ap (λ (b : Bool). if b then with_ops head ops else Err (refused 3 WrongEnter)) (none-enters (suc n) 1 (lines_of turns)) ∙ ap (with_ops head) read.1),
  )

  short : length (generated (suc n) rounds number) ≤ 67108864
  short =
      let t : length turns ≤ 321 * (suc n * rounds) = lines-short g n few (suc n * rounds) 0 number in
      let c : length (names (suc n)) ≤ 300 = names-short n few in
      omega (arith, long (line schema_text) (line document_text) (line (names (suc n))) turns, schema-short, document-short, length-append (names (suc n)) (10 ∷ []), t, c, small)

  pub is-session : SessionIs Plain (generated (suc n) rounds number) (Ok session)
  is-session =
      let lines : lines_of (generated (suc n) rounds number) ≡ schema_text ∷ document_text ∷ names (suc n) ∷ lines_of turns =
      head-lines schema_text document_text (names (suc n)) turns schema-shown doc-shown (names-shown n few) in
      let of : SessionOf Plain (lines_of (generated (suc n) rounds number)) (Ok session) = subst (λ (ls : List (List ℕ)). SessionOf Plain ls (Ok session)) (sym lines) of-lines in
      subst (λ (b : Bool). MatchBool b (Ok session ≡ Err (refused 0 InputTooLong)) (SessionOf Plain (lines_of (generated (suc n) rounds number)) (Ok session))) (sym (lt-false 67108864 (length (generated (suc n) rounds number)) short)) of

-- a handle to the heap, for the expressions of the schema
abbrev heap : Global
heap = record { memory = record { seal = tt } }

pub generated-session : (clients rounds number : ℕ) → InBounds clients rounds → IsSession (generated clients rounds number)
generated-session zero rounds number b = absurd (omega (arith, b.some))
generated-session (suc n) rounds number b = (session heap n rounds number (omega (arith, b.few)) b.small, is-session heap n rounds number (omega (arith, b.few)) b.small)

pub never-refused : (clients rounds number : ℕ) → InBounds clients rounds → IsNeverRefused (generated clients rounds number)
never-refused clients rounds number b refusal is = let s = generated-session clients rounds number b in session-apart Plain (generated clients rounds number) s.0 refusal s.1 is
