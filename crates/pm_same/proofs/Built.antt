-- The schema of a session that an input is was built.
use Rattle.std.proofs.Common.{◌≡◌, ℕ, Bool, true, false, List, [], ◌∷◌, length, drop, subst, sym, Result, Ok, Err}
use Rattle.std.specs.Prelude.{nat_lt, MatchBool, if◌then◌else◌}
use Rattle.serde_json.specs.Data.{Data}
use Rattle.pm_tokens.specs.Tokens.{Doc}
use Rattle.pm_schema.specs.declared.schema.Schema.{Schema}
use Rattle.pm_schema.specs.Built.{IsBuilt}
use Rattle.pm_meaning.specs.Steps.{Step}
use Rattle.pm_ops.specs.declared.op.Op.{Op}
use Rattle.pm_head.specs.declared.code.Code.{Code}
use Rattle.pm_head.specs.declared.code.Code.TheVariants.{InputTooLong, WrongEnter}
use Rattle.pm_head.specs.declared.fault.Refusal.{Refusal}
use Rattle.pm_head.specs.declared.clients.ClientEntry.{ClientEntry}
use Rattle.pm_head.specs.declared.form.Form.{Form}
use Rattle.pm_head.specs.declared.reading.Head.{Head}
use Rattle.pm_head.specs.Refusals.{refused}
use Rattle.pm_head.specs.Lines.{json_line, lines_of}
use Rattle.pm_head.specs.Schemas.{OfValue, SchemaIs}
use Rattle.pm_head.specs.Clients.{clients_line}
use Rattle.pm_head.specs.Heads.{with_clients, AfterDoc, AfterSchema, HeadIs}
use Rattle.pm_session.specs.declared.line.Line.{Line}
use Rattle.pm_script.specs.declared.session.Session.{Session}
use Rattle.pm_script.specs.declared.session.TheConstants.{MAX_INPUT}
use Rattle.pm_script.specs.Entrants.{all_enter}
use Rattle.pm_script.specs.Sessions.{ops_of, with_ops, behind_head, SessionOf, SessionIs}

-- ---- the head

abbrev a_head : Head → Result Head Refusal
a_head h = Ok h

with-built : (s : Schema) (doc : Doc) (r : Result (List ClientEntry) Code) (h : Head) → IsBuilt s → a_head h ≡ with_clients s doc r → IsBuilt h.schema
with-built s doc (Ok cs) h b e = let is : record { schema = s; doc = doc; clients = cs } ≡ h = cc in subst (λ (x : Head). IsBuilt x.schema) is b
with-built s doc (Err code) h b e = absurd (cc)

module _ (form : Form) where
  after-doc : (s : Schema) (doc : Result Doc Code) (lines : List (List ℕ)) (h : Head) → IsBuilt s → AfterDoc form s doc lines (Ok h) → IsBuilt h.schema
  after-doc s (Err code) lines h b e = absurd (cc)
  after-doc s (Ok doc) [] h b e = absurd (cc)
  after-doc s (Ok doc) (line ∷ lines) h b e = with-built s doc (clients_line form line) h b e

  after-schema : (v : Result Data Code) (r : Result Schema Code) (lines : List (List ℕ)) (h : Head) → OfValue SchemaIs v r → AfterSchema form r lines (Ok h) → IsBuilt h.schema
  after-schema v (Err code) lines h f e = absurd (cc)
  after-schema v (Ok s) [] h f e = absurd (cc)
  after-schema (Err code) (Ok s) (line ∷ lines) h f e = absurd (cc)
  after-schema (Ok d) (Ok s) (line ∷ lines) h f e = after-doc s e.0 lines h f.1 e.2

  pub head-built : (lines : List (List ℕ)) (h : Head) → HeadIs form lines (Ok h) → IsBuilt h.schema
  head-built [] h e = absurd (cc)
  head-built (line ∷ lines) h e = after-schema (json_line line) e.0 lines h e.1 e.2

-- ---- the session

abbrev a_session : Session → Result Session Refusal
a_session s = Ok s

ops-built : (h : Head) (r : Result (List (Line Op Step)) Refusal) (s : Session) → IsBuilt h.schema → with_ops h r ≡ Ok s → IsBuilt s.head.schema
ops-built h (Ok ops) s b e = let made : record { head = h; lines = ops } ≡ s = cc in subst (λ (x : Session). IsBuilt x.head.schema) made b
ops-built h (Err refusal) s b e = absurd (cc)

if-ok : (b : Bool) (r : Result Session Refusal) (refusal : Refusal) (s : Session) → (if b then r else Err refusal) ≡ Ok s → r ≡ Ok s
if-ok true r refusal s h = h
if-ok false r refusal s h = absurd (cc)

module _ (form : Form) where
  of-built : (lines : List (List ℕ)) (s : Session) → SessionOf form lines (Ok s) → IsBuilt s.head.schema
  of-built lines s e = from e.0 e.1 e.2
    where
      from : (head : Result Head Refusal) → HeadIs form lines head → Ok s ≡ behind_head form head (drop 3 lines) → IsBuilt s.head.schema
      from (Ok h) is e =
          let read = if-ok (all_enter h.clients (drop 3 lines)) (with_ops h (ops_of form h.schema.spec h.clients [] 4 (drop 3 lines))) (refused 3 WrongEnter) s (sym e) in
          ops-built h (ops_of form h.schema.spec h.clients [] 4 (drop 3 lines)) s (head-built form lines h is) read
      from (Err refusal) is e = absurd (cc)

  pub session-built : (input : List ℕ) (s : Session) → SessionIs form input (Ok s) → IsBuilt s.head.schema
  session-built input s e = from (nat_lt MAX_INPUT (length input)) e
    where
      from : (b : Bool) → MatchBool b (a_session s ≡ Err (refused 0 InputTooLong)) (SessionOf form (lines_of input) (Ok s)) → IsBuilt s.head.schema
      from true e = absurd (cc)
      from false e = of-built (lines_of input) s e
