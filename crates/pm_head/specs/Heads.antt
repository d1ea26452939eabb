-- What the first three lines are, by the form of the file: a schema, the first document and the clients, or the least faulty of
-- them with its code.
use Rattle.std.specs.Prelude.{◌≡◌, ℕ, List, [], ◌∷◌, Result, Ok, Err}
use Rattle.pm_tokens.specs.Tokens.{Doc}
use Rattle.pm_schema.specs.declared.schema.Schema.{Schema}
use Rattle.pm_head.specs.declared.form.Form.{Form}
use Rattle.pm_head.specs.declared.clients.ClientEntry.{ClientEntry}
use Rattle.pm_head.specs.declared.reading.Head.{Head}
use Rattle.pm_head.specs.declared.code.Code.{Code}
use Rattle.pm_head.specs.declared.code.Code.TheVariants.{MissingLine}
use Rattle.pm_head.specs.declared.fault.Refusal.{Refusal}
use Rattle.pm_head.specs.Refusals.{refused}
use Rattle.pm_head.specs.Schemas.{SchemaLine}
use Rattle.pm_head.specs.Documents.{DocLine}
use Rattle.pm_head.specs.Clients.{clients_line}

-- what line 3 is, after this schema and document
abbrev pub with_clients : Schema → Doc → Result (List ClientEntry) Code → Result Head Refusal
with_clients s doc (Ok clients) = Ok (record { schema = s; doc = doc; clients = clients })
with_clients s doc (Err code) = Err (refused 3 code)

module _ (form : Form) where
  -- what the lines after line 2 are, which gave this
  abbrev pub AfterDoc : Schema → Result Doc Code → List (List ℕ) → Result Head Refusal → Type 0
  AfterDoc s (Err code) lines r = r ≡ Err (refused 2 code)
  AfterDoc s (Ok doc) [] r = r ≡ Err (refused 3 MissingLine)
  AfterDoc s (Ok doc) (line ∷ lines) r = r ≡ with_clients s doc (clients_line form line)

  -- what the lines after line 1 are, which gave this
  abbrev pub AfterSchema : Result Schema Code → List (List ℕ) → Result Head Refusal → Type 0
  AfterSchema (Err code) lines r = r ≡ Err (refused 1 code)
  AfterSchema (Ok s) [] r = r ≡ Err (refused 2 MissingLine)
  AfterSchema (Ok s) (line ∷ lines) r = (doc : Result Doc Code) × DocLine s line doc × AfterDoc s doc lines r

  -- A line that is missing has a code too.
  abbrev pub HeadIs : List (List ℕ) → Result Head Refusal → Type 0
  HeadIs [] r = r ≡ Err (refused 1 MissingLine)
  HeadIs (line ∷ lines) r = (s : Result Schema Code) × SchemaLine line s × AfterSchema s lines r
