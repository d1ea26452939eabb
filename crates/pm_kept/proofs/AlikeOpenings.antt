-- What lines 1 and 2 are to one talk, they are to each that stands alike.
use Rattle.std.proofs.Common.{◌≡◌, ℕ, List, [], ◌∷◌, refl, ap, sym, ◌∙◌, arith}
use Rattle.std.specs.Prelude.{codes, Some, Result, Ok, Err, IsUtf8}
use lib.Utf8.{encode}
use Rattle.serde_json.specs.Data.{Data, string, array, no_items, item}
use Rattle.serde_json.specs.Read.{read}
use Rattle.serde_json.proofs.OnLiterals.{serde_json_on_literals}
use Rattle.pm_list.specs.Readings.{◌>>=◌, or_fault}
use Rattle.pm_tokens.specs.Tokens.{Doc as Document}
use Rattle.pm_schema.specs.declared.schema.Schema.{Schema}
use Rattle.pm_schemajson.specs.Views.{types_of_spec}
use Rattle.pm_head.specs.declared.code.Code.{Code}
use Rattle.pm_head.specs.declared.code.Code.TheVariants.{MissingLine, NotJson}
use Rattle.pm_head.specs.declared.form.Form.TheVariants.{Plain}
use Rattle.pm_head.specs.declared.fault.Refusal.{Refusal}
use Rattle.pm_head.specs.declared.clients.ClientEntry.{ClientEntry}
use Rattle.pm_head.specs.declared.reading.Head.{Head}
use Rattle.pm_head.specs.Refusals.{refused}
use Rattle.pm_head.specs.Lines.{json_line}
use Rattle.pm_head.specs.Schemas.{OfValue, SchemaIs, SchemaLine}
use Rattle.pm_head.specs.Documents.{DocLine}
use Rattle.pm_head.specs.Clients.{clients_line, clients_of, entries_of, editor}
use Rattle.pm_head.specs.Heads.{with_clients}
use Rattle.pm_head.proofs.Split.{json_of-some}
use Rattle.pm_head.proofs.OneHead.{one-refusal, one-head}
use Rattle.pm_kept.specs.Alike.{AlikeSchemas}

-- ---- a line 3, with which lines 1 and 2 are a head

abbrev some_clients : List ℕ
some_clients = codes "[\"a\"]"

abbrev clients_data : Data
clients_data = array (item (string (codes "a")) no_items)

abbrev some_editors : List ClientEntry
some_editors = editor (codes "a") ∷ []

clients-utf8 : IsUtf8 some_clients
unfolding encode
clients-utf8 = (some_clients, (refl, refl))

clients-json : read some_clients ≡ Some clients_data
unfolding serde_json_on_literals
clients-json = refl

clients-value : json_line some_clients ≡ Ok clients_data
unfolding json_line
clients-value = ap (or_fault NotJson) (json_of-some some_clients clients_data clients-utf8 clients-json)

clients-entries : clients_of Plain clients_data ≡ Ok some_editors
unfolding clients_of entries_of
clients-entries = refl

clients-read : clients_line Plain some_clients ≡ Ok some_editors
unfolding clients_line
clients-read = ap (λ r. r >>= clients_of Plain) clients-value ∙ clients-entries

-- ---- line 1

schemas-built : (v : Result Data Code) (s t : Schema) → OfValue SchemaIs v (Ok s) → OfValue SchemaIs v (Ok t) → AlikeSchemas s t
schemas-built (Ok d) s t f g =
    let a = f.0 in
    let b = g.0 in
    let same : types_of_spec s.spec ≡ types_of_spec t.spec = cc in
    record { types = same; one = f.1; other = g.1 }
schemas-built (Err code) s t f g = absurd (cc)

pub schemas-alike : (line : List ℕ) (s t : Schema) → SchemaLine line (Ok s) → SchemaLine line (Ok t) → AlikeSchemas s t
schemas-alike line s t f g = schemas-built (json_line line) s t f g

-- a line that is a schema has no fault
pub schema-apart : (line : List ℕ) (s : Schema) (code : Code) → SchemaLine line (Ok s) → SchemaLine line (Err code) → ⊥
schema-apart line s code f g =
    let same : refused 2 MissingLine ≡ refused 1 code = one-refusal Plain (line ∷ []) (refused 2 MissingLine) (refused 1 code) (Ok s, f, refl) (Err code, g, refl) in
    let lines : ◌≡◌ {A = ℕ} 2 1 = ap (λ (r : Refusal). r.line) same in
    omega (arith, lines)

-- and of one that has a fault the code is one
pub schema-code : (line : List ℕ) (code other : Code) → SchemaLine line (Err code) → SchemaLine line (Err other) → code ≡ other
schema-code line code other f g = ap (λ (r : Refusal). r.code) (one-refusal Plain (line ∷ []) (refused 1 code) (refused 1 other) (Err code, f, refl) (Err other, g, refl))

-- ---- line 2

abbrev head_of : Schema → Document → Head
head_of s doc = record { schema = s; doc = doc; clients = some_editors }

abbrev a_head : Schema → Document → Result Head Refusal
a_head s doc = Ok (head_of s doc)

head-read : (s : Schema) (doc : Document) → a_head s doc ≡ with_clients s doc (clients_line Plain some_clients)
head-read s doc = sym (ap (with_clients s doc) clients-read)

module _ (first : List ℕ) (s t : Schema) (f : SchemaLine first (Ok s)) (g : SchemaLine first (Ok t)) (line : List ℕ) where
  pub docs-alike : (x y : Document) → DocLine s line (Ok x) → DocLine t line (Ok y) → x ≡ y
  docs-alike x y a b =
      (one-head Plain (first ∷ line ∷ some_clients ∷ []) (head_of s x) (head_of t y) (Ok s, f, (Ok x, a, head-read s x)) (Ok t, g, (Ok y, b, head-read t y))).doc

  pub doc-apart : (x : Document) (code : Code) → DocLine s line (Ok x) → DocLine t line (Err code) → ⊥
  doc-apart x code a b =
      let same : refused 3 MissingLine ≡ refused 2 code = one-refusal Plain (first ∷ line ∷ []) (refused 3 MissingLine) (refused 2 code) (Ok s, f, (Ok x, a, refl)) (Ok t, g, (Err code, b, refl)) in
      let lines : ◌≡◌ {A = ℕ} 3 2 = ap (λ (r : Refusal). r.line) same in
      omega (arith, lines)

  pub doc-code : (code other : Code) → DocLine s line (Err code) → DocLine t line (Err other) → code ≡ other
  doc-code code other a b =
      ap (λ (r : Refusal). r.code) (one-refusal Plain (first ∷ line ∷ []) (refused 2 code) (refused 2 other) (Ok s, f, (Err code, a, refl)) (Ok t, g, (Err other, b, refl)))
