-- Two meanings of the first three lines agree.
use Rattle.std.proofs.Common.{◌≡◌, ℕ, List, [], ◌∷◌, refl, ap, sym, subst}
use Rattle.std.specs.Prelude.{Result, Ok, Err}
use Rattle.serde_json.specs.Data.{Data}
use Rattle.pm_tokens.specs.Tokens.{Doc}
use Rattle.pm_schema.specs.declared.schema.Schema.{Schema}
use Rattle.pm_schema.specs.Built.{IsBuilt}
use Rattle.pm_schemajson.specs.Views.{types_of_spec}
use Rattle.pm_head.specs.declared.form.Form.{Form}
use Rattle.pm_head.specs.declared.code.Code.{Code}
use Rattle.pm_head.specs.declared.code.Code.TheVariants.{MissingLine}
use Rattle.pm_head.specs.declared.fault.Refusal.{Refusal}
use Rattle.pm_head.specs.declared.clients.ClientEntry.{ClientEntry}
use Rattle.pm_head.specs.declared.reading.Head.{Head}
use Rattle.pm_head.specs.Refusals.{refused}
use Rattle.pm_head.specs.Lines.{json_line}
use Rattle.pm_head.specs.Schemas.{OfValue, SchemaIs, SchemaLine}
use Rattle.pm_head.specs.Documents.{DocLine}
use Rattle.pm_head.specs.Clients.{clients_line}
use Rattle.pm_head.specs.Heads.{with_clients, AfterDoc, AfterSchema, HeadIs}
use Rattle.pm_head.specs.OneMeaning.{SameHead}
use Rattle.pm_head.proofs.OneSchema.{schema-apart, schema-code}
use Rattle.pm_head.proofs.OneDocument.{line-doc, line-apart, line-code}

-- ---- line 1

abbrev Schemas : Result Schema Code → Result Schema Code → Type 0
Schemas (Ok s) (Ok t) = (types_of_spec s.spec ≡ types_of_spec t.spec) × IsBuilt s × IsBuilt t
Schemas (Ok s) (Err code) = ⊥
Schemas (Err code) (Ok t) = ⊥
Schemas (Err code) (Err other) = code ≡ other

schemas : (line : List ℕ) (r q : Result Schema Code) → SchemaLine line r → SchemaLine line q → Schemas r q
schemas line r q = at (json_line line) r q
  where
    at : (v : Result Data Code) (x y : Result Schema Code) → OfValue SchemaIs v x → OfValue SchemaIs v y → Schemas x y
    at (Ok d) (Ok s) (Ok t) f g = let a = f.0 in let b = g.0 in (cc, f.1, g.1)
    at (Ok d) (Ok s) (Err code) f g = schema-apart d s code f g
    at (Ok d) (Err code) (Ok t) f g = schema-apart d t code g f
    at (Ok d) (Err code) (Err other) f g = schema-code d code other f g
    at (Err c) (Ok s) y f g = absurd (cc)
    at (Err c) (Err code) (Ok t) f g = absurd (cc)
    at (Err c) (Err code) (Err other) f g = cc

-- ---- line 2

abbrev Docs : Result Doc Code → Result Doc Code → Type 0
Docs (Ok x) (Ok y) = x ≡ y
Docs (Ok x) (Err code) = ⊥
Docs (Err code) (Ok y) = ⊥
Docs (Err code) (Err other) = code ≡ other

docs : (s t : Schema) → types_of_spec s.spec ≡ types_of_spec t.spec → IsBuilt s → IsBuilt t → (line : List ℕ) (r q : Result Doc Code) → DocLine s line r → DocLine t line q → Docs r q
docs s t h bs bt line (Ok x) (Ok y) f g = line-doc s t h bs bt line x y f g
docs s t h bs bt line (Ok x) (Err code) f g = line-apart s t h bs bt line x code f g
docs s t h bs bt line (Err code) (Ok y) f g = line-apart t s (sym h) bt bs line y code g f
docs s t h bs bt line (Err code) (Err other) f g = line-code s t h bs bt line code other f g

-- ---- the lines

abbrev Heads : Result Head Refusal → Result Head Refusal → Type 0
Heads (Ok g) (Ok h) = SameHead g h
Heads (Ok g) (Err refusal) = ⊥
Heads (Err refusal) (Ok h) = ⊥
Heads (Err refusal) (Err other) = refusal ≡ other

-- two results that are these
these : (r r' q q' : Result Head Refusal) → r ≡ r' → q ≡ q' → Heads r' q' → Heads r q
these r r' q q' e f a = subst (λ z. Heads z q) (sym e) (subst (Heads r') (sym f) a)

clients-agree : (s t : Schema) → types_of_spec s.spec ≡ types_of_spec t.spec → (x y : Doc) → x ≡ y → (cs : Result (List ClientEntry) Code) → Heads (with_clients s x cs) (with_clients t y cs)
clients-agree s t h x y e (Ok cs) = record { types = h; doc = e; clients = refl }
clients-agree s t h x y e (Err code) = refl

module _ (form : Form) where
  after-doc : (s t : Schema) → types_of_spec s.spec ≡ types_of_spec t.spec → (x y : Result Doc Code) → Docs x y → (lines : List (List ℕ)) (r q : Result Head Refusal) → AfterDoc form s x lines r → AfterDoc form t y lines q → Heads r q
  after-doc s t h (Ok x) (Ok y) e [] r q f g = these r (Err (refused 3 MissingLine)) q (Err (refused 3 MissingLine)) f g refl
  after-doc s t h (Ok x) (Ok y) e (line ∷ lines) r q f g = these r (with_clients s x (clients_line form line)) q (with_clients t y (clients_line form line)) f g (clients-agree s t h x y e (clients_line form line))
  after-doc s t h (Ok x) (Err code) e lines r q f g = absurd e
  after-doc s t h (Err code) (Ok y) e lines r q f g = absurd e
  after-doc s t h (Err code) (Err other) e lines r q f g = these r (Err (refused 2 code)) q (Err (refused 2 other)) f g (ap (refused 2) e)

  after-schema : (x y : Result Schema Code) → Schemas x y → (lines : List (List ℕ)) (r q : Result Head Refusal) → AfterSchema form x lines r → AfterSchema form y lines q → Heads r q
  after-schema (Ok s) (Ok t) e [] r q f g = these r (Err (refused 2 MissingLine)) q (Err (refused 2 MissingLine)) f g refl
  after-schema (Ok s) (Ok t) e (line ∷ lines) r q f g = after-doc s t e.0 f.0 g.0 (docs s t e.0 e.1 e.2 line f.0 g.0 f.1 g.1) lines r q f.2 g.2
  after-schema (Ok s) (Err code) e lines r q f g = absurd e
  after-schema (Err code) (Ok t) e lines r q f g = absurd e
  after-schema (Err code) (Err other) e lines r q f g = these r (Err (refused 1 code)) q (Err (refused 1 other)) f g (ap (refused 1) e)

  heads : (lines : List (List ℕ)) (r q : Result Head Refusal) → HeadIs form lines r → HeadIs form lines q → Heads r q
  heads [] r q f g = these r (Err (refused 1 MissingLine)) q (Err (refused 1 MissingLine)) f g refl
  heads (line ∷ lines) r q f g = after-schema f.0 g.0 (schemas line f.0 g.0 f.1 g.1) lines r q f.2 g.2

  pub head-apart : (lines : List (List ℕ)) (head : Head) (refusal : Refusal) → HeadIs form lines (Ok head) → HeadIs form lines (Err refusal) → ⊥
  head-apart lines head refusal f g = heads lines (Ok head) (Err refusal) f g

  pub one-refusal : (lines : List (List ℕ)) (refusal other : Refusal) → HeadIs form lines (Err refusal) → HeadIs form lines (Err other) → refusal ≡ other
  one-refusal lines refusal other f g = heads lines (Err refusal) (Err other) f g

  pub one-head : (lines : List (List ℕ)) (head other : Head) → HeadIs form lines (Ok head) → HeadIs form lines (Ok other) → SameHead head other
  one-head lines head other f g = heads lines (Ok head) (Ok other) f g
