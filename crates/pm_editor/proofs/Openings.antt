-- What the opening of a client's talk is answered.
use Rattle.std.proofs.Common.{◌≡◌, ◌∙◌, ℕ, List, Bool, true, false, [], refl, ap, sym, subst, length, string_bytes, Result, Ok, Err}
use Rattle.std.specs.Prelude.{codes, IfOk}
use Rattle.std.specs.Fmt.{digits}
use Rattle.pm_tokens.specs.Tokens.{Doc as Document}
use Rattle.pm_schema.specs.declared.schema.Schema.{Schema}
use Rattle.pm_head.specs.declared.code.Code.{Code}
use Rattle.pm_head.specs.declared.fault.LineError.{LineError}
use Rattle.pm_head.specs.declared.fault.LineError.TheVariants as line
use Rattle.pm_head.specs.Answers.{Faults, Fails}
use Rattle.pm_head.specs.Schemas.{SchemaLine}
use Rattle.pm_head.specs.Documents.{DocLine}
use Rattle.pm_serve.specs.declared.service.Reply.{Reply}
use Rattle.pm_client.specs.Clients.{entered_client}
use Rattle.pm_editor.specs.declared.editor.Editor.{Editor}
use Rattle.pm_asked.specs.declared.entry.Entry.{Entry}
use Rattle.pm_editor.specs.declared.talk.ClientTalk.{ClientTalk}
use Rattle.pm_editor.specs.declared.talk.ClientTalk.TheVariants.{AwaitsSchema, AwaitsDocument, AwaitsClient, Open}
use Rattle.pm_asked.specs.Entries.{entry_line}
use Rattle.pm_told.specs.Showing.{DocClient}
use Rattle.pm_editor.specs.Talk.{Replies, IsFaulty, AfterEntry, entered, last_text}
use Rattle.pm_told.specs.Texts.{entered_text}

pub missing-schema : codes "{\"fault\":2,\"line\":1}\n" ≡ last_text AwaitsSchema
unfolding digits
missing-schema = refl

pub missing-document : (s : Schema) → codes "{\"fault\":2,\"line\":2}\n" ≡ last_text (AwaitsDocument s)
unfolding digits
missing-document s = refl

pub missing-client : (s : Schema) (doc : Document) → codes "{\"fault\":2,\"line\":3}\n" ≡ last_text (AwaitsClient s doc)
unfolding digits
missing-client s doc = refl

if-ok : {X E : Type 0} (P Q : X → Type 0) → ((x : X) → P x → Q x) → (r : Result X E) → IfOk r P → IfOk r Q
if-ok P Q f (Ok x) h = f x h
if-ok P Q f (Err e) h = tt

-- a fault of line 1
schema-fault : (l : List ℕ) (error : LineError) → Faults (SchemaLine l) error → (r : Reply) → IsFaulty error 1 (string_bytes r.text) r.more
    → Replies AwaitsSchema l (string_bytes r.text) r.more AwaitsSchema
schema-fault l (line.Code code) is r f = (Err code, is, (f.0, f.1, refl))
schema-fault l line.NoMemory is r f = absurd f

pub schema-faulty : {E : Type 0} (l : List ℕ) (error : LineError) → Faults (SchemaLine l) error → (r : Result Reply E)
    → IfOk r (λ (x : Reply). IsFaulty error 1 (string_bytes x.text) x.more) → IfOk r (λ (x : Reply). Replies AwaitsSchema l (string_bytes x.text) x.more AwaitsSchema)
schema-faulty l error is r h =
    if-ok (λ (x : Reply). IsFaulty error 1 (string_bytes x.text) x.more) (λ (x : Reply). Replies AwaitsSchema l (string_bytes x.text) x.more AwaitsSchema)
    (schema-fault l error is) r h

-- of line 2
document-fault : (s : Schema) (l : List ℕ) (error : LineError) → Faults (DocLine s l) error → (r : Reply) → IsFaulty error 2 (string_bytes r.text) r.more
    → Replies (AwaitsDocument s) l (string_bytes r.text) r.more (AwaitsDocument s)
document-fault s l (line.Code code) is r f = (Err code, is, (f.0, f.1, refl))
document-fault s l line.NoMemory is r f = absurd f

pub document-faulty : {E : Type 0} (s : Schema) (l : List ℕ) (error : LineError) → Faults (DocLine s l) error → (r : Result Reply E)
    → IfOk r (λ (x : Reply). IsFaulty error 2 (string_bytes x.text) x.more)
    → IfOk r (λ (x : Reply). Replies (AwaitsDocument s) l (string_bytes x.text) x.more (AwaitsDocument s))
document-faulty s l error is r h =
    if-ok (λ (x : Reply). IsFaulty error 2 (string_bytes x.text) x.more) (λ (x : Reply). Replies (AwaitsDocument s) l (string_bytes x.text) x.more (AwaitsDocument s))
    (document-fault s l error is) r h

-- of line 3
entry-fault : (s : Schema) (doc : Document) (l : List ℕ) (error : LineError) → Fails error (entry_line l) → (r : Reply) → IsFaulty error 3 (string_bytes r.text) r.more
    → Replies (AwaitsClient s doc) l (string_bytes r.text) r.more (AwaitsClient s doc)
entry-fault s doc l (line.Code code) is r f =
    subst (λ (x : Result Entry Code). AfterEntry s doc x (string_bytes r.text) r.more (AwaitsClient s doc)) (sym is) (f.0, f.1, refl)
entry-fault s doc l line.NoMemory is r f = absurd f

pub entry-faulty : {E : Type 0} (s : Schema) (doc : Document) (l : List ℕ) (error : LineError) → Fails error (entry_line l) → (r : Result Reply E)
    → IfOk r (λ (x : Reply). IsFaulty error 3 (string_bytes x.text) x.more)
    → IfOk r (λ (x : Reply). Replies (AwaitsClient s doc) l (string_bytes x.text) x.more (AwaitsClient s doc))
entry-faulty s doc l error is r h =
    if-ok (λ (x : Reply). IsFaulty error 3 (string_bytes x.text) x.more) (λ (x : Reply). Replies (AwaitsClient s doc) l (string_bytes x.text) x.more (AwaitsClient s doc))
    (entry-fault s doc l error is) r h

-- the editor that is entered
abbrev pub entering : Schema → DocClient → List ℕ → Editor
entering s client id = record { schema = s; client = client; id = id; serials = 0 }

module _ (s : Schema) (doc : Document) (entry : Entry) (client : DocClient) (is : client ≡ entered_client 0 entry.version doc) where
  pub entered-is : entering s client entry.id ≡ entered s doc entry
  entered-is = ap (λ (c : DocClient). entering s c entry.id) is

  pub entered-told : (l text : List ℕ) → entry_line l ≡ Ok entry → text ≡ entered_text (length doc.tokens) entry.version
      → Replies (AwaitsClient s doc) l text true (Open (entering s client entry.id))
  entered-told l text read told =
      subst (λ (x : Result Entry Code). AfterEntry s doc x text true (Open (entering s client entry.id))) (sym read)
      (told, refl, ap (λ (e : Editor). Open e) entered-is)
