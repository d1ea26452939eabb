-- What the first three lines give: a valid document, and from 1 to 32 clients, of which none comes late and is raw.
use Rattle.std.proofs.Common.{◌≡◌, ◌≤◌, ◌<◌, ℕ, suc, Bool, true, false, List, [], ◌∷◌, ◌++◌, length, refl, ap, subst, sym, arith, Result, Ok, Err}
use Rattle.std.specs.Prelude.{◌==◌, ◌&&◌, nat_lt, nat_le, codes, Option, Some, None, is_none, is_some, option_map, option_and_then, if◌then◌else◌}
use Rattle.std.proofs.lemmas.Bool.{ltb-true, leb-true}
use Rattle.serde_json.specs.Data.{Data, null, boolean, number, string, array, object, Items, no_items, item}
use Rattle.serde_json.specs.Find.{get, as_str, as_array}
use Rattle.pm_list.specs.Readings.{or_fault}
use Rattle.pm_tokens.specs.Tokens.{Doc}
use Rattle.pm_tokens.specs.Scan.{is_whole}
use Rattle.pm_tokens.specs.Faults.{Fault, Valid, fault}
use Rattle.pm_tokens.proofs.ValidLaws.{fault-valid}
use Rattle.pm_schema.specs.declared.schema.Schema.{Schema}
use Rattle.pm_schema.specs.Documents.{documents_of}
use Rattle.pm_node.specs.Documents.{doc_of}
use Rattle.pm_head.specs.declared.form.Form.{Form}
use Rattle.pm_head.specs.declared.form.Form.TheVariants.{Plain, Late}
use Rattle.pm_head.specs.declared.code.Code.{Code}
use Rattle.pm_head.specs.declared.code.Code.TheVariants.{WrongShape, BadClients}
use Rattle.pm_head.specs.declared.fault.Refusal.{Refusal}
use Rattle.pm_head.specs.declared.clients.ClientEntry.{ClientEntry}
use Rattle.pm_head.specs.declared.reading.Head.{Head}
use Rattle.pm_head.specs.Lines.{json_line}
use Rattle.pm_docjson.specs.Fields.{field}
use Rattle.pm_head.specs.Clients.{editor, raw_client, late_client, raw_entry, late_entry, object_entry, entry_of, is_new, next_client, entries_of, count_of, bounded, clients_of, clients_line}
use Rattle.pm_head.specs.Schemas.{OfValue}
use Rattle.pm_head.specs.Documents.{top_of, DocIs}
use Rattle.pm_head.specs.Heads.{with_clients, AfterDoc, AfterSchema, HeadIs}
use Rattle.pm_script.proofs.Came.{then-ok, fault-ok, when-ok, both-true}
use Rattle.pm_script.proofs.Suited.{NoneBoth}

-- ---- clients

-- from 1 to 32
abbrev pub IsFew : List ClientEntry → Type 0
IsFew cs = (0 < length cs) × (length cs ≤ 32)

-- the client doesn't come late, or is not raw
abbrev IsOne : ClientEntry → Type 0
IsOne c = (c.late && c.raw) ≡ false

made-one : (make : List ℕ → ClientEntry) → ((name : List ℕ) → IsOne (make name)) → (o : Option (List ℕ)) (c : ClientEntry) → option_map make o ≡ Some c → IsOne c
made-one make all None c h = absurd (cc)
made-one make all (Some name) c h = let is : make name ≡ c = cc in subst IsOne is (all name)

either-one : (b : Bool) (d : Data) (c : ClientEntry) → (if b then raw_entry d else late_entry d) ≡ Some c → IsOne c
either-one true d c h = made-one raw_client (λ name. refl) (option_and_then as_str (get (codes "raw") d)) c h
either-one false d c h = made-one late_client (λ name. refl) (option_and_then as_str (get (codes "late") d)) c h

object-one : (form : Form) (d : Data) (c : ClientEntry) → object_entry form d ≡ Some c → IsOne c
object-one Plain d c h = either-one true d c h
object-one Late d c h = either-one (is_some (field (codes "raw") d)) d c h

entry-one : (form : Form) (d : Data) (c : ClientEntry) → entry_of form d ≡ Some c → IsOne c
entry-one form null c h = absurd (cc)
entry-one form (boolean b) c h = absurd (cc)
entry-one form (number n) c h = absurd (cc)
entry-one form (string name) c h = made-one editor (λ n. refl) (Some name) c h
entry-one form (array ds) c h = absurd (cc)
entry-one form (object ms) c h = object-one form (object ms) c h

module _ (form : Form) where
  next-one : (earlier : List ClientEntry) (d : Data) (c : ClientEntry) → next_client form earlier d ≡ Ok c → IsOne c
  next-one earlier d c h =
      let one = then-ok (or_fault WrongShape (entry_of form d)) _ c h in
      let new = when-ok (is_new earlier one.0) one.0 c BadClients one.2 in
      subst IsOne new.1 (entry-one form d one.0 (fault-ok WrongShape (entry_of form d) one.0 one.1))

  -- the entries are as many as the items
  entries-read : (earlier : List ClientEntry) (ds : Items) (cs : List ClientEntry) → entries_of form earlier ds ≡ Ok cs → (length cs ≡ count_of ds) × NoneBoth cs
  unfolding entries_of
  entries-read earlier no_items cs h = let none : [] ≡ cs = cc in subst (λ (xs : List ClientEntry). (length xs ≡ 0) × NoneBoth xs) none (refl, tt)
  entries-read earlier (item d ds) cs h =
      let one = then-ok (next_client form earlier d) _ cs h in
      let two = then-ok (entries_of form (earlier ++ one.0 ∷ []) ds) _ cs one.2 in
      let is : one.0 ∷ two.0 ≡ cs = cc in
      let rest = entries-read (earlier ++ one.0 ∷ []) ds two.0 two.1 in
      subst (λ (xs : List ClientEntry). (length xs ≡ suc (count_of ds)) × NoneBoth xs) is (ap suc rest.0, (next-one earlier d one.0 one.1, rest.1))

  few-clients : (d : Data) (cs : List ClientEntry) → clients_of form d ≡ Ok cs → IsFew cs × NoneBoth cs
  unfolding clients_of
  few-clients d cs h =
      let one = then-ok (or_fault WrongShape (as_array d)) _ cs h in
      let two = then-ok (bounded one.0) _ cs one.2 in
      let w = when-ok (nat_lt 0 (count_of one.0) && nat_le (count_of one.0) 32) one.0 two.0 BadClients two.1 in
      let b = both-true (nat_lt 0 (count_of one.0)) (nat_le (count_of one.0) 32) w.0 in
      let few : count_of one.0 ≤ 32 = leb-true (count_of one.0) 32 b.1 in
      let few' : count_of two.0 ≤ 32 = subst (λ ds. count_of ds ≤ 32) w.1 few in
      let some : 0 < count_of one.0 = ltb-true 0 (count_of one.0) b.0 in
      let some' : 0 < count_of two.0 = subst (λ ds. 0 < count_of ds) w.1 some in
      let read = entries-read [] two.0 cs two.2 in
      let most : length cs ≤ 32 = omega (arith, read.0, few') in
      let least : 0 < length cs = omega (arith, read.0, some') in
      ((least, most), read.1)

  few-line : (line : List ℕ) (cs : List ClientEntry) → clients_line form line ≡ Ok cs → IsFew cs × NoneBoth cs
  unfolding clients_line
  few-line line cs h = let one = then-ok (json_line line) (clients_of form) cs h in few-clients one.0 cs one.2

-- ---- the document

no-fault : (o : Option Fault) → is_none o ≡ true → o ≡ None
no-fault None h = refl
no-fault (Some f) h = absurd (cc)

doc-valid : (s : Schema) (d : Data) (doc : Doc) → DocIs s d (Ok doc) → Valid (documents_of s.spec) doc
doc-valid s d doc h =
    let n = h.0 in
    let one = both-true (n.kind == top_of s.spec) (is_whole (doc_of n).tokens && is_none (fault (documents_of s.spec) (doc_of n))) h.2 in
    let two = both-true (is_whole (doc_of n).tokens) (is_none (fault (documents_of s.spec) (doc_of n))) one.1 in
    let valid = fault-valid (documents_of s.spec) (doc_of n) two.0 (no-fault (fault (documents_of s.spec) (doc_of n)) two.1) in
    subst (Valid (documents_of s.spec)) (sym h.3) valid

valid-line : (s : Schema) (doc : Doc) (r : Result Data Code) → OfValue (DocIs s) r (Ok doc) → Valid (documents_of s.spec) doc
valid-line s doc (Ok d) h = doc-valid s d doc h
valid-line s doc (Err code) h = absurd (cc)

-- ---- the head

abbrev Good : Head → Type 0
Good h = Valid (documents_of h.schema.spec) h.doc × IsFew h.clients × NoneBoth h.clients

abbrev lifted : Head → Result Head Refusal
lifted h = Ok h

with-good : (s : Schema) (doc : Doc) (r : Result (List ClientEntry) Code) (h : Head) → Valid (documents_of s.spec) doc
    → ((cs : List ClientEntry) → r ≡ Ok cs → IsFew cs × NoneBoth cs) → lifted h ≡ with_clients s doc r → Good h
with-good s doc (Ok cs) h valid few e =
    let is : record { schema = s; doc = doc; clients = cs } ≡ h = cc in
    let read = few cs refl in
    subst Good is (valid, read.0, read.1)
with-good s doc (Err code) h valid few e = absurd (cc)

module _ (form : Form) where
  after-doc : (s : Schema) (doc : Result Doc Code) (lines : List (List ℕ)) (h : Head) → ((d : Doc) → doc ≡ Ok d → Valid (documents_of s.spec) d) → AfterDoc form s doc lines (Ok h) → Good h
  after-doc s (Err code) lines h valid e = absurd (cc)
  after-doc s (Ok doc) [] h valid e = absurd (cc)
  after-doc s (Ok doc) (line ∷ lines) h valid e = with-good s doc (clients_line form line) h (valid doc refl) (few-line form line) e

  after-schema : (r : Result Schema Code) (lines : List (List ℕ)) (h : Head) → AfterSchema form r lines (Ok h) → Good h
  after-schema (Err code) lines h e = absurd (cc)
  after-schema (Ok s) [] h e = absurd (cc)
  after-schema (Ok s) (line ∷ lines) h e =
      after-doc s e.0 lines h (λ d is. valid-line s d (json_line line) (subst (λ x. OfValue (DocIs s) (json_line line) x) is e.1)) e.2

  pub head-good : (lines : List (List ℕ)) (h : Head) → HeadIs form lines (Ok h) → Good h
  head-good [] h e = absurd (cc)
  head-good (line ∷ lines) h e = after-schema e.0 lines h e.2
