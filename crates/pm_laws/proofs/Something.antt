-- Each input is a session or is refused.
use Rattle.std.proofs.Common.{◌≡◌, ℕ, ◌+◌, ◌*◌, Bool, true, false, List, [], ◌∷◌, length, drop, inl, inr, refl, subst}
use Rattle.std.specs.Prelude.{nat_lt, Some, is_some, Result, Ok, Err, MatchBool}
use Rattle.serde_json.specs.Data.{Data}
use Rattle.serde_json.specs.Find.{as_null}
use Rattle.pm_tokens.specs.Tokens.{Doc}
use Rattle.pm_schema.specs.declared.schema.Schema.{Schema}
use Rattle.pm_schema.specs.Built.{IsBuilt}
use Rattle.pm_node.specs.declared.node.Node.{Node}
use Rattle.pm_node.specs.Documents.{doc_of}
use Rattle.pm_docjson.specs.declared.fault.DocReadError.{DocReadError}
use Rattle.pm_docjson.specs.declared.fault.DocReadError.TheVariants as part
use Rattle.pm_docjson.specs.declared.leaves.LeafContent.TheVariants.{Kept}
use Rattle.pm_docjson.specs.Reading.{node_of}
use Rattle.pm_head.specs.declared.form.Form.{Form}
use Rattle.pm_head.specs.declared.form.Form.TheVariants.{Plain}
use Rattle.pm_head.specs.declared.code.Code.{Code}
use Rattle.pm_head.specs.declared.code.Code.TheVariants.{InvalidDocument, InputTooLong}
use Rattle.pm_head.specs.declared.fault.Refusal.{Refusal}
use Rattle.pm_head.specs.declared.reading.Head.{Head}
use Rattle.pm_head.specs.Refusals.{refused}
use Rattle.pm_head.specs.Codes.{node_code}
use Rattle.pm_head.specs.Lines.{json_line, lines_of}
use Rattle.pm_head.specs.Schemas.{OfValue, SchemaIs, SchemaLine}
use Rattle.pm_head.specs.Documents.{FilledTop, ReadTop, TopNode, may_be_first, DocIs, DocLine}
use Rattle.pm_head.specs.Heads.{AfterDoc, AfterSchema, HeadIs}
use Rattle.pm_head.specs.Rooms.{rooms_line}
use Rattle.pm_script.specs.declared.session.Session.{Session}
use Rattle.pm_script.specs.declared.session.TheConstants.{MAX_INPUT}
use Rattle.pm_script.specs.declared.rooms.RoomSession.{RoomSession}
use Rattle.pm_script.specs.Sessions.{behind_head, SessionOf, SessionIs}
use Rattle.pm_script.specs.Rooms.{moved, HeadBehind, AfterHead, AreOpened, all_behind, BehindNames, RoomsOf, RoomsAre}
use Rattle.pm_laws.specs.Memory.{IsOfPart, Reads}
use Rattle.pm_laws.specs.Something.{MeansSomething}
use Rattle.pm_laws.proofs.Memory.{never-memory}
use Rattle.pm_laws.proofs.TopFilled.{top-filled}
use Rattle.pm_laws.proofs.LineThere.{schema-line}

-- ---- line 2

part-code : (e : DocReadError) → IsOfPart e → (code : Code) × (node_code e ≡ Some code)
part-code part.Shape h = (_, refl)
part-code part.UnknownType h = (_, refl)
part-code part.Attr h = (_, refl)
part-code part.EmptyText h = (_, refl)
part-code part.NotASet h = (_, refl)
part-code part.Open h = (_, refl)
part-code part.NoMemory h = absurd h
part-code part.Large h = (_, refl)

module _ (s : Schema) (built : IsBuilt s) where
  read-by : (d : Data) (read : Result Node DocReadError) → node_of s.spec Kept d ≡ read → Reads IsOfPart read → (r : Result Node Code) × ReadTop s d r
  read-by d (Ok n) e own = (Ok n, e)
  read-by d (Err f) e own = let c = part-code f own in (Err c.0, record { error = f; fault = e; has_code = c.1 })

  -- the top node, by whether the value is null
  top-by : (d : Data) (b : Bool) → (r : Result Node Code) × MatchBool b (FilledTop s r) (ReadTop s d r)
  top-by d true = top-filled s built
  top-by d false = read-by d (node_of s.spec Kept d) refl ((never-memory s.spec).node Kept d)

  first-by : (d : Data) (n : Node) (b : Bool) → may_be_first s n ≡ b → TopNode s d (Ok n) → (r : Result Doc Code) × DocIs s d r
  first-by d n true e is = (Ok (doc_of n), (n, is, e, refl))
  first-by d n false e is = (Err InvalidDocument, inr (n, is, e, refl))

  doc-by : (d : Data) (top : Result Node Code) → TopNode s d top → (r : Result Doc Code) × DocIs s d r
  doc-by d (Ok n) is = first-by d n (may_be_first s n) refl is
  doc-by d (Err code) is = (Err code, inl is)

  doc-is : (d : Data) → (r : Result Doc Code) × DocIs s d r
  doc-is d = let top = top-by d (is_some (as_null d)) in doc-by d top.0 top.1

  doc-line : (line : List ℕ) → (r : Result Doc Code) × DocLine s line r
  doc-line line = at (json_line line)
    where
      at : (v : Result Data Code) → (r : Result Doc Code) × OfValue (DocIs s) v r
      at (Ok d) = doc-is d
      at (Err code) = (Err code, refl)

-- ---- the first three lines

-- a schema of a line was built
was-built : (line : List ℕ) (s : Schema) → SchemaLine line (Ok s) → IsBuilt s
was-built line s is = at (json_line line) is
  where
    at : (v : Result Data Code) → OfValue SchemaIs v (Ok s) → IsBuilt s
    at (Ok d) f = f.1
    at (Err code) f = absurd (cc)

module _ (form : Form) where
  after-doc : (s : Schema) (doc : Result Doc Code) (lines : List (List ℕ)) → (r : Result Head Refusal) × AfterDoc form s doc lines r
  after-doc s (Err code) lines = (_, refl)
  after-doc s (Ok doc) [] = (_, refl)
  after-doc s (Ok doc) (line ∷ lines) = (_, refl)

  after-schema : (s : Result Schema Code) → ((t : Schema) → s ≡ Ok t → IsBuilt t) → (lines : List (List ℕ)) → (r : Result Head Refusal) × AfterSchema form s lines r
  after-schema (Err code) is lines = (_, refl)
  after-schema (Ok s) is [] = (_, refl)
  after-schema (Ok s) is (line ∷ lines) =
      let doc = doc-line s (is s refl) line in
      let rest = after-doc s doc.0 lines in
      (rest.0, (doc.0, doc.1, rest.1))

  head : (lines : List (List ℕ)) → (r : Result Head Refusal) × HeadIs form lines r
  head [] = (_, refl)
  head (line ∷ lines) =
      let s = schema-line line in
      let rest = after-schema s.0 (λ t e. was-built line t (subst (SchemaLine line) e s.1)) lines in
      (rest.0, (s.0, s.1, rest.1))

  session : (input : List ℕ) → (r : Result Session Refusal) × SessionIs form input r
  session input = at (nat_lt MAX_INPUT (length input))
    where
      at : (b : Bool) → (r : Result Session Refusal) × MatchBool b (r ≡ Err (refused 0 InputTooLong)) (SessionOf form (lines_of input) r)
      at true = (_, refl)
      at false = let h = head (lines_of input) in (behind_head form h.0 (drop 3 (lines_of input)), (h.0, h.1, refl))

-- ---- files of many rooms

head-behind : (n : ℕ) (lines : List (List ℕ)) → (r : Result Head Refusal) × HeadBehind n lines r
head-behind n lines = let h = head Plain lines in (moved n h.0, (h.0, h.1, refl))

after-head : (Later : Result (List RoomSession) Refusal → Type 0) (name : List ℕ) (h : Result Head Refusal) → ((r : Result (List RoomSession) Refusal) × Later r)
    → (r : Result (List RoomSession) Refusal) × AfterHead Later name h r
after-head Later name (Err refusal) later = (_, refl)
after-head Later name (Ok h) later = (_, (later.0, later.1, refl))

opened-rooms : (names : List (List ℕ)) (n : ℕ) (lines : List (List ℕ)) → (r : Result (List RoomSession) Refusal) × AreOpened names n lines r
opened-rooms [] n lines = (_, refl)
opened-rooms (name ∷ names) n lines =
    let h = head-behind n lines in
    let rest = after-head (AreOpened names (n + 3) (drop 3 lines)) name h.0 (opened-rooms names (n + 3) (drop 3 lines)) in
    (rest.0, (h.0, h.1, rest.1))

behind-names : (names : Result (List (List ℕ)) Code) (lines : List (List ℕ)) → (r : Result (List RoomSession) Refusal) × BehindNames names lines r
behind-names (Ok names) lines =
    let heads = opened-rooms names 1 lines in
    (all_behind (length names) heads.0 (drop (3 * length names) lines), (heads.0, heads.1, refl))
behind-names (Err code) lines = (_, refl)

rooms-of : (lines : List (List ℕ)) → (r : Result (List RoomSession) Refusal) × RoomsOf lines r
rooms-of [] = (_, refl)
rooms-of (line ∷ lines) = behind-names (rooms_line line) lines

rooms : (input : List ℕ) → (r : Result (List RoomSession) Refusal) × RoomsAre input r
rooms input = at (nat_lt MAX_INPUT (length input))
  where
    at : (b : Bool) → (r : Result (List RoomSession) Refusal) × MatchBool b (r ≡ Err (refused 0 InputTooLong)) (RoomsOf (lines_of input) r)
    at true = (_, refl)
    at false = rooms-of (lines_of input)

pub means-something : MeansSomething
means-something = record { schema = schema-line; document = doc-line; sessions = session; rooms = rooms }
