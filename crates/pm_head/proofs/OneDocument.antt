-- The first document of a line is one, or its code is, for two schemas that were built of the same types.
use Rattle.std.proofs.Common.{◌≡◌, ℕ, Bool, true, false, ◌&&◌, List, [], ◌∷◌, ◌++◌, length, inl, inr, ap, ◌∙◌, sym, subst, arith}
use Rattle.std.specs.Prelude.{◌==◌, Option, Some, None, Result, Ok, Err, MatchBool, is_some, is_none, unwrap_or}
use Rattle.std.proofs.lemmas.List.{append_cancel_right}
use Rattle.serde_json.specs.Data.{Data}
use Rattle.serde_json.specs.Find.{as_null}
use Rattle.pm_tokens.specs.Tokens.{Attrs, Marks, Token, Close, Doc}
use Rattle.pm_tokens.specs.Schemas.{max_size}
use Rattle.pm_schema.specs.Documents.{documents_of}
use Rattle.pm_tokens.specs.Scan.{is_whole}
use Rattle.pm_tokens.specs.Faults.{fault}
use Rattle.pm_schema.specs.declared.spec.SchemaSpec.{SchemaSpec}
use Rattle.pm_schema.specs.declared.schema.Schema.{Schema}
use Rattle.pm_schema.specs.Names.{place_of}
use Rattle.pm_schema.specs.Types.{node_at}
use Rattle.pm_schema.specs.Made.{can_be_made}
use Rattle.pm_schema.specs.Built.{IsBuilt}
use Rattle.pm_schemajson.specs.Views.{types_of_spec}
use Rattle.pm_schemajson.proofs.SameTypes.{names-alike, node-alike}
use Rattle.pm_schemajson.proofs.SameEnds.{can-alike}
use Rattle.pm_schemajson.proofs.SameDocuments.{documents-alike}
use Rattle.pm_node.specs.declared.node.Node.{Node}
use Rattle.pm_node.specs.declared.node.Body.{Body}
use Rattle.pm_node.specs.declared.node.Body.TheVariants.{Text, Leaf as Childless, Children}
use Rattle.pm_node.specs.declared.filled.FillError.{FillError}
use Rattle.pm_node.specs.declared.filled.FillError.TheVariants.{NotGeneratable, Deep, Large, NoMemory}
use Rattle.pm_node.specs.Trees.{body_tokens, node_tokens}
use Rattle.pm_node.specs.Documents.{content_tokens, doc_of}
use Rattle.pm_node.specs.Filled.{Filling, IsFillFault}
use Rattle.pm_docjson.specs.declared.leaves.LeafContent.TheVariants.{Kept}
use Rattle.pm_head.specs.declared.code.Code.{Code}
use Rattle.pm_head.specs.declared.code.Code.TheVariants.{InvalidDocument}
use Rattle.pm_head.specs.Codes.{node_code, fill_code}
use Rattle.pm_head.specs.Lines.{json_line}
use Rattle.pm_head.specs.Schemas.{OfValue}
use Rattle.pm_head.specs.Documents.{top_of, IsFilledTop, NotFilled, NotRead, ReadTop, TopNode, may_be_first, DocIs, DocLine}
use Rattle.pm_head.proofs.SameNodes.{node-of-alike}
use Rattle.pm_head.proofs.SameFills.{IsFront, fillings-alike, filling-front}

-- ---- a node that is no text is known by its tokens

abbrev body_doc : ℕ → Attrs → Marks → Body → Doc
body_doc kind attrs marks body = record { kind = kind; attrs = attrs; marks = marks; tokens = content_tokens marks body }

known : (k : ℕ) (a : Attrs) (m : Marks) (x : Body) (l : ℕ) (b : Attrs) (n : Marks) (y : Body) → IsFront (body_tokens k a m x) → body_tokens k a m x ≡ body_tokens l b n y → body_doc k a m x ≡ body_doc l b n y
known k a m (Text []) l b n y f h = absurd f
known k a m (Text (u ∷ us)) l b n y f h = absurd f
known k a m Childless l b n (Text []) f h = absurd (cc)
known k a m Childless l b n (Text (u ∷ us)) f h = absurd (cc)
known k a m Childless l b n Childless f h =
    let e : k ≡ l = cc in
    let p : a ≡ b = cc in
    let q : m ≡ n = cc in
    λ i. record { kind = e i; attrs = p i; marks = q i; tokens = [] }
known k a m Childless l b n (Children us) f h = absurd (cc)
known k a m (Children ts) l b n (Text []) f h = absurd (cc)
known k a m (Children ts) l b n (Text (u ∷ us)) f h = absurd (cc)
known k a m (Children ts) l b n Childless f h = absurd (cc)
known k a m (Children ts) l b n (Children us) f h =
    let e : k ≡ l = cc in
    let p : a ≡ b = cc in
    let q : m ≡ n = cc in
    let r : ts ++ (Close ∷ []) ≡ us ++ (Close ∷ []) = cc in
    let c : ts ≡ us = append_cancel_right ts us (Close ∷ []) r in
    λ i. record { kind = e i; attrs = p i; marks = q i; tokens = c i }

pub known-node : (n m : Node) → IsFront (node_tokens n) → node_tokens n ≡ node_tokens m → doc_of n ≡ doc_of m
known-node n m f h = known n.kind n.attrs n.marks n.body m.kind m.attrs m.marks m.body f h

-- the codes of a fill's fault are one
fill-code : (e : FillError) (code : Code) → fill_code e ≡ Some code → code ≡ InvalidDocument
fill-code NotGeneratable code h = cc
fill-code Deep code h = cc
fill-code Large code h = cc
fill-code NoMemory code h = absurd (cc)

pub top-alike : (s t : SchemaSpec) → types_of_spec s ≡ types_of_spec t → top_of s ≡ top_of t
top-alike s t h = let top : s.top ≡ t.top = ap (λ ts. ts.top) h in λ i. unwrap_or (place_of (top i) (names-alike s t h i)) 0

module _ (s t : Schema) (h : types_of_spec s.spec ≡ types_of_spec t.spec) (bs : IsBuilt s) (bt : IsBuilt t) where
  -- ---- the top type filled

  filling-top : (o p : Option (List Token)) → Filling s (top_of s.spec) o → Filling t (top_of t.spec) p → o ≡ p
  filling-top o p f g = fillings-alike s t h bs bt (top_of t.spec) o p (subst (λ k. Filling s k o) (top-alike s.spec t.spec h) f) g

  can-top : can_be_made (node_at s.spec (top_of s.spec)) ≡ can_be_made (node_at t.spec (top_of t.spec))
  can-top =
      ap (λ k. can_be_made (node_at s.spec k)) (top-alike s.spec t.spec h)
      ∙ can-alike (node_at s.spec (top_of t.spec)) (node_at t.spec (top_of t.spec)) (node-alike s.spec t.spec (top_of t.spec) h)

  filled-top : (n m : Node) → IsFilledTop s n → IsFilledTop t m → doc_of n ≡ doc_of m
  filled-top n m f g =
      let e : Some (node_tokens n) ≡ Some (node_tokens m) = filling-top (Some (node_tokens n)) (Some (node_tokens m)) f.filled g.filled in
      let same : node_tokens n ≡ node_tokens m = cc in
      known-node n m (filling-front s (top_of s.spec) (node_tokens n) f.filled) same

  filled-apart : (n : Node) → IsFilledTop s n → (e : FillError) (code : Code) → IsFillFault t (top_of t.spec) e → fill_code e ≡ Some code → ⊥
  filled-apart n f NotGeneratable code g c = let made = f.made in let q = can-top in absurd (cc)
  filled-apart n f Deep code g c = let q : Some (node_tokens n) ≡ None = filling-top (Some (node_tokens n)) None f.filled g.1 in absurd (cc)
  filled-apart n f Large code g c =
      let q : Some (node_tokens n) ≡ Some g.1.tokens = filling-top (Some (node_tokens n)) (Some g.1.tokens) f.filled g.1.filling in
      let same : node_tokens n ≡ g.1.tokens = cc in
      let len : length (node_tokens n) ≡ length g.1.tokens = ap length same in
      let small = f.small in
      let large = g.1.large in
      let most : max_size (documents_of s.spec) ≡ max_size (documents_of t.spec) = ap max_size (documents-alike s.spec t.spec h) in
      omega (arith, len, small, large, most)
  filled-apart n f NoMemory code g c = absurd (cc)

  -- ---- the node that the value writes

  read-top : (d : Data) (n m : Node) → ReadTop s d (Ok n) → ReadTop t d (Ok m) → doc_of n ≡ doc_of m
  read-top d n m f g =
      let q = node-of-alike s.spec t.spec h Kept d in
      let same : n ≡ m = cc in
      ap doc_of same

  read-apart : (d : Data) (n : Node) (code : Code) → ReadTop s d (Ok n) → NotRead t d code → ⊥
  read-apart d n code f g =
      let q = node-of-alike s.spec t.spec h Kept d in
      let r = g.fault in
      absurd (cc)

  read-code : (d : Data) (code other : Code) → NotRead s d code → NotRead t d other → code ≡ other
  read-code d code other f g =
      let q = node-of-alike s.spec t.spec h Kept d in
      let x = f.fault in
      let y = g.fault in
      let same : f.error ≡ g.error = cc in
      let u = f.has_code in
      let v = g.has_code in
      let w : Some code ≡ Some other = sym u ∙ ap node_code same ∙ v in
      cc

  -- ---- the top node

  top-doc : (d : Data) (n m : Node) → TopNode s d (Ok n) → TopNode t d (Ok m) → doc_of n ≡ doc_of m
  top-doc d n m = at (is_some (as_null d))
    where
      at : (b : Bool) → MatchBool b (IsFilledTop s n) (ReadTop s d (Ok n)) → MatchBool b (IsFilledTop t m) (ReadTop t d (Ok m)) → doc_of n ≡ doc_of m
      at true f g = filled-top n m f g
      at false f g = read-top d n m f g

  pub top-code : (d : Data) (code other : Code) → TopNode s d (Err code) → TopNode t d (Err other) → code ≡ other
  top-code d code other = at (is_some (as_null d))
    where
      at : (b : Bool) → MatchBool b (NotFilled s code) (NotRead s d code) → MatchBool b (NotFilled t other) (NotRead t d other) → code ≡ other
      at true f g = fill-code f.error code f.has_code ∙ sym (fill-code g.error other g.has_code)
      at false f g = read-code d code other f g

  top-apart : (d : Data) (n : Node) (code : Code) → TopNode s d (Ok n) → TopNode t d (Err code) → ⊥
  top-apart d n code = at (is_some (as_null d))
    where
      at : (b : Bool) → MatchBool b (IsFilledTop s n) (ReadTop s d (Ok n)) → MatchBool b (NotFilled t code) (NotRead t d code) → ⊥
      at true f g = filled-apart n f g.error code g.fault g.has_code
      at false f g = read-apart d n code f g

  -- ---- the first document

  first-alike : (n m : Node) → doc_of n ≡ doc_of m → may_be_first s n ≡ may_be_first t m
  first-alike n m e = λ i. ((e i).kind == top-alike s.spec t.spec h i) && (is_whole (e i).tokens && is_none (fault (documents-alike s.spec t.spec h i) (e i)))

  doc-one : (d : Data) (x y : Doc) → DocIs s d (Ok x) → DocIs t d (Ok y) → x ≡ y
  doc-one d x y f g = f.3 ∙ top-doc d f.0 g.0 f.1 g.1 ∙ sym g.3

  doc-apart : (d : Data) (x : Doc) (code : Code) → DocIs s d (Ok x) → DocIs t d (Err code) → ⊥
  doc-apart d x code f (inl g) = top-apart d f.0 code f.1 g
  doc-apart d x code f (inr g) =
      let q = first-alike f.0 g.0 (top-doc d f.0 g.0 f.1 g.1) in
      let u = f.2 in
      let v = g.2 in
      absurd (cc)

pub doc-codes : (s t : Schema) → types_of_spec s.spec ≡ types_of_spec t.spec → IsBuilt s → IsBuilt t → (d : Data) (code other : Code) → DocIs s d (Err code) → DocIs t d (Err other) → code ≡ other
doc-codes s t h bs bt d code other (inl f) (inl g) = top-code s t h bs bt d code other f g
doc-codes s t h bs bt d code other (inl f) (inr g) = absurd (top-apart t s (sym h) bt bs d g.0 code g.1 f)
doc-codes s t h bs bt d code other (inr f) (inl g) = absurd (top-apart s t h bs bt d f.0 other f.1 g)
doc-codes s t h bs bt d code other (inr f) (inr g) = f.3 ∙ sym g.3

-- ---- line 2

module _ (s t : Schema) (h : types_of_spec s.spec ≡ types_of_spec t.spec) (bs : IsBuilt s) (bt : IsBuilt t) where
  pub line-doc : (line : List ℕ) (x y : Doc) → DocLine s line (Ok x) → DocLine t line (Ok y) → x ≡ y
  line-doc line x y = at (json_line line)
    where
      at : (v : Result Data Code) → OfValue (DocIs s) v (Ok x) → OfValue (DocIs t) v (Ok y) → x ≡ y
      at (Ok d) f g = doc-one s t h bs bt d x y f g
      at (Err code) f g = absurd (cc)

  pub line-apart : (line : List ℕ) (x : Doc) (code : Code) → DocLine s line (Ok x) → DocLine t line (Err code) → ⊥
  line-apart line x code = at (json_line line)
    where
      at : (v : Result Data Code) → OfValue (DocIs s) v (Ok x) → OfValue (DocIs t) v (Err code) → ⊥
      at (Ok d) f g = doc-apart s t h bs bt d x code f g
      at (Err c) f g = absurd (cc)

  pub line-code : (line : List ℕ) (code other : Code) → DocLine s line (Err code) → DocLine t line (Err other) → code ≡ other
  line-code line code other = at (json_line line)
    where
      at : (v : Result Data Code) → OfValue (DocIs s) v (Err code) → OfValue (DocIs t) v (Err other) → code ≡ other
      at (Ok d) f g = doc-codes s t h bs bt d code other f g
      at (Err c) f g = cc
