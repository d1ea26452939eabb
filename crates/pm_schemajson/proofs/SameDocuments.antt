-- Two specs whose types one JSON writes are one schema to documents.
use Rattle.std.proofs.Common.{◌≡◌, ℕ, zero, suc, true, false, ◌||◌, List, [], ◌∷◌, length, map, refl, ap, ◌∙◌, sym}
use Rattle.std.specs.Prelude.{slice_index_or, codes, Option, Some, None, unwrap_or, nat_lt, if◌then◌else◌, replicate, slice_set}
use Rattle.std.specs.List.{list_any}
use Rattle.std.specs.Str.{bytes_eq}
use Rattle.pm_auto.specs.declared.expr.Expr.{Expr}
use Rattle.pm_auto.specs.Tree.{tree}
use Rattle.pm_auto.specs.Trim.{trim}
use Rattle.pm_auto.specs.Table.{rows}
use Rattle.pm_auto.specs.Runs.{fits, accepts_rows}
use Rattle.pm_auto.specs.States.{start_of, kinds, once}
use Rattle.pm_tokens.specs.Schemas.{Declared}
use Rattle.pm_schema.specs.declared.spec.NodeSpec.{NodeSpec}
use Rattle.pm_schema.specs.declared.spec.MarkSpec.{MarkSpec}
use Rattle.pm_schema.specs.declared.spec.SchemaSpec.{SchemaSpec}
use Rattle.pm_schema.specs.Names.{place_of}
use Rattle.pm_schema.specs.Types.{no_mark, node_at, mark_at, is_leaf, is_inline, is_atom, declared}
use Rattle.pm_schema.specs.Contents.{starts}
use Rattle.pm_schema.specs.MarkTexts.{words, is_type, is_all, means, names, named_row, excluded_by, excluded_rows, first_is_inline, allowed_by, allowed_row}
use Rattle.pm_schema.specs.Documents.{documents_of}
use Rattle.pm_auto.proofs.TreeLaws.{same-expand}
use Rattle.pm_schemajson.specs.Types.{Attribute}
use Rattle.pm_schemajson.specs.Views.{attribute, node_type, node_types, mark_type, mark_types, types_of_spec}
use Rattle.pm_schemajson.proofs.SameTypes.{map-alike, long-alike, any-alike, names-alike, node-alike, empty-is, no_tree}

-- ---- one node type

pub leaf-alike : (n m : NodeSpec) → node_type n ≡ node_type m → is_leaf n ≡ is_leaf m
leaf-alike n m h = empty-is n.content ∙ ap (λ x. no_tree x.content) h ∙ sym (empty-is m.content)

inline-alike : (n m : NodeSpec) → node_type n ≡ node_type m → is_inline n ≡ is_inline m
inline-alike n m h = ap (λ x. bytes_eq (codes "text") x.name || x.inline) h

atom-alike : (n m : NodeSpec) → node_type n ≡ node_type m → is_atom n ≡ is_atom m
atom-alike n m h = ap (λ b. b || n.atom) (leaf-alike n m h) ∙ ap (λ x. is_leaf m || x.atom) h

fits-alike : (d e : Expr) (w : List ℕ) → tree d ≡ tree e → fits d w ≡ fits e w
fits-alike d e w h = ap (λ c. accepts_rows (trim c) w) (same-expand d e h)

starts-alike : (d e : Expr) → tree d ≡ tree e → starts d ≡ starts e
unfolding starts
starts-alike d e h = ap (λ c. once [] (kinds (rows 0 (trim c)) (start_of (trim c)).places)) (same-expand d e h)

-- ---- mark types that a text names

means-alike : (ms ks : List MarkSpec) → mark_types ms ≡ mark_types ks → (w : List ℕ) (m : MarkSpec) → means ms w m ≡ means ks w m
means-alike ms ks h w m = ap (λ b. if b then bytes_eq w m.name else list_any (bytes_eq w) m.groups) (any-alike mark_type (λ x. bytes_eq w x.name) ms ks h)

names-same : (ms ks : List MarkSpec) → mark_types ms ≡ mark_types ks → (text : List ℕ) (m : MarkSpec) → names ms text m ≡ names ks text m
names-same ms ks h text m = λ i. is_all text || list_any (λ w. means-alike ms ks h w m i) (words text)

row-alike : (ms ks : List MarkSpec) → mark_types ms ≡ mark_types ks → (text : List ℕ) → named_row ms text ≡ named_row ks text
row-alike ms ks h text =
    (λ i. map (λ m. names-same ms ks h text m i) ms)
    ∙ map-alike mark_type (λ x. is_all text || list_any (λ w. if is_type ks w then bytes_eq w x.name else list_any (bytes_eq w) x.groups) (words text)) ms ks h

excluded-by-alike : (ms ks : List MarkSpec) → mark_types ms ≡ mark_types ks → (k : ℕ) (o : Option (List ℕ)) → excluded_by ms k o ≡ excluded_by ks k o
excluded-by-alike ms ks h k None = ap (λ n. slice_set (replicate n false) k true) (long-alike mark_type ms ks h)
excluded-by-alike ms ks h k (Some text) = row-alike ms ks h text

rows-alike : (ms ks : List MarkSpec) → mark_types ms ≡ mark_types ks → (k : ℕ) (xs ys : List MarkSpec) → mark_types xs ≡ mark_types ys → excluded_rows ms k xs ≡ excluded_rows ks k ys
rows-alike ms ks h k [] [] e = refl
rows-alike ms ks h k [] (y ∷ ys) e = absurd (cc)
rows-alike ms ks h k (x ∷ xs) [] e = absurd (cc)
rows-alike ms ks h k (x ∷ xs) (y ∷ ys) e =
    let one : mark_type x ≡ mark_type y = cc in
    let more : mark_types xs ≡ mark_types ys = cc in
    let first : excluded_by ms k x.excludes ≡ excluded_by ks k y.excludes = excluded-by-alike ms ks h k x.excludes ∙ ap (λ z. excluded_by ks k z.excludes) one in
    λ i. first i ∷ rows-alike ms ks h (suc k) xs ys more i

mark-at-alike : (ms ks : List MarkSpec) (k : ℕ) → mark_types ms ≡ mark_types ks → mark_type (slice_index_or ms k no_mark) ≡ mark_type (slice_index_or ks k no_mark)
mark-at-alike [] [] k h = refl
mark-at-alike [] (m ∷ ms) k h = absurd (cc)
mark-at-alike (n ∷ ns) [] k h = absurd (cc)
mark-at-alike (n ∷ ns) (m ∷ ms) zero h = cc
mark-at-alike (n ∷ ns) (m ∷ ms) (suc k) h = let e : mark_types ns ≡ mark_types ms = cc in mark-at-alike ns ms k e

-- ---- attributes

-- an attribute as documents see it, from what JSON writes of it
abbrev seen : Attribute → Declared
seen a = record { name = a.name; kinds = a.validate }

-- ---- two specs

module _ (s t : SchemaSpec) (h : types_of_spec s ≡ types_of_spec t) where
  nodes-same : node_types s.nodes ≡ node_types t.nodes
  nodes-same = ap (λ ts. ts.nodes) h

  marks-same : mark_types s.marks ≡ mark_types t.marks
  marks-same = ap (λ ts. ts.marks) h

  pub mark-alike : (m : ℕ) → mark_type (mark_at s m) ≡ mark_type (mark_at t m)
  mark-alike m = mark-at-alike s.marks t.marks m marks-same

  first-alike : (ks : List ℕ) → first_is_inline s ks ≡ first_is_inline t ks
  first-alike [] = refl
  first-alike (k ∷ ks) = inline-alike (node_at s k) (node_at t k) (node-alike s t k h)

  allowed-by-alike : (d e : Expr) (o : Option (List ℕ)) → tree d ≡ tree e → allowed_by s d o ≡ allowed_by t e o
  allowed-by-alike d e None q =
      ap (λ n. replicate n (first_is_inline s (starts d))) (long-alike mark_type s.marks t.marks marks-same)
      ∙ ap (replicate (length t.marks)) (first-alike (starts d) ∙ ap (first_is_inline t) (starts-alike d e q))
  allowed-by-alike d e (Some text) q = row-alike s.marks t.marks marks-same text

  allowed-alike : (k : ℕ) → allowed_row s (node_at s k) ≡ allowed_row t (node_at t k)
  allowed-alike k =
      let e = node-alike s t k h in
      allowed-by-alike (node_at s k).content (node_at t k).content (node_at s k).marks (ap (λ x. x.content) e)
      ∙ ap (λ x. allowed_by t (node_at t k).content x.marks) e

  node-declares-alike : (k : ℕ) → map declared (node_at s k).attrs ≡ map declared (node_at t k).attrs
  node-declares-alike k = map-alike attribute seen (node_at s k).attrs (node_at t k).attrs (ap (λ x. x.attrs) (node-alike s t k h))

  mark-declares-alike : (m : ℕ) → map declared (mark_at s m).attrs ≡ map declared (mark_at t m).attrs
  mark-declares-alike m = map-alike attribute seen (mark_at s m).attrs (mark_at t m).attrs (ap (λ x. x.attrs) (mark-alike m))

  pub documents-alike : documents_of s ≡ documents_of t
  unfolding documents_of
  documents-alike =
      let n = long-alike node_type s.nodes t.nodes nodes-same in
      let m = long-alike mark_type s.marks t.marks marks-same in
      let content : (k : ℕ) → tree (node_at s k).content ≡ tree (node_at t k).content = λ k. ap (λ x. x.content) (node-alike s t k h) in
      λ i. record {
        text = unwrap_or (place_of (codes "text") (names-alike s t h i)) 0;
        accepts = λ k kids. fits-alike (node_at s k).content (node_at t k).content kids (content k) i;
        starts = λ k. starts-alike (node_at s k).content (node_at t k).content (content k) i;
        is_leaf = λ k. leaf-alike (node_at s k) (node_at t k) (node-alike s t k h) i;
        is_inline = λ k. inline-alike (node_at s k) (node_at t k) (node-alike s t k h) i;
        is_atom = λ k. atom-alike (node_at s k) (node_at t k) (node-alike s t k h) i;
        allows = λ k m. slice_index_or (allowed-alike k i) m false;
        excludes = rows-alike s.marks t.marks marks-same 0 s.marks t.marks marks-same i;
        node_declares = λ k. if nat_lt k (n i) then Some (node-declares-alike k i) else None;
        mark_declares = λ k. if nat_lt k (m i) then Some (mark-declares-alike k i) else None;
        version = (h i).version;
      }
