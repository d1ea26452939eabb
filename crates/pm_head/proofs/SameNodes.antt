-- What a JSON value writes by a spec, it writes by each spec with the same types.
use Rattle.std.proofs.Common.{◌≡◌, ℕ, ◌&&◌, List, [], ◌∷◌, ◌++◌, refl, ap}
use Rattle.std.specs.Prelude.{codes, not, ◌==◌, Option, Some, None, option_and_then, option_map, Result, Ok, Err, if◌then◌else◌}
use Rattle.std.specs.List.{list_any}
use Rattle.std.specs.Ordering.{nat_cmp, match_ordering}
use Rattle.std.specs.Cmp.Lexicographic.{slice_cmp}
use Rattle.std.specs.Str.{bytes_eq}
use Rattle.serde_json.specs.Data.{Data, null, boolean, number, string, array, object, Items, no_items, item, Members, no_members, member}
use Rattle.serde_json.specs.Find.{as_array}
use Rattle.pm_list.specs.Readings.{◌>>=◌, or_fault}
use Rattle.pm_tokens.specs.Tokens.{Token}
use Rattle.pm_tokens.specs.Marks.{is_set}
use Rattle.pm_schema.specs.declared.spec.AttrSpec.{AttrSpec}
use Rattle.pm_schema.specs.declared.spec.SchemaSpec.{SchemaSpec}
use Rattle.pm_schema.specs.Names.{place_of}
use Rattle.pm_schema.specs.Types.{node_at, mark_at}
use Rattle.pm_schema.specs.Attrs.{given_for, or_default, value_for, is_unknown, is_refused, is_other_kind}
use Rattle.pm_schema.specs.Documents.{documents_of}
use Rattle.pm_schemajson.specs.Views.{attribute, attributes, types_of_spec}
use Rattle.pm_schemajson.proofs.SameTypes.{any-alike, mark-names-alike, node-alike}
pub use Rattle.pm_schemajson.proofs.SameTypes.{names-alike}
use Rattle.pm_schemajson.proofs.SameDocuments.{mark-alike, documents-alike}
use Rattle.pm_node.specs.Trees.{node_tokens}
use Rattle.pm_node.specs.declared.node.Body.TheVariants.{Leaf, Children}
use Rattle.pm_docjson.specs.declared.leaves.LeafContent.{LeafContent}
use Rattle.pm_docjson.specs.declared.fault.DocReadError.TheVariants.{Shape, UnknownType, Attr, NotASet}
use Rattle.pm_docjson.specs.declared.fault.DocReadError.{DocReadError}
use Rattle.pm_docjson.specs.Fields.{field, text_at}
use Rattle.pm_docjson.specs.Values.{Given, all_values, values_for}
use Rattle.pm_docjson.specs.Reading.{given_at, attrs_read, refuses, none_at, bounded, mark_of, mark_list, marks_of, text_from, body_of, branch_from, content_for, node_from, node_of, content_in, content_of, node_list, nodes_of}

-- ---- attributes

all-values-alike : (given : Given) (xs ys : List AttrSpec) → attributes xs ≡ attributes ys → all_values given xs ≡ all_values given ys
all-values-alike given [] [] h = refl
all-values-alike given [] (y ∷ ys) h = absurd (cc)
all-values-alike given (x ∷ xs) [] h = absurd (cc)
all-values-alike given (x ∷ xs) (y ∷ ys) h =
    let one : attribute x ≡ attribute y = cc in
    let more : attributes xs ≡ attributes ys = cc in
    let first : value_for given x ≡ value_for given y = ap (λ a. or_default (given_for a.name given) a.default) one in
    λ i. option_and_then (λ v. option_map (λ vs. v ∷ vs) (all-values-alike given xs ys more i)) (first i)

values-alike : (xs ys : List AttrSpec) (given : Given) → attributes xs ≡ attributes ys → values_for xs given ≡ values_for ys given
unfolding values_for
values-alike xs ys given h =
    let unknown : (g : _) → is_unknown xs g ≡ is_unknown ys g = λ g. ap not (any-alike attribute (λ a. bytes_eq g.0 a.name) xs ys h) in
    let other : list_any (is_other_kind given) xs ≡ list_any (is_other_kind given) ys = any-alike attribute (λ a. is_refused a.validate (given_for a.name given)) xs ys h in
    λ i. if list_any (λ g. unknown g i) given then None else (if other i then None else all-values-alike given xs ys h i)

pub attrs-alike : (xs ys : List AttrSpec) (o : Option Data) → attributes xs ≡ attributes ys → attrs_read xs o ≡ attrs_read ys o
unfolding attrs_read
attrs-alike xs ys o h = λ i. given_at o >>= (λ given. or_fault Attr (values-alike xs ys given h i))

module _ (s t : SchemaSpec) (h : types_of_spec s ≡ types_of_spec t) where
  pub node-attrs-alike : (k : ℕ) (o : Option Data) → attrs_read (node_at s k).attrs o ≡ attrs_read (node_at t k).attrs o
  node-attrs-alike k o = attrs-alike (node_at s k).attrs (node_at t k).attrs o (ap (λ x. x.attrs) (node-alike s t k h))

  mark-attrs-alike : (m : ℕ) (o : Option Data) → attrs_read (mark_at s m).attrs o ≡ attrs_read (mark_at t m).attrs o
  mark-attrs-alike m o = attrs-alike (mark_at s m).attrs (mark_at t m).attrs o (ap (λ x. x.attrs) (mark-alike s t h m))

  -- ---- marks

  pub mark-of-alike : (d : Data) → mark_of s d ≡ mark_of t d
  unfolding mark_of
  mark-of-alike d = λ i. text_at (codes "type") d >>= (λ name. or_fault UnknownType (place_of name (mark-names-alike s t h i)) >>= (λ kind. mark-attrs-alike kind (field (codes "attrs") d) i >>= (λ attrs. Ok (record { kind = kind; attrs = attrs }))))

  mark-list-alike : (ds : Items) → mark_list s ds ≡ mark_list t ds
  unfolding mark_list
  mark-list-alike no_items = refl
  mark-list-alike (item d ds) = λ i. mark-of-alike d i >>= (λ first. mark-list-alike ds i >>= (λ rest. Ok (first ∷ rest)))

  marks-of-alike : (o : Option Data) → marks_of s o ≡ marks_of t o
  unfolding marks_of
  marks-of-alike None = refl
  marks-of-alike (Some d) = λ i. or_fault Shape (as_array d) >>= (λ items. mark-list-alike items i >>= (λ marks. if is_set (documents-alike s t h i) marks then Ok marks else Err NotASet))

  -- ---- nodes

  text-from-alike : (d : Data) → text_from s d ≡ text_from t d
  unfolding text_from
  text-from-alike d = rw (documents-alike s t h, node-attrs-alike (documents_of t).text (field (codes "attrs") d), marks-of-alike (field (codes "marks") d))

  body-alike : (kind : ℕ) (ts : List Token) → body_of s kind ts ≡ body_of t kind ts
  body-alike kind [] = λ i. if (documents-alike s t h i).is_leaf kind then Leaf else Children []
  body-alike kind (x ∷ ts) = refl

  branch-from-alike : (kind : ℕ) (d : Data) (c e : Result (List Token) DocReadError) → c ≡ e → branch_from s kind d c ≡ branch_from t kind d e
  unfolding branch_from
  branch-from-alike kind d c e q = λ i. node-attrs-alike kind (field (codes "attrs") d) i >>= (λ attrs. marks-of-alike (field (codes "marks") d) i >>= (λ marks. q i >>= (λ tokens. Ok (record { kind = kind; attrs = attrs; marks = marks; body = body-alike kind tokens i }))))

module _ (s t : SchemaSpec) (h : types_of_spec s ≡ types_of_spec t) (leaves : LeafContent) where
  content-for-alike : (kind : ℕ) (o : Option Data) (c e : Result (List Token) DocReadError) → c ≡ e → content_for s leaves kind o c ≡ content_for t leaves kind o e
  content-for-alike kind o c e q = λ i. if refuses leaves && (documents-alike s t h i).is_leaf kind then none_at o else q i

  node-from-alike : (d : Data) (c e : Result (List Token) DocReadError) → c ≡ e → node_from s leaves d c ≡ node_from t leaves d e
  unfolding node_from
  node-from-alike d c e q =
      let o = field (codes "content") d in
      λ i. text_at (codes "type") d >>= (λ name. or_fault UnknownType (place_of name (names-alike s t h i)) >>= (λ kind. if kind == (documents-alike s t h i).text then text-from-alike s t h d i else branch-from-alike s t h kind d (content_for s leaves kind o c) (content_for t leaves kind o e) (content-for-alike kind o c e q) i))

  mutual
    unfolding node_of

    pub node-of-alike : (d : Data) → node_of s leaves d ≡ node_of t leaves d
    node-of-alike null = refl
    node-of-alike (boolean b) = refl
    node-of-alike (number n) = refl
    node-of-alike (string x) = refl
    node-of-alike (array ds) = refl
    node-of-alike (object ms) = node-from-alike (object ms) (content_in s leaves ms) (content_in t leaves ms) (content-in-alike ms)

    content-in-alike : (ms : Members) → content_in s leaves ms ≡ content_in t leaves ms
    content-in-alike no_members = refl
    content-in-alike (member k d ms) = λ i. match_ordering (slice_cmp nat_cmp (codes "content") k) (content-in-alike ms i) (content-of-alike d i) (content-in-alike ms i)

    content-of-alike : (d : Data) → content_of s leaves d ≡ content_of t leaves d
    content-of-alike null = refl
    content-of-alike (boolean b) = refl
    content-of-alike (number n) = refl
    content-of-alike (string x) = refl
    content-of-alike (array ds) = λ i. node-list-alike ds i >>= bounded
    content-of-alike (object ms) = refl

    node-list-alike : (ds : Items) → node_list s leaves ds ≡ node_list t leaves ds
    node-list-alike no_items = refl
    node-list-alike (item d ds) = λ i. node-of-alike d i >>= (λ first. node-list-alike ds i >>= (λ rest. Ok (node_tokens first ++ rest)))

  pub nodes-of-alike : (ds : Items) → nodes_of s leaves ds ≡ nodes_of t leaves ds
  nodes-of-alike ds = λ i. node-list-alike ds i >>= bounded
