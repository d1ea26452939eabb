-- The contents of types that a small value lists are narrow.
use Rattle.std.proofs.Common.{◌≡◌, ◌<◌, ◌≤◌, ◌+◌, ◌^◌, ℕ, suc, List, [], ◌∷◌, length, map, Bool, true, false, Ordering, Less, Equal, Greater, arith}
use Rattle.std.specs.Prelude.{codes, Option, Some, None, is_some, option_and_then, Result, Ok, Err, if◌then◌else◌}
use Rattle.std.specs.Ordering.{nat_cmp, match_ordering}
use Rattle.std.specs.Cmp.Lexicographic.{slice_cmp}
use Rattle.std.proofs.lemmas.List.{length-map}
use Rattle.serde_json.specs.Data.{Data, null as json_null, boolean, number, string, array, object, Items, no_items, item, Members, no_members, member}
use Rattle.serde_json.specs.Find.{get_member, get, as_null, as_str, as_array, as_object}
use Rattle.pm_list.specs.Readings.{◌>>=◌}
use Rattle.pm_auto.specs.Tree.{Tree}
use Rattle.pm_expr.specs.declared.error.ExprError.{ExprError}
use Rattle.pm_expr.specs.Names.{Named}
use Rattle.pm_expr.specs.Reader.{expr_of}
use Rattle.pm_schemajson.specs.declared.error.Field.{Field}
use Rattle.pm_schemajson.specs.declared.error.Field.TheVariants as the
use Rattle.pm_schemajson.specs.declared.error.SchemaReadError.{SchemaReadError}
use Rattle.pm_schemajson.specs.Types.{NodeType, MarkType, Types}
use Rattle.pm_schemajson.specs.Fields.{non_null, field, of_kind, text_if, text_or, truth_or}
use Rattle.pm_schemajson.specs.Versions.{version_of}
use Rattle.pm_schemajson.specs.Reading.{name_of, groups_of, attrs_of, node_fields, node_list, marks_of, types_of}
use Rattle.pm_schemajson.specs.Contents.{named, with_content, content_of, contents_of, schema_of}
use Rattle.pm_laws.proofs.Narrow.{IsNarrow, HaveNarrow}
use Rattle.pm_laws.proofs.ReadGives.{Gives, then-gives, past, given, IfThere, then-there}
use Rattle.pm_laws.proofs.ReadTypes.{a_node, all_types}
use Rattle.pm_laws.proofs.SmallJson.{count, IsSmall, SmallItems, SmallMembers}
use Rattle.pm_laws.proofs.NarrowExprs.{expr-narrow}

module _ (most : ℕ) where
  -- ---- what stands in a small value

  by-order : {A : Type 0} (P : A → Type 0) (o : Ordering) (a b : Option A) → IfThere P a → IfThere P b → IfThere P (match_ordering o a b a)
  by-order P Less a b h k = h
  by-order P Equal a b h k = k
  by-order P Greater a b h k = h

  member-small : (k : List ℕ) (ms : Members) → SmallMembers most ms → IfThere (IsSmall most) (get_member k ms)
  member-small k no_members h = tt
  member-small k (member l e ms) h = by-order (IsSmall most) (slice_cmp nat_cmp k l) (get_member k ms) (Some e) (member-small k ms h.1) h.0

  get-small : (k : List ℕ) (d : Data) → IsSmall most d → IfThere (IsSmall most) (get k d)
  get-small k json_null h = tt
  get-small k (boolean b) h = tt
  get-small k (number n) h = tt
  get-small k (string s) h = tt
  get-small k (array ds) h = tt
  get-small k (object ms) h = member-small k ms h

  unless-null : (b : Bool) (d : Data) → IsSmall most d → IfThere (IsSmall most) (if b then None else Some d)
  unless-null true d h = tt
  unless-null false d h = h

  field-small : (k : List ℕ) (d : Data) → IsSmall most d → IfThere (IsSmall most) (field k d)
  field-small k d h = then-there (IsSmall most) (IsSmall most) (get k d) non_null (get-small k d h) (λ x y. unless-null (is_some (as_null x)) x y)

  abbrev ShortText : List ℕ → Type 0
  ShortText t = length t ≤ most

  str-short : (d : Data) → IsSmall most d → IfThere ShortText (as_str d)
  str-short json_null h = tt
  str-short (boolean b) h = tt
  str-short (number n) h = tt
  str-short (string s) h = h
  str-short (array ds) h = tt
  str-short (object ms) h = tt

  abbrev FewItems : Items → Type 0
  FewItems ds = (count ds ≤ most) × SmallItems most ds

  array-few : (d : Data) → IsSmall most d → IfThere FewItems (as_array d)
  array-few json_null h = tt
  array-few (boolean b) h = tt
  array-few (number n) h = tt
  array-few (string s) h = tt
  array-few (array ds) h = h
  array-few (object ms) h = tt

  kind-gives : {A : Type 0} (P : A → Type 0) (f : Field) (o : Option A) → IfThere P o → Gives P (of_kind f o)
  kind-gives P f None h = tt
  kind-gives P f (Some x) h = h

  text-gives : (f : Field) (o : Option Data) → IfThere (IsSmall most) o → Gives ShortText (text_or [] f o)
  text-gives f None h = omega arith
  text-gives f (Some d) h = kind-gives ShortText f (as_str d) (str-short d h)

  -- ---- types

  abbrev NodeShort : NodeType (List ℕ) → Type 0
  NodeShort n = length n.content ≤ most

  abbrev NodesShort : List (NodeType (List ℕ)) → Type 0
  NodesShort [] = Unit {0}
  NodesShort (n ∷ ns) = NodeShort n × NodesShort ns

  node-short : (version : ℕ) (d : Data) → IsSmall most d → Gives NodeShort (node_fields version d)
  unfolding node_fields
  node-short version d small =
      let sixth : List ℕ → List ℕ → List (List ℕ) → Option (List ℕ) → Bool → Result (NodeType (List ℕ)) SchemaReadError =
      λ name content groups marks inline. (truth_or false the.Atom (field (codes "atom") d) >>= λ atom. (attrs_of version (field (codes "attrs") d) >>= λ attrs. Ok (a_node name content groups marks inline atom attrs))) in
      let fifth : List ℕ → List ℕ → List (List ℕ) → Option (List ℕ) → Result (NodeType (List ℕ)) SchemaReadError =
      λ name content groups marks. (truth_or false the.Inline (field (codes "inline") d) >>= λ inline. sixth name content groups marks inline) in
      let fourth : List ℕ → List ℕ → List (List ℕ) → Result (NodeType (List ℕ)) SchemaReadError = λ name content groups. (text_if the.Marks (field (codes "marks") d) >>= λ marks. fifth name content groups marks) in
      let third : List ℕ → List ℕ → Result (NodeType (List ℕ)) SchemaReadError = λ name content. (groups_of d >>= λ groups. fourth name content groups) in
      let second : List ℕ → Result (NodeType (List ℕ)) SchemaReadError = λ name. (text_or [] the.Content (field (codes "content") d) >>= λ content. third name content) in
      past NodeShort (name_of d) second
      (λ name. then-gives ShortText NodeShort (text_or [] the.Content (field (codes "content") d)) (third name) (text-gives the.Content (field (codes "content") d) (field-small (codes "content") d small))
      (λ content h. past NodeShort (groups_of d) (fourth name content)
      (λ groups. past NodeShort (text_if the.Marks (field (codes "marks") d)) (fifth name content groups)
      (λ marks. past NodeShort (truth_or false the.Inline (field (codes "inline") d)) (sixth name content groups marks)
      (λ inline. past NodeShort (truth_or false the.Atom (field (codes "atom") d)) (λ atom. (attrs_of version (field (codes "attrs") d) >>= λ attrs. Ok (a_node name content groups marks inline atom attrs)))
      (λ atom. past NodeShort (attrs_of version (field (codes "attrs") d)) (λ attrs. Ok (a_node name content groups marks inline atom attrs)) (λ attrs. h)))))))

  abbrev NodesOf : Items → List (NodeType (List ℕ)) → Type 0
  NodesOf ds ns = (length ns ≤ count ds) × NodesShort ns

  nodes-short : (version : ℕ) (ds : Items) → SmallItems most ds → Gives (NodesOf ds) (node_list version ds)
  unfolding node_list
  nodes-short version no_items h = (omega arith, tt)
  nodes-short version (item d ds) h =
      past (NodesOf (item d ds)) (of_kind the.Nodes (as_object d)) (λ members. (node_fields version d >>= λ first. (node_list version ds >>= λ rest. Ok (first ∷ rest))))
      (λ members. then-gives NodeShort (NodesOf (item d ds)) (node_fields version d) (λ first. (node_list version ds >>= λ rest. Ok (first ∷ rest))) (node-short version d h.0)
      (λ first x. then-gives (NodesOf ds) (NodesOf (item d ds)) (node_list version ds) (λ rest. Ok (first ∷ rest)) (nodes-short version ds h.1) (λ rest xs. let l = xs.0 in (omega (arith, l), (x, xs.1)))))

  abbrev TypesShort : Types (List ℕ) → Type 0
  TypesShort ts = (length ts.nodes ≤ most) × NodesShort ts.nodes

  types-short : (d : Data) → IsSmall most d → Gives TypesShort (types_of d)
  unfolding types_of
  types-short d small =
      let fourth : ℕ → List (NodeType (List ℕ)) → List MarkType → Result (Types (List ℕ)) SchemaReadError = λ version nodes marks. (text_or (codes "doc") the.TopNode (field (codes "topNode") d) >>= λ top. Ok (all_types nodes marks top version)) in
      let third : ℕ → List (NodeType (List ℕ)) → Result (Types (List ℕ)) SchemaReadError = λ version nodes. (marks_of version (field (codes "marks") d) >>= λ marks. fourth version nodes marks) in
      let second : ℕ → Result (Types (List ℕ)) SchemaReadError =
      λ version. (of_kind the.Nodes (option_and_then as_array (get (codes "nodes") d)) >>= λ items. (node_list version items >>= λ nodes. third version nodes)) in
      past TypesShort (version_of (field (codes "version") d)) second
      (λ version. then-gives FewItems TypesShort (of_kind the.Nodes (option_and_then as_array (get (codes "nodes") d))) (λ items. (node_list version items >>= λ nodes. third version nodes))
      (kind-gives FewItems the.Nodes (option_and_then as_array (get (codes "nodes") d)) (then-there (IsSmall most) FewItems (get (codes "nodes") d) as_array (get-small (codes "nodes") d small) (λ x y. array-few x y)))
      (λ items few. then-gives (NodesOf items) TypesShort (node_list version items) (third version) (nodes-short version items few.1)
      (λ nodes x. past TypesShort (marks_of version (field (codes "marks") d)) (fourth version nodes)
      (λ marks. past TypesShort (text_or (codes "doc") the.TopNode (field (codes "topNode") d)) (λ top. Ok (all_types nodes marks top version)) (λ top. let l = x.0 in let m = few.0 in (omega (arith, l, m), x.1))))))

  -- ---- contents

  content-gives : (kind : ℕ) (r : Result Tree ExprError) → Gives IsNarrow r → Gives IsNarrow (content_of kind r)
  content-gives kind (Ok e) h = h
  content-gives kind (Err f) h = tt

  module _ (room : suc most < 2 ^ 63) where
    contents-narrow : (names : List Named) (kind : ℕ) (ns : List (NodeType (List ℕ))) → length names ≤ most → NodesShort ns → Gives HaveNarrow (contents_of names kind ns)
    unfolding contents_of
    contents-narrow names kind [] l h = tt
    contents-narrow names kind (n ∷ ns) l h =
        then-gives IsNarrow HaveNarrow (content_of kind (expr_of names n.content)) (λ content. (contents_of names (kind + 1) ns >>= λ rest. Ok (with_content n content ∷ rest)))
        (content-gives kind (expr_of names n.content) (expr-narrow names n.content (omega (arith, l, room)) (let s = h.0 in omega (arith, s, room))))
        (λ content x. then-gives HaveNarrow HaveNarrow (contents_of names (kind + 1) ns) (λ rest. Ok (with_content n content ∷ rest)) (contents-narrow names (kind + 1) ns l h.1) (λ rest xs. (x, xs)))

    abbrev TypesNarrow : Types Tree → Type 0
    TypesNarrow ts = HaveNarrow ts.nodes

    types-narrow : (d : Data) → IsSmall most d → Gives TypesNarrow (schema_of d)
    unfolding schema_of
    types-narrow d small =
        then-gives TypesShort TypesNarrow (types_of d) (λ types. (contents_of (map named types.nodes) 0 types.nodes >>= λ nodes. Ok (all_types nodes types.marks types.top types.version))) (types-short d small)
        (λ types h. then-gives HaveNarrow TypesNarrow (contents_of (map named types.nodes) 0 types.nodes) (λ nodes. Ok (all_types nodes types.marks types.top types.version))
        (contents-narrow (map named types.nodes) 0 types.nodes (let l = h.0 in let e = length-map types.nodes named in omega (arith, l, e)) h.1) (λ nodes xs. xs))

    pub lists-narrow : (d : Data) (types : Types Tree) → IsSmall most d → schema_of d ≡ Ok types → HaveNarrow types.nodes
    lists-narrow d types small e = given TypesNarrow (schema_of d) types e (types-narrow d small)
