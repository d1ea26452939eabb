-- The types that a value lists are those of a spec, where memory can hold their contents.
use Rattle.std.proofs.Common.{◌≡◌, ◌==◌, ℕ, ◌+◌, ◌-◌, List, [], ◌∷◌, map, Bool, true, false, refl, ap, sym, ◌∙◌}
use Rattle.std.specs.Prelude.{ℤ, pos, negsuc, ◌^◌, nat_lt, codes, Option, Some, None, option_map, option_and_then, Result, Ok, Err, if◌then◌else◌}
use Rattle.std.specs.List.{list_all}
use Rattle.serde_json.specs.Data.{Data, null as json_null, boolean, number, string, array, object, Items, no_items, item, Members, no_members, member}
use Rattle.serde_json.specs.Find.{get, as_array, as_object, as_integer}
use Rattle.pm_list.specs.Readings.{◌>>=◌}
use Rattle.pm_value.specs.Plain.{Plain, items, plains_of, fields_of}
use Rattle.pm_value.specs.Views.{plain}
use Rattle.pm_value.specs.Reading.{int_of, value_at, list_at, pairs_at, value_of}
use Rattle.pm_value.specs.declared.kinds.Kinds.{Kinds}
use Rattle.pm_value.specs.declared.value.Value.{Value}
use Rattle.pm_value.specs.declared.value.Value.TheVariants as value
use Rattle.pm_value.specs.declared.fault.ValueError.{ValueError}
use Rattle.pm_value.specs.declared.fault.ValueError.TheVariants.{Wide, Deep}
use Rattle.pm_auto.specs.Tree.{Tree}
use Rattle.pm_expr.specs.Names.{Named}
use Rattle.pm_expr.specs.Reader.{expr_of}
use Rattle.pm_schema.specs.declared.spec.AttrSpec.{AttrSpec}
use Rattle.pm_schema.specs.declared.spec.NodeSpec.{NodeSpec}
use Rattle.pm_schema.specs.declared.spec.MarkSpec.{MarkSpec}
use Rattle.pm_schema.specs.declared.spec.SchemaSpec.{SchemaSpec}
use Rattle.pm_schema.specs.Defaults.{is_kind_of_default, have_kinds}
use Rattle.pm_schemajson.specs.declared.error.Field.TheVariants as the
use Rattle.pm_schemajson.specs.declared.error.SchemaReadError.{SchemaReadError}
use Rattle.pm_schemajson.specs.declared.error.SchemaReadError.TheVariants.{BadDefault}
use Rattle.pm_schemajson.specs.Types.{Attribute, NodeType, MarkType, Types}
use Rattle.pm_schemajson.specs.Fields.{field, of_kind, text_if, text_or, truth_or}
use Rattle.pm_schemajson.specs.Versions.{version_of, validate_of, is_kept, with_kept}
use Rattle.pm_schemajson.specs.Reading.{name_of, groups_of, default_from, default_of, attr_of, attr_list, attrs_of, node_fields, mark_fields, node_list, mark_list, marks_of, types_of}
use Rattle.pm_schemajson.specs.Contents.{named, with_content, content_of, contents_of, schema_of}
use Rattle.pm_schemajson.specs.Views.{attribute, attributes, node_types, mark_types, types_of_spec}
use Rattle.pm_schemajson.proofs.ShallowTypes.{spec-version}
use Rattle.pm_laws.proofs.Narrow.{HaveNarrow}
use Rattle.pm_laws.proofs.ReadTypes.{a_node, a_mark, all_types}
use Rattle.pm_laws.proofs.ReadGives.{Gives, then-gives, past, given}
use Rattle.pm_laws.proofs.ExprsThere.{expr-there}
use Rattle.pm_laws.proofs.SchemaThere.{IsWell, both}

-- ---- a value that memory holds

abbrev IsHeld : Plain → Type 0
IsHeld p = (v : Value) × (plain v ≡ p)

int-held : (o : Option ℤ) → Gives IsHeld (int_of o)
int-held None = tt
int-held (Some (pos n)) = at (nat_lt n (2 ^ 63))
  where
    at : (b : Bool) → Gives IsHeld (if b then Ok (plain (value.Int (pos n))) else Err Wide)
    at true = (value.Int (pos n), refl)
    at false = tt
int-held (Some (negsuc n)) = (value.Int (negsuc n), refl)

list-held : (b : Bool) (r : Result (List Plain) ValueError) → Gives IsHeld (if b then Err Deep else (r >>= λ vs. Ok (items (plains_of vs))))
list-held true r = tt
list-held false (Ok vs) = (value.Items vs, refl)
list-held false (Err e) = tt

fields-held : (b : Bool) (r : Result (List (List ℕ × Plain)) ValueError) → Gives IsHeld (if b then Err Deep else (r >>= λ fs. Ok (fields_of fs)))
fields-held true r = tt
fields-held false (Ok fs) = (value.Fields fs, refl)
fields-held false (Err e) = tt

value-held : (d : Data) (levels : ℕ) → Gives IsHeld (value_at d levels)
unfolding value_at
value-held json_null levels = (value.Null, refl)
value-held (boolean b) levels = (value.Bool b, refl)
value-held (number x) levels = int-held (as_integer x)
value-held (string bs) levels = (value.Text bs, refl)
value-held (array ds) levels = list-held (levels == 0) (list_at ds (levels - 1))
value-held (object ms) levels = fields-held (levels == 0) (pairs_at ms (levels - 1))

abbrev IsHeldDefault : Option Plain → Type 0
IsHeldDefault p = (v : Option Value) × (option_map plain v ≡ p)

from-held : (r : Result Plain ValueError) → Gives IsHeld r → Gives IsHeldDefault (default_from r)
from-held (Ok p) h = (Some h.0, ap Some h.1)
from-held (Err e) h = tt

default-held : (o : Option Data) → Gives IsHeldDefault (default_of o)
default-held None = (None, refl)
default-held (Some d) = from-held (value_of d) (value-held d 4)

-- ---- attributes

-- it is the attribute of a spec, whose default is of a kind that is named
record IsOfSpec (a : Attribute) : Type 0 where
  spec : AttrSpec
  is : attribute spec ≡ a
  kind : is_kind_of_default spec.validate spec.default ≡ true

record AreOfSpecs (attrs : List Attribute) : Type 0 where
  specs : List AttrSpec
  are : attributes specs ≡ attrs
  kinds : have_kinds specs ≡ true

kind-kept : (ks : Option Kinds) (v : Option Value) → is_kind_of_default ks v ≡ is_kept ks (option_map plain v)
kind-kept ks None = refl
kind-kept ks (Some v) = refl

kept-gives : (at : ℕ) (a : Attribute) → IsHeldDefault a.default → Gives IsOfSpec (with_kept at a)
kept-gives n a h = at (is_kept a.validate a.default) refl
  where
    at : (b : Bool) → is_kept a.validate a.default ≡ b → Gives IsOfSpec (if b then Ok a else Err (BadDefault n))
    at true e = record {
      spec = record { name = a.name; default = h.0; validate = a.validate };
      is = λ i. record { name = a.name; default = h.1 i; validate = a.validate };
      kind = kind-kept a.validate h.0 ∙ ap (is_kept a.validate) h.1 ∙ e;
    }
    at false e = tt

attr-gives : (version at : ℕ) (k : List ℕ) (d : Data) → Gives IsOfSpec (attr_of version at k d)
unfolding attr_of
attr-gives version at k d =
    past IsOfSpec (of_kind the.Attrs (as_object d))
    (λ members. (default_of (get (codes "default") d) >>= λ default. (validate_of version (field (codes "validate") d) >>= λ validate. with_kept at (record { name = k; default = default; validate = validate }))))
    (λ members. then-gives IsHeldDefault IsOfSpec (default_of (get (codes "default") d))
    (λ default. (validate_of version (field (codes "validate") d) >>= λ validate. with_kept at (record { name = k; default = default; validate = validate })))
    (default-held (get (codes "default") d))
    (λ default held. past IsOfSpec (validate_of version (field (codes "validate") d)) (λ validate. with_kept at (record { name = k; default = default; validate = validate }))
    (λ validate. kept-gives at (record { name = k; default = default; validate = validate }) held)))

one-more-attr : (a : Attribute) (rest : List Attribute) → IsOfSpec a → AreOfSpecs rest → AreOfSpecs (a ∷ rest)
one-more-attr a rest x xs = record {
  specs = x.spec ∷ xs.specs;
  are = λ i. x.is i ∷ xs.are i;
  kinds = both (is_kind_of_default x.spec.validate x.spec.default) (have_kinds xs.specs) x.kind xs.kinds;
}

list-gives : (version at : ℕ) (ms : Members) → Gives AreOfSpecs (attr_list version at ms)
unfolding attr_list
list-gives version at no_members = record { specs = []; are = refl; kinds = refl }
list-gives version at (member k d ms) =
    then-gives IsOfSpec AreOfSpecs (attr_of version at k d) (λ first. (attr_list version (at + 1) ms >>= λ rest. Ok (first ∷ rest))) (attr-gives version at k d)
    (λ first x. then-gives AreOfSpecs AreOfSpecs (attr_list version (at + 1) ms) (λ rest. Ok (first ∷ rest)) (list-gives version (at + 1) ms) (λ rest xs. one-more-attr first rest x xs))

attrs-give : (version : ℕ) (o : Option Data) → Gives AreOfSpecs (attrs_of version o)
unfolding attrs_of
attrs-give version None = record { specs = []; are = refl; kinds = refl }
attrs-give version (Some d) = past AreOfSpecs (of_kind the.Attrs (as_object d)) (attr_list version 0) (λ ms. list-gives version 0 ms)

-- ---- types

abbrev NodeHeld : {C : Type 0} → NodeType C → Type 0
NodeHeld n = AreOfSpecs n.attrs

abbrev NodesHeld : {C : Type 0} → List (NodeType C) → Type 0
NodesHeld [] = Unit {0}
NodesHeld (n ∷ ns) = NodeHeld n × NodesHeld ns

abbrev MarkHeld : MarkType → Type 0
MarkHeld m = AreOfSpecs m.attrs

abbrev MarksHeld : List MarkType → Type 0
MarksHeld [] = Unit {0}
MarksHeld (m ∷ ms) = MarkHeld m × MarksHeld ms

abbrev TypesHeld : {C : Type 0} → Types C → Type 0
TypesHeld ts = NodesHeld ts.nodes × MarksHeld ts.marks

node-gives : (version : ℕ) (d : Data) → Gives NodeHeld (node_fields version d)
unfolding node_fields
node-gives version d =
    let sixth : List ℕ → List ℕ → List (List ℕ) → Option (List ℕ) → Bool → Result (NodeType (List ℕ)) SchemaReadError =
    λ name content groups marks inline. (truth_or false the.Atom (field (codes "atom") d) >>= λ atom. (attrs_of version (field (codes "attrs") d) >>= λ attrs. Ok (a_node name content groups marks inline atom attrs))) in
    let fifth : List ℕ → List ℕ → List (List ℕ) → Option (List ℕ) → Result (NodeType (List ℕ)) SchemaReadError =
    λ name content groups marks. (truth_or false the.Inline (field (codes "inline") d) >>= λ inline. sixth name content groups marks inline) in
    let fourth : List ℕ → List ℕ → List (List ℕ) → Result (NodeType (List ℕ)) SchemaReadError = λ name content groups. (text_if the.Marks (field (codes "marks") d) >>= λ marks. fifth name content groups marks) in
    let third : List ℕ → List ℕ → Result (NodeType (List ℕ)) SchemaReadError = λ name content. (groups_of d >>= λ groups. fourth name content groups) in
    let second : List ℕ → Result (NodeType (List ℕ)) SchemaReadError = λ name. (text_or [] the.Content (field (codes "content") d) >>= λ content. third name content) in
    past NodeHeld (name_of d) second
    (λ name. past NodeHeld (text_or [] the.Content (field (codes "content") d)) (third name)
    (λ content. past NodeHeld (groups_of d) (fourth name content)
    (λ groups. past NodeHeld (text_if the.Marks (field (codes "marks") d)) (fifth name content groups)
    (λ marks. past NodeHeld (truth_or false the.Inline (field (codes "inline") d)) (sixth name content groups marks)
    (λ inline. past NodeHeld (truth_or false the.Atom (field (codes "atom") d)) (λ atom. (attrs_of version (field (codes "attrs") d) >>= λ attrs. Ok (a_node name content groups marks inline atom attrs)))
    (λ atom. then-gives AreOfSpecs NodeHeld (attrs_of version (field (codes "attrs") d)) (λ attrs. Ok (a_node name content groups marks inline atom attrs)) (attrs-give version (field (codes "attrs") d)) (λ attrs h. h)))))))

mark-gives : (version : ℕ) (d : Data) → Gives MarkHeld (mark_fields version d)
unfolding mark_fields
mark-gives version d =
    let fourth : List ℕ → List Attribute → Bool → Result MarkType SchemaReadError =
    λ name attrs inclusive. (text_if the.Excludes (field (codes "excludes") d) >>= λ excludes. (groups_of d >>= λ groups. Ok (a_mark name attrs inclusive excludes groups))) in
    let third : List ℕ → List Attribute → Result MarkType SchemaReadError = λ name attrs. (truth_or true the.Inclusive (field (codes "inclusive") d) >>= λ inclusive. fourth name attrs inclusive) in
    let second : List ℕ → Result MarkType SchemaReadError = λ name. (attrs_of version (field (codes "attrs") d) >>= λ attrs. third name attrs) in
    past MarkHeld (name_of d) second
    (λ name. then-gives AreOfSpecs MarkHeld (attrs_of version (field (codes "attrs") d)) (third name) (attrs-give version (field (codes "attrs") d))
    (λ attrs h. past MarkHeld (truth_or true the.Inclusive (field (codes "inclusive") d)) (fourth name attrs)
    (λ inclusive. past MarkHeld (text_if the.Excludes (field (codes "excludes") d)) (λ excludes. (groups_of d >>= λ groups. Ok (a_mark name attrs inclusive excludes groups)))
    (λ excludes. past MarkHeld (groups_of d) (λ groups. Ok (a_mark name attrs inclusive excludes groups)) (λ groups. h)))))

nodes-give : (version : ℕ) (ds : Items) → Gives NodesHeld (node_list version ds)
unfolding node_list
nodes-give version no_items = tt
nodes-give version (item d ds) =
    past NodesHeld (of_kind the.Nodes (as_object d)) (λ members. (node_fields version d >>= λ first. (node_list version ds >>= λ rest. Ok (first ∷ rest))))
    (λ members. then-gives NodeHeld NodesHeld (node_fields version d) (λ first. (node_list version ds >>= λ rest. Ok (first ∷ rest))) (node-gives version d)
    (λ first x. then-gives NodesHeld NodesHeld (node_list version ds) (λ rest. Ok (first ∷ rest)) (nodes-give version ds) (λ rest xs. (x, xs))))

mark-list-gives : (version : ℕ) (ds : Items) → Gives MarksHeld (mark_list version ds)
unfolding mark_list
mark-list-gives version no_items = tt
mark-list-gives version (item d ds) =
    past MarksHeld (of_kind the.Marks (as_object d)) (λ members. (mark_fields version d >>= λ first. (mark_list version ds >>= λ rest. Ok (first ∷ rest))))
    (λ members. then-gives MarkHeld MarksHeld (mark_fields version d) (λ first. (mark_list version ds >>= λ rest. Ok (first ∷ rest))) (mark-gives version d)
    (λ first x. then-gives MarksHeld MarksHeld (mark_list version ds) (λ rest. Ok (first ∷ rest)) (mark-list-gives version ds) (λ rest xs. (x, xs))))

marks-give : (version : ℕ) (o : Option Data) → Gives MarksHeld (marks_of version o)
unfolding marks_of
marks-give version None = tt
marks-give version (Some d) = past MarksHeld (of_kind the.Marks (as_array d)) (mark_list version) (λ ds. mark-list-gives version ds)

texts-give : (d : Data) → Gives TypesHeld (types_of d)
unfolding types_of
texts-give d =
    let fourth : ℕ → List (NodeType (List ℕ)) → List MarkType → Result (Types (List ℕ)) SchemaReadError = λ version nodes marks. (text_or (codes "doc") the.TopNode (field (codes "topNode") d) >>= λ top. Ok (all_types nodes marks top version)) in
    let third : ℕ → List (NodeType (List ℕ)) → Result (Types (List ℕ)) SchemaReadError = λ version nodes. (marks_of version (field (codes "marks") d) >>= λ marks. fourth version nodes marks) in
    let second : ℕ → Result (Types (List ℕ)) SchemaReadError =
    λ version. (of_kind the.Nodes (option_and_then as_array (get (codes "nodes") d)) >>= λ items. (node_list version items >>= λ nodes. third version nodes)) in
    past TypesHeld (version_of (field (codes "version") d)) second
    (λ version. past TypesHeld (of_kind the.Nodes (option_and_then as_array (get (codes "nodes") d))) (λ items. (node_list version items >>= λ nodes. third version nodes))
    (λ items. then-gives NodesHeld TypesHeld (node_list version items) (third version) (nodes-give version items)
    (λ nodes x. then-gives MarksHeld TypesHeld (marks_of version (field (codes "marks") d)) (fourth version nodes) (marks-give version (field (codes "marks") d))
    (λ marks y. past TypesHeld (text_or (codes "doc") the.TopNode (field (codes "topNode") d)) (λ top. Ok (all_types nodes marks top version)) (λ top. (x, y))))))

contents-give : (names : List Named) (kind : ℕ) (ns : List (NodeType (List ℕ))) → NodesHeld ns → Gives NodesHeld (contents_of names kind ns)
unfolding contents_of
contents-give names kind [] h = tt
contents-give names kind (n ∷ ns) h =
    past NodesHeld (content_of kind (expr_of names n.content)) (λ content. (contents_of names (kind + 1) ns >>= λ rest. Ok (with_content n content ∷ rest)))
    (λ content. then-gives NodesHeld NodesHeld (contents_of names (kind + 1) ns) (λ rest. Ok (with_content n content ∷ rest)) (contents-give names (kind + 1) ns h.1) (λ rest xs. (h.0, xs)))

types-give : (d : Data) → Gives TypesHeld (schema_of d)
unfolding schema_of
types-give d =
    then-gives TypesHeld TypesHeld (types_of d) (λ types. (contents_of (map named types.nodes) 0 types.nodes >>= λ nodes. Ok (all_types nodes types.marks types.top types.version))) (texts-give d)
    (λ types h. then-gives NodesHeld TypesHeld (contents_of (map named types.nodes) 0 types.nodes) (λ nodes. Ok (all_types nodes types.marks types.top types.version)) (contents-give (map named types.nodes) 0 types.nodes h.0) (λ nodes xs. (xs, h.1)))

-- ---- the spec

record NodeSpecs (ns : List (NodeType Tree)) : Type 0 where
  specs : List NodeSpec
  are : node_types specs ≡ ns
  kinds : list_all (λ n. have_kinds n.attrs) specs ≡ true

node-specs : (ns : List (NodeType Tree)) → NodesHeld ns → HaveNarrow ns → NodeSpecs ns
node-specs [] h w = record { specs = []; are = refl; kinds = refl }
node-specs (n ∷ ns) h w =
    let e = expr-there n.content w.0 in
    let rest = node-specs ns h.1 w.1 in
    let attrs = h.0.specs in
    let are = h.0.are in
    let one : NodeSpec = record { name = n.name; content = e.0; groups = n.groups; marks = n.marks; inline = n.inline; atom = n.atom; attrs = attrs } in
    record {
      specs = one ∷ rest.specs;
      are = λ i. record { name = n.name; content = e.1 i; groups = n.groups; marks = n.marks; inline = n.inline; atom = n.atom; attrs = are i } ∷ rest.are i;
      kinds = both (have_kinds attrs) (list_all (λ n. have_kinds n.attrs) rest.specs) h.0.kinds rest.kinds;
    }

record MarkSpecs (ms : List MarkType) : Type 0 where
  specs : List MarkSpec
  are : mark_types specs ≡ ms
  kinds : list_all (λ m. have_kinds m.attrs) specs ≡ true

mark-specs : (ms : List MarkType) → MarksHeld ms → MarkSpecs ms
mark-specs [] h = record { specs = []; are = refl; kinds = refl }
mark-specs (m ∷ ms) h =
    let rest = mark-specs ms h.1 in
    let attrs = h.0.specs in
    let are = h.0.are in
    let one : MarkSpec = record { name = m.name; attrs = attrs; inclusive = m.inclusive; excludes = m.excludes; groups = m.groups } in
    record {
      specs = one ∷ rest.specs;
      are = λ i. record { name = m.name; attrs = are i; inclusive = m.inclusive; excludes = m.excludes; groups = m.groups } ∷ rest.are i;
      kinds = both (have_kinds attrs) (list_all (λ m. have_kinds m.attrs) rest.specs) h.0.kinds rest.kinds;
    }

-- a spec with these types
abbrev pub SpecOf : Data → Type 0
SpecOf d = (s : SchemaSpec) × (schema_of d ≡ Ok (types_of_spec s)) × IsWell s

pub spec-there : (d : Data) (types : Types Tree) → schema_of d ≡ Ok types → HaveNarrow types.nodes → SpecOf d
spec-there d types e w =
    let held : TypesHeld types = given TypesHeld (schema_of d) types e (types-give d) in
    let ns = node-specs types.nodes held.0 w in
    let ms = mark-specs types.marks held.1 in
    let spec : SchemaSpec = record { nodes = ns.specs; marks = ms.specs; top = types.top; version = types.version } in
    let same : types_of_spec spec ≡ types = λ i. record { nodes = ns.are i; marks = ms.are i; top = types.top; version = types.version } in
    let written : schema_of d ≡ Ok (types_of_spec spec) = e ∙ sym (ap Ok same) in
    (spec, written, record { version = spec-version d spec written; nodes = ns.kinds; marks = ms.kinds })
