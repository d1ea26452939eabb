-- The defaults of a schema that is read nest at most four levels deep, and its version is 1 or 2.
use Rattle.std.proofs.Common.{◌≡◌, ◌≤◌, ℕ, ◌+◌, List, [], ◌∷◌, Bool, true, false, ◌&&◌, map, refl, subst, arith}
use Rattle.std.proofs.lemmas.Bool.Decides.{nat_tests}
use Rattle.std.specs.List.{list_all}
use Rattle.std.specs.Prelude.{nat_le, ◌==◌, if◌then◌else◌, codes, Option, Some, None, Result, Ok, Err, option_map, option_and_then}
use Rattle.serde_json.specs.Data.{Data, Items, no_items, item, Members, no_members, member}
use Rattle.serde_json.specs.Find.{get, as_array, as_object, as_number, as_u64}
use Rattle.pm_list.specs.Readings.{◌>>=◌}
use Rattle.pm_auto.specs.Tree.{Tree}
use Rattle.pm_expr.specs.Names.{Named}
use Rattle.pm_expr.specs.Reader.{expr_of}
use Rattle.pm_value.specs.declared.fault.ValueError.{ValueError}
use Rattle.pm_value.specs.declared.value.Value.{Value}
use Rattle.pm_value.specs.Plain.{Plain, depth}
use Rattle.pm_value.specs.Views.{plain}
use Rattle.pm_value.specs.Reading.{value_of}
use Rattle.pm_value.proofs.Shallow.{value-shallow}
use Rattle.pm_schema.specs.declared.spec.SchemaSpec.{SchemaSpec}
use Rattle.pm_schema.specs.declared.spec.AttrSpec.{AttrSpec}
use Rattle.pm_schema.specs.declared.spec.NodeSpec.{NodeSpec}
use Rattle.pm_schema.specs.declared.spec.MarkSpec.{MarkSpec}
use Rattle.pm_schema.specs.Defaults.{is_shallow, are_shallow, HasShallowDefaults}
use Rattle.pm_schemajson.specs.declared.error.Field.TheVariants as the
use Rattle.pm_schemajson.specs.Contents.{named, with_content, content_of, contents_of, schema_of}
use Rattle.pm_schemajson.specs.Fields.{field, of_kind, text_or, text_if, truth_or}
use Rattle.pm_schemajson.specs.Reading.{name_of, groups_of, default_from, default_of, attr_of, attr_list, attrs_of, node_fields, mark_fields, node_list, mark_list, marks_of, types_of}
use Rattle.pm_schemajson.specs.declared.error.SchemaReadError.TheVariants.{Shape, BadDefault}
use Rattle.pm_schemajson.specs.Versions.{version_in, version_of, validate_of, is_kept, with_kept}
use Rattle.pm_schema.specs.Types.{is_version}
use Rattle.pm_schemajson.specs.Types.{Attribute, NodeType, MarkType, Types}
use Rattle.pm_schemajson.specs.Views.{attributes, node_types, mark_types, types_of_spec}

first-read : {A B E : Type 0} (r : Result A E) (f : A → Result B E) (x : B) → (r >>= f) ≡ Ok x → (a : A) × ((r ≡ Ok a) × (f a ≡ Ok x))
first-read (Ok a) f x h = (a, (refl, h))
first-read (Err e) f x h = absurd (cc)

and-both : (a b : Bool) → (a && b) ≡ true → (a ≡ true) × (b ≡ true)
and-both true b h = (refl, h)
and-both false b h = absurd (cc)

and-true : (a b : Bool) → a ≡ true → b ≡ true → (a && b) ≡ true
and-true true b h k = k
and-true false b h k = absurd (cc)

-- ---- attributes

-- a default, if there is one, is at most four levels deep
abbrev low : Option Plain → Bool
low None = true
low (Some v) = nat_le (depth v) 4

abbrev all_low : List Attribute → Bool
all_low attrs = list_all (λ a. low a.default) attrs

low-is : (n : ℕ) → n ≤ 4 → nat_le n 4 ≡ true
low-is n h = grind (arith, nat_tests)

from-value : (r : Result Plain ValueError) (o : Option Plain) → default_from r ≡ Ok o → ((v : Plain) → r ≡ Ok v → nat_le (depth v) 4 ≡ true) → low o ≡ true
from-value (Ok v) o h all = let same : Some v ≡ o = cc in subst (λ x. low x ≡ true) same (all v refl)
from-value (Err e) o h all = absurd (cc)

default-low : (d : Option Data) (o : Option Plain) → default_of d ≡ Ok o → low o ≡ true
default-low None o h = let same : None ≡ o = cc in subst (λ x. low x ≡ true) same refl
default-low (Some d) o h = from-value (value_of d) o h (λ v is. low-is (depth v) (value-shallow d 4 v is))

version-is : (o : Option Data) (v : ℕ) → version_of o ≡ Ok v → is_version v ≡ true
version-is None v h = let same : 1 ≡ v = cc in subst (λ n. is_version n ≡ true) same refl
version-is (Some d) v h = at (option_and_then as_u64 (as_number d)) h
  where
    one : (n : ℕ) (b c : Bool) → (if b then Ok 1 else (if c then Ok 2 else Err (Shape the.Version))) ≡ Ok v → is_version v ≡ true
    one n true c h = let same : 1 ≡ v = cc in subst (λ n. is_version n ≡ true) same refl
    one n false true h = let same : 2 ≡ v = cc in subst (λ n. is_version n ≡ true) same refl
    one n false false h = absurd (cc)

    at : (o : Option ℕ) → version_in o ≡ Ok v → is_version v ≡ true
    at None h = absurd (cc)
    at (Some n) h = one n (n == 1) (n == 2) h

kept-is : (n : ℕ) (x a : Attribute) → with_kept n x ≡ Ok a → x ≡ a
kept-is n x a h = at (is_kept x.validate x.default) h
  where
    at : (b : Bool) → (if b then Ok x else Err (BadDefault n)) ≡ Ok a → x ≡ a
    at true h = cc
    at false h = absurd (cc)

attr-low : (version n : ℕ) (k : List ℕ) (d : Data) (a : Attribute) → attr_of version n k d ≡ Ok a → low a.default ≡ true
unfolding attr_of
attr-low version n k d a h =
    let x0 = first-read (of_kind the.Attrs (as_object d)) (λ members. default_of (get (codes "default") d) >>= λ default. validate_of version (field (codes "validate") d) >>= λ validate. with_kept n (record { name = k; default = default; validate = validate })) a h in
    let x1 = first-read (default_of (get (codes "default") d)) (λ default. validate_of version (field (codes "validate") d) >>= λ validate. with_kept n (record { name = k; default = default; validate = validate })) a x0.1.1 in
    let x2 = first-read (validate_of version (field (codes "validate") d)) (λ validate. with_kept n (record { name = k; default = x1.0; validate = validate })) a x1.1.1 in
    let one : Attribute = record { name = k; default = x1.0; validate = x2.0 } in
    subst (λ (x : Attribute). low x.default ≡ true) {x = one} (kept-is n one a x2.1.1) (default-low (get (codes "default") d) x1.0 x1.1.0)

list-low : (version n : ℕ) (ms : Members) (attrs : List Attribute) → attr_list version n ms ≡ Ok attrs → all_low attrs ≡ true
unfolding attr_list
list-low version n no_members attrs h = let same : [] ≡ attrs = cc in subst (λ x. all_low x ≡ true) same refl
list-low version n (member k d ms) attrs h =
    let a = first-read (attr_of version n k d) (λ first. attr_list version (n + 1) ms >>= λ rest. Ok (first ∷ rest)) attrs h in
    let b = first-read (attr_list version (n + 1) ms) (λ rest. Ok (a.0 ∷ rest)) attrs a.1.1 in
    let same : a.0 ∷ b.0 ≡ attrs = cc b.1.1 in
    subst (λ x. all_low x ≡ true) same (and-true (low a.0.default) (all_low b.0) (attr-low version n k d a.0 a.1.0) (list-low version (n + 1) ms b.0 b.1.0))

attrs-low : (version : ℕ) (d : Option Data) (attrs : List Attribute) → attrs_of version d ≡ Ok attrs → all_low attrs ≡ true
unfolding attrs_of
attrs-low version None attrs h = let same : [] ≡ attrs = cc in subst (λ x. all_low x ≡ true) same refl
attrs-low version (Some d) attrs h = let a = first-read (of_kind the.Attrs (as_object d)) (attr_list version 0) attrs h in list-low version 0 a.0 attrs a.1.1

-- ---- types

node-low : (version : ℕ) (d : Data) (n : NodeType (List ℕ)) → node_fields version d ≡ Ok n → all_low n.attrs ≡ true
unfolding node_fields
node-low version d n h =
    let x0 = first-read (name_of d) (λ name. text_or [] the.Content (field (codes "content") d) >>= λ content. groups_of d >>= λ groups. text_if the.Marks (field (codes "marks") d) >>= λ marks. truth_or false the.Inline (field (codes "inline") d) >>= λ inline. truth_or false the.Atom (field (codes "atom") d) >>= λ atom. attrs_of version (field (codes "attrs") d) >>= λ attrs. Ok (record { name = name; content = content; groups = groups; marks = marks; inline = inline; atom = atom; attrs = attrs })) n h in
    let x1 = first-read (text_or [] the.Content (field (codes "content") d)) (λ content. groups_of d >>= λ groups. text_if the.Marks (field (codes "marks") d) >>= λ marks. truth_or false the.Inline (field (codes "inline") d) >>= λ inline. truth_or false the.Atom (field (codes "atom") d) >>= λ atom. attrs_of version (field (codes "attrs") d) >>= λ attrs. Ok (record { name = x0.0; content = content; groups = groups; marks = marks; inline = inline; atom = atom; attrs = attrs })) n x0.1.1 in
    let x2 = first-read (groups_of d) (λ groups. text_if the.Marks (field (codes "marks") d) >>= λ marks. truth_or false the.Inline (field (codes "inline") d) >>= λ inline. truth_or false the.Atom (field (codes "atom") d) >>= λ atom. attrs_of version (field (codes "attrs") d) >>= λ attrs. Ok (record { name = x0.0; content = x1.0; groups = groups; marks = marks; inline = inline; atom = atom; attrs = attrs })) n x1.1.1 in
    let x3 = first-read (text_if the.Marks (field (codes "marks") d)) (λ marks. truth_or false the.Inline (field (codes "inline") d) >>= λ inline. truth_or false the.Atom (field (codes "atom") d) >>= λ atom. attrs_of version (field (codes "attrs") d) >>= λ attrs. Ok (record { name = x0.0; content = x1.0; groups = x2.0; marks = marks; inline = inline; atom = atom; attrs = attrs })) n x2.1.1 in
    let x4 = first-read (truth_or false the.Inline (field (codes "inline") d)) (λ inline. truth_or false the.Atom (field (codes "atom") d) >>= λ atom. attrs_of version (field (codes "attrs") d) >>= λ attrs. Ok (record { name = x0.0; content = x1.0; groups = x2.0; marks = x3.0; inline = inline; atom = atom; attrs = attrs })) n x3.1.1 in
    let x5 = first-read (truth_or false the.Atom (field (codes "atom") d)) (λ atom. attrs_of version (field (codes "attrs") d) >>= λ attrs. Ok (record { name = x0.0; content = x1.0; groups = x2.0; marks = x3.0; inline = x4.0; atom = atom; attrs = attrs })) n x4.1.1 in
    let x6 = first-read (attrs_of version (field (codes "attrs") d)) (λ attrs. Ok (record { name = x0.0; content = x1.0; groups = x2.0; marks = x3.0; inline = x4.0; atom = x5.0; attrs = attrs })) n x5.1.1 in
    let made : NodeType (List ℕ) = record { name = x0.0; content = x1.0; groups = x2.0; marks = x3.0; inline = x4.0; atom = x5.0; attrs = x6.0 } in
    let same : made ≡ n = cc x6.1.1 in
    subst (λ (x : NodeType (List ℕ)). all_low x.attrs ≡ true) {x = made} same (attrs-low version (field (codes "attrs") d) x6.0 x6.1.0)

mark-low : (version : ℕ) (d : Data) (m : MarkType) → mark_fields version d ≡ Ok m → all_low m.attrs ≡ true
unfolding mark_fields
mark-low version d m h =
    let x0 = first-read (name_of d) (λ name. attrs_of version (field (codes "attrs") d) >>= λ attrs. truth_or true the.Inclusive (field (codes "inclusive") d) >>= λ inclusive. text_if the.Excludes (field (codes "excludes") d) >>= λ excludes. groups_of d >>= λ groups. Ok (record { name = name; attrs = attrs; inclusive = inclusive; excludes = excludes; groups = groups })) m h in
    let x1 = first-read (attrs_of version (field (codes "attrs") d)) (λ attrs. truth_or true the.Inclusive (field (codes "inclusive") d) >>= λ inclusive. text_if the.Excludes (field (codes "excludes") d) >>= λ excludes. groups_of d >>= λ groups. Ok (record { name = x0.0; attrs = attrs; inclusive = inclusive; excludes = excludes; groups = groups })) m x0.1.1 in
    let x2 = first-read (truth_or true the.Inclusive (field (codes "inclusive") d)) (λ inclusive. text_if the.Excludes (field (codes "excludes") d) >>= λ excludes. groups_of d >>= λ groups. Ok (record { name = x0.0; attrs = x1.0; inclusive = inclusive; excludes = excludes; groups = groups })) m x1.1.1 in
    let x3 = first-read (text_if the.Excludes (field (codes "excludes") d)) (λ excludes. groups_of d >>= λ groups. Ok (record { name = x0.0; attrs = x1.0; inclusive = x2.0; excludes = excludes; groups = groups })) m x2.1.1 in
    let x4 = first-read (groups_of d) (λ groups. Ok (record { name = x0.0; attrs = x1.0; inclusive = x2.0; excludes = x3.0; groups = groups })) m x3.1.1 in
    let made : MarkType = record { name = x0.0; attrs = x1.0; inclusive = x2.0; excludes = x3.0; groups = x4.0 } in
    let same : made ≡ m = cc x4.1.1 in
    subst (λ (x : MarkType). all_low x.attrs ≡ true) {x = made} same (attrs-low version (field (codes "attrs") d) x1.0 x1.1.0)

abbrev nodes_low : {C : Type 0} → List (NodeType C) → Bool
nodes_low ns = list_all (λ n. all_low n.attrs) ns

abbrev marks_low : List MarkType → Bool
marks_low ms = list_all (λ m. all_low m.attrs) ms

nodes-low : (version : ℕ) (ds : Items) (ns : List (NodeType (List ℕ))) → node_list version ds ≡ Ok ns → nodes_low ns ≡ true
unfolding node_list
nodes-low version no_items ns h = let same : [] ≡ ns = cc in subst (λ (x : List (NodeType (List ℕ))). nodes_low x ≡ true) same refl
nodes-low version (item d ds) ns h =
    let a = first-read (of_kind the.Nodes (as_object d)) (λ members. node_fields version d >>= λ first. node_list version ds >>= λ rest. Ok (first ∷ rest)) ns h in
    let b = first-read (node_fields version d) (λ first. node_list version ds >>= λ rest. Ok (first ∷ rest)) ns a.1.1 in
    let c = first-read (node_list version ds) (λ rest. Ok (b.0 ∷ rest)) ns b.1.1 in
    let same : b.0 ∷ c.0 ≡ ns = cc c.1.1 in
    subst (λ (x : List (NodeType (List ℕ))). nodes_low x ≡ true) same (and-true (all_low b.0.attrs) (nodes_low c.0) (node-low version d b.0 b.1.0) (nodes-low version ds c.0 c.1.0))

marks-listed : (version : ℕ) (ds : Items) (ms : List MarkType) → mark_list version ds ≡ Ok ms → marks_low ms ≡ true
unfolding mark_list
marks-listed version no_items ms h = let same : [] ≡ ms = cc in subst (λ x. marks_low x ≡ true) same refl
marks-listed version (item d ds) ms h =
    let a = first-read (of_kind the.Marks (as_object d)) (λ members. mark_fields version d >>= λ first. mark_list version ds >>= λ rest. Ok (first ∷ rest)) ms h in
    let b = first-read (mark_fields version d) (λ first. mark_list version ds >>= λ rest. Ok (first ∷ rest)) ms a.1.1 in
    let c = first-read (mark_list version ds) (λ rest. Ok (b.0 ∷ rest)) ms b.1.1 in
    let same : b.0 ∷ c.0 ≡ ms = cc c.1.1 in
    subst (λ x. marks_low x ≡ true) same (and-true (all_low b.0.attrs) (marks_low c.0) (mark-low version d b.0 b.1.0) (marks-listed version ds c.0 c.1.0))

marks-low : (version : ℕ) (d : Option Data) (ms : List MarkType) → marks_of version d ≡ Ok ms → marks_low ms ≡ true
unfolding marks_of
marks-low version None ms h = let same : [] ≡ ms = cc in subst (λ x. marks_low x ≡ true) same refl
marks-low version (Some d) ms h = let a = first-read (of_kind the.Marks (as_array d)) (mark_list version) ms h in marks-listed version a.0 ms a.1.1

record AreLow {C : Type 0} (ts : Types C) : Type 0 where
  nodes : nodes_low ts.nodes ≡ true
  marks : marks_low ts.marks ≡ true
  version : is_version ts.version ≡ true

types-low : (d : Data) (ts : Types (List ℕ)) → types_of d ≡ Ok ts → AreLow ts
unfolding types_of
types-low d ts h =
    let v = first-read (version_of (field (codes "version") d)) (λ version. of_kind the.Nodes (option_and_then as_array (get (codes "nodes") d)) >>= λ items. node_list version items >>= λ nodes. marks_of version (field (codes "marks") d) >>= λ marks. text_or (codes "doc") the.TopNode (field (codes "topNode") d) >>= λ top. Ok (record { nodes = nodes; marks = marks; top = top; version = version })) ts h in
    let x0 = first-read (of_kind the.Nodes (option_and_then as_array (get (codes "nodes") d))) (λ items. node_list v.0 items >>= λ nodes. marks_of v.0 (field (codes "marks") d) >>= λ marks. text_or (codes "doc") the.TopNode (field (codes "topNode") d) >>= λ top. Ok (record { nodes = nodes; marks = marks; top = top; version = v.0 })) ts v.1.1 in
    let x1 = first-read (node_list v.0 x0.0) (λ nodes. marks_of v.0 (field (codes "marks") d) >>= λ marks. text_or (codes "doc") the.TopNode (field (codes "topNode") d) >>= λ top. Ok (record { nodes = nodes; marks = marks; top = top; version = v.0 })) ts x0.1.1 in
    let x2 = first-read (marks_of v.0 (field (codes "marks") d)) (λ marks. text_or (codes "doc") the.TopNode (field (codes "topNode") d) >>= λ top. Ok (record { nodes = x1.0; marks = marks; top = top; version = v.0 })) ts x1.1.1 in
    let x3 = first-read (text_or (codes "doc") the.TopNode (field (codes "topNode") d)) (λ top. Ok (record { nodes = x1.0; marks = x2.0; top = top; version = v.0 })) ts x2.1.1 in
    let made : Types (List ℕ) = record { nodes = x1.0; marks = x2.0; top = x3.0; version = v.0 } in
    let same : made ≡ ts = cc x3.1.1 in
    subst (λ (x : Types (List ℕ)). AreLow x) {x = made} same (record { nodes = nodes-low v.0 x0.0 x1.0 x1.1.0; marks = marks-low v.0 (field (codes "marks") d) x2.0 x2.1.0; version = version-is (field (codes "version") d) v.0 v.1.0 })

contents-low : (names : List Named) (k : ℕ) (ns : List (NodeType (List ℕ))) (ms : List (NodeType Tree)) → contents_of names k ns ≡ Ok ms → nodes_low ns ≡ true → nodes_low ms ≡ true
unfolding contents_of
contents-low names k [] ms h l = let same : [] ≡ ms = cc in subst (λ (x : List (NodeType Tree)). nodes_low x ≡ true) same refl
contents-low names k (n ∷ ns) ms h l =
    let a = first-read (content_of k (expr_of names n.content)) (λ content. contents_of names (k + 1) ns >>= λ rest. Ok (with_content n content ∷ rest)) ms h in
    let b = first-read (contents_of names (k + 1) ns) (λ rest. Ok (with_content n a.0 ∷ rest)) ms a.1.1 in
    let same : with_content n a.0 ∷ b.0 ≡ ms = cc b.1.1 in
    let p = and-both (all_low n.attrs) (nodes_low ns) l in
    subst (λ (x : List (NodeType Tree)). nodes_low x ≡ true) same (and-true (all_low n.attrs) (nodes_low b.0) p.0 (contents-low names (k + 1) ns b.0 b.1.0 p.1))

schema-low : (d : Data) (ts : Types Tree) → schema_of d ≡ Ok ts → AreLow ts
unfolding schema_of
schema-low d ts h =
    let a = first-read (types_of d) (λ types. contents_of (map named types.nodes) 0 types.nodes >>= λ nodes. Ok (record { nodes = nodes; marks = types.marks; top = types.top; version = types.version })) ts h in
    let b = first-read (contents_of (map named a.0.nodes) 0 a.0.nodes) (λ nodes. Ok (record { nodes = nodes; marks = a.0.marks; top = a.0.top; version = a.0.version })) ts a.1.1 in
    let made : Types Tree = record { nodes = b.0; marks = a.0.marks; top = a.0.top; version = a.0.version } in
    let same : made ≡ ts = cc b.1.1 in
    let w = types-low d a.0 a.1.0 in
    subst (λ (x : Types Tree). AreLow x) {x = made} same (record { nodes = contents-low (map named a.0.nodes) 0 a.0.nodes b.0 b.1.0 w.nodes; marks = w.marks; version = w.version })

-- ---- the spec that has these types

default-same : (d : Option Value) → low (option_map plain d) ≡ is_shallow d
default-same None = refl
default-same (Some v) = refl

attrs-same : (xs : List AttrSpec) → all_low (attributes xs) ≡ are_shallow xs
attrs-same [] = refl
attrs-same (a ∷ xs) = rw (default-same a.default, attrs-same xs) refl

nodes-same : (ns : List NodeSpec) → nodes_low (node_types ns) ≡ list_all (λ n. are_shallow n.attrs) ns
nodes-same [] = refl
nodes-same (n ∷ ns) = rw (attrs-same n.attrs, nodes-same ns) refl

marks-same : (ms : List MarkSpec) → marks_low (mark_types ms) ≡ list_all (λ m. are_shallow m.attrs) ms
marks-same [] = refl
marks-same (m ∷ ms) = rw (attrs-same m.attrs, marks-same ms) refl

pub spec-shallow : (d : Data) (s : SchemaSpec) → schema_of d ≡ Ok (types_of_spec s) → HasShallowDefaults s
spec-shallow d s h =
    let w = schema-low d (types_of_spec s) h in
    record { nodes = subst (λ b. b ≡ true) (nodes-same s.nodes) w.nodes; marks = subst (λ b. b ≡ true) (marks-same s.marks) w.marks }

pub spec-version : (d : Data) (s : SchemaSpec) → schema_of d ≡ Ok (types_of_spec s) → is_version s.version ≡ true
spec-version d s h = (schema-low d (types_of_spec s) h).version
