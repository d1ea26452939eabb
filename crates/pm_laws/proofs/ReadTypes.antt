-- No reading of types is want of memory, and so each of its faults is the value's, and has a code.
use Rattle.std.proofs.Common.{◌≡◌, ◌==◌, ℕ, ◌+◌, List, [], ◌∷◌, Bool, true, false, refl}
use Rattle.std.specs.Prelude.{codes, map, Option, Some, None, option_and_then, Result, Ok, Err, if◌then◌else◌}
use Rattle.serde_json.specs.Data.{Data, Items, no_items, item, Members, no_members, member}
use Rattle.serde_json.specs.Find.{get, as_str, as_bool, as_array, as_object, as_number, as_u64}
use Rattle.pm_list.specs.Readings.{◌>>=◌}
use Rattle.pm_value.specs.Plain.{Plain}
use Rattle.pm_value.specs.Reading.{value_of}
use Rattle.pm_value.specs.declared.fault.ValueError.{ValueError}
use Rattle.pm_value.specs.declared.fault.ValueError.TheVariants as value
use Rattle.pm_auto.specs.Tree.{Tree}
use Rattle.pm_expr.specs.declared.error.ExprError.{ExprError}
use Rattle.pm_expr.specs.declared.error.ExprError.TheVariants as expr
use Rattle.pm_expr.specs.Names.{Named}
use Rattle.pm_expr.specs.Reader.{expr_of}
use Rattle.pm_schemajson.specs.declared.error.Field.{Field}
use Rattle.pm_schemajson.specs.declared.error.Field.TheVariants as the
use Rattle.pm_schemajson.specs.declared.error.SchemaReadError.{SchemaReadError}
use Rattle.pm_schemajson.specs.declared.error.SchemaReadError.TheVariants.{Shape, Expr, Schema, Attr, NoMemory, Name, BadDefault}
use Rattle.pm_schemajson.specs.Types.{Attribute, NodeType, MarkType, Types}
use Rattle.pm_schemajson.specs.Words.{is_name, names_in}
use Rattle.pm_schemajson.specs.Fields.{field, of_kind, text_if, text_or, truth_or}
use Rattle.pm_schemajson.specs.Versions.{version_in, version_of, kinds_in, kinds_if, validate_of, is_kept, with_kept}
use Rattle.pm_schemajson.specs.Reading.{name_of, well_formed, groups_of, default_from, default_of, attr_of, attr_list, attrs_of, node_fields, mark_fields, node_list, mark_list, marks_of, types_of}
use Rattle.pm_schemajson.specs.Contents.{named, with_content, content_of, contents_of, schema_of}
use Rattle.pm_schemajson.specs.Views.{IsFault}
use Rattle.pm_head.specs.declared.code.Code.{Code}
use Rattle.pm_head.specs.Codes.{schema_code}
use Rattle.pm_laws.specs.Memory.{IsOfValue, Reads}
use Rattle.pm_laws.proofs.Memory.{then-reads, if-reads, one-read, two-read, three-read, value-reads}
use Rattle.pm_laws.proofs.ReadExprs.{IsOfExpr, expr-reads}

-- a fault of the value, or of a part of it
abbrev pub IsOfTypes : SchemaReadError → Type 0
IsOfTypes (Shape f) = Unit {0}
IsOfTypes (Expr k e) = IsOfExpr e
IsOfTypes (Schema e) = ⊥
IsOfTypes (Attr e) = IsOfValue e
IsOfTypes NoMemory = ⊥
IsOfTypes (Name f) = Unit {0}
IsOfTypes (BadDefault n) = Unit {0}

-- ---- fields

kind-reads : {A : Type 0} (f : Field) (o : Option A) → Reads IsOfTypes (of_kind f o)
kind-reads f None = tt
kind-reads f (Some x) = tt

text-if-reads : (f : Field) (o : Option Data) → Reads IsOfTypes (text_if f o)
text-if-reads f None = tt
text-if-reads f (Some d) = one-read IsOfTypes (of_kind f (as_str d)) (λ t. Some t) (kind-reads f (as_str d))

text-or-reads : (absent : List ℕ) (f : Field) (o : Option Data) → Reads IsOfTypes (text_or absent f o)
text-or-reads absent f None = tt
text-or-reads absent f (Some d) = kind-reads f (as_str d)

truth-reads : (absent : Bool) (f : Field) (o : Option Data) → Reads IsOfTypes (truth_or absent f o)
truth-reads absent f None = tt
truth-reads absent f (Some d) = kind-reads f (as_bool d)

name-reads : (d : Data) → Reads IsOfTypes (name_of d)
unfolding name_of
name-reads d =
    then-reads IsOfTypes (of_kind the.Name (option_and_then as_str (get (codes "name") d))) (λ name. if is_name name then Ok name else Err (Name the.Name))
    (kind-reads the.Name (option_and_then as_str (get (codes "name") d))) (λ name. if-reads IsOfTypes (is_name name) (Ok name) (Err (Name the.Name)) tt tt)

formed-reads : (f : Field) (o : Option (List (List ℕ))) → Reads IsOfTypes (well_formed f o)
formed-reads f None = tt
formed-reads f (Some names) = tt

groups-reads : (d : Data) → Reads IsOfTypes (groups_of d)
unfolding groups_of
groups-reads d =
    then-reads IsOfTypes (text_or [] the.Group (field (codes "group") d)) (λ text. well_formed the.Group (names_in text)) (text-or-reads [] the.Group (field (codes "group") d))
    (λ text. formed-reads the.Group (names_in text))

-- ---- attributes

default-from-reads : (r : Result Plain ValueError) → Reads IsOfValue r → Reads IsOfTypes (default_from r)
default-from-reads (Ok v) h = tt
default-from-reads (Err value.Float) h = tt
default-from-reads (Err value.Wide) h = tt
default-from-reads (Err value.Deep) h = tt
default-from-reads (Err value.NoMemory) h = absurd h

default-reads : (o : Option Data) → Reads IsOfTypes (default_of o)
default-reads None = tt
default-reads (Some d) = default-from-reads (value_of d) (value-reads d 4)

kinds-reads : (o : Option Data) → Reads IsOfTypes (kinds_if o)
kinds-reads None = tt
kinds-reads (Some d) = one-read IsOfTypes (of_kind the.Validate (option_and_then kinds_in (as_str d))) (λ kinds. Some kinds) (kind-reads the.Validate (option_and_then kinds_in (as_str d)))

validate-reads : (version : ℕ) (o : Option Data) → Reads IsOfTypes (validate_of version o)
validate-reads version o = if-reads IsOfTypes (version == 1) (Ok None) (kinds_if o) tt (kinds-reads o)

kept-reads : (at : ℕ) (a : Attribute) → Reads IsOfTypes (with_kept at a)
kept-reads at a = if-reads IsOfTypes (is_kept a.validate a.default) (Ok a) (Err (BadDefault at)) tt tt

attr-reads : (version at : ℕ) (k : List ℕ) (d : Data) → Reads IsOfTypes (attr_of version at k d)
unfolding attr_of
attr-reads version at k d =
    then-reads IsOfTypes (of_kind the.Attrs (as_object d))
    (λ members. (default_of (get (codes "default") d) >>= λ default. (validate_of version (field (codes "validate") d) >>= λ validate. with_kept at (record { name = k; default = default; validate = validate }))))
    (kind-reads the.Attrs (as_object d))
    (λ members. then-reads IsOfTypes (default_of (get (codes "default") d))
    (λ default. (validate_of version (field (codes "validate") d) >>= λ validate. with_kept at (record { name = k; default = default; validate = validate })))
    (default-reads (get (codes "default") d))
    (λ default. then-reads IsOfTypes (validate_of version (field (codes "validate") d)) (λ validate. with_kept at (record { name = k; default = default; validate = validate }))
    (validate-reads version (field (codes "validate") d)) (λ validate. kept-reads at (record { name = k; default = default; validate = validate }))))

attr-list-reads : (version at : ℕ) (ms : Members) → Reads IsOfTypes (attr_list version at ms)
unfolding attr_list
attr-list-reads version at no_members = tt
attr-list-reads version at (member k d ms) =
    two-read IsOfTypes (attr_of version at k d) (λ first. attr_list version (at + 1) ms) (λ first rest. first ∷ rest) (attr-reads version at k d) (λ first. attr-list-reads version (at + 1) ms)

attrs-reads : (version : ℕ) (o : Option Data) → Reads IsOfTypes (attrs_of version o)
unfolding attrs_of
attrs-reads version None = tt
attrs-reads version (Some d) = then-reads IsOfTypes (of_kind the.Attrs (as_object d)) (attr_list version 0) (kind-reads the.Attrs (as_object d)) (λ ms. attr-list-reads version 0 ms)

-- ---- types

abbrev pub a_node : List ℕ → List ℕ → List (List ℕ) → Option (List ℕ) → Bool → Bool → List Attribute → NodeType (List ℕ)
a_node name content groups marks inline atom attrs = record { name = name; content = content; groups = groups; marks = marks; inline = inline; atom = atom; attrs = attrs }

node-reads : (version : ℕ) (d : Data) → Reads IsOfTypes (node_fields version d)
unfolding node_fields
node-reads version d =
    let fifth : List ℕ → List ℕ → List (List ℕ) → Option (List ℕ) → Result (NodeType (List ℕ)) SchemaReadError =
    λ name content groups marks. (truth_or false the.Inline (field (codes "inline") d) >>= λ inline. (truth_or false the.Atom (field (codes "atom") d) >>= λ atom. (attrs_of version (field (codes "attrs") d) >>= λ attrs. Ok (a_node name content groups marks inline atom attrs)))) in
    let fourth : List ℕ → List ℕ → List (List ℕ) → Result (NodeType (List ℕ)) SchemaReadError = λ name content groups. (text_if the.Marks (field (codes "marks") d) >>= λ marks. fifth name content groups marks) in
    let third : List ℕ → List ℕ → Result (NodeType (List ℕ)) SchemaReadError = λ name content. (groups_of d >>= λ groups. fourth name content groups) in
    let second : List ℕ → Result (NodeType (List ℕ)) SchemaReadError = λ name. (text_or [] the.Content (field (codes "content") d) >>= λ content. third name content) in
    then-reads IsOfTypes (name_of d) second (name-reads d)
    (λ name. then-reads IsOfTypes (text_or [] the.Content (field (codes "content") d)) (third name) (text-or-reads [] the.Content (field (codes "content") d))
    (λ content. then-reads IsOfTypes (groups_of d) (fourth name content) (groups-reads d)
    (λ groups. then-reads IsOfTypes (text_if the.Marks (field (codes "marks") d)) (fifth name content groups) (text-if-reads the.Marks (field (codes "marks") d))
    (λ marks. three-read IsOfTypes (truth_or false the.Inline (field (codes "inline") d)) (λ inline. truth_or false the.Atom (field (codes "atom") d)) (λ inline atom. attrs_of version (field (codes "attrs") d))
    (λ inline atom attrs. a_node name content groups marks inline atom attrs) (truth-reads false the.Inline (field (codes "inline") d)) (λ inline. truth-reads false the.Atom (field (codes "atom") d))
    (λ inline atom. attrs-reads version (field (codes "attrs") d))))))

abbrev pub a_mark : List ℕ → List Attribute → Bool → Option (List ℕ) → List (List ℕ) → MarkType
a_mark name attrs inclusive excludes groups = record { name = name; attrs = attrs; inclusive = inclusive; excludes = excludes; groups = groups }

mark-reads : (version : ℕ) (d : Data) → Reads IsOfTypes (mark_fields version d)
unfolding mark_fields
mark-reads version d =
    let third : List ℕ → List Attribute → Result MarkType SchemaReadError =
    λ name attrs. (truth_or true the.Inclusive (field (codes "inclusive") d) >>= λ inclusive. (text_if the.Excludes (field (codes "excludes") d) >>= λ excludes. (groups_of d >>= λ groups. Ok (a_mark name attrs inclusive excludes groups)))) in
    let second : List ℕ → Result MarkType SchemaReadError = λ name. (attrs_of version (field (codes "attrs") d) >>= λ attrs. third name attrs) in
    then-reads IsOfTypes (name_of d) second (name-reads d)
    (λ name. then-reads IsOfTypes (attrs_of version (field (codes "attrs") d)) (third name) (attrs-reads version (field (codes "attrs") d))
    (λ attrs. three-read IsOfTypes (truth_or true the.Inclusive (field (codes "inclusive") d)) (λ inclusive. text_if the.Excludes (field (codes "excludes") d)) (λ inclusive excludes. groups_of d)
    (λ inclusive excludes groups. a_mark name attrs inclusive excludes groups) (truth-reads true the.Inclusive (field (codes "inclusive") d)) (λ inclusive. text-if-reads the.Excludes (field (codes "excludes") d))
    (λ inclusive excludes. groups-reads d)))

nodes-reads : (version : ℕ) (ds : Items) → Reads IsOfTypes (node_list version ds)
unfolding node_list
nodes-reads version no_items = tt
nodes-reads version (item d ds) =
    three-read IsOfTypes (of_kind the.Nodes (as_object d)) (λ members. node_fields version d) (λ members first. node_list version ds) (λ members first rest. first ∷ rest)
    (kind-reads the.Nodes (as_object d)) (λ members. node-reads version d) (λ members first. nodes-reads version ds)

mark-list-reads : (version : ℕ) (ds : Items) → Reads IsOfTypes (mark_list version ds)
unfolding mark_list
mark-list-reads version no_items = tt
mark-list-reads version (item d ds) =
    three-read IsOfTypes (of_kind the.Marks (as_object d)) (λ members. mark_fields version d) (λ members first. mark_list version ds) (λ members first rest. first ∷ rest)
    (kind-reads the.Marks (as_object d)) (λ members. mark-reads version d) (λ members first. mark-list-reads version ds)

marks-reads : (version : ℕ) (o : Option Data) → Reads IsOfTypes (marks_of version o)
unfolding marks_of
marks-reads version None = tt
marks-reads version (Some d) = then-reads IsOfTypes (of_kind the.Marks (as_array d)) (mark_list version) (kind-reads the.Marks (as_array d)) (λ ds. mark-list-reads version ds)

in-reads : (o : Option ℕ) → Reads IsOfTypes (version_in o)
in-reads None = tt
in-reads (Some n) = if-reads IsOfTypes (n == 1) (Ok 1) (if n == 2 then Ok 2 else Err (Shape the.Version)) tt (if-reads IsOfTypes (n == 2) (Ok 2) (Err (Shape the.Version)) tt tt)

version-reads : (o : Option Data) → Reads IsOfTypes (version_of o)
version-reads None = tt
version-reads (Some d) = in-reads (option_and_then as_u64 (as_number d))

abbrev pub all_types : {C : Type 0} → List (NodeType C) → List MarkType → List ℕ → ℕ → Types C
all_types nodes marks top version = record { nodes = nodes; marks = marks; top = top; version = version }

texts-reads : (d : Data) → Reads IsOfTypes (types_of d)
unfolding types_of
texts-reads d =
    let second : ℕ → Result (Types (List ℕ)) SchemaReadError =
    λ version. (of_kind the.Nodes (option_and_then as_array (get (codes "nodes") d)) >>= λ items. (node_list version items >>= λ nodes. (marks_of version (field (codes "marks") d) >>= λ marks. (text_or (codes "doc") the.TopNode (field (codes "topNode") d) >>= λ top. Ok (all_types nodes marks top version))))) in
    then-reads IsOfTypes (version_of (field (codes "version") d)) second (version-reads (field (codes "version") d))
    (λ version. then-reads IsOfTypes (of_kind the.Nodes (option_and_then as_array (get (codes "nodes") d)))
    (λ items. (node_list version items >>= λ nodes. (marks_of version (field (codes "marks") d) >>= λ marks. (text_or (codes "doc") the.TopNode (field (codes "topNode") d) >>= λ top. Ok (all_types nodes marks top version)))))
    (kind-reads the.Nodes (option_and_then as_array (get (codes "nodes") d)))
    (λ items. three-read IsOfTypes (node_list version items) (λ nodes. marks_of version (field (codes "marks") d)) (λ nodes marks. text_or (codes "doc") the.TopNode (field (codes "topNode") d))
    (λ nodes marks top. all_types nodes marks top version) (nodes-reads version items) (λ nodes. marks-reads version (field (codes "marks") d)) (λ nodes marks. text-or-reads (codes "doc") the.TopNode (field (codes "topNode") d))))

-- ---- contents

content-reads : (kind : ℕ) (r : Result Tree ExprError) → Reads IsOfExpr r → Reads IsOfTypes (content_of kind r)
content-reads kind (Ok e) h = tt
content-reads kind (Err (expr.Syntax at)) h = tt
content-reads kind (Err (expr.UnknownName at)) h = tt
content-reads kind (Err (expr.Range at)) h = tt
content-reads kind (Err (expr.Deep at)) h = tt
content-reads kind (Err expr.NoMemory) h = absurd h

contents-reads : (names : List Named) (kind : ℕ) (ns : List (NodeType (List ℕ))) → Reads IsOfTypes (contents_of names kind ns)
unfolding contents_of
contents-reads names kind [] = tt
contents-reads names kind (n ∷ ns) =
    two-read IsOfTypes (content_of kind (expr_of names n.content)) (λ content. contents_of names (kind + 1) ns) (λ content rest. with_content n content ∷ rest)
    (content-reads kind (expr_of names n.content) (expr-reads names n.content)) (λ content. contents-reads names (kind + 1) ns)

pub types-reads : (d : Data) → Reads IsOfTypes (schema_of d)
unfolding schema_of
types-reads d =
    two-read IsOfTypes (types_of d) (λ types. contents_of (map named types.nodes) 0 types.nodes) (λ types nodes. all_types nodes types.marks types.top types.version)
    (texts-reads d) (λ types. contents-reads (map named types.nodes) 0 types.nodes)

-- ---- such a fault is one of the value, and has a code

pub own-fault : (d : Data) (f : SchemaReadError) → IsOfTypes f → schema_of d ≡ Err f → IsFault d f
own-fault d (Shape f) h e = e
own-fault d (Expr k (expr.Syntax at)) h e = e
own-fault d (Expr k (expr.UnknownName at)) h e = e
own-fault d (Expr k (expr.Range at)) h e = e
own-fault d (Expr k (expr.Deep at)) h e = e
own-fault d (Expr k expr.NoMemory) h e = absurd h
own-fault d (Schema s) h e = absurd h
own-fault d (Attr value.Float) h e = e
own-fault d (Attr value.Wide) h e = e
own-fault d (Attr value.Deep) h e = e
own-fault d (Attr value.NoMemory) h e = absurd h
own-fault d NoMemory h e = absurd h
own-fault d (Name f) h e = e
own-fault d (BadDefault n) h e = e

pub own-code : (f : SchemaReadError) → IsOfTypes f → (code : Code) × (schema_code f ≡ Some code)
own-code (Shape f) h = (_, refl)
own-code (Expr k e) h = (_, refl)
own-code (Schema s) h = absurd h
own-code (Attr e) h = (_, refl)
own-code NoMemory h = absurd h
own-code (Name f) h = (_, refl)
own-code (BadDefault n) h = (_, refl)
