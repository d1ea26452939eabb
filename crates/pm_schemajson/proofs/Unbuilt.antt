-- Reading alone never tells a fault of building, and no fault that it tells carries running out of memory.
use Rattle.std.proofs.Common.{◌≡◌, ℕ, ◌+◌, List, [], ◌∷◌, Bool, true, false, Option, Some, None, Result, Ok, Err, map, sym, subst}
use Rattle.std.specs.Prelude.{codes, option_and_then, IfErr, if◌then◌else◌, ◌==◌}
use Rattle.std.specs.Result.{IsErrAnd}
use Rattle.serde_json.specs.Data.{Data, Items, no_items, item, Members, no_members, member}
use Rattle.serde_json.specs.Find.{get, as_str, as_bool, as_array, as_object, as_number, as_u64}
use Rattle.pm_list.specs.Readings.{◌>>=◌}
use Rattle.pm_auto.specs.Tree.{Tree}
use Rattle.pm_expr.specs.Names.{Named}
use Rattle.pm_expr.specs.Reader.{expr_of}
use Rattle.pm_expr.specs.declared.error.ExprError.{ExprError}
use Rattle.pm_expr.specs.declared.error.ExprError.TheVariants as expr
use Rattle.pm_value.specs.Plain.{Plain}
use Rattle.pm_value.specs.Reading.{value_of}
use Rattle.pm_value.specs.declared.fault.ValueError.{ValueError}
use Rattle.pm_value.specs.declared.fault.ValueError.TheVariants as value
use Rattle.pm_schemajson.specs.declared.error.Field.{Field}
use Rattle.pm_schemajson.specs.declared.error.Field.TheVariants as the
use Rattle.pm_schemajson.specs.declared.error.SchemaReadError.{SchemaReadError}
use Rattle.pm_schemajson.specs.declared.error.SchemaReadError.TheVariants.{Shape, Expr, Schema, Attr, NoMemory, Name, BadDefault}
use Rattle.pm_schemajson.specs.Answers.{Fails}
use Rattle.pm_schemajson.specs.Types.{Attribute, NodeType}
use Rattle.pm_schemajson.specs.Words.{is_name, names_in}
use Rattle.pm_schemajson.specs.Fields.{field, of_kind, text_if, text_or, truth_or}
use Rattle.pm_schemajson.specs.Reading.{name_of, well_formed, groups_of, default_from, default_of, attr_of, attr_list, attrs_of, node_fields, mark_fields, node_list, mark_list, marks_of, types_of}
use Rattle.pm_schemajson.specs.Versions.{version_in, version_of, kinds_in, kinds_if, validate_of, is_kept, with_kept}
use Rattle.pm_schemajson.specs.Contents.{named, with_content, content_of, contents_of, schema_of}
use Rattle.pm_schemajson.specs.Views.{IsFault}

abbrev Unbuilt : {A : Type 0} → Result A SchemaReadError → Type 0
Unbuilt (Ok x) = Unit {0}
Unbuilt (Err (Schema e)) = ⊥
Unbuilt (Err (Expr k expr.NoMemory)) = ⊥
Unbuilt (Err (Attr value.NoMemory)) = ⊥
Unbuilt (Err _) = Unit {0}

onward : {A B : Type 0} (r : Result A SchemaReadError) (f : A → Result B SchemaReadError) → Unbuilt r → ((x : A) → Unbuilt (f x)) → Unbuilt (r >>= f)
onward (Ok x) f h g = g x
onward (Err (Schema e)) f h g = absurd h
onward (Err (Shape a)) f h g = tt
onward (Err (Expr k expr.NoMemory)) f h g = absurd h
onward (Err (Expr k (expr.Syntax at))) f h g = tt
onward (Err (Expr k (expr.UnknownName at))) f h g = tt
onward (Err (Expr k (expr.Range at))) f h g = tt
onward (Err (Expr k (expr.Deep at))) f h g = tt
onward (Err (Attr value.NoMemory)) f h g = absurd h
onward (Err (Attr value.Float)) f h g = tt
onward (Err (Attr value.Wide)) f h g = tt
onward (Err (Attr value.Deep)) f h g = tt
onward (Err NoMemory) f h g = tt
onward (Err (Name a)) f h g = tt
onward (Err (BadDefault n)) f h g = tt

kinds : {A : Type 0} (a : Field) (o : Option A) → Unbuilt (of_kind a o)
kinds a None = tt
kinds a (Some x) = tt

texts : (absent : List ℕ) (a : Field) (o : Option Data) → Unbuilt (text_or absent a o)
texts absent a None = tt
texts absent a (Some d) = kinds a (as_str d)

texts-if : (a : Field) (o : Option Data) → Unbuilt (text_if a o)
texts-if a None = tt
texts-if a (Some d) = onward (of_kind a (as_str d)) (λ t. Ok (Some t)) (kinds a (as_str d)) (λ t. tt)

truths : (absent : Bool) (a : Field) (o : Option Data) → Unbuilt (truth_or absent a o)
truths absent a None = tt
truths absent a (Some d) = kinds a (as_bool d)

names : (d : Data) → Unbuilt (name_of d)
unfolding name_of
names d = onward (of_kind the.Name (option_and_then as_str (get (codes "name") d))) _ (kinds the.Name (option_and_then as_str (get (codes "name") d))) (λ n. at n (is_name n))
  where
    at : (n : List ℕ) (b : Bool) → Unbuilt {A = List ℕ} (if b then Ok n else Err (Name the.Name))
    at n true = tt
    at n false = tt

forms : (a : Field) (o : Option (List (List ℕ))) → Unbuilt (well_formed a o)
forms a None = tt
forms a (Some w) = tt

groups : (d : Data) → Unbuilt (groups_of d)
unfolding groups_of
groups d = onward (text_or [] the.Group (field (codes "group") d)) _ (texts [] the.Group (field (codes "group") d)) (λ t. forms the.Group (names_in t))

values : (r : Result Plain ValueError) → Unbuilt (default_from r)
values (Ok v) = tt
values (Err value.Float) = tt
values (Err value.Wide) = tt
values (Err value.Deep) = tt
values (Err value.NoMemory) = tt

defaults : (o : Option Data) → Unbuilt (default_of o)
defaults None = tt
defaults (Some d) = values (value_of d)

versions : (o : Option Data) → Unbuilt (version_of o)
versions None = tt
versions (Some d) = at (option_and_then as_u64 (as_number d))
  where
    one : (n : ℕ) (b c : Bool) → Unbuilt {A = ℕ} (if b then Ok 1 else (if c then Ok 2 else Err (Shape the.Version)))
    one n true c = tt
    one n false true = tt
    one n false false = tt

    at : (o : Option ℕ) → Unbuilt (version_in o)
    at None = tt
    at (Some n) = one n (n == 1) (n == 2)

named-kinds : (o : Option Data) → Unbuilt (kinds_if o)
named-kinds None = tt
named-kinds (Some d) = onward (of_kind the.Validate (option_and_then kinds_in (as_str d))) (λ ks. Ok (Some ks)) (kinds the.Validate (option_and_then kinds_in (as_str d))) (λ ks. tt)

validates : (version : ℕ) (o : Option Data) → Unbuilt (validate_of version o)
validates version o = at (version == 1)
  where
    at : (b : Bool) → Unbuilt (if b then Ok None else kinds_if o)
    at true = tt
    at false = named-kinds o

kept : (n : ℕ) (a : Attribute) → Unbuilt (with_kept n a)
kept n a = at (is_kept a.validate a.default)
  where
    at : (b : Bool) → Unbuilt (if b then Ok a else Err (BadDefault n))
    at true = tt
    at false = tt

attribute : (version n : ℕ) (k : List ℕ) (d : Data) → Unbuilt (attr_of version n k d)
unfolding attr_of
attribute version n k d =
    onward (of_kind the.Attrs (as_object d)) _ (kinds the.Attrs (as_object d))
    (λ ns. onward (default_of (get (codes "default") d)) _ (defaults (get (codes "default") d))
    (λ v. onward (validate_of version (field (codes "validate") d)) _ (validates version (field (codes "validate") d)) (λ ks. kept n (record { name = k; default = v; validate = ks }))))

attributes : (version n : ℕ) (ms : Members) → Unbuilt (attr_list version n ms)
unfolding attr_list
attributes version n no_members = tt
attributes version n (member k d ms) =
    onward (attr_of version n k d) _ (attribute version n k d)
    (λ first. onward (attr_list version (n + 1) ms) (λ rest. Ok (first ∷ rest)) (attributes version (n + 1) ms) (λ rest. tt))

attrs : (version : ℕ) (o : Option Data) → Unbuilt (attrs_of version o)
unfolding attrs_of
attrs version None = tt
attrs version (Some d) = onward (of_kind the.Attrs (as_object d)) (attr_list version 0) (kinds the.Attrs (as_object d)) (attributes version 0)

node : (version : ℕ) (d : Data) → Unbuilt (node_fields version d)
unfolding node_fields
node version d =
    onward (name_of d) _ (names d)
    (λ name. onward (text_or [] the.Content (field (codes "content") d)) _ (texts [] the.Content (field (codes "content") d))
    (λ content. onward (groups_of d) _ (groups d)
    (λ groups. onward (text_if the.Marks (field (codes "marks") d)) _ (texts-if the.Marks (field (codes "marks") d))
    (λ marks. onward (truth_or false the.Inline (field (codes "inline") d)) _ (truths false the.Inline (field (codes "inline") d))
    (λ inline. onward (truth_or false the.Atom (field (codes "atom") d)) _ (truths false the.Atom (field (codes "atom") d))
    (λ atom. onward (attrs_of version (field (codes "attrs") d)) _ (attrs version (field (codes "attrs") d)) (λ _. tt)))))))

mark : (version : ℕ) (d : Data) → Unbuilt (mark_fields version d)
unfolding mark_fields
mark version d =
    onward (name_of d) _ (names d)
    (λ name. onward (attrs_of version (field (codes "attrs") d)) _ (attrs version (field (codes "attrs") d))
    (λ attrs. onward (truth_or true the.Inclusive (field (codes "inclusive") d)) _ (truths true the.Inclusive (field (codes "inclusive") d))
    (λ inclusive. onward (text_if the.Excludes (field (codes "excludes") d)) _ (texts-if the.Excludes (field (codes "excludes") d))
    (λ excludes. onward (groups_of d) _ (groups d) (λ _. tt)))))

nodes : (version : ℕ) (ds : Items) → Unbuilt (node_list version ds)
unfolding node_list
nodes version no_items = tt
nodes version (item d ds) =
    onward (of_kind the.Nodes (as_object d)) _ (kinds the.Nodes (as_object d))
    (λ _. onward (node_fields version d) _ (node version d) (λ first. onward (node_list version ds) (λ rest. Ok (first ∷ rest)) (nodes version ds) (λ _. tt)))

marks : (version : ℕ) (ds : Items) → Unbuilt (mark_list version ds)
unfolding mark_list
marks version no_items = tt
marks version (item d ds) =
    onward (of_kind the.Marks (as_object d)) _ (kinds the.Marks (as_object d))
    (λ _. onward (mark_fields version d) _ (mark version d) (λ first. onward (mark_list version ds) (λ rest. Ok (first ∷ rest)) (marks version ds) (λ _. tt)))

marks-field : (version : ℕ) (o : Option Data) → Unbuilt (marks_of version o)
unfolding marks_of
marks-field version None = tt
marks-field version (Some d) = onward (of_kind the.Marks (as_array d)) (mark_list version) (kinds the.Marks (as_array d)) (marks version)

types : (d : Data) → Unbuilt (types_of d)
unfolding types_of
types d =
    onward (version_of (field (codes "version") d)) _ (versions (field (codes "version") d))
    (λ version. onward (of_kind the.Nodes (option_and_then as_array (get (codes "nodes") d))) _ (kinds the.Nodes (option_and_then as_array (get (codes "nodes") d)))
    (λ items. onward (node_list version items) _ (nodes version items)
    (λ ns. onward (marks_of version (field (codes "marks") d)) _ (marks-field version (field (codes "marks") d))
    (λ ms. onward (text_or (codes "doc") the.TopNode (field (codes "topNode") d)) _ (texts (codes "doc") the.TopNode (field (codes "topNode") d)) (λ _. tt)))))

content : (k : ℕ) (r : Result Tree ExprError) → Unbuilt (content_of k r)
content k (Ok e) = tt
content k (Err (expr.Syntax a)) = tt
content k (Err (expr.UnknownName a)) = tt
content k (Err (expr.Range a)) = tt
content k (Err (expr.Deep a)) = tt
content k (Err expr.NoMemory) = tt

contents : (ns : List Named) (k : ℕ) (xs : List (NodeType (List ℕ))) → Unbuilt (contents_of ns k xs)
unfolding contents_of
contents ns k [] = tt
contents ns k (x ∷ xs) =
    onward (content_of k (expr_of ns x.content)) _ (content k (expr_of ns x.content))
    (λ e. onward (contents_of ns (k + 1) xs) (λ rest. Ok (with_content x e ∷ rest)) (contents ns (k + 1) xs) (λ _. tt))

schema : (d : Data) → Unbuilt (schema_of d)
unfolding schema_of
schema d =
    onward (types_of d) _ (types d)
    (λ t. onward (contents_of (map named t.nodes) 0 t.nodes) _ (contents (map named t.nodes) 0 t.nodes) (λ _. tt))

-- a fault of the reading is why the JSON is no schema
fault-is : (d : Data) (f : SchemaReadError) → Fails f (schema_of d) → IsFault d f
fault-is d (Schema e) h = absurd (subst Unbuilt h (schema d))
fault-is d (Shape a) h = h
fault-is d (Expr k expr.NoMemory) h = absurd (subst Unbuilt h (schema d))
fault-is d (Expr k (expr.Syntax at)) h = h
fault-is d (Expr k (expr.UnknownName at)) h = h
fault-is d (Expr k (expr.Range at)) h = h
fault-is d (Expr k (expr.Deep at)) h = h
fault-is d (Attr value.NoMemory) h = absurd (subst Unbuilt h (schema d))
fault-is d (Attr value.Float) h = h
fault-is d (Attr value.Wide) h = h
fault-is d (Attr value.Deep) h = h
fault-is d NoMemory h = tt
fault-is d (Name a) h = h
fault-is d (BadDefault n) h = h

pub handed-is : {X : Type 0} (d : Data) (f : SchemaReadError) (r : Result X SchemaReadError) → IsErrAnd r (λ e. e ≡ f) → Fails f (schema_of d) → IfErr r (IsFault d)
handed-is d f (Ok x) h i = absurd h
handed-is d f (Err e) h i = subst (IsFault d) (sym h) (fault-is d f i)
