-- A document that is written is read again.
use Rattle.std.proofs.Common.{◌∙◌, ◌≡◌, ◌<◌, ◌==◌, ℕ, ◌^◌, List, [], ◌∷◌, length, Bool, true, false, cond, nat_lt, refl, ap, sym, subst, arith}
use Rattle.std.proofs.lemmas.Bool.Decides.{nat_tests}
use Rattle.std.specs.Prelude.{Some, Ok}
use Rattle.pm_tokens.specs.Tokens.{Attrs, Token, Doc}
use Rattle.pm_tokens.specs.Marks.{is_set}
use Rattle.pm_tokens.specs.Faults.{Valid}
use Rattle.pm_schema.specs.declared.spec.SchemaSpec.{SchemaSpec}
use Rattle.pm_schema.specs.Documents.{documents_of}
use Rattle.pm_tokens.proofs.SchemaLaws.{max-size-small}
use Rattle.pm_schema.proofs.FitLaws.{node-attrs-are}
use Rattle.pm_schema.specs.Names.{place_of}
use Rattle.pm_schema.specs.Types.{fit_attrs, names_of_nodes, node_at}
use Rattle.pm_node.specs.Documents.{content_tokens, doc_of}
use Rattle.pm_node.specs.declared.node.Body.TheVariants.{Leaf as Childless, Children}
use Rattle.pm_docjson.specs.declared.leaves.LeafContent.{LeafContent}
use Rattle.pm_docjson.specs.declared.leaves.LeafContent.TheVariants.{Kept}
use Rattle.pm_docjson.specs.Members.{attrs_field}
use Rattle.pm_docjson.specs.Documents.{top_of}
use Rattle.pm_docjson.specs.Reading.{attrs_read, body_of, node_of, node_list}
use Rattle.pm_docjson.specs.Values.{keys}
use Rattle.pm_docjson.specs.Writable.{AreWritable}
use Rattle.pm_docjson.specs.Writing.{nodes_written, doc_written}
use Rattle.pm_docjson.proofs.MarksAgain.{MarksAgain}
use Rattle.pm_docjson.proofs.NodesAgain.{content-again, branch-again}
use Rattle.pm_docjson.proofs.Writables.{content-writable}
use Rattle.std.proofs.lemmas.Bool.{and_parts}

-- the content is read again where it can be written
abbrev pub ContentAgain : SchemaSpec → List Token → Type 0
ContentAgain s ts = AreWritable s ts → (l : LeafContent) → node_list s l (nodes_written s ts) ≡ Ok ts

-- the type is read again by its name
abbrev pub TypeAgain : SchemaSpec → ℕ → Type 0
TypeAgain s kind = kind < length s.nodes → place_of (node_at s kind).name (names_of_nodes s) ≡ Some kind

-- the attributes are read again where they fit
abbrev pub AttrsAgain : SchemaSpec → ℕ → Attrs → Type 0
AttrsAgain s kind attrs = fit_attrs (node_at s kind).attrs attrs ≡ true → attrs_read (node_at s kind).attrs (attrs_field (keys (node_at s kind).attrs) attrs) ≡ Ok attrs

pub doc-again : (s : SchemaSpec) (d : Doc) → ContentAgain s d.tokens → TypeAgain s d.kind → AttrsAgain s d.kind d.attrs
    → Valid (documents_of s) d → (d.kind == (documents_of s).text) ≡ false → node_of s Kept (doc_written s d) ≡ Ok (top_of s d)
unfolding documents_of
doc-again s d content named attrs v other =
    let ts = d.tokens in
    let p = and_parts (nat_lt d.kind (length s.nodes)) (fit_attrs (node_at s d.kind).attrs d.attrs) (sym (node-attrs-are s d.kind d.attrs) ∙ v.top_attrs) in
    let marks : MarksAgain s d.marks = subst (MarksAgain s) (sym v.top_marks) tt in
    let set : is_set (documents_of s) d.marks ≡ true = subst (λ ms. is_set (documents_of s) ms ≡ true) (sym v.top_marks) refl in
    let few : length ts < 2 ^ 32 = omega (arith, v.size, max-size-small (documents_of s)) in
    let held = content-again s Kept (nodes_written s ts) ts (content (content-writable s d v) Kept) few in
    branch-again s Kept d.kind d.attrs d.marks (nodes_written s ts) ts (body_of s d.kind ts) (named (inside d.kind (length s.nodes) p.0)) other (attrs p.1) marks set held refl
  where
    inside : (a b : ℕ) → nat_lt a b ≡ true → a < b
    inside a b h = grind (arith, nat_tests)

-- and it is the document of the node that is read
pub top-doc : (s : SchemaSpec) (d : Doc) → doc_of (top_of s d) ≡ d
top-doc s d = ap (λ ts. record { kind = d.kind; attrs = d.attrs; marks = d.marks; tokens = ts }) (held d.tokens)
  where
    empty : (b : Bool) → content_tokens d.marks (cond b Childless (Children [])) ≡ []
    empty true = refl
    empty false = refl

    held : (ts : List Token) → content_tokens d.marks (body_of s d.kind ts) ≡ ts
    held [] = empty ((documents_of s).is_leaf d.kind)
    held (t ∷ ts) = refl
