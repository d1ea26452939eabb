-- What is written has no float, so that its text is known.
use Rattle.std.proofs.Common.{◌≡◌, ℕ, ℤ, List, [], ◌∷◌, Bool, true, false, ◌||◌, refl, Less, Equal, Greater, nat_cmp}
use Rattle.std.specs.Prelude.{pos, negsuc, codes}
use Rattle.std.specs.declared.cmp.Ordering.{Ordering}
use Rattle.std.specs.Ordering.{match_ordering}
use Rattle.std.specs.Cmp.Lexicographic.{slice_cmp}
use Rattle.serde_json.specs.Data.{Data, string, Items, no_items, item, Members, no_members, member, put}
use Rattle.serde_json.specs.Find.{of_integer, is_float}
use Rattle.serde_json.specs.Written.{has_float, items_have_float, members_have_float}
use Rattle.pm_text.specs.Units.{utf8}
use Rattle.pm_value.specs.Plain.{Plain, null, truth, int, text as words, items, fields, Plains, none as no_plains, one, plains_of}
use Rattle.pm_value.specs.Writing.{written, items_written, members_written}
use Rattle.pm_marks.specs.declared.mark.Mark.{Mark}
use Rattle.pm_tokens.specs.Tokens.{Marks, Token}
use Rattle.pm_schema.specs.declared.spec.SchemaSpec.{SchemaSpec}
use Rattle.pm_schema.specs.Types.{node_at, mark_at}
use Rattle.pm_schema.specs.Documents.{documents_of}
use Rattle.pm_node.specs.declared.node.Node.{Node}
use Rattle.pm_node.specs.declared.node.Body.{Body}
use Rattle.pm_node.specs.declared.node.Body.TheVariants.{Text, Leaf, Children}
use Rattle.pm_docjson.specs.Trees.{Tree, text, branch, Trees, none, tree, trees_of}
use Rattle.pm_docjson.specs.Values.{keys}
use Rattle.pm_docjson.specs.Writing.{typed, with_attrs, with_content, with_marks, mark_written, marks_written, text_written, branch_written, tree_written, trees_written, nodes_written, body_written, node_written}

or-parts : (x y : Bool) → (x || y) ≡ false → (x ≡ false) × (y ≡ false)
or-parts false y h = (refl, h)
or-parts true y h = absurd (cc)

pub neither : (x y : Bool) → x ≡ false → y ≡ false → (x || y) ≡ false
neither false y p q = q
neither true y p q = absurd (cc)

-- ---- values

put-whole : (k : List ℕ) (d : Data) (ms : Members) → has_float d ≡ false → members_have_float ms ≡ false → members_have_float (put k d ms) ≡ false
put-whole k d no_members v h = neither (has_float d) false v refl
put-whole k d (member l e ms) v h =
    let p = or-parts (has_float e) (members_have_float ms) h in
    at (slice_cmp nat_cmp k l) p.0 p.1 (put-whole k d ms v p.1)
  where
    at : (o : Ordering) → has_float e ≡ false → members_have_float ms ≡ false → members_have_float (put k d ms) ≡ false → members_have_float (match_ordering o (member k d (member l e ms)) (member l d ms) (member l e (put k d ms))) ≡ false
    at Less x y r = neither (has_float d) (has_float e || members_have_float ms) v (neither (has_float e) (members_have_float ms) x y)
    at Equal x y r = neither (has_float d) (members_have_float ms) v y
    at Greater x y r = neither (has_float e) (members_have_float (put k d ms)) x r

int-whole : (z : ℤ) → is_float (of_integer z) ≡ false
int-whole (pos n) = refl
int-whole (negsuc n) = refl

mutual
  unfolding written items_written members_written

  written-whole : (v : Plain) → has_float (written v) ≡ false
  written-whole null = refl
  written-whole (truth b) = refl
  written-whole (int z) = int-whole z
  written-whole (words bs) = refl
  written-whole (items vs) = items-whole vs
  written-whole (fields ns vs) = members-whole ns vs

  items-whole : (vs : Plains) → items_have_float (items_written vs) ≡ false
  items-whole no_plains = refl
  items-whole (one v vs) = neither (has_float (written v)) (items_have_float (items_written vs)) (written-whole v) (items-whole vs)

  members-whole : (ns : List (List ℕ)) (vs : Plains) → members_have_float (members_written ns vs) ≡ false
  members-whole ns no_plains = refl
  members-whole [] (one v vs) = refl
  members-whole (n ∷ ns) (one v vs) = put-whole n (written v) (members_written ns vs) (written-whole v) (members-whole ns vs)

-- ---- the members of nodes and marks

with_marks-whole : (ds : Items) (ms : Members) → items_have_float ds ≡ false → members_have_float ms ≡ false → members_have_float (with_marks ds ms) ≡ false
with_marks-whole no_items ms e h = h
with_marks-whole (item d ds) ms e h = neither (items_have_float (item d ds)) (members_have_float ms) e h

with_content-whole : (ds : Items) (ms : Members) → items_have_float ds ≡ false → members_have_float ms ≡ false → members_have_float (with_content ds ms) ≡ false
with_content-whole no_items ms e h = h
with_content-whole (item d ds) ms e h = neither (items_have_float (item d ds)) (members_have_float ms) e h

with_attrs-whole : (ns : List (List ℕ)) (vs : List Plain) (ms : Members) → members_have_float ms ≡ false → members_have_float (with_attrs ns vs ms) ≡ false
with_attrs-whole [] vs ms h = h
with_attrs-whole (n ∷ ns) vs ms h = neither (has_float (written (fields (n ∷ ns) (plains_of vs)))) (members_have_float ms) (written-whole (fields (n ∷ ns) (plains_of vs))) h

pub mark-whole : (s : SchemaSpec) (m : Mark (List Plain)) → has_float (mark_written s m) ≡ false
mark-whole s m = with_attrs-whole (keys (mark_at s m.kind).attrs) m.attrs (typed (mark_at s m.kind).name) refl

marks-whole : (s : SchemaSpec) (ms : Marks) → items_have_float (marks_written s ms) ≡ false
marks-whole s [] = refl
marks-whole s (m ∷ ms) = neither (has_float (mark_written s m)) (items_have_float (marks_written s ms)) (mark-whole s m) (marks-whole s ms)

text-whole : (s : SchemaSpec) (units : List ℕ) (marks : Marks) → has_float (text_written s units marks) ≡ false
text-whole s units marks =
    with_marks-whole (marks_written s marks) (member (codes "text") (string (utf8 units)) (typed (node_at s (documents_of s).text).name)) (marks-whole s marks) refl

branch-whole : (s : SchemaSpec) (kind : ℕ) (attrs : List Plain) (marks : Marks) (content : Items) → items_have_float content ≡ false → has_float (branch_written s kind attrs marks content) ≡ false
branch-whole s kind attrs marks content e =
    let inner = with_marks (marks_written s marks) (typed (node_at s kind).name) in
    with_attrs-whole (keys (node_at s kind).attrs) attrs (with_content content inner)
    (with_content-whole content inner e (with_marks-whole (marks_written s marks) (typed (node_at s kind).name) (marks-whole s marks) refl))

-- ---- nodes

mutual
  unfolding tree_written trees_written

  tree-whole : (s : SchemaSpec) (t : Tree) → has_float (tree_written s t) ≡ false
  tree-whole s (text units marks) = text-whole s units marks
  tree-whole s (branch kind attrs marks inner) = branch-whole s kind attrs marks (trees_written s inner) (trees-whole s inner)

  trees-whole : (s : SchemaSpec) (ts : Trees) → items_have_float (trees_written s ts) ≡ false
  trees-whole s none = refl
  trees-whole s (tree t ts) = neither (has_float (tree_written s t)) (items_have_float (trees_written s ts)) (tree-whole s t) (trees-whole s ts)

body-whole : (s : SchemaSpec) (kind : ℕ) (attrs : List Plain) (marks : Marks) (b : Body) → has_float (body_written s kind attrs marks b) ≡ false
body-whole s kind attrs marks (Text us) = text-whole s us marks
body-whole s kind attrs marks Leaf = branch-whole s kind attrs marks no_items refl
body-whole s kind attrs marks (Children ts) = branch-whole s kind attrs marks (nodes_written s ts) (trees-whole s (trees_of ts))

pub nodes-whole : (s : SchemaSpec) (ts : List Token) → items_have_float (nodes_written s ts) ≡ false
nodes-whole s ts = trees-whole s (trees_of ts)

pub node-whole : (s : SchemaSpec) (n : Node) → has_float (node_written s n) ≡ false
node-whole s n = body-whole s n.kind n.attrs n.marks n.body
