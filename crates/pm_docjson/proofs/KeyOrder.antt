-- The keys of what is written stand in byte order.
use Rattle.std.proofs.Common.{◌≡◌, ◌∙◌, ℕ, List, [], ◌∷◌, refl, ap, Less, Equal, Greater, nat_cmp}
use Rattle.std.specs.Prelude.{codes}
use Rattle.std.specs.declared.cmp.Ordering.{Ordering}
use Rattle.std.specs.Ordering.{match_ordering, ordering_reverse}
use Rattle.std.specs.Cmp.Lexicographic.{slice_cmp, nat_list_cmp_total}
use Rattle.serde_json.specs.Data.{Data, string, Items, no_items, item, Members, no_members, member, put}
use Rattle.pm_text.specs.Units.{utf8}
use Rattle.pm_value.specs.Plain.{Plain, null, truth, int, text as words, items, fields, Plains, none as no_plains, one, plains_of}
use Rattle.pm_value.specs.Writing.{written, items_written, members_written}
use Rattle.pm_marks.specs.declared.mark.Mark.{Mark}
use Rattle.pm_tokens.specs.Tokens.{Marks, Token}
use Rattle.pm_schema.specs.declared.spec.SchemaSpec.{SchemaSpec}
use Rattle.pm_schema.specs.Types.{node_at, mark_at}
use Rattle.pm_schema.specs.Documents.{documents_of}
use Rattle.pm_node.specs.declared.node.Node.{Node}
use Rattle.pm_node.specs.declared.node.Body.{Body}
use Rattle.pm_node.specs.declared.node.Body.TheVariants.{Text, Leaf, Children}
use Rattle.pm_docjson.specs.Trees.{Tree, text, branch, Trees, none, tree, trees_of}
use Rattle.pm_docjson.specs.Values.{keys}
use Rattle.pm_docjson.specs.KeyOrder.{AllAfter, HasOrderedKeys, EachHasOrderedKeys, AreOrderedByKey}
use Rattle.pm_docjson.specs.Writing.{typed, with_attrs, with_content, with_marks, mark_written, marks_written, text_written, branch_written, tree_written, trees_written, nodes_written, body_written, node_written}

-- ---- members that are put in

after-trans : (k l : List ℕ) (ms : Members) → slice_cmp nat_cmp k l ≡ Less → AllAfter l ms → AllAfter k ms
after-trans k l no_members h a = tt
after-trans k l (member m d ms) h a = (nat_list_cmp_total.trans k l m h a.0, after-trans k l ms h a.1)

flip : (k l : List ℕ) → slice_cmp nat_cmp k l ≡ Greater → slice_cmp nat_cmp l k ≡ Less
flip k l h = nat_list_cmp_total.antisymm l k ∙ ap ordering_reverse h

put-after : (q k : List ℕ) (d : Data) (ms : Members) → slice_cmp nat_cmp q k ≡ Less → AllAfter q ms → AllAfter q (put k d ms)
put-after q k d no_members h a = (h, tt)
put-after q k d (member l e ms) h a = at (slice_cmp nat_cmp k l) (put-after q k d ms h a.1)
  where
    at : (o : Ordering) → AllAfter q (put k d ms) → AllAfter q (match_ordering o (member k d (member l e ms)) (member l d ms) (member l e (put k d ms)))
    at Less r = (h, a)
    at Equal r = a
    at Greater r = (a.0, r)

put-ordered : (k : List ℕ) (d : Data) (ms : Members) → HasOrderedKeys d → AreOrderedByKey ms → AreOrderedByKey (put k d ms)
put-ordered k d no_members v h = (v, tt, tt)
put-ordered k d (member l e ms) v h = at (slice_cmp nat_cmp k l) refl (put-ordered k d ms v h.2)
  where
    at : (o : Ordering) → slice_cmp nat_cmp k l ≡ o → AreOrderedByKey (put k d ms) → AreOrderedByKey (match_ordering o (member k d (member l e ms)) (member l d ms) (member l e (put k d ms)))
    at Less q r = (v, (q, after-trans k l ms q h.1), h)
    at Equal q r = (v, h.1, h.2)
    at Greater q r = (h.0, put-after l k d ms (flip k l q) h.1, r)

-- ---- values

mutual
  unfolding written items_written members_written

  written-ordered : (v : Plain) → HasOrderedKeys (written v)
  written-ordered null = tt
  written-ordered (truth b) = tt
  written-ordered (int z) = tt
  written-ordered (words bs) = tt
  written-ordered (items vs) = items-ordered vs
  written-ordered (fields ns vs) = members-ordered ns vs

  items-ordered : (vs : Plains) → EachHasOrderedKeys (items_written vs)
  items-ordered no_plains = tt
  items-ordered (one v vs) = (written-ordered v, items-ordered vs)

  members-ordered : (ns : List (List ℕ)) (vs : Plains) → AreOrderedByKey (members_written ns vs)
  members-ordered ns no_plains = tt
  members-ordered [] (one v vs) = tt
  members-ordered (n ∷ ns) (one v vs) = put-ordered n (written v) (members_written ns vs) (written-ordered v) (members-ordered ns vs)

-- ---- the members of nodes and marks

typed-ordered : (name : List ℕ) → AreOrderedByKey (typed name)
typed-ordered name = (tt, tt, tt)

marks-after : (k : List ℕ) (ds : Items) (ms : Members) → slice_cmp nat_cmp k (codes "marks") ≡ Less → AllAfter k ms → AllAfter k (with_marks ds ms)
marks-after k no_items ms h a = a
marks-after k (item d ds) ms h a = (h, a)

content-after : (k : List ℕ) (ds : Items) (ms : Members) → slice_cmp nat_cmp k (codes "content") ≡ Less → AllAfter k ms → AllAfter k (with_content ds ms)
content-after k no_items ms h a = a
content-after k (item d ds) ms h a = (h, a)

with_marks-ordered : (ds : Items) (ms : Members) → EachHasOrderedKeys ds → AllAfter (codes "marks") ms → AreOrderedByKey ms → AreOrderedByKey (with_marks ds ms)
with_marks-ordered no_items ms e a h = h
with_marks-ordered (item d ds) ms e a h = (e, a, h)

with_content-ordered : (ds : Items) (ms : Members) → EachHasOrderedKeys ds → AllAfter (codes "content") ms → AreOrderedByKey ms → AreOrderedByKey (with_content ds ms)
with_content-ordered no_items ms e a h = h
with_content-ordered (item d ds) ms e a h = (e, a, h)

with_attrs-ordered : (ns : List (List ℕ)) (vs : List Plain) (ms : Members) → AllAfter (codes "attrs") ms → AreOrderedByKey ms → AreOrderedByKey (with_attrs ns vs ms)
with_attrs-ordered [] vs ms a h = h
with_attrs-ordered (n ∷ ns) vs ms a h = (written-ordered (fields (n ∷ ns) (plains_of vs)), a, h)

pub mark-ordered : (s : SchemaSpec) (m : Mark (List Plain)) → HasOrderedKeys (mark_written s m)
mark-ordered s m = with_attrs-ordered (keys (mark_at s m.kind).attrs) m.attrs (typed (mark_at s m.kind).name) (refl, tt) (typed-ordered (mark_at s m.kind).name)

marks-ordered : (s : SchemaSpec) (ms : Marks) → EachHasOrderedKeys (marks_written s ms)
marks-ordered s [] = tt
marks-ordered s (m ∷ ms) = (mark-ordered s m, marks-ordered s ms)

text-ordered : (s : SchemaSpec) (units : List ℕ) (marks : Marks) → HasOrderedKeys (text_written s units marks)
text-ordered s units marks =
    let name = (node_at s (documents_of s).text).name in
    with_marks-ordered (marks_written s marks) (member (codes "text") (string (utf8 units)) (typed name)) (marks-ordered s marks) (refl, (refl, tt)) (tt, (refl, tt), typed-ordered name)

branch-ordered : (s : SchemaSpec) (kind : ℕ) (attrs : List Plain) (marks : Marks) (content : Items) → EachHasOrderedKeys content → HasOrderedKeys (branch_written s kind attrs marks content)
branch-ordered s kind attrs marks content e =
    let name = (node_at s kind).name in
    let inner = with_marks (marks_written s marks) (typed name) in
    with_attrs-ordered (keys (node_at s kind).attrs) attrs (with_content content inner)
    (content-after (codes "attrs") content inner refl (marks-after (codes "attrs") (marks_written s marks) (typed name) refl (refl, tt)))
    (with_content-ordered content inner e (marks-after (codes "content") (marks_written s marks) (typed name) refl (refl, tt))
    (with_marks-ordered (marks_written s marks) (typed name) (marks-ordered s marks) (refl, tt) (typed-ordered name)))

-- ---- nodes

mutual
  unfolding tree_written trees_written

  tree-ordered : (s : SchemaSpec) (t : Tree) → HasOrderedKeys (tree_written s t)
  tree-ordered s (text units marks) = text-ordered s units marks
  tree-ordered s (branch kind attrs marks inner) = branch-ordered s kind attrs marks (trees_written s inner) (trees-ordered s inner)

  trees-ordered : (s : SchemaSpec) (ts : Trees) → EachHasOrderedKeys (trees_written s ts)
  trees-ordered s none = tt
  trees-ordered s (tree t ts) = (tree-ordered s t, trees-ordered s ts)

pub nodes-ordered : (s : SchemaSpec) (ts : List Token) → EachHasOrderedKeys (nodes_written s ts)
nodes-ordered s ts = trees-ordered s (trees_of ts)

body-ordered : (s : SchemaSpec) (kind : ℕ) (attrs : List Plain) (marks : Marks) (b : Body) → HasOrderedKeys (body_written s kind attrs marks b)
body-ordered s kind attrs marks (Text us) = text-ordered s us marks
body-ordered s kind attrs marks Leaf = branch-ordered s kind attrs marks no_items tt
body-ordered s kind attrs marks (Children ts) = branch-ordered s kind attrs marks (nodes_written s ts) (trees-ordered s (trees_of ts))

pub node-ordered : (s : SchemaSpec) (n : Node) → HasOrderedKeys (node_written s n)
node-ordered s n = body-ordered s n.kind n.attrs n.marks n.body
