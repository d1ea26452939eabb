-- Nodes that are written are read again.
use Rattle.std.proofs.Common.{◌≡◌, ◌==◌, ◌<◌, ℕ, ◌+◌, ◌^◌, List, [], ◌∷◌, ◌++◌, length, map, Bool, true, false, cond, refl, ap, ap₂, sym, subst, ◌∙◌, ◌&&◌, not, nat_lt, arith, zero, suc, get_or, length-append}
use Rattle.std.proofs.lemmas.Bool.Decides.{nat_tests}
use Rattle.std.specs.Prelude.{Some, None, Ok, codes}
use Rattle.std.proofs.lemmas.Str.{chars-nil}
use Rattle.std.specs.Char.Escape.{encode_utf16}
use Rattle.std.specs.List.{AllByRecursion, list_all, flat_map}
use Rattle.std.specs.Arc.{arc_value}
use Rattle.std.specs.declared.sync.Arc.{Arc}
use Rattle.serde_json.specs.Data.{Data, string, object, Items, no_items, item, Members}
use Rattle.serde_json.specs.View.{items_of}
use Rattle.pm_text.specs.Units.{utf16, utf8}
use Rattle.pm_text.specs.Lone.{HasNoLone}
use Rattle.pm_tokens.specs.Tokens.{Attrs, Marks, Token, Open, Close}
use Rattle.pm_tokens.specs.Marks.{is_set}
use Rattle.pm_tokens.specs.Faults.{first_broken}
use Rattle.pm_node.specs.Trees.{body_tokens, node_tokens, list_tokens, IsNormal, EachWhole}
use Rattle.pm_node.specs.declared.node.Node.{Node}
use Rattle.pm_node.specs.declared.node.Body.{Body}
use Rattle.pm_node.specs.declared.node.Body.TheVariants.{Text, Leaf as Childless, Children}
use Rattle.pm_schema.specs.declared.spec.SchemaSpec.{SchemaSpec}
use Rattle.pm_schema.specs.Names.{place_of}
use Rattle.pm_schema.specs.Types.{names_of_nodes, node_at, fit_attrs}
use Rattle.pm_schema.specs.Documents.{documents_of}
use Rattle.pm_docjson.specs.declared.leaves.LeafContent.{LeafContent}
use Rattle.pm_docjson.specs.declared.leaves.LeafContent.TheVariants.{Kept, Refused}
use Rattle.pm_docjson.specs.Fields.{text_at}
use Rattle.pm_docjson.specs.Values.{keys}
use Rattle.pm_docjson.specs.Members.{attrs_field, list_field, put_list, put_attrs}
use Rattle.pm_docjson.specs.Reading.{attrs_read, body_of, text_from, branch_from, node_of, node_list, none_at, refuses, content_for, content_at}
use Rattle.pm_docjson.specs.Writing.{typed, marks_written, text_written, branch_written, nodes_written, body_written, node_written, as_read_by, as_read}
use Rattle.pm_docjson.specs.Writable.{mark_fits, marks_fit, type_fits, are_writable, IsWritable}
use Rattle.pm_docjson.proofs.AttrsAgain.{no-attrs}
use Rattle.pm_docjson.proofs.Content.{as_text, as_branch}
use Rattle.pm_docjson.proofs.Lone.{no-lone}
use Rattle.pm_docjson.proofs.MarksAgain.{MarksAgain, marks-again}
use Rattle.pm_docjson.proofs.NodeLaws.{nodes-written}
use Rattle.pm_docjson.proofs.ObjectLaws.{puts_branch, type_is, attrs_is, content_is, marks_is, text_type, text_text, text_attrs, text_marks}

both : (a b : Bool) → (a && b) ≡ true → (a ≡ true) × (b ≡ true)
both true b h = (refl, h)
both false b h = absurd (cc)

-- ---- a text

same_number : (n : ℕ) → (n == n) ≡ true
same_number n = grind (arith, nat_tests)

some_bytes : (us bytes : List ℕ) → utf16 bytes ≡ us → 0 < length us → (length bytes == 0) ≡ false
unfolding utf16
some_bytes us [] is some = let none : [] ≡ us = sym (ap (flat_map encode_utf16) chars-nil) ∙ is in absurd (omega (arith, ap length none))
some_bytes us (b ∷ bytes) is some = more (length (b ∷ bytes)) (omega arith)
  where
    more : (n : ℕ) → 0 < n → (n == 0) ≡ false
    more n h = grind (arith, nat_tests)

pub text-again : (s : SchemaSpec) (l : LeafContent) (us : List ℕ) (ms : Marks) → place_of (node_at s (documents_of s).text).name (names_of_nodes s) ≡ Some (documents_of s).text → (node_at s (documents_of s).text).attrs ≡ [] → utf16 (utf8 us) ≡ us → 0 < length us
    → MarksAgain s ms → is_set (documents_of s) ms ≡ true → node_of s l (text_written s us ms) ≡ Ok (record { kind = (documents_of s).text; attrs = []; marks = ms; body = Text us })
unfolding text_from
text-again s l us ms named plain units some marks set =
    let d = text_written s us ms in
    let t = (documents_of s).text in
    let e = string (node_at s t).name in
    let w = string (utf8 us) in
    let m = marks_written s ms in
    let named_is : text_at (codes "type") d ≡ Ok (node_at s t).name = rw (text_type m w e) refl in
    as_text s l d (node_at s t).name t named_is named (same_number t)
    ∙ rw (text_text m w e, some_bytes us (utf8 us) units some, text_attrs m w e, plain, no-attrs [] refl, text_marks m w e, marks-again s ms marks set, units) refl

-- ---- any other node

small : (n : ℕ) → n < 2 ^ 32 → nat_lt 4294967295 n ≡ false
small n h = grind (arith, nat_tests)

pub content-again : (s : SchemaSpec) (l : LeafContent) (ds : Items) (ts : List Token) → node_list s l ds ≡ Ok ts → length ts < 2 ^ 32 → content_at s l (list_field ds) ≡ Ok ts
unfolding node_list
content-again s l no_items ts h bound = h
content-again s l (item d ds) ts h bound = rw (h, small (length ts) bound) refl

-- a leaf has no content
none-held : (s : SchemaSpec) (l : LeafContent) (k : ℕ) → content_for s l k (list_field no_items) (content_at s l (list_field no_items)) ≡ Ok []
none-held s l k = both_none (refuses l && (documents_of s).is_leaf k)
  where
    both_none : (b : Bool) → cond b (none_at None) (content_at s l None) ≡ Ok []
    both_none true = refl
    both_none false = refl

-- any other node has its own
content-held : (s : SchemaSpec) (l : LeafContent) (k : ℕ) (ds : Items) (ts : List Token) → (documents_of s).is_leaf k ≡ false → content_at s l (list_field ds) ≡ Ok ts → content_for s l k (list_field ds) (content_at s l (list_field ds)) ≡ Ok ts
content-held s Kept k ds ts other h = h
content-held s Refused k ds ts other h = rw other h

pub branch-again : (s : SchemaSpec) (l : LeafContent) (k : ℕ) (a : Attrs) (m : Marks) (ds : Items) (ts : List Token) (b : Body) → place_of (node_at s k).name (names_of_nodes s) ≡ Some k → (k == (documents_of s).text) ≡ false
    → attrs_read (node_at s k).attrs (attrs_field (keys (node_at s k).attrs) a) ≡ Ok a → MarksAgain s m → is_set (documents_of s) m ≡ true → content_for s l k (list_field ds) (content_at s l (list_field ds)) ≡ Ok ts → body_of s k ts ≡ b
    → node_of s l (branch_written s k a m ds) ≡ Ok (record { kind = k; attrs = a; marks = m; body = b })
unfolding branch_from
branch-again s l k a m ds ts b named other attrs marks set content body =
    let e = string (node_at s k).name in
    let ns = keys (node_at s k).attrs in
    let d = branch_written s k a m ds in
    let w = marks_written s m in
    let named_is : text_at (codes "type") d ≡ Ok (node_at s k).name = rw (type_is ns a ds w e) refl in
    as_branch s l d (node_at s k).name k named_is named other
    ∙ rw (attrs_is ns a ds w e, attrs, marks_is ns a ds w e, marks-again s m marks set, content_is ns a ds w e, content, body) refl

-- ---- nodes one after another

tokens-as_read : (s : SchemaSpec) (n : Node) (b : Body) → node_tokens (as_read_by s n b) ≡ body_tokens n.kind n.attrs n.marks b
tokens-as_read s n (Text us) = refl
tokens-as_read s n Childless = refl
tokens-as_read s n (Children ts) = refl

-- each of the nodes is read again
abbrev pub NodesAgain : {Z : Type 0} → SchemaSpec → List (Arc Node Z) → Type 0
NodesAgain s xs = AllByRecursion (λ x. (l : LeafContent) → node_of s l (node_written s (arc_value x)) ≡ Ok (as_read s (arc_value x))) xs

-- each of them that can be written is read again
abbrev pub NodesIf : {Z : Type 0} → SchemaSpec → List (Arc Node Z) → Type 0
NodesIf s xs = AllByRecursion (λ x. IsWritable s (arc_value x) → (l : LeafContent) → node_of s l (node_written s (arc_value x)) ≡ Ok (as_read s (arc_value x))) xs

-- all can be written
pub nodes-read : {Z : Type 0} (s : SchemaSpec) (xs : List (Arc Node Z)) → NodesIf s xs → AllByRecursion (λ x. IsWritable s (arc_value x)) xs → NodesAgain s xs
nodes-read s [] h w = tt
nodes-read s (x ∷ xs) h w = (h.0 w.0, nodes-read s xs h.1 w.1)

pub node_list-again : {Z : Type 0} (s : SchemaSpec) (l : LeafContent) (xs : List (Arc Node Z)) → NodesAgain s xs → node_list s l (items_of (map (λ x. node_written s (arc_value x)) xs)) ≡ Ok (list_tokens xs)
unfolding node_list
node_list-again s l [] h = refl
node_list-again s l (x ∷ xs) h = let n = arc_value x in rw (h.0 l, node_list-again s l xs h.1) (ap (λ ts. Ok (ts ++ list_tokens xs)) (tokens-as_read s n n.body))

-- the same of the tokens that they are
pub nodes-again : {Z : Type 0} (s : SchemaSpec) (l : LeafContent) (ts : List Token) (xs : List (Arc Node Z)) → list_tokens xs ≡ ts → IsNormal xs → EachWhole xs → NodesAgain s xs → node_list s l (nodes_written s ts) ≡ Ok ts
nodes-again s l ts xs tokens normal whole again =
    subst (λ z. node_list s l (nodes_written s z) ≡ Ok z) tokens (ap (node_list s l) (nodes-written s xs normal whole) ∙ node_list-again s l xs again)

-- ---- what a node that can be written is

pub record TypeParts (s : SchemaSpec) (k : ℕ) (a : Attrs) : Type 0 where
  pub inside : k < length s.nodes
  pub no_text : (k == (documents_of s).text) ≡ false
  pub attrs : fit_attrs (node_at s k).attrs a ≡ true

pub type-parts : (s : SchemaSpec) (k : ℕ) (a : Attrs) → type_fits s k a ≡ true → TypeParts s k a
type-parts s k a h =
    let p = both (nat_lt k (length s.nodes)) (not (k == (documents_of s).text) && fit_attrs (node_at s k).attrs a) h in
    let q = both (not (k == (documents_of s).text)) (fit_attrs (node_at s k).attrs a) p.1 in
    record { inside = below k (length s.nodes) p.0; no_text = un-not (k == (documents_of s).text) q.0; attrs = q.1 }
  where
    below : (a b : ℕ) → nat_lt a b ≡ true → a < b
    below a b e = grind (arith, nat_tests)

    un-not : (b : Bool) → not b ≡ true → b ≡ false
    un-not true e = absurd (cc)
    un-not false e = refl

pub record Parts (s : SchemaSpec) (n : Node) (leaf : Bool) : Type 0 where
  pub fits : type_fits s n.kind n.attrs ≡ true
  pub leaf_is : (documents_of s).is_leaf n.kind ≡ leaf
  pub marks : marks_fit s n.marks ≡ true

pub leaf-parts : (s : SchemaSpec) (n : Node) → n.body ≡ Childless → IsWritable s n → Parts s n true
leaf-parts s n is w =
    let all : are_writable s (body_tokens n.kind n.attrs n.marks Childless) ≡ true = subst (λ b. are_writable s (body_tokens n.kind n.attrs n.marks b) ≡ true) is w.tokens in
    let first = both (type_fits s n.kind n.attrs && ((documents_of s).is_leaf n.kind && marks_fit s n.marks)) true all in
    let p = both (type_fits s n.kind n.attrs) ((documents_of s).is_leaf n.kind && marks_fit s n.marks) first.0 in
    let q = both ((documents_of s).is_leaf n.kind) (marks_fit s n.marks) p.1 in
    record { fits = p.0; leaf_is = q.0; marks = q.1 }

pub branch-parts : (s : SchemaSpec) (n : Node) (ts : List Token) → n.body ≡ Children ts → IsWritable s n → Parts s n false
branch-parts s n ts is w =
    let all : are_writable s (body_tokens n.kind n.attrs n.marks (Children ts)) ≡ true = subst (λ b. are_writable s (body_tokens n.kind n.attrs n.marks b) ≡ true) is w.tokens in
    let first = both (type_fits s n.kind n.attrs && (not ((documents_of s).is_leaf n.kind) && marks_fit s n.marks)) (are_writable s (ts ++ (Close ∷ []))) all in
    let p = both (type_fits s n.kind n.attrs) (not ((documents_of s).is_leaf n.kind) && marks_fit s n.marks) first.0 in
    let q = both (not ((documents_of s).is_leaf n.kind)) (marks_fit s n.marks) p.1 in
    record { fits = p.0; leaf_is = un-not ((documents_of s).is_leaf n.kind) q.0; marks = q.1 }
  where
    un-not : (b : Bool) → not b ≡ true → b ≡ false
    un-not true e = absurd (cc)
    un-not false e = refl

pub record TextParts (s : SchemaSpec) (n : Node) (us : List ℕ) : Type 0 where
  pub marks : marks_fit s n.marks ≡ true
  pub whole : HasNoLone us
  pub some : 0 < length us

pub text-parts : (s : SchemaSpec) (n : Node) (us : List ℕ) → n.body ≡ Text us → IsWritable s n → TextParts s n us
text-parts s n us is w = record {
  marks = first us (subst (λ b. are_writable s (body_tokens n.kind n.attrs n.marks b) ≡ true) is w.tokens) some;
  whole = no-lone n.marks us (subst (λ b. first_broken 1 None (body_tokens n.kind n.attrs n.marks b) ≡ None) is w.pairs);
  some = some;
}
  where
    counted : (m : Marks) (vs : List ℕ) → 0 < length (body_tokens 0 [] m (Text vs)) → 0 < length vs
    counted m [] h = absurd (omega arith)
    counted m (v ∷ vs) h = omega arith

    some : 0 < length us
    some = counted n.marks us (subst (λ b. 0 < length (body_tokens n.kind n.attrs n.marks b)) is w.filled)

    first : (vs : List ℕ) → are_writable s (body_tokens n.kind n.attrs n.marks (Text vs)) ≡ true → 0 < length vs → marks_fit s n.marks ≡ true
    first [] h g = absurd (omega arith)
    first (v ∷ vs) h g = (both (marks_fit s n.marks) (are_writable s (body_tokens n.kind n.attrs n.marks (Text vs))) h).0

-- ---- a node that can be written is read again

pub text-node-again : (s : SchemaSpec) (l : LeafContent) (n : Node) (us : List ℕ) → place_of (node_at s (documents_of s).text).name (names_of_nodes s) ≡ Some (documents_of s).text → (node_at s (documents_of s).text).attrs ≡ [] → n.body ≡ Text us → IsWritable s n → utf16 (utf8 us) ≡ us → MarksAgain s n.marks → node_of s l (node_written s n) ≡ Ok (as_read s n)
text-node-again s l n us named plain is w units marks =
    let p = text-parts s n us is w in
    let set = (both (list_all (mark_fits s) n.marks) (is_set (documents_of s) n.marks) p.marks).1 in
    subst (λ b. node_of s l (body_written s n.kind n.attrs n.marks b) ≡ Ok (as_read_by s n b)) (sym is)
    (text-again s l us n.marks named plain units p.some marks set)

leaf_body : (s : SchemaSpec) (k : ℕ) → (documents_of s).is_leaf k ≡ true → body_of s k [] ≡ Childless
leaf_body s k h = rw h refl

pub leaf-node-again : (s : SchemaSpec) (l : LeafContent) (n : Node) → place_of (node_at s n.kind).name (names_of_nodes s) ≡ Some n.kind → n.body ≡ Childless → IsWritable s n → attrs_read (node_at s n.kind).attrs (attrs_field (keys (node_at s n.kind).attrs) n.attrs) ≡ Ok n.attrs → MarksAgain s n.marks
    → node_of s l (node_written s n) ≡ Ok (as_read s n)
leaf-node-again s l n named is w attrs marks =
    let p = leaf-parts s n is w in
    let t = type-parts s n.kind n.attrs p.fits in
    let set = (both (list_all (mark_fits s) n.marks) (is_set (documents_of s) n.marks) p.marks).1 in
    subst (λ b. node_of s l (body_written s n.kind n.attrs n.marks b) ≡ Ok (as_read_by s n b)) (sym is)
    (branch-again s l n.kind n.attrs n.marks no_items [] Childless named t.no_text attrs marks set (none-held s l n.kind) (leaf_body s n.kind p.leaf_is))

children_body : (s : SchemaSpec) (k : ℕ) (ts : List Token) → (documents_of s).is_leaf k ≡ false → body_of s k ts ≡ Children ts
children_body s k [] h = rw h refl
children_body s k (t ∷ ts) h = refl

pub branch-node-again : {Z : Type 0} (s : SchemaSpec) (l : LeafContent) (n : Node) (ts : List Token) (xs : List (Arc Node Z)) → place_of (node_at s n.kind).name (names_of_nodes s) ≡ Some n.kind → n.body ≡ Children ts → IsWritable s n → attrs_read (node_at s n.kind).attrs (attrs_field (keys (node_at s n.kind).attrs) n.attrs) ≡ Ok n.attrs → MarksAgain s n.marks
    → length ts < 2 ^ 32 → list_tokens xs ≡ ts → IsNormal xs → EachWhole xs → NodesAgain s xs → node_of s l (node_written s n) ≡ Ok (as_read s n)
branch-node-again s l n ts xs named is w attrs marks bound tokens normal whole again =
    let p = branch-parts s n ts is w in
    let t = type-parts s n.kind n.attrs p.fits in
    let set = (both (list_all (mark_fits s) n.marks) (is_set (documents_of s) n.marks) p.marks).1 in
    let read = nodes-again s l ts xs tokens normal whole again in
    subst (λ b. node_of s l (body_written s n.kind n.attrs n.marks b) ≡ Ok (as_read_by s n b)) (sym is)
    (branch-again s l n.kind n.attrs n.marks (nodes_written s ts) ts (Children ts) named t.no_text attrs marks set (content-held s l n.kind (nodes_written s ts) ts p.leaf_is (content-again s l (nodes_written s ts) ts read bound)) (children_body s n.kind ts p.leaf_is))

-- what was written of a node with children is what it is written as
pub branch-node-written : {Z : Type 0} (s : SchemaSpec) (n : Node) (ts : List Token) (xs : List (Arc Node Z)) (m : Marks) (d : Data) (ds : Items) → n.body ≡ Children ts → list_tokens xs ≡ ts → IsNormal xs → EachWhole xs → m ≡ n.marks
    → d ≡ branch_written s n.kind n.attrs m ds → ds ≡ items_of (map (λ x. node_written s (arc_value x)) xs) → d ≡ node_written s n
branch-node-written s n ts xs m d ds is tokens normal whole marks wrote items =
    let content : ds ≡ nodes_written s ts = items ∙ sym (nodes-written s xs normal whole) ∙ ap (nodes_written s) tokens in
    subst (λ b. d ≡ body_written s n.kind n.attrs n.marks b) (sym is) (wrote ∙ ap₂ (λ x y. branch_written s n.kind n.attrs x y) marks content)

-- how many tokens it has
pub node-size : (n : Node) (ts : List Token) → n.body ≡ Children ts → length (node_tokens n) ≡ length ts + 2
node-size n ts is = ap (λ b. length (body_tokens n.kind n.attrs n.marks b)) is ∙ counted ts
  where
    counted : (xs : List Token) → length (Open n.kind n.attrs n.marks ∷ (xs ++ (Close ∷ []))) ≡ length xs + 2
    counted xs = omega (arith, length-append xs (Close ∷ []))

-- what holds of each holds of one
pub all-at : {X : Type 0} (P : X → Type 0) (xs : List X) (i : ℕ) (x : X) → AllByRecursion P xs → i < length xs → x ≡ get_or xs i x → P x
all-at P [] i x h within is = absurd (omega arith)
all-at P (y ∷ xs) zero x h within is = subst P (sym is) h.0
all-at P (y ∷ xs) (suc i) x h within is = all-at P xs i x h.1 (omega arith) is

-- the members of a node, put in from the last key to the first
pub branch-put : (s : SchemaSpec) (k : ℕ) (a : Attrs) (m : Marks) (name : List ℕ) (cs w : Items) (d : Data) (m0 m1 m2 m3 : Members) → name ≡ (node_at s k).name → m0 ≡ typed name → w ≡ marks_written s m → m1 ≡ put_list (codes "marks") w m0
    → m2 ≡ put_list (codes "content") cs m1 → m3 ≡ put_attrs (keys (node_at s k).attrs) a m2 → d ≡ object m3 → d ≡ branch_written s k a m cs
branch-put s k a m name cs w d m0 m1 m2 m3 named start marks first second third seen =
    let e = string (node_at s k).name in
    let at_start : m0 ≡ typed (node_at s k).name = start ∙ ap typed named in
    let with_marks_in : m1 ≡ put_list (codes "marks") (marks_written s m) (typed (node_at s k).name) = first ∙ ap₂ (put_list (codes "marks")) marks at_start in
    seen ∙ ap object (third ∙ ap (put_attrs (keys (node_at s k).attrs) a) (second ∙ ap (put_list (codes "content") cs) with_marks_in) ∙ puts_branch (keys (node_at s k).attrs) a cs (marks_written s m) e)

-- the marks of a set that can be written
pub marks-of : (s : SchemaSpec) (ms : Marks) → marks_fit s ms ≡ true → list_all (mark_fits s) ms ≡ true
marks-of s ms h = (both (list_all (mark_fits s) ms) (is_set (documents_of s) ms) h).0
