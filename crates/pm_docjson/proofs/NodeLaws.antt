-- Nodes in normal form: their trees, and what each is where all can be written.
use Rattle.std.proofs.Common.{◌≡◌, ◌<◌, ℕ, ◌+◌, List, [], ◌∷◌, ◌++◌, length, map, Bool, true, false, ◌&&◌, cond, refl, ap, sym, subst, ◌∙◌, append_assoc, arith}
use Rattle.std.specs.Prelude.{Option, Some, None}
use Rattle.std.specs.List.{AllByRecursion}
use Rattle.std.specs.Char.Utf16.{is_high_surrogate}
use Rattle.std.specs.Arc.{arc_value}
use Rattle.std.specs.declared.sync.Arc.{Arc}
use Rattle.serde_json.specs.View.{items_of}
use Rattle.pm_tokens.specs.Tokens.{Attrs, Marks, Token, Open, Close, Leaf, CodeUnit}
use Rattle.pm_tokens.specs.Scan.{Balanced, none as empty, leaf, unit}
use Rattle.pm_tokens.specs.Kids.{text_tokens, EndsText, goes_on}
use Rattle.pm_tokens.specs.Faults.{first_broken, last_high, high_of}
use Rattle.pm_tokens.proofs.BalanceLaws.{balanced-append}
use Rattle.pm_tokens.proofs.MarkLaws.{marks-differ}
use Rattle.pm_node.specs.Trees.{body_tokens, node_tokens, list_tokens, IsText, Apart, IsNormal, WholeBody, EachWhole}
use Rattle.pm_node.specs.declared.node.Node.{Node}
use Rattle.pm_node.specs.declared.node.Body.{Body}
use Rattle.pm_node.specs.declared.node.Body.TheVariants.{Text, Leaf as Childless, Children}
use Rattle.pm_node.proofs.TreeLaws.{balanced-node}
use Rattle.pm_node.proofs.KindLaws.{ends-apart}
use Rattle.pm_schema.specs.declared.spec.SchemaSpec.{SchemaSpec}
use Rattle.pm_docjson.specs.Trees.{Tree, text, branch, none, tree, trees_of}
use Rattle.pm_docjson.specs.Writing.{tree_written, trees_written, nodes_written, body_written, node_written}
use Rattle.pm_docjson.specs.Writable.{is_writable, are_writable, IsWritable, AreWritable}
use Rattle.pm_docjson.proofs.TreeLaws.{trees-leaf, trees-branch, trees-text}
use Rattle.pm_docjson.proofs.Pairs.{broken-behind, broken-before_close, broken-closed, broken-text, from_place}

-- ---- balanced

balanced-text : (m : Marks) (us : List ℕ) → Balanced (text_tokens m us)
balanced-text m [] = empty
balanced-text m (u ∷ us) = unit u m (balanced-text m us)

balanced-body : (k : ℕ) (a : Attrs) (m : Marks) (b : Body) → WholeBody b → Balanced (body_tokens k a m b)
balanced-body k a m (Text us) h = balanced-text m us
balanced-body k a m Childless h = leaf k a m empty
balanced-body k a m (Children ts) h = balanced-node k a m h

pub balanced-list : {Z : Type 0} (xs : List (Arc Node Z)) → EachWhole xs → Balanced (list_tokens xs)
balanced-list [] h = empty
balanced-list (x ∷ xs) h =
    let n = arc_value x in
    balanced-append (balanced-body n.kind n.attrs n.marks n.body h.0) (balanced-list xs h.1)

-- ---- the trees of nodes

abbrev tree_by : ℕ → Attrs → Marks → Body → Tree
tree_by k a m (Text us) = text us m
tree_by k a m Childless = branch k a m none
tree_by k a m (Children ts) = branch k a m (trees_of ts)

-- what follows does not go on the node, if that is a text
abbrev Ends : Marks → Body → List Token → Type 0
Ends m (Text us) ts = EndsText m ts
Ends m Childless ts = Unit {0}
Ends m (Children inner) ts = Unit {0}

trees-node : (k : ℕ) (a : Attrs) (m : Marks) (b : Body) {xs : List Token} → WholeBody b → 0 < length (body_tokens k a m b) → Ends m b xs → Balanced xs → trees_of (body_tokens k a m b ++ xs) ≡ tree (tree_by k a m b) (trees_of xs)
trees-node k a m (Text []) h some ends r = absurd (omega arith)
trees-node k a m (Text (u ∷ us)) h some ends r = trees-text u us m r ends
trees-node k a m Childless h some ends r = trees-leaf k a m r
trees-node k a m (Children ts) h some ends r = trees-branch k a m h r

written-tree : (s : SchemaSpec) (k : ℕ) (a : Attrs) (m : Marks) (b : Body) → tree_written s (tree_by k a m b) ≡ body_written s k a m b
unfolding tree_written
written-tree s k a m (Text us) = refl
written-tree s k a m Childless = refl
written-tree s k a m (Children ts) = refl

ends-body : {Z : Type 0} (x : Node) (b : Body) (xs : List (Arc Node Z)) → x.body ≡ b → Apart x xs → IsNormal xs → Ends x.marks b (list_tokens xs)
ends-body x (Text us) xs is apart normal = ends-apart x xs (subst IsText (sym is) tt) apart normal
ends-body x Childless xs is apart normal = tt
ends-body x (Children ts) xs is apart normal = tt

-- nodes are written one after another
pub nodes-written : {Z : Type 0} (s : SchemaSpec) (xs : List (Arc Node Z)) → IsNormal xs → EachWhole xs → nodes_written s (list_tokens xs) ≡ items_of (map (λ x. node_written s (arc_value x)) xs)
unfolding trees_written
nodes-written s [] normal whole = refl
nodes-written s (x ∷ xs) normal whole =
    let n = arc_value x in
    let first : trees_of (node_tokens n ++ list_tokens xs) ≡ tree (tree_by n.kind n.attrs n.marks n.body) (trees_of (list_tokens xs)) =
    trees-node n.kind n.attrs n.marks n.body whole.0 normal.0 (ends-body n n.body xs refl normal.1 normal.2) (balanced-list xs whole.1) in
    ap (trees_written s) first ∙ rw (written-tree s n.kind n.attrs n.marks n.body, nodes-written s xs normal.2 whole.1) refl

-- ---- what can be written

both : (a b : Bool) → (a && b) ≡ true → (a ≡ true) × (b ≡ true)
both true b h = (refl, h)
both false b h = absurd (cc)

joined : (a b : Bool) → a ≡ true → b ≡ true → (a && b) ≡ true
joined a b h g = rw (h, g) refl

pub writable-front : (s : SchemaSpec) (xs ys : List Token) → are_writable s (xs ++ ys) ≡ true → are_writable s xs ≡ true
writable-front s [] ys h = refl
writable-front s (x ∷ xs) ys h =
    let p = both (is_writable s x) (are_writable s (xs ++ ys)) h in
    joined (is_writable s x) (are_writable s xs) p.0 (writable-front s xs ys p.1)

pub writable-rest : (s : SchemaSpec) (xs ys : List Token) → are_writable s (xs ++ ys) ≡ true → are_writable s ys ≡ true
writable-rest s [] ys h = h
writable-rest s (x ∷ xs) ys h = writable-rest s xs ys (both (is_writable s x) (are_writable s (xs ++ ys)) h).1

-- a high surrogate before the tokens is not the half of a pair with the first of them
abbrev Free : Option Marks → List Token → Type 0
Free high [] = Unit {0}
Free high (Open k a m ∷ ts) = Unit {0}
Free high (Close ∷ ts) = Unit {0}
Free high (Leaf k a m ∷ ts) = Unit {0}
Free high (CodeUnit u m ∷ ts) = goes_on high m ≡ false

free-none : (ts : List Token) → Free None ts
free-none [] = tt
free-none (Open k a m ∷ ts) = tt
free-none (Close ∷ ts) = tt
free-none (Leaf k a m ∷ ts) = tt
free-none (CodeUnit u m ∷ ts) = refl

free-some : (m : Marks) (ts : List Token) → EndsText m ts → Free (Some m) ts
free-some m [] h = tt
free-some m (Open k a n ∷ ts) h = tt
free-some m (Close ∷ ts) h = tt
free-some m (Leaf k a n ∷ ts) h = tt
free-some m (CodeUnit u n ∷ ts) h = marks-differ m n h

free-test : (b : Bool) (m : Marks) (ts : List Token) → EndsText m ts → Free (cond b (Some m) None) ts
free-test true m ts h = free-some m ts h
free-test false m ts h = free-none ts

free-text : (high : Option Marks) (m : Marks) (u : ℕ) (us : List ℕ) (ts : List Token) → EndsText m ts → Free (last_high high (text_tokens m (u ∷ us))) ts
free-text high m u [] ts h = free-test (is_high_surrogate u) m ts h
free-text high m u (u₂ ∷ us) ts h = free-text (high_of (CodeUnit u m)) m u₂ us ts h

last-close : (high : Option Marks) (xs : List Token) → last_high high (xs ++ (Close ∷ [])) ≡ None
last-close high [] = refl
last-close high (x ∷ xs) = last-close (high_of x) xs

free-after : (high : Option Marks) (k : ℕ) (a : Attrs) (m : Marks) (b : Body) (ts : List Token) → 0 < length (body_tokens k a m b) → Ends m b ts → Free (last_high high (body_tokens k a m b)) ts
free-after high k a m (Text []) ts some ends = absurd (omega arith)
free-after high k a m (Text (u ∷ us)) ts some ends = free-text high m u us ts ends
free-after high k a m Childless ts some ends = free-none ts
free-after high k a m (Children inner) ts some ends = subst (λ h. Free h ts) (sym (last-close None inner)) (free-none ts)

-- the pairs of one node among others
pairs-node : (k : ℕ) (a : Attrs) (m : Marks) (b : Body) (ts : List Token) (at : ℕ) (high : Option Marks) → 0 < length (body_tokens k a m b) → Ends m b ts → Free high (body_tokens k a m b ++ ts) → first_broken at high (body_tokens k a m b ++ ts) ≡ None
    → first_broken 1 None (body_tokens k a m b) ≡ None
pairs-node k a m (Text []) ts at high some ends free h = absurd (omega arith)
pairs-node k a m (Text (u ∷ us)) ts at high some ends free h = from_place (text_tokens m (u ∷ us)) at 1 None (broken-text m (u ∷ us) ts at high None ends (λ e. sym free ∙ e) h)
pairs-node k a m Childless ts at high some ends free h = refl
pairs-node k a m (Children inner) ts at high some ends free h =
    let parts : (inner ++ (Close ∷ [])) ++ ts ≡ inner ++ (Close ∷ ts) = append_assoc inner (Close ∷ []) ts in
    let inside : first_broken (at + 1) None (inner ++ (Close ∷ ts)) ≡ None = subst (λ z. first_broken (at + 1) None z ≡ None) parts h in
    broken-closed inner 2 None (from_place inner (at + 1) 2 None (broken-before_close inner ts (at + 1) None inside))

-- each node of a list that can be written can
pub each-writable : {Z : Type 0} (s : SchemaSpec) (xs : List (Arc Node Z)) (at : ℕ) (high : Option Marks) → IsNormal xs → are_writable s (list_tokens xs) ≡ true → Free high (list_tokens xs) → first_broken at high (list_tokens xs) ≡ None
    → AllByRecursion (λ x. IsWritable s (arc_value x)) xs
each-writable s [] at high normal fits free pairs = tt
each-writable s (x ∷ xs) at high normal fits free pairs =
    let n = arc_value x in
    let ends = ends-body n n.body xs refl normal.1 normal.2 in
    let behind = broken-behind (node_tokens n) (list_tokens xs) at high pairs in (
      record {
        tokens = writable-front s (node_tokens n) (list_tokens xs) fits;
        pairs = pairs-node n.kind n.attrs n.marks n.body (list_tokens xs) at high normal.0 ends free pairs;
        filled = normal.0;
      },
      each-writable s xs behind.0 (last_high high (node_tokens n)) normal.2 (writable-rest s (node_tokens n) (list_tokens xs) fits) (free-after high n.kind n.attrs n.marks n.body (list_tokens xs) normal.0 ends) behind.1,
    )

-- those of a node that can be written
pub inside-writable : {Z : Type 0} (s : SchemaSpec) (n : Node) (ts : List Token) (xs : List (Arc Node Z)) → n.body ≡ Children ts → list_tokens xs ≡ ts → IsNormal xs → IsWritable s n → AllByRecursion (λ x. IsWritable s (arc_value x)) xs
inside-writable s n ts xs is tokens normal w =
    let all : node_tokens n ≡ Open n.kind n.attrs n.marks ∷ (ts ++ (Close ∷ [])) = ap (λ b. body_tokens n.kind n.attrs n.marks b) is in
    let fits : are_writable s (ts ++ (Close ∷ [])) ≡ true = (both (is_writable s (Open n.kind n.attrs n.marks)) (are_writable s (ts ++ (Close ∷ []))) (subst (λ z. are_writable s z ≡ true) all w.tokens)).1 in
    let pairs : first_broken 2 None (ts ++ (Close ∷ [])) ≡ None = subst (λ z. first_broken 1 None z ≡ None) all w.pairs in
    each-writable s xs 2 None normal (subst (λ z. are_writable s z ≡ true) (sym tokens) (writable-front s ts (Close ∷ []) fits)) (free-none (list_tokens xs)) (subst (λ z. first_broken 2 None z ≡ None) (sym tokens) (broken-before_close ts [] 2 None pairs))

-- those of a content that can be written
pub content-writable : {Z : Type 0} (s : SchemaSpec) (ts : List Token) (xs : List (Arc Node Z)) → list_tokens xs ≡ ts → IsNormal xs → AreWritable s ts → AllByRecursion (λ x. IsWritable s (arc_value x)) xs
content-writable s ts xs tokens normal w =
    each-writable s xs 1 None normal (subst (λ z. are_writable s z ≡ true) (sym tokens) w.tokens) (free-none (list_tokens xs)) (subst (λ z. first_broken 1 None z ≡ None) (sym tokens) w.pairs)
