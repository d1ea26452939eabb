-- Two specs whose types one JSON writes are alike in all that decides whether there is a schema.
use Rattle.std.proofs.Common.{inl, inr, ◌≡◌, ◌<◌, ℕ, zero, suc, Bool, true, false, ◌||◌, ◌&&◌, List, [], ◌∷◌, length, map, refl, ap, ◌∙◌, sym, subst, arith}
use Rattle.std.specs.Prelude.{slice_index_or, ◌++◌, ◌⊎◌, codes, Option, Some, None, unwrap_or, is_some, not, ◌==◌}
use Rattle.std.specs.List.{list_any, list_all}
use Rattle.std.specs.Str.{bytes_eq}
use Rattle.std.proofs.lemmas.List.Folds.{list_all-map}
use Rattle.pm_auto.specs.declared.expr.Expr.{Expr, Empty, One, Choice', Seq', Plus', Star', Opt', Range'}
use Rattle.pm_auto.specs.Tree.{Tree, tree}
use Rattle.pm_auto.specs.Tree as trees
use Rattle.pm_auto.specs.declared.error.AutoError.TheVariants.{Mixed, TooWide}
use Rattle.pm_schema.specs.declared.spec.NodeSpec.{NodeSpec}
use Rattle.pm_schema.specs.declared.spec.MarkSpec.{MarkSpec}
use Rattle.pm_schema.specs.declared.spec.SchemaSpec.{SchemaSpec}
use Rattle.pm_schema.specs.Names.{place_of}
use Rattle.pm_schema.specs.Types.{no_node, node_at, names_of_nodes, names_of_marks, is_leaf, is_empty}
use Rattle.pm_schema.specs.MarkTexts.{is_type, in_group, is_all, is_known, known_where_given, words}
use Rattle.pm_schema.specs.Shared.{HasNoFault}
use Rattle.pm_schema.specs.Refusals.{has_top, has_text, is_plain_text, has_types, has_double_name, repeats, knows_marks, inline_table, HasAutomaton, HasAutomata, IsNamed, FirstFault}
use Rattle.pm_schema.proofs.SameLaws.{same-none}
use Rattle.pm_schemajson.specs.Views.{node_type, node_types, mark_type, mark_types, types_of_spec}

-- ---- lists

through : {A B C : Type 0} (view : A → B) (g : B → C) (xs : List A) → map g (map view xs) ≡ map (λ x. g (view x)) xs
through view g [] = refl
through view g (x ∷ xs) = ap (λ l. g (view x) ∷ l) (through view g xs)

pub map-alike : {A B C : Type 0} (view : A → B) (g : B → C) (xs ys : List A) → map view xs ≡ map view ys → map (λ x. g (view x)) xs ≡ map (λ x. g (view x)) ys
map-alike view g xs ys h = sym (through view g xs) ∙ ap (map g) h ∙ through view g ys

long : {A B : Type 0} (view : A → B) (xs : List A) → length (map view xs) ≡ length xs
long view [] = refl
long view (x ∷ xs) = ap suc (long view xs)

pub long-alike : {A B : Type 0} (view : A → B) (xs ys : List A) → map view xs ≡ map view ys → length xs ≡ length ys
long-alike view xs ys h = sym (long view xs) ∙ ap length h ∙ long view ys

all-alike : {A B : Type 0} (view : A → B) (p : B → Bool) (xs ys : List A) → map view xs ≡ map view ys → list_all (λ x. p (view x)) xs ≡ list_all (λ x. p (view x)) ys
all-alike view p xs ys h = sym (list_all-map p view xs) ∙ ap (list_all p) h ∙ list_all-map p view ys

any-through : {A B : Type 0} (view : A → B) (p : B → Bool) (xs : List A) → list_any p (map view xs) ≡ list_any (λ x. p (view x)) xs
any-through view p [] = refl
any-through view p (x ∷ xs) = ap (λ b. p (view x) || b) (any-through view p xs)

pub any-alike : {A B : Type 0} (view : A → B) (p : B → Bool) (xs ys : List A) → map view xs ≡ map view ys → list_any (λ x. p (view x)) xs ≡ list_any (λ x. p (view x)) ys
any-alike view p xs ys h = sym (any-through view p xs) ∙ ap (list_any p) h ∙ any-through view p ys

all-same : {A : Type 0} (p q : A → Bool) (xs : List A) → ((x : A) → p x ≡ q x) → list_all p xs ≡ list_all q xs
all-same p q [] e = refl
all-same p q (x ∷ xs) e = ap (λ b. b && list_all p xs) (e x) ∙ ap (λ b. q x && b) (all-same p q xs e)

-- ---- names and types

pub names-alike : (s t : SchemaSpec) → types_of_spec s ≡ types_of_spec t → names_of_nodes s ≡ names_of_nodes t
names-alike s t h = map-alike node_type (λ n. n.name) s.nodes t.nodes (ap (λ ts. ts.nodes) h)

pub mark-names-alike : (s t : SchemaSpec) → types_of_spec s ≡ types_of_spec t → names_of_marks s ≡ names_of_marks t
mark-names-alike s t h = map-alike mark_type (λ m. m.name) s.marks t.marks (ap (λ ts. ts.marks) h)

at-alike : (ns ms : List NodeSpec) (k : ℕ) → node_types ns ≡ node_types ms → node_type (slice_index_or ns k no_node) ≡ node_type (slice_index_or ms k no_node)
at-alike [] [] k h = refl
at-alike [] (m ∷ ms) k h = absurd (cc)
at-alike (n ∷ ns) [] k h = absurd (cc)
at-alike (n ∷ ns) (m ∷ ms) zero h = cc
at-alike (n ∷ ns) (m ∷ ms) (suc k) h = let e : node_types ns ≡ node_types ms = cc in at-alike ns ms k e

pub node-alike : (s t : SchemaSpec) (k : ℕ) → types_of_spec s ≡ types_of_spec t → node_type (node_at s k) ≡ node_type (node_at t k)
node-alike s t k h = at-alike s.nodes t.nodes k (ap (λ ts. ts.nodes) h)

pub no_tree : Tree → Bool
no_tree trees.empty = true
no_tree _ = false

pub empty-is : (e : Expr) → is_empty e ≡ no_tree (tree e)
unfolding no_tree
empty-is Empty = refl
empty-is (One t) = refl
empty-is (Choice' n es) = refl
empty-is (Seq' n es) = refl
empty-is (Plus' p e) = refl
empty-is (Star' p e) = refl
empty-is (Opt' p e) = refl
empty-is (Range' p e n m) = refl

plain-alike : (n m : NodeSpec) → node_type n ≡ node_type m → (length n.attrs == 0) && is_leaf n ≡ (length m.attrs == 0) && is_leaf m
plain-alike n m h =
    let l : length n.attrs ≡ length m.attrs = long-alike _ n.attrs m.attrs (ap (λ x. x.attrs) h) in
    let e : is_leaf n ≡ is_leaf m = empty-is n.content ∙ ap (λ x. no_tree x.content) h ∙ sym (empty-is m.content) in
    ap (λ k. (k == 0) && is_leaf n) l ∙ ap (λ b. (length m.attrs == 0) && b) e

-- ---- IsNamed

top-alike : (s t : SchemaSpec) → types_of_spec s ≡ types_of_spec t → has_top s ≡ has_top t
top-alike s t h =
    let e : s.top ≡ t.top = ap (λ ts. ts.top) h in
    ap (λ x. not (bytes_eq (codes "text") x) && is_some (place_of x (names_of_nodes s))) e
    ∙ ap (λ ns. not (bytes_eq (codes "text") t.top) && is_some (place_of t.top ns)) (names-alike s t h)

text-alike : (s t : SchemaSpec) → types_of_spec s ≡ types_of_spec t → has_text s ≡ has_text t
text-alike s t h = ap (λ ns. is_some (place_of (codes "text") ns)) (names-alike s t h)

plain-text-alike : (s t : SchemaSpec) → types_of_spec s ≡ types_of_spec t → is_plain_text s ≡ is_plain_text t
plain-text-alike s t h =
    let k = unwrap_or (place_of (codes "text") (names_of_nodes t)) 0 in
    ap (λ (ns : List (List ℕ)). (length (node_at s (unwrap_or (place_of (codes "text") ns) 0)).attrs == 0) && is_leaf (node_at s (unwrap_or (place_of (codes "text") ns) 0))) (names-alike s t h)
    ∙ plain-alike (node_at s k) (node_at t k) (node-alike s t k h)

types-alike : (s t : SchemaSpec) → types_of_spec s ≡ types_of_spec t → has_types s ≡ has_types t
types-alike s t h =
    ap (λ b. b && (has_text s && is_plain_text s)) (top-alike s t h)
    ∙ ap (λ b. has_top t && (b && is_plain_text s)) (text-alike s t h)
    ∙ ap (λ b. has_top t && (has_text t && b)) (plain-text-alike s t h)

double-alike : (s t : SchemaSpec) → types_of_spec s ≡ types_of_spec t → has_double_name s ≡ has_double_name t
double-alike s t h = ap (λ ns. repeats [] (ns ++ names_of_marks s)) (names-alike s t h) ∙ ap (λ ms. repeats [] (names_of_nodes t ++ ms)) (mark-names-alike s t h)

known-word : (ms ks : List MarkSpec) (w : List ℕ) → mark_types ms ≡ mark_types ks → is_known ms w ≡ is_known ks w
known-word ms ks w h =
    ap (λ b. b || list_any (in_group w) ms) (any-alike mark_type (λ m. bytes_eq w m.name) ms ks h)
    ∙ ap (λ b. is_type ks w || b) (any-alike mark_type (λ m. list_any (bytes_eq w) m.groups) ms ks h)

known-alike : (ms ks : List MarkSpec) → mark_types ms ≡ mark_types ks → (o : Option (List ℕ)) → known_where_given ms o ≡ known_where_given ks o
known-alike ms ks h None = refl
known-alike ms ks h (Some text) = ap (λ b. is_all text || b) (all-same (is_known ms) (is_known ks) (words text) (λ w. known-word ms ks w h))

marks-alike : (s t : SchemaSpec) → types_of_spec s ≡ types_of_spec t → knows_marks s ≡ knows_marks t
marks-alike s t h =
    let ms : mark_types s.marks ≡ mark_types t.marks = ap (λ ts. ts.marks) h in
    let ns : node_types s.nodes ≡ node_types t.nodes = ap (λ ts. ts.nodes) h in
    ap (λ b. b && list_all (λ (m : MarkSpec). known_where_given s.marks m.excludes) s.marks)
    (all-same (λ (n : NodeSpec). known_where_given s.marks n.marks) (λ (n : NodeSpec). known_where_given t.marks n.marks) s.nodes (λ n. known-alike s.marks t.marks ms n.marks)
    ∙ all-alike node_type (λ x. known_where_given t.marks x.marks) s.nodes t.nodes ns)
    ∙ ap (λ b. list_all (λ (n : NodeSpec). known_where_given t.marks n.marks) t.nodes && b)
    (all-same (λ (m : MarkSpec). known_where_given s.marks m.excludes) (λ (m : MarkSpec). known_where_given t.marks m.excludes) s.marks (λ m. known-alike s.marks t.marks ms m.excludes)
    ∙ all-alike mark_type (λ x. known_where_given t.marks x.excludes) s.marks t.marks ms)

pub named-alike : (s t : SchemaSpec) → types_of_spec s ≡ types_of_spec t → IsNamed s → IsNamed t
named-alike s t h n = record {
  types = sym (types-alike s t h) ∙ n.types;
  differ = sym (double-alike s t h) ∙ n.differ;
  marks = sym (marks-alike s t h) ∙ n.marks;
}

-- ---- HasAutomata

inline-alike : (s t : SchemaSpec) → types_of_spec s ≡ types_of_spec t → inline_table s ≡ inline_table t
inline-alike s t h = map-alike node_type (λ x. bytes_eq (codes "text") x.name || x.inline) s.nodes t.nodes (ap (λ ts. ts.nodes) h)

pub automata-alike : (s t : SchemaSpec) → types_of_spec s ≡ types_of_spec t → HasAutomata s → HasAutomata t
automata-alike s t h a k l =
    let n : length s.nodes ≡ length t.nodes = long-alike node_type s.nodes t.nodes (ap (λ ts. ts.nodes) h) in
    let i : k < length s.nodes = omega (arith, n, l) in
    let b : HasAutomaton s k = a k i in
    let here : HasNoFault (node_at s k).content (inline_table s) = record { pure = b.pure; narrow = b.narrow } in
    let other : HasNoFault (node_at t k).content (inline_table s) = same-none (node_at s k).content (node_at t k).content (inline_table s) (ap (λ x. x.content) (node-alike s t k h)) here in
    let there : HasNoFault (node_at t k).content (inline_table t) = subst (HasNoFault (node_at t k).content) (inline-alike s t h) other in
    record { pure = there.pure; narrow = there.narrow }

pub no-first-fault : (s : SchemaSpec) → FirstFault s Mixed ⊎ FirstFault s TooWide → HasAutomata s → ⊥
no-first-fault s (inl f) a = (a f.kind f.inside).pure f.fault
no-first-fault s (inr f) a = (a f.kind f.inside).narrow f.fault
