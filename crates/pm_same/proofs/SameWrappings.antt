-- A content is wrapped in the same nodes by two schemas that were built of the same types.
use Rattle.std.proofs.Common.{◌≡◌, ◌<◌, ℕ, zero, suc, Bool, false, ◌||◌, ◌&&◌, List, [], ◌∷◌, ◌++◌, length, map, refl, ap, ◌∙◌, sym, arith}
use Rattle.std.specs.Prelude.{not, Option, Some, None, option_and_then, option_map, unwrap_or, is_none, slice_get, slice_index_or}
use Rattle.std.specs.List.{list_any}
use Rattle.pm_auto.specs.declared.auto.Auto.{Auto}
use Rattle.pm_auto.specs.Tree.{tree}
use Rattle.pm_auto.specs.Trim.{trimmed}
use Rattle.pm_auto.specs.Table.{rows}
use Rattle.pm_auto.specs.States.{start_of}
use Rattle.pm_auto.specs.Walks.{edges_at}
use Rattle.pm_auto.specs.Wraps.{wrappers, inner_links, wrap_links, holds_first, wrap_goals}
use Rattle.pm_value.specs.Plain.{null}
use Rattle.pm_value.specs.Views.{plain}
use Rattle.pm_tokens.specs.Tokens.{Token, Open, Close, Doc}
use Rattle.pm_schema.specs.declared.spec.AttrSpec.{AttrSpec}
use Rattle.pm_schema.specs.declared.spec.NodeSpec.{NodeSpec}
use Rattle.pm_schema.specs.declared.spec.SchemaSpec.{SchemaSpec}
use Rattle.pm_schema.specs.declared.schema.Schema.{Schema}
use Rattle.pm_schema.specs.Types.{node_at, is_required}
use Rattle.pm_schema.specs.Made.{needs_attrs, can_wrap}
use Rattle.pm_schema.specs.Generated.{IsAutoOf}
use Rattle.pm_schema.specs.Documents.{documents_of}
use Rattle.pm_schema.specs.Built.{IsBuilt}
use Rattle.pm_schema.proofs.SameLaws.{same-auto}
use Rattle.pm_schemajson.specs.Views.{attribute, attributes, node_type, node_types, types_of_spec}
use Rattle.pm_schemajson.proofs.SameTypes.{map-alike, any-alike, long-alike, node-alike}
use Rattle.pm_schemajson.proofs.SameDocuments.{leaf-alike, documents-alike}
use Rattle.pm_node.specs.Filled.{defaults}
use Rattle.pm_fit.specs.Paths.{shortest}
use Rattle.pm_fit.specs.Wrappings.{first_type, parent_at, before_in, state_after, wrapping_in, wrapping_of, wrapping_at, in_nodes}
use Rattle.pm_same.proofs.TwinWraps.{Twin, Twins, starts-twin, has-twin, first-twin, after-twins, wrappers-twin, inner-twin}

-- ---- which types may wrap

required-is : (a : AttrSpec) → is_required a ≡ is_none (attribute a).default
required-is a = at a.default
  where
    at : (o : _) → is_none o ≡ is_none (option_map plain o)
    at None = refl
    at (Some v) = refl

any-required : (xs : List AttrSpec) → list_any is_required xs ≡ list_any (λ a. is_none (attribute a).default) xs
any-required [] = refl
any-required (a ∷ xs) = λ i. required-is a i || any-required xs i

needs-alike : (n m : NodeSpec) → node_type n ≡ node_type m → needs_attrs n ≡ needs_attrs m
needs-alike n m h = any-required n.attrs ∙ any-alike attribute (λ x. is_none x.default) n.attrs m.attrs (ap (λ x. x.attrs) h) ∙ sym (any-required m.attrs)

wrap-alike : (n m : NodeSpec) → node_type n ≡ node_type m → can_wrap n ≡ can_wrap m
wrap-alike n m h = λ i. not (leaf-alike n m h i) && not (needs-alike n m h i)

may-wrap : (ns ms : List NodeSpec) → node_types ns ≡ node_types ms → map can_wrap ns ≡ map can_wrap ms
may-wrap [] [] h = refl
may-wrap [] (m ∷ ms) h = absurd (cc)
may-wrap (n ∷ ns) [] h = absurd (cc)
may-wrap (n ∷ ns) (m ∷ ms) h =
    let one : node_type n ≡ node_type m = cc in
    let more : node_types ns ≡ node_types ms = cc in
    λ i. wrap-alike n m one i ∷ may-wrap ns ms more i

-- ---- lists of one length

map-at : {A B : Type 0} (f : A → B) (xs ys : List A) → length xs ≡ length ys → ((k : ℕ) (d : A) → k < length xs → f (slice_index_or xs k d) ≡ f (slice_index_or ys k d)) → map f xs ≡ map f ys
map-at f [] [] h e = refl
map-at f [] (y ∷ ys) h e = absurd (cc)
map-at f (x ∷ xs) [] h e = absurd (cc)
map-at f (x ∷ xs) (y ∷ ys) h e =
    let first : f x ≡ f y = e 0 x (omega arith) in
    let rest = map-at f xs ys (omega (arith, h)) (λ k d l. e (suc k) d (omega (arith, l))) in
    λ i. first i ∷ rest i

get-at : {A B : Type 0} (f g : A → Option B) (xs ys : List A) → length xs ≡ length ys → (k : ℕ) → ((d : A) → k < length xs → f (slice_index_or xs k d) ≡ g (slice_index_or ys k d))
    → option_and_then f (slice_get xs k) ≡ option_and_then g (slice_get ys k)
get-at f g [] [] h k e = refl
get-at f g [] (y ∷ ys) h k e = absurd (cc)
get-at f g (x ∷ xs) [] h k e = absurd (cc)
get-at f g (x ∷ xs) (y ∷ ys) h zero e = e x (omega arith)
get-at f g (x ∷ xs) (y ∷ ys) h (suc k) e = get-at f g xs ys (omega (arith, h)) k (λ d l. e d (omega (arith, l)))

-- ---- nodes with default attributes

defaults-alike : (xs ys : List AttrSpec) → attributes xs ≡ attributes ys → defaults xs ≡ defaults ys
defaults-alike xs ys h = map-alike attribute (λ a. unwrap_or a.default null) xs ys h

pub in-nodes-alike : (s t : SchemaSpec) → types_of_spec s ≡ types_of_spec t → (ks : List ℕ) (ts : List Token) → in_nodes s ks ts ≡ in_nodes t ks ts
in-nodes-alike s t h [] ts = refl
in-nodes-alike s t h (k ∷ ks) ts =
    let attrs = defaults-alike (node_at s k).attrs (node_at t k).attrs (ap (λ x. x.attrs) (node-alike s t k h)) in
    let rest = in-nodes-alike s t h ks ts in
    λ i. Open k (attrs i) [] ∷ (rest i ++ (Close ∷ []))

-- ---- wrappings

module _ (s t : Schema) (h : types_of_spec s.spec ≡ types_of_spec t.spec) (bs : IsBuilt s) (bt : IsBuilt t) where
  same-count : length s.spec.nodes ≡ length t.spec.nodes
  same-count = long-alike node_type s.spec.nodes t.spec.nodes (ap (λ ts. ts.nodes) h)

  same-long : length s.autos ≡ length t.autos
  same-long = s.full ∙ same-count ∙ sym t.full

  may-alike : map can_wrap s.spec.nodes ≡ map can_wrap t.spec.nodes
  may-alike = may-wrap s.spec.nodes t.spec.nodes (ap (λ ts. ts.nodes) h)

  -- the two automata of a type are of one expression
  auto-s : (k : ℕ) (d : Auto) → k < length s.autos → IsAutoOf (node_at s.spec k).content (slice_index_or s.autos k d)
  auto-s k d l = bs.automata k d l

  auto-t : (k : ℕ) (d : Auto) → k < length s.autos → IsAutoOf (node_at s.spec k).content (slice_index_or t.autos k d)
  auto-t k d l =
      let same : tree (node_at t.spec k).content ≡ tree (node_at s.spec k).content = sym (ap (λ x. x.content) (node-alike s.spec t.spec k h)) in
      same-auto (node_at t.spec k).content (node_at s.spec k).content (slice_index_or t.autos k d) same (bt.automata k d (omega (arith, l, same-long)))

  inner-alike : (may : List Bool) (n : ℕ) → map (inner_links may n) s.autos ≡ map (inner_links may n) t.autos
  inner-alike may n = map-at (inner_links may n) s.autos t.autos same-long (λ k d l.
      inner-twin (rows 0 (trimmed (node_at s.spec k).content)) (start_of (trimmed (node_at s.spec k).content)) (slice_index_or s.autos k d) (slice_index_or t.autos k d) (auto-s k d l) (auto-t k d l) may n)

  first-alike : (to : ℕ) → map (holds_first to) s.autos ≡ map (holds_first to) t.autos
  first-alike to = map-at (holds_first to) s.autos t.autos same-long (λ k d l.
      first-twin (rows 0 (trimmed (node_at s.spec k).content)) (start_of (trimmed (node_at s.spec k).content)) (slice_index_or s.autos k d) (slice_index_or t.autos k d) (auto-s k d l) (auto-t k d l) to)

  module _ (k : ℕ) (a b : Auto) (ha : IsAutoOf (node_at s.spec k).content a) (hb : IsAutoOf (node_at s.spec k).content b) where
    from-twins : (to i j : ℕ) → Twin (rows 0 (trimmed (node_at s.spec k).content)) (start_of (trimmed (node_at s.spec k).content)) a b ha hb i j
        → shortest (wrap_links a i s.autos (map can_wrap s.spec.nodes)) (wrap_goals a i to s.autos) (length s.autos)
        ≡ shortest (wrap_links b j t.autos (map can_wrap t.spec.nodes)) (wrap_goals b j to t.autos) (length t.autos)
    from-twins to i j w =
        let may = may-alike in
        let n = same-long in
        let outer = wrappers-twin (rows 0 (trimmed (node_at s.spec k).content)) (start_of (trimmed (node_at s.spec k).content)) a b ha hb (map can_wrap t.spec.nodes) (length t.autos) false i j w in
        let goal = has-twin (rows 0 (trimmed (node_at s.spec k).content)) (start_of (trimmed (node_at s.spec k).content)) a b ha hb to i j w in
        let inner = inner-alike (map can_wrap t.spec.nodes) (length t.autos) in
        let firsts = first-alike to in
        (λ z. shortest (wrap_links a i s.autos (may z)) (wrap_goals a i to s.autos) (length s.autos))
        ∙ (λ z. shortest (map (inner_links (map can_wrap t.spec.nodes) (n z)) s.autos ++ wrappers (map can_wrap t.spec.nodes) (n z) false a.sets (edges_at a.edges i) ∷ []) (wrap_goals a i to s.autos) (n z))
        ∙ (λ z. shortest (inner z ++ outer z ∷ []) (firsts z ++ goal z ∷ []) (length t.autos))

    from-states : (to : ℕ) (o p : Option ℕ) → Twins (rows 0 (trimmed (node_at s.spec k).content)) (start_of (trimmed (node_at s.spec k).content)) a b ha hb o p
        → option_and_then (λ i. shortest (wrap_links a i s.autos (map can_wrap s.spec.nodes)) (wrap_goals a i to s.autos) (length s.autos)) o
        ≡ option_and_then (λ j. shortest (wrap_links b j t.autos (map can_wrap t.spec.nodes)) (wrap_goals b j to t.autos) (length t.autos)) p
    from-states to None None w = refl
    from-states to None (Some j) w = absurd w
    from-states to (Some i) None w = absurd w
    from-states to (Some i) (Some j) w = from-twins to i j w

    in-alike : (before : List ℕ) (to : ℕ) → wrapping_in s a before to ≡ wrapping_in t b before to
    in-alike before to =
        let r = rows 0 (trimmed (node_at s.spec k).content) in
        let st = start_of (trimmed (node_at s.spec k).content) in
        from-states to (state_after a.edges 0 before) (state_after b.edges 0 before) (after-twins r st a b ha hb before 0 0 (starts-twin r st a b ha hb))

  wrapping-of-alike : (kind : ℕ) (before : List ℕ) (to : ℕ) → wrapping_of s kind before to ≡ wrapping_of t kind before to
  wrapping-of-alike kind before to =
      get-at (λ a. wrapping_in s a before to) (λ b. wrapping_in t b before to) s.autos t.autos same-long kind
      (λ d l. in-alike kind (slice_index_or s.autos kind d) (slice_index_or t.autos kind d) (auto-s kind d l) (auto-t kind d l) before to)

  pub wrapping-alike : (d : Doc) (p : ℕ) (content : List Token) → wrapping_at s d p content ≡ wrapping_at t d p content
  wrapping-alike d p content =
      (λ i. option_and_then (λ to. wrapping-of-alike (parent_at d p).kind (before_in (documents_of s.spec).text d p) to i) (first_type (documents_of s.spec).text content))
      ∙ (λ i. option_and_then (wrapping_of t (parent_at d p).kind (before_in (documents-alike s.spec t.spec h i).text d p)) (first_type (documents-alike s.spec t.spec h i).text content))
