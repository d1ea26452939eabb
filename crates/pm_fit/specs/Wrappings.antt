-- The nodes that are put around a content.
use Rattle.std.specs.Prelude.{ℕ, ◌-◌, Option, Some, None, option_and_then, List, [], ◌∷◌, map, length, take, slice_get}
use Rattle.pm_auto.specs.declared.auto.Edge.{Edge}
use Rattle.pm_auto.specs.declared.auto.Auto.{Auto}
use Rattle.pm_auto.specs.Walks.{target, edges_at}
use Rattle.pm_auto.specs.Wraps.{wrap_links, wrap_goals}
use Rattle.pm_tokens.specs.Tokens.{Token, Open, Close, Leaf, CodeUnit, Doc}
use Rattle.pm_tokens.specs.Scan.{depth_at}
use Rattle.pm_tokens.specs.Kids.{kids}
use Rattle.pm_schema.specs.declared.spec.SchemaSpec.{SchemaSpec}
use Rattle.pm_schema.specs.declared.schema.Schema.{Schema}
use Rattle.pm_schema.specs.Made.{can_wrap}
use Rattle.pm_schema.specs.Documents.{documents_of}
use Rattle.pm_node.specs.Filled.{around}
use Rattle.pm_resolve.specs.Places.{node_around, start_at}
use Rattle.pm_fit.specs.Paths.{shortest}

-- the type of the first node, where `text` is that of texts
abbrev pub first_type : ℕ → List Token → Option ℕ
first_type text [] = None
first_type text (Open k a m ∷ ts) = Some k
first_type text (Close ∷ ts) = None
first_type text (Leaf k a m ∷ ts) = Some k
first_type text (CodeUnit u m ∷ ts) = Some text

-- the innermost node around the position
abbrev pub parent_at : Doc → ℕ → Doc
parent_at d p = node_around d p (depth_at d.tokens p)

-- the types of the children of that node that begin before the position, among them a text that it stands in
abbrev pub before_in : ℕ → Doc → ℕ → List ℕ
before_in text d p = kids text 0 None (take (p - start_at d p (depth_at d.tokens p)) (parent_at d p).tokens)

-- the state after these types, from a state on; None where one of them can't come next
abbrev pub state_after : List (List Edge) → ℕ → List ℕ → Option ℕ
state_after ess s [] = Some s
state_after ess s (k ∷ w) = option_and_then (λ t. state_after ess t w) (target k (edges_at ess s))

-- The wrapping towards the type `to` from the state of the automaton after the types `before`: the shortest list of wrappers
-- of which the first stands in the state, each later one stands first in the one before, which may then end, and `to` may
-- stand first in the last. Of lists of one length it is the first by the order of edges.
abbrev pub wrapping_in : Schema → Auto → List ℕ → ℕ → Option (List ℕ)
wrapping_in s a before to =
    option_and_then (λ state. shortest (wrap_links a state s.autos (map can_wrap s.spec.nodes)) (wrap_goals a state to s.autos) (length s.autos)) (state_after a.edges 0 before)

-- The wrapping towards the type `to` in a node of the type `kind`, after children of the types `before`. A type that is none
-- of the schema's wraps nothing; no valid document has one.
abbrev pub wrapping_of : Schema → ℕ → List ℕ → ℕ → Option (List ℕ)
wrapping_of s kind before to = option_and_then (λ a. wrapping_in s a before to) (slice_get s.autos kind)

-- the wrapping at the position towards the type of the content's first node; an empty content has none
abbrev pub wrapping_at : Schema → Doc → ℕ → List Token → Option (List ℕ)
wrapping_at s d p content =
    let text = (documents_of s.spec).text in
    option_and_then (wrapping_of s (parent_at d p).kind (before_in text d p)) (first_type text content)

-- the content in nodes of these types with default attributes, the outermost first
abbrev pub in_nodes : SchemaSpec → List ℕ → List Token → List Token
in_nodes s [] ts = ts
in_nodes s (k ∷ ks) ts = around s k (in_nodes s ks ts)
