-- Documents with the value of one attribute changed.
use Rattle.std.specs.Prelude.{ℕ, zero, suc, Bool, false, List, [], ◌∷◌, ◌++◌, take, drop, slice_set, slice_index_or, Option, Some, None}
use Rattle.pm_value.specs.Plain.{Plain, null}
use Rattle.pm_value.specs.Kinds.{is_allowed}
use Rattle.pm_tokens.specs.Tokens.{Attrs, Token, Open, Close, Leaf, CodeUnit, Doc, with_tokens}
use Rattle.pm_tokens.specs.Schemas.{Declared, attr_place}

-- ---- the attribute

-- its place among those that a type declares, None where none of them has the name
abbrev pub place_among : Option (List Declared) → List ℕ → Option ℕ
place_among None name = None
place_among (Some as') name = attr_place name as'

-- the attribute at a place may have the value, by the kinds that it names
abbrev pub allows_at : List Declared → ℕ → Plain → Bool
allows_at [] i value = false
allows_at (a ∷ as') zero value = is_allowed a.kinds value
allows_at (a ∷ as') (suc i) value = allows_at as' i value

abbrev pub allows_among : Option (List Declared) → ℕ → Plain → Bool
allows_among None i value = false
allows_among (Some as') i value = allows_at as' i value

-- the value at a place, null where there is no place
abbrev pub value_at : Attrs → Option ℕ → Plain
value_at values None = null
value_at values (Some i) = slice_index_or values i null

-- ---- the node

-- the type of the node at the head, and the values of its attributes
abbrev pub node_kind : List Token → ℕ
node_kind (Open k a m ∷ ts) = k
node_kind (Leaf k a m ∷ ts) = k
node_kind _ = 0

abbrev pub node_values : List Token → Attrs
node_values (Open k a m ∷ ts) = a
node_values (Leaf k a m ∷ ts) = a
node_values _ = []

-- the node at the head with another value at a place of its attributes
abbrev pub with_node_value : ℕ → Plain → List Token → List Token
with_node_value i value [] = []
with_node_value i value (Open k a m ∷ ts) = Open k (slice_set a i value) m ∷ ts
with_node_value i value (Close ∷ ts) = Close ∷ ts
with_node_value i value (Leaf k a m ∷ ts) = Leaf k (slice_set a i value) m ∷ ts
with_node_value i value (CodeUnit u m ∷ ts) = CodeUnit u m ∷ ts

-- ---- the document

-- with another value of the node at a position
abbrev pub node_valued : ℕ → Plain → ℕ → Doc → Doc
node_valued i value pos d = with_tokens d (take pos d.tokens ++ with_node_value i value (drop pos d.tokens))

-- with another value of the top node
abbrev pub top_valued : ℕ → Plain → Doc → Doc
top_valued i value d = record { kind = d.kind; attrs = slice_set d.attrs i value; marks = d.marks; tokens = d.tokens }
