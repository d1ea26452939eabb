-- Why a spec gives no schema, in the order in which the causes are looked for.
use Rattle.std.specs.Prelude.{◌≡◌, ◌<◌, ℕ, Bool, true, false, not, ◌||◌, ◌&&◌, ◌++◌, List, [], ◌∷◌, map, length, codes, unwrap_or, is_some, ◌==◌}
use Rattle.std.specs.List.{list_any, list_all}
use Rattle.std.specs.Str.{bytes_eq}
use Rattle.pm_auto.specs.declared.error.AutoError.{AutoError}
use Rattle.pm_auto.specs.declared.error.AutoError.TheVariants.{Mixed, TooWide}
use Rattle.pm_auto.specs.declared.error.AutoError.TheVariants as auto
use Rattle.pm_auto.specs.Built.{Is_fault}
use Rattle.pm_schema.specs.declared.spec.NodeSpec.{NodeSpec}
use Rattle.pm_schema.specs.declared.spec.SchemaSpec.{SchemaSpec}
use Rattle.pm_schema.specs.declared.error.SchemaError.{SchemaError}
use Rattle.pm_schema.specs.declared.error.SchemaError.TheVariants.{NoTop, NoText, TextAttrs, DoubleName, UnknownMark, Content, DeadEnd, NoMemory}
use Rattle.pm_schema.specs.Names.{place_of}
use Rattle.pm_schema.specs.Types.{names_of_nodes, names_of_marks, node_at, is_leaf, is_inline}
use Rattle.pm_schema.specs.MarkTexts.{known_where_given}
use Rattle.pm_schema.specs.Generated.{FirstDeadEnd}

-- the top name is that of a node type, and it isn't `text`
abbrev pub has_top : SchemaSpec → Bool
has_top s = not (bytes_eq (codes "text") s.top) && is_some (place_of s.top (names_of_nodes s))

-- a node type is called `text`
abbrev pub has_text : SchemaSpec → Bool
has_text s = is_some (place_of (codes "text") (names_of_nodes s))

-- the type of texts
abbrev pub text_of : SchemaSpec → NodeSpec
text_of s = node_at s (unwrap_or (place_of (codes "text") (names_of_nodes s)) 0)

-- it has neither attributes nor content
abbrev pub is_plain_text : SchemaSpec → Bool
is_plain_text s = (length (text_of s).attrs == 0) && is_leaf (text_of s)

-- a name is among those seen, or stands before in the list
abbrev pub repeats : List (List ℕ) → List (List ℕ) → Bool
repeats seen [] = false
repeats seen (n ∷ ns) = list_any (bytes_eq n) seen || repeats (seen ++ n ∷ []) ns

-- two types, of nodes or of marks, have one name
abbrev pub has_double_name : SchemaSpec → Bool
has_double_name s = repeats [] (names_of_nodes s ++ names_of_marks s)

-- each name in a text of marks is that of a mark type or of a group of mark types
abbrev pub knows_marks : SchemaSpec → Bool
knows_marks s = list_all (λ n. known_where_given s.marks n.marks) s.nodes && list_all (λ m. known_where_given s.marks m.excludes) s.marks

-- whether each type is inline
abbrev pub inline_table : SchemaSpec → List Bool
inline_table s = map is_inline s.nodes

-- the type's content has an automaton
pub record HasAutomaton (s : SchemaSpec) (k : ℕ) : Type 0 where
  pub pure : Is_fault (node_at s k).content (inline_table s) Mixed → ⊥
  pub narrow : Is_fault (node_at s k).content (inline_table s) TooWide → ⊥

-- that of each type has
abbrev pub HasAutomata : SchemaSpec → Type 0
HasAutomata s = (k : ℕ) → k < length s.nodes → HasAutomaton s k

-- there is a top type, and a type of texts without attributes and content
abbrev pub has_types : SchemaSpec → Bool
has_types s = has_top s && (has_text s && is_plain_text s)

-- names: besides, no two types have one name, and the names of marks are known
pub record IsNamed (s : SchemaSpec) : Type 0 where
  pub types : has_types s ≡ true
  pub differ : has_double_name s ≡ false
  pub marks : knows_marks s ≡ true

-- the first type for which there is no automaton
pub record FirstFault (s : SchemaSpec) (e : AutoError) : Type 0 where
  pub kind : ℕ
  pub inside : kind < length s.nodes
  pub fault : Is_fault (node_at s kind).content (inline_table s) e
  pub before : (j : ℕ) → j < kind → HasAutomaton s j

-- why there is no schema; running out of memory at any time, and never as a fault of content
abbrev pub IsRefused : SchemaSpec → SchemaError → Type 0
IsRefused s NoTop = has_top s ≡ false
IsRefused s NoText = (has_top s ≡ true) × (has_text s ≡ false)
IsRefused s TextAttrs = (has_top s ≡ true) × (has_text s ≡ true) × (is_plain_text s ≡ false)
IsRefused s DoubleName = (has_types s ≡ true) × (has_double_name s ≡ true)
IsRefused s UnknownMark = (has_types s ≡ true) × (has_double_name s ≡ false) × (knows_marks s ≡ false)
IsRefused s (Content Mixed) = IsNamed s × FirstFault s Mixed
IsRefused s (Content TooWide) = IsNamed s × FirstFault s TooWide
IsRefused s (Content auto.NoMemory) = ⊥
IsRefused s (DeadEnd k) = IsNamed s × HasAutomata s × FirstDeadEnd s.nodes k
IsRefused s NoMemory = Unit {0}
