-- The texts that name marks: `marks` of node types and `excludes` of mark types.
use Rattle.std.specs.Prelude.{ℕ, suc, Bool, true, false, not, ◌||◌, ◌==◌, if◌then◌else◌, List, [], ◌∷◌, map, length, Option, Some, None, replicate, slice_set, codes}
use Rattle.std.specs.List.{list_any, list_all, filter, slice_split}
use Rattle.std.specs.Str.{bytes_eq}
use Rattle.pm_auto.specs.declared.expr.Expr.{Expr}
use Rattle.pm_schema.specs.declared.spec.NodeSpec.{NodeSpec}
use Rattle.pm_schema.specs.declared.spec.MarkSpec.{MarkSpec}
use Rattle.pm_schema.specs.declared.spec.SchemaSpec.{SchemaSpec}
use Rattle.pm_schema.specs.Types.{node_at, is_inline}
use Rattle.pm_schema.specs.Contents.{starts}

-- blanks part names: the space, the tab and the ends of lines
abbrev pub is_blank : ℕ → Bool
is_blank b = (b == 32) || ((b == 9) || ((b == 10) || (b == 13)))

-- the names in a text: the pieces between blanks that are not empty
abbrev pub words : List ℕ → List (List ℕ)
words text = filter (λ w. not (length w == 0)) (slice_split is_blank text)

-- a mark type has the name
abbrev pub is_type : List MarkSpec → List ℕ → Bool
is_type marks w = list_any (λ m. bytes_eq w m.name) marks

-- the mark type is in the group
abbrev pub in_group : List ℕ → MarkSpec → Bool
in_group w m = list_any (bytes_eq w) m.groups

-- the name means the mark type: it is its name, or no type's name and that of a group that the type is in
abbrev pub means : List MarkSpec → List ℕ → MarkSpec → Bool
means marks w m = if is_type marks w then bytes_eq w m.name else in_group w m

-- the text is `_` alone, which means all mark types
abbrev pub is_all : List ℕ → Bool
is_all text = bytes_eq (codes "_") text

-- the text names the mark type
abbrev pub names : List MarkSpec → List ℕ → MarkSpec → Bool
names marks text m = is_all text || list_any (λ w. means marks w m) (words text)

-- the name is that of a mark type or of a group of mark types
abbrev pub is_known : List MarkSpec → List ℕ → Bool
is_known marks w = is_type marks w || list_any (in_group w) marks

-- each name in the text is known
abbrev pub all_known : List MarkSpec → List ℕ → Bool
all_known marks text = is_all text || list_all (is_known marks) (words text)

-- those of an absent text are
abbrev pub known_where_given : List MarkSpec → Option (List ℕ) → Bool
known_where_given marks None = true
known_where_given marks (Some text) = all_known marks text

-- the mark types that the text names: for each type whether it does
abbrev pub named_row : List MarkSpec → List ℕ → List Bool
named_row marks text = map (names marks text) marks

-- the k-th type alone
abbrev pub own_row : ℕ → List MarkSpec → List Bool
own_row k marks = slice_set (replicate (length marks) false) k true

-- the mark types that the k-th one excludes: itself where it does not say
abbrev pub excluded_by : List MarkSpec → ℕ → Option (List ℕ) → List Bool
excluded_by marks k None = own_row k marks
excluded_by marks k (Some text) = named_row marks text

abbrev pub excluded_row : List MarkSpec → ℕ → MarkSpec → List Bool
excluded_row marks k m = excluded_by marks k m.excludes

-- the first type is inline
abbrev pub first_is_inline : SchemaSpec → List ℕ → Bool
first_is_inline s [] = false
first_is_inline s (k ∷ ks) = is_inline (node_at s k)

-- the marks that the children of a node of the type may have: where the type does not say, all in inline content and none
-- in other content
abbrev pub allowed_by : SchemaSpec → Expr → Option (List ℕ) → List Bool
allowed_by s e None = replicate (length s.marks) (first_is_inline s (starts e))
allowed_by s e (Some text) = named_row s.marks text

abbrev pub allowed_row : SchemaSpec → NodeSpec → List Bool
allowed_row s n = allowed_by s n.content n.marks

-- the mark types that each one excludes, from the k-th on
abbrev pub excluded_rows : List MarkSpec → ℕ → List MarkSpec → List (List Bool)
excluded_rows marks k [] = []
excluded_rows marks k (m ∷ ms) = excluded_row marks k m ∷ excluded_rows marks (suc k) ms

-- a row for each mark type: which types it excludes
abbrev pub exclude_table : SchemaSpec → List (List Bool)
exclude_table s = excluded_rows s.marks 0 s.marks
