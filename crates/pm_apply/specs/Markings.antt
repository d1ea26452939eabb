-- What mark steps do to the marks of tokens.
use Rattle.std.specs.Prelude.{ℕ, ◌<◌, Bool, ◌&&◌, cond, List, [], ◌∷◌, ◌++◌, take, drop}
use Rattle.pm_tokens.specs.Tokens.{Marks, Token, Open, Close, Leaf, CodeUnit}
use Rattle.pm_tokens.specs.Scan.{unclosed, part}
use Rattle.pm_tokens.specs.Schemas.{Schema}
use Rattle.pm_meaning.specs.Marked.{add, remove, takes_marks, is_inline_token, with_marks, starts_node}
use Rattle.pm_step.specs.declared.marking.Marking.{Marking}
use Rattle.pm_step.specs.declared.marking.Marking.TheVariants.{Add, Remove}
use Rattle.pm_apply.specs.declared.marking.Sort.{Sort}
use Rattle.pm_apply.specs.declared.marking.Reach.{Reach}
use Rattle.pm_apply.specs.declared.marking.Reach.TheVariants.{Inline, Nodes}

-- a set of marks with the mark added, or without it
abbrev pub changed : Schema → Marking → Marks → Marks
changed s (Add m) old = add s m old
changed s (Remove m) old = remove m old

-- Whether a token under a parent of the type is changed. takes: the token takes marks; inline: it is inline; node: it is an open
-- or a leaf.
abbrev pub acts : Schema → Marking → Reach → (takes inline node : Bool) → ℕ → Bool
acts s (Add m) Inline takes inline node parent = takes && s.allows parent m.kind
acts s (Remove m) Inline takes inline node parent = inline
acts s marking Nodes takes inline node parent = node

-- the marks that come of the marks of a token of this sort
abbrev pub sort_marks : Schema → Marking → Reach → Sort → ℕ → Marks → Marks
sort_marks s marking reach sort parent old = cond (acts s marking reach sort.takes sort.inline sort.node parent) (changed s marking old) old

-- the same for a token
abbrev pub new_marks : Schema → Marking → Reach → ℕ → Token → Marks → Marks
new_marks s marking reach parent t old =
    cond (acts s marking reach (takes_marks s t) (is_inline_token s t) (starts_node (t ∷ [])) parent) (changed s marking old) old

-- the tokens with the marks in from..to changed, under open nodes of these types
abbrev pub marked_in : (ℕ → Token → Marks → Marks) → List ℕ → ℕ → ℕ → List Token → List Token
marked_in f ps from to ts = take from ts ++ (with_marks f (unclosed ps (take from ts)) (part from to ts) ++ drop to ts)

-- each open is of a type that the schema has
abbrev pub AreKnown : ℕ → List Token → Type 0
AreKnown count [] = Unit {0}
AreKnown count (Open k a m ∷ ts) = (k < count) × AreKnown count ts
AreKnown count (Close ∷ ts) = AreKnown count ts
AreKnown count (Leaf k a m ∷ ts) = (k < count) × AreKnown count ts
AreKnown count (CodeUnit u m ∷ ts) = AreKnown count ts
