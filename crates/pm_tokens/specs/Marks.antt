-- Sets of marks whose attributes are lists of values.
use Rattle.std.specs.Prelude.{ℕ, Bool, true, ◌&&◌, [], ◌∷◌}
use Rattle.pm_attrs.specs.Attrs.{same_attrs}
use Rattle.pm_marks.specs.Sets.{same_marks, all_added}
use Rattle.pm_tokens.specs.Tokens.{Marks}
use Rattle.pm_tokens.specs.Schemas.{Schema, mark_attrs}

-- adding the marks in order to the empty set gives them back
abbrev pub is_set : Schema → Marks → Bool
is_set s ms = same_marks same_attrs (all_added same_attrs s.excludes [] ms) ms

-- the parent's type allows each of the marks
abbrev pub are_allowed : Schema → ℕ → Marks → Bool
are_allowed s parent [] = true
are_allowed s parent (m ∷ ms) = s.allows parent m.kind && are_allowed s parent ms

-- each mark has the attributes of its type
abbrev pub have_attrs : Schema → Marks → Bool
have_attrs s [] = true
have_attrs s (m ∷ ms) = mark_attrs s m.kind m.attrs && have_attrs s ms
