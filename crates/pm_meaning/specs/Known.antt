-- What a schema knows of a step: the types, attributes and marks that no result shows.
use Rattle.std.specs.Prelude.{Bool, true, false, ◌&&◌, not, ◌==◌, take}
use Rattle.std.specs.List.{list_all}
use Rattle.pm_marks.specs.declared.mark.Mark.{Mark}
use Rattle.pm_tokens.specs.Tokens.{Attrs, Token, Open}
use Rattle.pm_tokens.specs.Marks.{is_set, have_attrs}
use Rattle.pm_tokens.specs.Schemas.{Schema, node_attrs, mark_attrs}
use Rattle.pm_tokens.specs.Slices.{Slice}
use Rattle.pm_meaning.specs.Steps.{Step, Replace, ReplaceAround, AddMark, RemoveMark, AddNodeMark, RemoveNodeMark, Attr, DocAttr}

-- a mark of a type of the schema, with the attributes that it declares
abbrev pub knows_mark : Schema → Mark Attrs → Bool
knows_mark s m = mark_attrs s m.kind m.attrs

-- An open of a type of the schema that is no leaf and not text, with the attributes that it declares. Its marks are a set, and
-- each is of the schema.
abbrev pub knows_open : Schema → Token → Bool
knows_open s (Open k a m) = node_attrs s k a && (not (k == s.text) && not (s.is_leaf k)) && (have_attrs s m && is_set s m)
knows_open s _ = false

-- The nodes that are open at the slice's start, whose opens are not among its own tokens, so that no document shows them.
abbrev pub knows_slice : Schema → Slice → Bool
knows_slice s sl = list_all (knows_open s) (take sl.open_start sl.content)

-- The step's mark is of the schema, and so are the nodes that are open at the start of its slice. An attribute and its value
-- show in the result.
abbrev pub knows_step : Schema → Step → Bool
knows_step s (Replace from to sl structure) = knows_slice s sl
knows_step s (ReplaceAround from to gap_from gap_to sl insert structure) = knows_slice s sl
knows_step s (AddMark from to mark) = knows_mark s mark
knows_step s (RemoveMark from to mark) = knows_mark s mark
knows_step s (AddNodeMark pos mark) = knows_mark s mark
knows_step s (RemoveNodeMark pos mark) = knows_mark s mark
knows_step s (Attr pos name value) = true
knows_step s (DocAttr name value) = true
