-- Houses that are the same.
use Rattle.std.specs.Prelude.{Bool, ◌&&◌}
use Rattle.std.specs.Str.{bytes_eq}
use Rattle.std.specs.Cmp.Lexicographic.{pointwise}
use Rattle.pm_archive.specs.Same.{same_archive}
use Rattle.pm_house.specs.declared.kind.Kind.{Kind}
use Rattle.pm_house.specs.declared.house.House.{House}

-- a schema by the same name and the same text
abbrev pub same_kind : Kind → Kind → Bool
same_kind k l = bytes_eq k.name l.name && bytes_eq k.text l.text

-- the same schemas in the same order, and the same documents in the same order
abbrev pub same_house : House → House → Bool
same_house h i = pointwise same_kind h.schemas i.schemas && pointwise same_archive h.documents i.documents
