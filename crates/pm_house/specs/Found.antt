-- Documents and schemas found by their names.
use Rattle.std.specs.Prelude.{ℕ, List, map, Option}
use Rattle.std.specs.List.{find}
use Rattle.std.specs.Str.{bytes_eq}
use Rattle.pm_archive.specs.declared.archive.Archive.{Archive}
use Rattle.pm_house.specs.declared.kind.Kind.{Kind}

-- the names of documents
abbrev pub names_of : List Archive → List (List ℕ)
names_of archives = map (λ a. a.name) archives

-- the document with this name
abbrev pub archive_of : List ℕ → List Archive → Option Archive
archive_of name archives = find (λ a. bytes_eq name a.name) archives

-- the schema under this name
abbrev pub kind_of : List ℕ → List Kind → Option Kind
kind_of name kinds = find (λ k. bytes_eq name k.name) kinds
