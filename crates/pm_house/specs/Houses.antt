-- The house.
use Rattle.std.specs.Prelude.{List, [], ◌∷◌, ◌++◌, All}
use Rattle.pm_archive.specs.declared.archive.Archive.{Archive}
use Rattle.pm_archive.specs.Archives.{IsArchive}
use Rattle.pm_house.specs.declared.kind.Kind.{Kind}
use Rattle.pm_house.specs.declared.house.House.{House}

-- Of each document both documents are valid, and the log leads from one to the other.
abbrev pub IsGood : House → Type 0
IsGood h = All IsArchive h.documents

-- no schemas and no documents
abbrev pub empty : House
empty = record { schemas = []; documents = [] }

-- the house with these documents
abbrev pub with_documents : House → List Archive → House
with_documents h archives = record { schemas = h.schemas; documents = archives }

-- the house with one document more
abbrev pub with_document : House → Archive → House
with_document h a = with_documents h (h.documents ++ a ∷ [])

-- the house with one schema more
abbrev pub with_schema : House → Kind → House
with_schema h k = record { schemas = h.schemas ++ k ∷ []; documents = h.documents }
