-- A document with its log.
use Rattle.std.specs.Prelude.{ℕ, ◌+◌, List, [], length}
use Rattle.pm_tokens.specs.Tokens.{Doc as Document}
use Rattle.pm_schema.specs.declared.schema.Schema.{Schema}
use Rattle.pm_apply.specs.Changes.{meaning}
use Rattle.pm_authority.specs.Kept.{IsKept}
use Rattle.pm_talk.specs.Live.{LiveAuthority}
use Rattle.pm_archive.specs.declared.archive.Archive.{Archive}

-- the authority of the document from the first kept version on
abbrev pub authority_of : Archive → LiveAuthority
authority_of a = record { first = a.first; doc = a.doc; log = a.log }

-- the number of all steps that were ever accepted
abbrev pub version_of : Archive → ℕ
version_of a = a.from + length a.log

-- Both documents are valid, and the log's steps apply one after another to the first and give the other.
abbrev pub IsArchive : Archive → Type 0
IsArchive a = IsKept meaning a.schema (authority_of a)

-- a document of this name whose log begins at this version, and is empty, with the IDs of the clients that came before
abbrev pub opened : List ℕ → List ℕ → Schema → ℕ → Document → List (List ℕ) → Archive
opened name kind s version doc ids =
    record { name = name; kind = kind; schema = s; from = version; first = doc; doc = doc; log = []; ids = ids }

-- the same with what this authority has, and these IDs
abbrev pub with_authority : Archive → LiveAuthority → List (List ℕ) → Archive
with_authority a next ids =
    record { name = a.name; kind = a.kind; schema = a.schema; from = a.from; first = next.first; doc = next.doc; log = next.log; ids = ids }
