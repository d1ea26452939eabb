-- The texts of the house's own answers: each a line of compact JSON, whose keys stand in byte order. Names have no character that
-- JSON escapes.
use Rattle.std.specs.Prelude.{ℕ, Bool, true, false, List, [], ◌∷◌, ◌++◌, length, fold, codes, decimal}
use Rattle.serde_json.specs.Written.{comma_if}
use Rattle.pm_talk.specs.Work.{up_to}
use Rattle.pm_archive.specs.declared.archive.Archive.{Archive}
use Rattle.pm_archive.specs.Archives.{version_of}
use Rattle.pm_house.specs.declared.texts.Lack.{Lack}
use Rattle.pm_house.specs.declared.texts.Lack.TheVariants.{Document, Schema, Closed, Room}

-- there is none of it
abbrev pub lack_text : Lack → List ℕ
lack_text Document = codes "{\"none\":\"document\"}\n"
lack_text Schema = codes "{\"none\":\"schema\"}\n"
lack_text Closed = codes "{\"none\":\"closed\"}\n"
lack_text Room = codes "{\"none\":\"room\"}\n"

-- a schema has this name
abbrev pub named_text : List ℕ → List ℕ
named_text name = codes "{\"schema\":\"" ++ (name ++ codes "\"}\n")

-- the document of this name is closed
abbrev pub closed_text : List ℕ → List ℕ
closed_text name = codes "{\"closed\":\"" ++ (name ++ codes "\"}\n")

-- a document: its first kept version, its name and its schema's,
abbrev pub row_front : ℕ → List ℕ → List ℕ → List ℕ
row_front from name kind = codes "{\"from\":" ++ (decimal from ++ (codes ",\"in\":\"" ++ (name ++ (codes "\",\"schema\":\"" ++ (kind ++ codes "\",")))))

-- its size and its version
abbrev pub row_end : ℕ → ℕ → List ℕ
row_end size version = codes "\"size\":" ++ (decimal size ++ (codes ",\"version\":" ++ (decimal version ++ codes "}")))

unfoldable pub row_text : Archive → List ℕ
row_text a = row_front a.from a.name a.kind ++ row_end (length a.doc.tokens) (version_of a)

-- documents, up to the end of the list
abbrev pub row_items : Bool → List Archive → List ℕ
row_items later [] = codes "]}\n"
row_items later (a ∷ rest) = comma_if later ++ (row_text a ++ row_items true rest)

-- all documents
abbrev pub documents_text : List Archive → List ℕ
documents_text archives = codes "{\"documents\":[" ++ row_items false archives

-- how many entries of logs are kept, and how many tokens the documents have; the sums stand still at 2^64 - 1
abbrev pub entries_in : List Archive → ℕ
entries_in archives = fold (λ sum a. up_to sum (length a.log)) 0 archives

abbrev pub tokens_in : List Archive → ℕ
tokens_in archives = fold (λ sum a. up_to sum (length a.doc.tokens)) 0 archives

-- how many documents, entries, schemas and tokens there are
abbrev pub statistics_text : ℕ → List Archive → List ℕ
statistics_text schemas archives =
    codes "{\"documents\":" ++ (decimal (length archives) ++ (codes ",\"entries\":" ++ (decimal (entries_in archives)
    ++ (codes ",\"schemas\":" ++ (decimal schemas ++ (codes ",\"tokens\":" ++ (decimal (tokens_in archives) ++ codes "}\n")))))))
