-- The lines behind which a document stands as it is: one that opens it at its first kept version, and one for each entry of its log.
-- Names have no character that JSON escapes, and IDs are JSON texts.
use Rattle.std.specs.Prelude.{ℕ, ◌+◌, Bool, true, false, List, [], ◌∷◌, ◌++◌, codes, decimal}
use Rattle.serde_json.specs.Written.{comma_if}
use Rattle.pm_tokens.specs.Tokens.{Doc as Document}
use Rattle.pm_schema.specs.declared.spec.SchemaSpec.{SchemaSpec}
use Rattle.pm_meaning.specs.Steps.{Step}
use Rattle.pm_authority.specs.declared.named.Named.{Named}
use Rattle.pm_talk.specs.Ids.{id_at}
use Rattle.pm_archive.specs.declared.archive.Archive.{Archive}
use Rattle.pm_archive.specs.Same.{doc_json, step_json}

-- IDs, up to the end of their list
abbrev pub all_ids : Bool → List (List ℕ) → List ℕ
all_ids later [] = codes "]"
all_ids later (id ∷ ids) = comma_if later ++ (id ++ all_ids true ids)

-- what opens a document of this name and schema at this version, up to its IDs
abbrev pub open_front : List ℕ → List ℕ → ℕ → List ℕ
open_front name kind from =
    codes "{\"op\":\"open\",\"in\":\"" ++ (name ++ (codes "\",\"schema\":\"" ++ (kind ++ (codes "\",\"version\":" ++ (decimal from ++ codes ",\"clientIDs\":[")))))

-- the document is opened as it was at its first kept version, with the IDs of its clients
unfoldable pub open_line : Archive → List ℕ
open_line a =
    open_front a.name a.kind a.from ++ (all_ids false a.ids ++ (codes ",\"doc\":" ++ (doc_json a.schema.spec a.first ++ codes "}\n")))

-- what submits a step of this client at this version, up to the step
abbrev pub submit_front : List ℕ → ℕ → List ℕ → List ℕ
submit_front name version id =
    codes "{\"op\":\"submit\",\"in\":\"" ++ (name ++ (codes "\",\"version\":" ++ (decimal version ++ (codes ",\"clientID\":" ++ (id ++ codes ",\"steps\":[")))))

-- this entry of the log is submitted at this version
abbrev pub submit_line : SchemaSpec → List ℕ → List (List ℕ) → ℕ → Named Step → List ℕ
submit_line s name ids version entry =
    submit_front name version (id_at ids entry.name.client) ++ (step_json s entry.change ++ codes "]}\n")

-- entries one after another, the first of them at this version
abbrev pub submit_lines : SchemaSpec → List ℕ → List (List ℕ) → ℕ → List (Named Step) → List ℕ
submit_lines s name ids version [] = []
submit_lines s name ids version (entry ∷ entries) = submit_line s name ids version entry ++ submit_lines s name ids (version + 1) entries

unfoldable pub archive_lines : Archive → List ℕ
archive_lines a = open_line a ++ submit_lines a.schema.spec a.name a.ids a.from a.log
