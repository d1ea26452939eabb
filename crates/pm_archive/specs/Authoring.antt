-- Who put the tokens of a document in, as a line tells it.
use Rattle.std.specs.Prelude.{ℕ, nat_lt, Bool, true, false, List, [], ◌∷◌, ◌++◌, codes, decimal, Option, Some, None, if◌then◌else◌}
use Rattle.serde_json.specs.Written.{comma_if}
use Rattle.pm_tokens.specs.Tokens.{Doc as Document}
use Rattle.pm_meaning.specs.Steps.{Step}
use Rattle.pm_apply.specs.Changes.{meaning}
use Rattle.pm_authority.specs.declared.named.Named.{Named}
use Rattle.pm_authors.specs.declared.run.Run.{Run}
use Rattle.pm_authors.specs.Runs.{Author, grouped}
use Rattle.pm_authors.specs.Authors.{authors_of}
use Rattle.pm_talk.specs.Ids.{id_at}
use Rattle.pm_talk.specs.Texts.{version_text}
use Rattle.pm_talk.specs.Live.{version_end}

-- so many tokens, with the ID of the client that put them in and the version at which the document first had them; without both
-- where they were there before
abbrev pub authored_text : List (List ℕ) → ℕ → Author → List ℕ
authored_text ids size None = codes "{\"size\":" ++ (decimal size ++ codes "}")
authored_text ids size (Some name) =
    codes "{\"clientID\":" ++ (id_at ids name.client
    ++ (codes ",\"size\":" ++ (decimal size ++ (codes ",\"version\":" ++ (decimal name.serial ++ codes "}")))))

abbrev pub run_text : List (List ℕ) → Run → List ℕ
run_text ids r = authored_text ids r.count r.author

-- runs, up to the end of their list
abbrev pub run_items : Bool → List (List ℕ) → List Run → List ℕ
run_items later ids [] = codes "]"
run_items later ids (r ∷ rs) = comma_if later ++ (run_text ids r ++ run_items true ids rs)

-- the runs of the document at this version
abbrev pub authors_text : List (List ℕ) → List Run → ℕ → List ℕ
authors_text ids runs version = codes "{\"authors\":[" ++ (run_items false ids runs ++ version_end version)

-- those that these entries lead to from this document
abbrev pub led_authors_text : ℕ → List (List ℕ) → List (Named Step) → Option Document → List ℕ
led_authors_text last ids entries (Some doc) = authors_text ids (grouped (authors_of meaning entries (meaning.size doc))) last
led_authors_text last ids entries None = []

-- the same from a version on, which may not be past the document's, which is `last`
abbrev pub since_authors_text : ℕ → ℕ → List (List ℕ) → List (Named Step) → Option Document → List ℕ
since_authors_text last from ids entries doc =
    if nat_lt last from then version_text last else led_authors_text last ids entries doc
