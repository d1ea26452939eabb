-- The texts of answers that pm_talk has not: each a line of compact JSON, whose keys stand in byte order.
use Rattle.std.specs.Prelude.{ℕ, Bool, true, false, List, ◌++◌, length, codes, decimal}
use Rattle.pm_schema.specs.declared.spec.SchemaSpec.{SchemaSpec}
use Rattle.pm_meaning.specs.Steps.{Step}
use Rattle.pm_told.specs.Texts.{changes_text}

-- how many tokens the document's content has, and its version
abbrev pub opened_text : ℕ → ℕ → List ℕ
opened_text size version = codes "{\"size\":" ++ (decimal size ++ (codes ",\"version\":" ++ (decimal version ++ codes "}\n")))

-- what lies before this version was let go
abbrev pub from_text : ℕ → List ℕ
from_text from = codes "{\"from\":" ++ (decimal from ++ codes "}\n")

abbrev pub truth_text : Bool → List ℕ
truth_text true = codes "true"
truth_text false = codes "false"

-- These steps, which take entries back, stand in the log from this version on, and the later entries lie apart or not.
abbrev pub reverted_text : SchemaSpec → ℕ → Bool → List Step → List ℕ
reverted_text s version apart steps =
    codes "{\"accepted\":{\"count\":" ++ (decimal (length steps) ++ (codes ",\"from\":" ++ (decimal version
    ++ (codes "},\"apart\":" ++ (truth_text apart ++ (codes ",\"steps\":" ++ (changes_text s steps ++ codes "}\n")))))))

-- The steps of an edit stand in the log from this version on.
abbrev pub edited_text : SchemaSpec → ℕ → List Step → List ℕ
edited_text s version steps =
    codes "{\"accepted\":{\"count\":" ++ (decimal (length steps) ++ (codes ",\"from\":" ++ (decimal version
    ++ (codes "},\"steps\":" ++ (changes_text s steps ++ codes "}\n")))))
