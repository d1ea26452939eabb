-- Talks that were opened: a schema, a document, and what holds of the lines after them.
use Rattle.std.specs.Prelude.{◌≡◌, ℕ, List, [], ◌∷◌, ◌++◌, length, Ok}
use Rattle.pm_tokens.specs.Tokens.{Doc as Document}
use Rattle.pm_schema.specs.declared.schema.Schema.{Schema}
use Rattle.pm_head.specs.Schemas.{SchemaLine}
use Rattle.pm_head.specs.Documents.{DocLine}
use Rattle.pm_serve.specs.Serves.{Answers}
use Rattle.pm_talk.specs.declared.live.Live.{Live}
use Rattle.pm_talk.specs.Texts.{no_memory, opened_text}
use Rattle.pm_talk.specs.declared.talk.Talk.{Talk}
use Rattle.pm_talk.specs.declared.talk.Talk.TheVariants.{AwaitsSchema, Open}
use Rattle.pm_talk.specs.Talk.{opened, Replies, last_text}
use Rattle.pm_talk.specs.Lines.{IsTalk}

-- what is written for lines for which there was no memory
abbrev pub lost_text : List (List ℕ) → List ℕ
lost_text [] = []
lost_text (line ∷ lines) = no_memory ++ lost_text lines

-- The first line for which there was memory is a schema, the next one a document, and the others are answered by the authority
-- that they open. What is written is, after what is said of lines without memory, the document's size, and then their answers.
pub record IsOpened (lines : List (List ℕ)) (out : List ℕ) (end : Talk) : Type 0 where
  pub schema : Schema
  pub doc : Document
  pub before : List (List ℕ)
  pub first : List ℕ
  pub between : List (List ℕ)
  pub second : List ℕ
  pub later : List (List ℕ)
  pub rest : List ℕ
  pub split : lines ≡ before ++ first ∷ (between ++ second ∷ later)
  pub is_schema : SchemaLine first (Ok schema)
  pub is_document : DocLine schema second (Ok doc)
  pub written : out ≡ lost_text before ++ (lost_text between ++ (opened_text (length doc.tokens) ++ rest))
  pub talk : IsTalk (opened schema doc) later rest end

-- so it is of all lines that are answered from the awaited schema on, after which the authority stands
abbrev pub AllOpened : Type 0
AllOpened =
    (lines : List (List ℕ)) (out : List ℕ) (live : Live) → Answers Replies last_text no_memory AwaitsSchema lines out (Open live)
    → IsOpened lines out (Open live)
