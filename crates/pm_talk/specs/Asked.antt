-- What a line asks. `op` is read first, and then the other fields in the order in which they stand here.
use Rattle.std.specs.Prelude.{ℕ, List, codes, Option, Some, None, Result, Ok, if◌then◌else◌}
use Rattle.serde_json.specs.Data.{Data}
use Rattle.pm_list.specs.Readings.{◌>>=◌, or_fault}
use Rattle.pm_schema.specs.declared.spec.SchemaSpec.{SchemaSpec}
use Rattle.pm_head.specs.declared.code.Code.{Code}
use Rattle.pm_docjson.specs.Fields.{field}
use Rattle.pm_slicejson.specs.Numbers.{as_count}
use Rattle.pm_head.specs.declared.code.Code.TheVariants.{WrongShape, UnknownName}
use Rattle.pm_head.specs.Lines.{json_line}
use Rattle.pm_talk.specs.declared.asked.Asked.{Asked}
use Rattle.pm_talk.specs.declared.asked.Asked.TheVariants.{Submit, Since, Doc}
use Rattle.pm_talk.specs.declared.asked.Word.{Word}
use Rattle.pm_talk.specs.declared.asked.Word.TheVariants as word
use Rattle.pm_opjson.specs.Words.{says}
use Rattle.pm_opjson.specs.Fields.{text_in, number_in}
use Rattle.pm_opjson.specs.Parts.{steps_in}
use Rattle.pm_talk.specs.Fields.{id_in}

-- the word of this text
abbrev pub word_named : List ℕ → Option Word
word_named text =
    if says text (codes "submit") then Some word.Submit
    else (if says text (codes "since") then Some word.Since
    else (if says text (codes "doc") then Some word.Doc
    else None))

abbrev pub word_in : Data → Result Word Code
word_in d = text_in (codes "op") d >>= (λ text. or_fault UnknownName (word_named text))

-- how many entries are asked for at most; all where nothing is said
abbrev pub most_of : Option Data → Result (Option ℕ) Code
most_of None = Ok None
most_of (Some d) = or_fault WrongShape (as_count d) >>= (λ n. Ok (Some n))

abbrev pub most_in : Data → Result (Option ℕ) Code
most_in d = most_of (field (codes "most") d)

-- `since`: a version, and how many entries at most
unfoldable pub since_in : Data → Result Asked Code
since_in d = do
  version ← number_in (codes "version") d
  most ← most_in d
  Ok (Since version most)

module _ (s : SchemaSpec) where
  -- `submit`: a version, the client's ID, and the steps
  unfoldable pub submit_in : Data → Result Asked Code
  submit_in d = do
    version ← number_in (codes "version") d
    id ← id_in d
    steps ← steps_in s d
    Ok (Submit version id steps)

  -- what the word asks
  abbrev pub asks : Word → Data → Result Asked Code
  asks word.Submit d = submit_in d
  asks word.Since d = since_in d
  asks word.Doc d = Ok Doc

  unfoldable pub asked_of : Data → Result Asked Code
  asked_of d = word_in d >>= (λ word. asks word d)

  -- what a line asks, or the code of its first fault
  unfoldable pub asked_line : List ℕ → Result Asked Code
  asked_line line = json_line line >>= asked_of
