-- The words of lines.
use Rattle.std.specs.Prelude.{ℕ, List, codes, Option, Some, None, Result, if◌then◌else◌}
use Rattle.serde_json.specs.Data.{Data}
use Rattle.pm_list.specs.Readings.{◌>>=◌, or_fault}
use Rattle.pm_head.specs.declared.code.Code.{Code}
use Rattle.pm_head.specs.declared.code.Code.TheVariants.{UnknownName}
use Rattle.pm_opjson.specs.Words.{says}
use Rattle.pm_opjson.specs.Fields.{text_in}
use Rattle.pm_order.specs.declared.word.Word.{Word}
use Rattle.pm_order.specs.declared.word.Word.TheVariants.{Schema, Open, Close, Documents, Statistics, In}
use Rattle.pm_order.specs.declared.word.DocWord.{DocWord}
use Rattle.pm_order.specs.declared.word.DocWord.TheVariants as doc

-- what is asked of one document
abbrev pub doc_word_named : List ℕ → Option DocWord
doc_word_named text =
    if says text (codes "submit") then Some doc.Submit
    else (if says text (codes "since") then Some doc.Since
    else (if says text (codes "doc") then Some doc.Doc
    else (if says text (codes "forget") then Some doc.Forget
    else (if says text (codes "map") then Some doc.Map
    else (if says text (codes "revert") then Some doc.Revert
    else (if says text (codes "edit") then Some doc.Edit
    else (if says text (codes "authors") then Some doc.Authors
    else None)))))))

abbrev pub within : Option DocWord → Option Word
within (Some word) = Some (In word)
within None = None

-- the word of this text
abbrev pub word_named : List ℕ → Option Word
word_named text =
    if says text (codes "schema") then Some Schema
    else (if says text (codes "open") then Some Open
    else (if says text (codes "close") then Some Close
    else (if says text (codes "documents") then Some Documents
    else (if says text (codes "statistics") then Some Statistics
    else within (doc_word_named text)))))

-- the word that `op` says
abbrev pub word_in : Data → Result Word Code
word_in d = text_in (codes "op") d >>= (λ text. or_fault UnknownName (word_named text))
