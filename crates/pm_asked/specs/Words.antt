-- The words of lines.
use Rattle.std.specs.Prelude.{ℕ, List, codes, Option, Some, None, if◌then◌else◌}
use Rattle.pm_opjson.specs.declared.kinds.EditKind.{EditKind}
use Rattle.pm_opjson.specs.Words.{says, edit_named}
use Rattle.pm_asked.specs.declared.word.Word.{Word}
use Rattle.pm_asked.specs.declared.word.Word.TheVariants.{Edit, Can, Undo, Redo, UndoEvent, Cursor, Compose, Ask, Take, Doc, State}

-- a word that names no edit
abbrev pub other_named : List ℕ → Option Word
other_named text =
    if says text (codes "can") then Some Can
    else (if says text (codes "undo") then Some Undo
    else (if says text (codes "redo") then Some Redo
    else (if says text (codes "undoevent") then Some UndoEvent
    else (if says text (codes "cursor") then Some Cursor
    else (if says text (codes "compose") then Some Compose
    else (if says text (codes "ask") then Some Ask
    else (if says text (codes "take") then Some Take
    else (if says text (codes "doc") then Some Doc
    else (if says text (codes "state") then Some State
    else None)))))))))

-- the edit, where there is one
abbrev pub edit_or : Option EditKind → Option Word → Option Word
edit_or (Some kind) other = Some (Edit kind)
edit_or None other = other

-- the word of this text
abbrev pub word_named : List ℕ → Option Word
word_named text = edit_or (edit_named text) (other_named text)
