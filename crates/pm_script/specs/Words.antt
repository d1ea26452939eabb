-- The words of op lines: those of edits, and the others.
use Rattle.std.specs.Prelude.{ℕ, nat_lt, Bool, true, false, not, ◌&&◌, List, codes, Option, Some, None, if◌then◌else◌}
use Rattle.pm_head.specs.declared.form.Form.{Form}
use Rattle.pm_head.specs.declared.form.Form.TheVariants.{Plain, Late}
use Rattle.pm_opjson.specs.declared.kinds.EditKind.{EditKind}
use Rattle.pm_opjson.specs.Words.{says, edit_named}
use Rattle.pm_script.specs.declared.word.TheConstants.{MAX_CURSORS}
use Rattle.pm_script.specs.declared.word.Word.{Word}
use Rattle.pm_script.specs.declared.word.Word.TheVariants.{Edit, Undo, Redo, UndoEvent, Cursor, Submit, Ask, Present, Take, Push, Pull, Forge, Enter}

-- a word by which a client brings its steps to the authority, or takes others' steps from it
abbrev pub exchange_named : List ℕ → Option Word
exchange_named text =
    if says text (codes "submit") then Some Submit
    else (if says text (codes "ask") then Some Ask
    else (if says text (codes "present") then Some Present
    else (if says text (codes "take") then Some Take
    else (if says text (codes "push") then Some Push
    else (if says text (codes "pull") then Some Pull
    else (if says text (codes "forge") then Some Forge
    else None))))))

-- the edit, where the text names one, else the other word that it is
abbrev pub or_word : Option EditKind → Option Word → Option Word
or_word None other = other
or_word (Some edit) other = Some (Edit edit)

-- `enter` is a word where clients may come late.
abbrev pub says_enter : Form → List ℕ → Bool
says_enter Plain text = false
says_enter Late text = says text (codes "enter")

abbrev pub word_named : Form → List ℕ → Option Word
word_named form text =
    or_word (edit_named text)
    (if says text (codes "undo") then Some Undo
    else (if says text (codes "redo") then Some Redo
    else (if says text (codes "undoevent") then Some UndoEvent
    else (if says text (codes "cursor") then Some Cursor
    else (if says_enter form text then Some Enter
    else exchange_named text)))))

-- A raw client's line may say `forge` alone. A line of an editor may say every other word, and `cursor` where fewer than 64
-- earlier lines of the client do. Who may say `enter` is decided after that.
abbrev pub may_say : Bool → ℕ → Word → Bool
may_say raw cursors (Edit edit) = not raw
may_say raw cursors Undo = not raw
may_say raw cursors Redo = not raw
may_say raw cursors UndoEvent = not raw
may_say raw cursors Cursor = not raw && nat_lt cursors MAX_CURSORS
may_say raw cursors Submit = not raw
may_say raw cursors Ask = not raw
may_say raw cursors Present = not raw
may_say raw cursors Take = not raw
may_say raw cursors Push = not raw
may_say raw cursors Pull = not raw
may_say raw cursors Forge = raw
may_say raw cursors Enter = true

-- A line on which its client is due to enter says `enter`, and no other line does.
abbrev pub in_turn : Bool → Word → Bool
in_turn due Enter = due
in_turn due (Edit edit) = not due
in_turn due Undo = not due
in_turn due Redo = not due
in_turn due UndoEvent = not due
in_turn due Cursor = not due
in_turn due Submit = not due
in_turn due Ask = not due
in_turn due Present = not due
in_turn due Take = not due
in_turn due Push = not due
in_turn due Pull = not due
in_turn due Forge = not due
