-- What a client does when it has its turn, by numbers drawn one after another.
use Rattle.std.specs.Prelude.{ℕ, ◌+◌, ◌<◌, false, not, ◌==◌, nat_le, if◌then◌else◌}
use Rattle.pm_gen.specs.declared.turns.Turn.{Turn}
use Rattle.pm_gen.specs.declared.turns.Turn.TheVariants.{Text, Delete, Split, AddMark, Undo, Redo, Push, Pull}
use Rattle.pm_gen.specs.Draws.{next, draw}

-- a letter is one of ASCII
abbrev pub IsTyped : Turn → Type 0
IsTyped (Text at letter) = letter < 128
IsTyped (Delete from to) = Unit {0}
IsTyped (Split at) = Unit {0}
IsTyped (AddMark from to strong) = Unit {0}
IsTyped Undo = Unit {0}
IsTyped Redo = Unit {0}
IsTyped (Push lost) = Unit {0}
IsTyped Pull = Unit {0}

-- one letter is typed; `x` is the number before its draws
abbrev pub typing : ℕ → Turn
typing x = Text (1 + draw 30 x) (97 + draw 26 (next x))

-- one to three units are deleted
abbrev pub deleting : ℕ → Turn
deleting x = Delete (1 + draw 30 x) (1 + draw 30 x + 1 + draw 3 (next x))

abbrev pub splitting : ℕ → Turn
splitting x = Split (1 + draw 30 x)

-- one to five units become em or strong
abbrev pub marking : ℕ → Turn
marking x = AddMark (1 + draw 30 x) (1 + draw 30 x + 1 + draw 5 (next x)) (not (draw 2 (next (next x)) == 0))

-- a push whose answer may be lost
abbrev pub losing : ℕ → Turn
losing x = Push (draw 2 x == 0)

-- what a number below 16 stands for, where `x` is the number after its draw
unfoldable pub chosen : ℕ → ℕ → Turn
chosen k x =
    if nat_le k 5 then typing x
    else (if nat_le k 7 then deleting x
    else (if nat_le k 8 then splitting x
    else (if nat_le k 9 then marking x
    else (if nat_le k 10 then Undo
    else (if nat_le k 11 then Redo
    else (if nat_le k 13 then Push false
    else (if nat_le k 14 then Pull
    else losing x)))))))

-- the number after all its draws
unfoldable pub behind : ℕ → ℕ → ℕ
behind k x =
    if nat_le k 7 then next (next x)
    else (if nat_le k 8 then next x
    else (if nat_le k 9 then next (next (next x))
    else (if nat_le k 14 then x
    else next x)))

-- what the client does that has its turn where the number is x
abbrev pub turn_at : ℕ → Turn
turn_at x = chosen (draw 16 x) (next x)

-- the number that the next turn begins with
abbrev pub after_turn : ℕ → ℕ
after_turn x = behind (draw 16 x) (next x)
