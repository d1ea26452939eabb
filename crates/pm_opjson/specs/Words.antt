-- The words of edits.
use Rattle.std.specs.Prelude.{ℕ, nat_eq, Bool, List, codes, Option, Some, None, if◌then◌else◌}
use Rattle.std.specs.Cmp.Lexicographic.{pointwise}
use Rattle.pm_opjson.specs.declared.kinds.EditKind.{EditKind}
use Rattle.pm_opjson.specs.declared.kinds.EditKind.TheVariants as kind

-- the text is this word
abbrev pub says : List ℕ → List ℕ → Bool
says text word = pointwise nat_eq text word

-- the edit of this word
abbrev pub edit_named : List ℕ → Option EditKind
edit_named text =
    if says text (codes "step") then Some kind.Step
    else (if says text (codes "text") then Some kind.Text
    else (if says text (codes "delete") then Some kind.Delete
    else (if says text (codes "paste") then Some kind.Paste
    else (if says text (codes "insert") then Some kind.Insert
    else (if says text (codes "split") then Some kind.Split
    else (if says text (codes "join") then Some kind.Join
    else (if says text (codes "wrap") then Some kind.Wrap
    else (if says text (codes "lift") then Some kind.Lift
    else (if says text (codes "settype") then Some kind.SetType
    else (if says text (codes "addmark") then Some kind.AddMark
    else (if says text (codes "removemark") then Some kind.RemoveMark
    else (if says text (codes "attr") then Some kind.Attr
    else (if says text (codes "docattr") then Some kind.DocAttr
    else None)))))))))))))
