-- The names of the eight kinds of steps.
use Rattle.std.specs.Prelude.{ℕ, List, codes, Option, Some, None, if◌then◌else◌}
use Rattle.std.specs.Str.{bytes_eq}
use Rattle.pm_stepjson.specs.declared.kind.Kind.{Kind}
use Rattle.pm_stepjson.specs.declared.kind.Kind.TheVariants.{Replace, ReplaceAround, AddMark, RemoveMark, AddNodeMark, RemoveNodeMark, Attr, DocAttr}

-- the kind of this name
abbrev pub kind_named : List ℕ → Option Kind
kind_named name =
    if bytes_eq name (codes "replace") then Some Replace
    else (if bytes_eq name (codes "replaceAround") then Some ReplaceAround
    else (if bytes_eq name (codes "addMark") then Some AddMark
    else (if bytes_eq name (codes "removeMark") then Some RemoveMark
    else (if bytes_eq name (codes "addNodeMark") then Some AddNodeMark
    else (if bytes_eq name (codes "removeNodeMark") then Some RemoveNodeMark
    else (if bytes_eq name (codes "attr") then Some Attr
    else (if bytes_eq name (codes "docAttr") then Some DocAttr
    else None)))))))
