-- Texts of contents that were read already.
use Rattle.std.specs.Prelude.{◌≡◌, List, Ok}
use Rattle.std.specs.List.{All}
use Rattle.pm_auto.specs.Tree.{tree}
use Rattle.pm_expr.specs.Names.{Named}
use Rattle.pm_expr.specs.Reader.{expr_of}
use Rattle.pm_schemajson.specs.declared.kinds.Known.{Known}

-- the text says this content
abbrev pub IsRead : List Named → Known → Type 0
IsRead names k = expr_of names k.text ≡ Ok (tree k.content)

abbrev pub AreRead : List Named → List Known → Type 0
AreRead names ks = All (IsRead names) ks
