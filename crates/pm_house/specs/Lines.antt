-- The lines that give schemas their names.
use Rattle.std.specs.Prelude.{ℕ, List, [], ◌∷◌, ◌++◌, codes}
use Rattle.pm_house.specs.declared.kind.Kind.{Kind}

-- the schema's text under its name
abbrev pub schema_line : List ℕ → List ℕ → List ℕ
schema_line name text = codes "{\"op\":\"schema\",\"name\":\"" ++ (name ++ (codes "\",\"schema\":" ++ (text ++ codes "}\n")))

abbrev pub schema_lines : List Kind → List ℕ
schema_lines [] = []
schema_lines (k ∷ ks) = schema_line k.name k.text ++ schema_lines ks
