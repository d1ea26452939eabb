-- The lines that give schemas their names, written one by one.
use Rattle.std.proofs.Common.{◌≡◌, ◌<◌, ◌+◌, ℕ, List, ◌∷◌, ◌++◌, length, drop, get_or, ap, sym, ◌∙◌, append_assoc}
use Rattle.std.proofs.lemmas.List.{drop_more}
use Rattle.pm_house.specs.declared.kind.Kind.{Kind}
use Rattle.pm_house.specs.Lines.{schema_line, schema_lines}

-- A line more was written: what is left to write are those of the schemas behind.
pub line_more : (kinds : List Kind) (i : ℕ) (kind : Kind) (old new : List ℕ) → i < length kinds → kind ≡ get_or kinds i kind → new ≡ old ++ schema_line kind.name kind.text
    → new ++ schema_lines (drop (i + 1) kinds) ≡ old ++ schema_lines (drop i kinds)
line_more kinds i kind old new within is put =
    let rest : List ℕ = schema_lines (drop (i + 1) kinds) in
    ap (λ (t : List ℕ). t ++ rest) put
    ∙ append_assoc old (schema_line kind.name kind.text) rest
    ∙ ap (λ (ls : List Kind). old ++ schema_lines ls) (sym (drop_more kinds i kind within ∙ ap (λ (k : Kind). k ∷ drop (i + 1) kinds) (sym is)))
