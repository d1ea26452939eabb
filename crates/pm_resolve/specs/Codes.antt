-- Positions as lists and numbers, by which a proof tells them apart.
use Rattle.std.specs.Prelude.{ℕ, refl}
use Rattle.std.specs.Coded.{Coded, code_by, coded×, coded_ℕ}
use Rattle.pm_tokens.specs.Tokens.{Doc}
use Rattle.pm_node.specs.Codes.{doc_code}
use Rattle.pm_resolve.specs.Places.{Position}

abbrev pub position_code : Coded Position
position_code = code_by (Doc × ℕ) (coded× doc_code coded_ℕ) (λ p. (p.doc, p.pos)) (λ p. record { doc = p.0; pos = p.1 }) (λ _. refl)
