-- Tokens and documents as lists and numbers, by which a proof tells them apart.
use Rattle.std.specs.Prelude.{◌≡◌, ℕ, zero, suc, List, [], refl}
use Rattle.std.specs.Coded.{Coded, code_by, coded×, coded_ℕ, coded_list}
use Rattle.pm_value.specs.Codes.{plain_code}
use Rattle.pm_marks.specs.declared.mark.Mark.{Mark}
use Rattle.pm_tokens.specs.Tokens.{Attrs, Marks, Token, Open, Close, Leaf, CodeUnit, Doc}

abbrev pub attrs_code : Coded Attrs
attrs_code = coded_list plain_code

abbrev pub mark_code : Coded (Mark Attrs)
mark_code = code_by (ℕ × Attrs) (coded× coded_ℕ attrs_code) (λ m. (m.kind, m.attrs)) (λ p. record { kind = p.0; attrs = p.1 }) (λ _. refl)

abbrev pub marks_code : Coded Marks
marks_code = coded_list mark_code

-- a token's sort, its type or unit, its attributes and its marks
abbrev pub Parts : Type 0
Parts = (ℕ × ℕ) × (Attrs × Marks)

abbrev pub to_parts : Token → Parts
to_parts (Open k a m) = ((0, k), (a, m))
to_parts Close = ((1, 0), ([], []))
to_parts (Leaf k a m) = ((2, k), (a, m))
to_parts (CodeUnit u m) = ((3, u), ([], m))

abbrev pub token_of : ℕ → ℕ → Attrs → Marks → Token
token_of zero k a m = Open k a m
token_of (suc zero) k a m = Close
token_of (suc (suc zero)) k a m = Leaf k a m
token_of (suc (suc (suc n))) k a m = CodeUnit k m

abbrev pub from_parts : Parts → Token
from_parts p = token_of p.0.0 p.0.1 p.1.0 p.1.1

pub parts_back : (t : Token) → from_parts (to_parts t) ≡ t
parts_back (Open k a m) = refl
parts_back Close = refl
parts_back (Leaf k a m) = refl
parts_back (CodeUnit u m) = refl

abbrev pub token_code : Coded Token
token_code = code_by Parts (coded× (coded× coded_ℕ coded_ℕ) (coded× attrs_code marks_code)) to_parts from_parts parts_back

abbrev pub tokens_code : Coded (List Token)
tokens_code = coded_list token_code

abbrev pub doc_code : Coded Doc
doc_code =
    code_by ((ℕ × Attrs) × (Marks × List Token)) (coded× (coded× coded_ℕ attrs_code) (coded× marks_code tokens_code)) (λ d. ((d.kind, d.attrs), (d.marks, d.tokens))) (λ p. record { kind = p.0.0; attrs = p.0.1; marks = p.1.0; tokens = p.1.1 }) (λ _. refl)
