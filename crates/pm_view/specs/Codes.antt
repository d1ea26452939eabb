-- Views and their parts as lists and numbers, by which a proof tells them apart.
use Rattle.std.specs.Prelude.{◌≡◌, ℕ, zero, suc, List, [], refl}
use Rattle.std.specs.Coded.{Coded, code_by, coded×, coded_ℕ, coded_list}
use Rattle.pm_tokens.specs.Tokens.{Attrs, Marks}
use Rattle.pm_node.specs.Codes.{attrs_code, marks_code}
use Rattle.pm_view.specs.Known.{Head, head, Known, Opening, Closing, Single, Piece}
use Rattle.pm_view.specs.Seen.{Seen, Opens, Closes, Atom, Run}

abbrev pub head_code : Coded Head
head_code = code_by ((ℕ × Attrs) × Marks) (coded× (coded× coded_ℕ attrs_code) marks_code) (λ h. ((h.kind, h.attrs), h.marks)) (λ p. head p.0.0 p.0.1 p.1) (λ _. refl)

-- a token's sort, its node, and its unit with its marks
abbrev pub KnownParts : Type 0
KnownParts = (ℕ × Head) × (ℕ × Marks)

abbrev pub known_parts : Known → KnownParts
known_parts (Opening h) = ((0, h), (0, []))
known_parts (Closing h) = ((1, h), (0, []))
known_parts (Single h) = ((2, h), (0, []))
known_parts (Piece u m) = ((3, head 0 [] []), (u, m))

abbrev pub known_of : ℕ → Head → ℕ → Marks → Known
known_of zero h u m = Opening h
known_of (suc zero) h u m = Closing h
known_of (suc (suc zero)) h u m = Single h
known_of (suc (suc (suc n))) h u m = Piece u m

abbrev pub from_known_parts : KnownParts → Known
from_known_parts p = known_of p.0.0 p.0.1 p.1.0 p.1.1

pub known_back : (t : Known) → from_known_parts (known_parts t) ≡ t
known_back (Opening h) = refl
known_back (Closing h) = refl
known_back (Single h) = refl
known_back (Piece u m) = refl

abbrev pub known_code : Coded (List Known)
known_code = coded_list (code_by KnownParts (coded× (coded× coded_ℕ head_code) (coded× coded_ℕ marks_code)) known_parts from_known_parts known_back)

-- a part's sort, its node, and its units with their marks
abbrev pub SeenParts : Type 0
SeenParts = (ℕ × Head) × (List ℕ × Marks)

abbrev pub seen_parts : Seen → SeenParts
seen_parts (Opens h) = ((0, h), ([], []))
seen_parts (Closes h) = ((1, h), ([], []))
seen_parts (Atom h) = ((2, h), ([], []))
seen_parts (Run us m) = ((3, head 0 [] []), (us, m))

abbrev pub seen_of : ℕ → Head → List ℕ → Marks → Seen
seen_of zero h us m = Opens h
seen_of (suc zero) h us m = Closes h
seen_of (suc (suc zero)) h us m = Atom h
seen_of (suc (suc (suc n))) h us m = Run us m

abbrev pub from_seen_parts : SeenParts → Seen
from_seen_parts p = seen_of p.0.0 p.0.1 p.1.0 p.1.1

pub seen_back : (p : Seen) → from_seen_parts (seen_parts p) ≡ p
seen_back (Opens h) = refl
seen_back (Closes h) = refl
seen_back (Atom h) = refl
seen_back (Run us m) = refl

abbrev pub seen_code : Coded (List Seen)
seen_code = coded_list (code_by SeenParts (coded× (coded× coded_ℕ head_code) (coded× (coded_list coded_ℕ) marks_code)) seen_parts from_seen_parts seen_back)
