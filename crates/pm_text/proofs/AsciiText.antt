-- Units below 128 are the text of the same bytes.
use Rattle.std.proofs.Common.{ℕ, ◌<◌, List, [], ◌∷◌, inl, refl, subst, suc, arith}
use Rattle.std.specs.Prelude.{slice_index}
use Rattle.std.specs.Str.{IsAscii}
use Rattle.std.proofs.lemmas.Str.{utf16_chars-nil, encodes-IsAscii}
use Rattle.pm_text.specs.Units.{IsOneText}
use Rattle.pm_text.specs.Lone.{unit_before, HasNoLone}
use Rattle.pm_text.proofs.Spelled as spelled

plain : (u : ℕ) → u < 128 → spelled.IsPlain u
plain u h = inl (omega arith)

spells : (units : List ℕ) → IsAscii units → spelled.Spells units units
spells [] h = record { scalar = refl; units_of = refl; read = utf16_chars-nil }
spells (u ∷ us) h = spelled.one_more u us us (plain u (h 0)) (omega (arith, h 0)) (spells us (λ i. h (suc i)))

pub one_text : (units : List ℕ) → IsAscii units → IsOneText units units
one_text units h = subst (IsOneText units) (encodes-IsAscii units h) (spelled.one_text units units (spells units h))

pub none_lone : (units : List ℕ) → IsAscii units → HasNoLone units
none_lone units h i = spelled.plain_not_lone (unit_before units i) (slice_index units i) (slice_index units (suc i)) (plain (slice_index units i) (h i))
