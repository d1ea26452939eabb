-- The names of an object's members and of the fields read from them.
use Rattle.std.proofs.Common.{◌≡◌, ℕ, List, [], ◌∷◌, map, String, Global, string_bytes, string_cmp, Less, nat_cmp}
use Rattle.std.specs.Cmp.Lexicographic.{slice_cmp}
use Rattle.std.specs.List.{AllByRecursion}
use Rattle.std.specs.List.Sorted.{IsStrictlySortedBy}
use Rattle.std.specs.Map.{keys_of}
use Rattle.serde_json.specs.declared.value.Value.{Value as Json}
use Rattle.pm_value.specs.Views.{field_pairs}
use Rattle.pm_value.specs.Kept.{InOrder}
use Rattle.pm_value.specs.declared.value.Field.{Field}

abbrev pub Entry : Type 0
Entry = String Global × Json

abbrev pub names_of : List Field → List (List ℕ)
names_of fs = map (λ f. f.0) (field_pairs fs)

abbrev pub keys : List Entry → List (List ℕ)
keys es = map (λ e. string_bytes e.0) es

below : (k : String Global) (es : List Entry) → AllByRecursion (λ y. string_cmp k y ≡ Less) (keys_of es) → AllByRecursion (λ y. slice_cmp nat_cmp (string_bytes k) y ≡ Less) (keys es)
below k [] h = tt
below k (e ∷ es) h = (h.0, below k es h.1)

-- the keys of a map stand in byte order
pub keys-sorted : (es : List Entry) → IsStrictlySortedBy string_cmp (keys_of es) → InOrder (keys es)
unfolding IsStrictlySortedBy
keys-sorted [] h = tt
keys-sorted (e ∷ es) h = (below e.0 es h.0, keys-sorted es h.1)
