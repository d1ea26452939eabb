-- What nodes hold, and how many tokens.
use Rattle.std.proofs.Common.{◌≡◌, ℕ, ◌==◌, ◌<◌, ◌≤◌, List, [], ◌∷◌, length, map, min, refl, true, false, nat_lt, arith}
use Rattle.std.proofs.lemmas.Bool.Decides.{nat_tests}
use Rattle.std.specs.Prelude.{Ok, Err}
use Rattle.pm_schema.specs.declared.spec.SchemaSpec.{SchemaSpec}
use Rattle.pm_schema.specs.Documents.{documents_of}
use Rattle.pm_tokens.specs.Tokens.{Token}
use Rattle.pm_node.specs.declared.node.Body.TheVariants.{Leaf, Children}
use Rattle.serde_json.specs.Data.{Data}
use Rattle.serde_json.specs.View.{items_of}
use Rattle.pm_docjson.specs.declared.fault.DocReadError.TheVariants.{Shape, Large}
use Rattle.pm_docjson.specs.Reading.{no_nodes, body_of, bounded}

pub filled_body : (s : SchemaSpec) (k : ℕ) (ts : List Token) → 0 < length ts → Children ts ≡ body_of s k ts
filled_body s k [] h = absurd (omega arith)
filled_body s k (t ∷ ts) h = refl

pub leaf_body : (s : SchemaSpec) (k : ℕ) (ts : List Token) → length ts ≤ 0 → (documents_of s).is_leaf k ≡ true → Leaf ≡ body_of s k ts
leaf_body s k [] h is = rw is refl
leaf_body s k (t ∷ ts) h is = absurd (omega arith)

pub empty_body : (s : SchemaSpec) (k : ℕ) (ts : List Token) → length ts ≤ 0 → (documents_of s).is_leaf k ≡ false → Children ts ≡ body_of s k ts
empty_body s k [] h is = rw is refl
empty_body s k (t ∷ ts) h is = absurd (omega arith)

too_large : (n : ℕ) → 4294967295 < min n 18446744073709551615 → nat_lt 4294967295 n ≡ true
too_large n h = grind (arith, nat_tests)

small_enough : (n : ℕ) → min n 18446744073709551615 ≤ 4294967295 → nat_lt 4294967295 n ≡ false
small_enough n h = grind (arith, nat_tests)

pub bounded-large : (ts : List Token) → 4294967295 < min (length ts) 18446744073709551615 → bounded ts ≡ Err Large
bounded-large ts h = rw (too_large (length ts) h) refl

pub bounded-small : (ts : List Token) → min (length ts) 18446744073709551615 ≤ 4294967295 → bounded ts ≡ Ok ts
bounded-small ts h = rw (small_enough (length ts) h) refl

pub small : (n : ℕ) → min n 18446744073709551615 ≤ 4294967295 → n < 4294967296
small n h = omega arith

pub no_nodes-filled : {X : Type 0} (seen : X → Data) (xs : List X) → 0 < length xs → no_nodes (items_of (map seen xs)) ≡ Err Shape
no_nodes-filled seen [] h = absurd (omega arith)
no_nodes-filled seen (x ∷ xs) h = refl

pub no_nodes-none : {X : Type 0} (seen : X → Data) (xs : List X) → length xs ≤ 0 → no_nodes (items_of (map seen xs)) ≡ Ok []
no_nodes-none seen [] h = refl
no_nodes-none seen (x ∷ xs) h = absurd (omega arith)

pub ruleset bodies = (filled_body, leaf_body, empty_body, bounded-large, bounded-small, small, no_nodes-filled, no_nodes-none)

pub same_type : (a b t : ℕ) → a ≡ b → t ≡ b → (a == t) ≡ true
same_type a b t h g = grind (arith, nat_tests)

pub other_type : (a b t : ℕ) → (a ≡ b → ⊥) → t ≡ b → (a == t) ≡ false
other_type a b t h g = grind (arith, nat_tests)
